-- Frames in a stream that arrives in rows cut anywhere. The second of two markers in a row is element 0; it and the next 99 are one frame, whatever they hold; then the
-- search goes on from element 99, as the first of a possible two.
use Rattle.std.specs.Prelude.{ℕ, ◌+◌, Bool, false, ◌&&◌, not, List, [], ◌∷◌, get_or, drop, set, replicate, ltb, eqb, Option, Result, Some, None, Ok}
use Rattle.wire.specs.Digits.{pick, below}
use Rattle.wire.specs.Numbers.{Line, ◌if◌, granted, given_or}
use Rattle.wire.specs.declared.numbers.Answer.{Answer}
use Rattle.wire.specs.declared.numbers.Refusal.{Refusal}
use Rattle.wire.specs.declared.words.Moment.{Moment}
use Rattle.irig.specs.declared.stream.Stream.{Stream}
use Rattle.irig.specs.declared.stream.RowTaken.{RowTaken}
use Rattle.irig.specs.declared.search.Searched.{Searched}
use Rattle.irig.specs.Reading.{read_frame}

-- THE RECORD

-- searching, the element before being a marker or not
abbrev pub searching : Bool → Stream
searching marked = record { elements = replicate 100 0; held = 0; marked = marked }

-- a fresh one: no marker before
abbrev pub fresh_stream : Stream
fresh_stream = searching false

-- a record that some calls of ours leave; any other is 18. While searching it holds nothing, and the mark is free. While a frame comes in it holds 1 to 99 elements, the first
-- of them a marker and the others anything, and the mark is clear. Behind what it holds stand zeros.
unfoldable pub lawful : Stream → Bool
lawful s =
    pick (eqb s.held 0)
    (below 1 s.elements)
    (ltb s.held 100 && (not s.marked && (eqb (get_or s.elements 0 0) 2 && below 1 (drop s.held s.elements))))

-- AN ELEMENT COMES

-- it is held behind the others
abbrev pub holding : Stream → ℕ → Stream
holding s e = record { elements = set s.elements s.held e; held = s.held + 1; marked = false }

-- while searching, an element is held exactly if it is the second of two markers
unfoldable pub next : Stream → ℕ → Stream
next s e = pick (eqb s.held 0 && not (s.marked && eqb e 2)) (searching (eqb e 2)) (holding s e)

-- THE CALL

abbrev pub take_lines : Stream → List Line
take_lines s = 18 if not (lawful s) ∷ []

-- what comes of taking elements: the record afterwards, how many were taken, and what the frame that they finished reads as
pub record Taking : Type 0 where
  pub stream : Stream
  pub taken : ℕ
  pub finished : Option (Result Moment Refusal)

abbrev pub row_taken : Stream → ℕ → Option (Result Moment Refusal) → Taking
row_taken s taken finished = record { stream = s; taken = taken; finished = finished }

-- a hundred are held, e the last of them: the frame is finished, and the search goes on from e
abbrev pub frame_ends : Stream → ℕ → Taking
frame_ends s e = row_taken (searching (eqb e 2)) 1 (Some (read_frame s.elements))

-- with n more elements taken before
abbrev pub behind : ℕ → Taking → Taking
behind n t = row_taken t.stream (n + t.taken) t.finished

-- the elements of a row one by one, up to and including the last of a frame
unfoldable pub one_by_one : Stream → List ℕ → Taking
one_by_one s [] = row_taken s 0 None
one_by_one s (e ∷ es) = pick (eqb (next s e).held 100) (frame_ends (next s e) e) (behind 1 (one_by_one (next s e) es))

-- beside a refusal the record is as it was
unfoldable pub take_row : Stream → List ℕ → Answer Stream RowTaken
take_row s row = granted (take_lines s) s (one_by_one s row).stream (record { taken = (one_by_one s row).taken; finished = (one_by_one s row).finished })

-- what comes of a call: beside a refusal nothing is taken, and nothing finished
abbrev pub none_taken : RowTaken
none_taken = record { taken = 0; finished = None }

abbrev pub taking : Answer Stream RowTaken → Taking
taking a = row_taken a.after (given_or none_taken a.outcome).taken (given_or none_taken a.outcome).finished

-- WITHIN THE CRATE

-- element 0 of a frame is held
abbrev pub first_held : Stream
first_held = record { elements = set (replicate 100 0) 0 2; held = 1; marked = false }

-- the answer of a call that was done
abbrev pub done : Taking → Answer Stream RowTaken
done t = record { after = t.stream; outcome = Ok (record { taken = t.taken; finished = t.finished }) }

-- what a search comes to, if n elements stand before
abbrev pub further : ℕ → Searched → Searched
further n (Searched.Found k) = Searched.Found (n + k)
further n (Searched.Over marked) = Searched.Over marked

-- the search in a row: behind how many elements it finds the second of two markers; or, if it finds none, whether the last is a marker
unfoldable pub searched : Bool → List ℕ → Searched
searched marked [] = Searched.Over marked
searched marked (e ∷ es) = pick (marked && eqb e 2) (Searched.Found 1) (further 1 (searched (eqb e 2) es))
