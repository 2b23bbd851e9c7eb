-- The frames of a whole list of elements, said without the record and its calls; and runs of calls, which find just these.
use Rattle.std.specs.Prelude.{ℕ, zero, suc, ◌+◌, ◌-◌, ◌≡◌, Bool, true, ◌&&◌, List, [], ◌∷◌, ◌++◌, length, take, drop, ltb, eqb, Option, Result, Some, None}
use Rattle.wire.specs.Digits.{pick, below}
use Rattle.wire.specs.declared.numbers.Refusal.{Refusal}
use Rattle.wire.specs.declared.words.Moment.{Moment}
use Rattle.irig.specs.declared.stream.Stream.{Stream}
use Rattle.irig.specs.Reading.{read_frame}
use Rattle.irig.specs.Streams.{fresh_stream, take_row, taking}

-- a frame that was found: the number of its element 0, counted from 0 over the whole list, and what it reads as
pub record Found : Type 0 where
  pub first : ℕ
  pub read : Result Moment Refusal

-- THE FRAMES OF A WHOLE LIST

-- find: how many elements stand before the second of two markers in a row; all of them, if no two stand in a row
unfoldable pub before_second : List ℕ → ℕ
before_second [] = 0
before_second (a ∷ []) = 1
before_second (a ∷ (c ∷ es)) = pick (eqb a 2 && eqb c 2) 1 (suc (before_second (c ∷ es)))

-- cut: it and the next 99 are a frame, if so many are there; and go on from element 99. At most as many frames as the first argument says, o elements having stood before.
unfoldable pub frames_from : ℕ → ℕ → List ℕ → List Found
frames_from zero o es = []
frames_from (suc most) o es =
    pick (ltb (length es) (before_second es + 100)) []
    (record { first = o + before_second es; read = read_frame (drop (before_second es) es) }
    ∷ frames_from most (o + (before_second es + 99)) (drop (before_second es + 99) es))

-- a list has no more frames than elements
unfoldable pub frames : List ℕ → List Found
frames es = frames_from (length es) 0 es

-- frames, found so many elements later
abbrev pub later_by : ℕ → List Found → List Found
later_by n [] = []
later_by n (f ∷ fs) = record { first = n + f.first; read = f.read } ∷ later_by n fs

-- RUNS OF CALLS: rows, handed over one after the other

-- the record afterwards
abbrev pub after_all : List (List ℕ) → Stream → Stream
after_all [] s = s
after_all (row ∷ rows) s = after_all rows (take_row s row).after

-- the elements that were taken, in their order
abbrev pub taken_all : List (List ℕ) → Stream → List ℕ
taken_all [] s = []
taken_all (row ∷ rows) s = take (taking (take_row s row)).taken row ++ taken_all rows (take_row s row).after

-- a finished frame is the last hundred of the n elements that have been taken since the record was fresh
abbrev pub found_by : ℕ → Option (Result Moment Refusal) → List Found
found_by n None = []
found_by n (Some time) = record { first = n - 100; read = time } ∷ []

-- the frames that were finished, o elements having been taken before
abbrev pub found_all : ℕ → List (List ℕ) → Stream → List Found
found_all o [] s = []
found_all o (row ∷ rows) s =
    found_by (o + (taking (take_row s row)).taken) (taking (take_row s row)).finished ++ found_all (o + (taking (take_row s row)).taken) rows (take_row s row).after

-- A STREAM IN PARTS: each part is handed over again from behind what was taken of it, until nothing of it is left; with at most as many calls as the part has elements

unfoldable pub handed : ℕ → Stream → List ℕ → List (List ℕ)
handed zero s part = []
handed (suc most) s [] = []
handed (suc most) s (e ∷ es) = (e ∷ es) ∷ handed most (take_row s (e ∷ es)).after (drop (taking (take_row s (e ∷ es))).taken (e ∷ es))

unfoldable pub in_parts : List (List ℕ) → Stream → List (List ℕ)
in_parts [] s = []
in_parts (part ∷ parts) s = handed (length part) s part ++ in_parts parts (after_all (handed (length part) s part) s)

-- the parts together
abbrev pub joined : List (List ℕ) → List ℕ
joined [] = []
joined (part ∷ parts) = part ++ joined parts

-- THE CALLS THAT LEAVE A RECORD, FROM A FRESH ONE

-- rows of bytes, as every row that is handed over is by its type
abbrev pub of_bytes : List (List ℕ) → Bool
of_bytes [] = true
of_bytes (row ∷ rows) = below 256 row && of_bytes rows

-- some calls leave it
pub record Left (s : Stream) : Type 0 where
  pub rows : List (List ℕ)
  pub rows_of_bytes : of_bytes rows ≡ true
  pub leave : after_all rows fresh_stream ≡ s

-- a marker, if the last was one; or a marker and what is held, the first of which is a marker too
unfoldable pub way : Stream → List (List ℕ)
way s = pick (eqb s.held 0) (pick s.marked ((2 ∷ []) ∷ []) []) ((2 ∷ take s.held s.elements) ∷ [])
