-- The bench's listing: standard input cut into pieces, and for each piece its number and the answer of a fresh card of its own.
use Rattle.std.specs.Prelude.{ℕ, suc, ◌+◌, ◌-◌, ◌≤◌, ◌<◌, ◌≡◌, Bool, true, false, ◌&&◌, ◌||◌, List, [], ◌∷◌, ◌++◌, ◌⊎◌, length, take, drop, get_or, replicate, leb, ltb, eqb, Option, None, Some}
use Rattle.wire.specs.Digits.{pick, digits, num, below}
use Rattle.wire.specs.Packets.{ascii, has}
use Rattle.parts.specs.declared.queue.Queue.{Queue}
use Rattle.parts.specs.Queues.{queued}
use Rattle.wire.specs.Numbers.{number_of}
use Rattle.card.specs.declared.card.Card.{Card}
use Rattle.card.specs.Packets.{ack_refusal}
use Rattle.card.specs.Registers.{write_register}
use Rattle.card.specs.Reset.{fresh_card}
use Rattle.laws.specs.Calls.{fed}
use Rattle.laws.specs.Each.{Each}
use Rattle.listing.specs.declared.feeding.Bench.{Bench}
use Rattle.listing.specs.declared.feeding.Fed.{Fed}
use Rattle.listing.specs.declared.feeding.Reached.{Reached}

-- CUTTING

-- a byte ends the piece of which k bytes are held: it is 0x17, or the 41st
abbrev pub ends_at : ℕ → ℕ → Bool
ends_at k b = eqb b 0x17 || eqb k 40

-- the same of the bytes held
unfoldable pub ends : List ℕ → ℕ → Bool
ends held b = ends_at (length held) b

-- the pieces that an input finishes behind the bytes held
unfoldable pub pieces : List ℕ → List ℕ → List (List ℕ)
pieces held [] = []
pieces held (b ∷ bs) = pick (ends held b) ((held ++ (b ∷ [])) ∷ pieces [] bs) (pieces (held ++ (b ∷ [])) bs)

-- and what is held then
unfoldable pub rest : List ℕ → List ℕ → List ℕ
rest held [] = held
rest held (b ∷ bs) = pick (ends held b) (rest [] bs) (rest (held ++ (b ∷ [])) bs)

-- the last rest is a piece if it is not empty
unfoldable pub last_piece : List ℕ → List (List ℕ)
last_piece [] = []
last_piece (b ∷ bs) = (b ∷ bs) ∷ []

-- ANSWERS

-- what writing 0x80 to ACK answers, on a fresh card with a piece in its queue
unfoldable pub answer_of : List ℕ → ℕ
answer_of piece = number_of (write_register (fed fresh_card piece) 12 0x80).outcome

-- LINES

-- digits without the zeros in front; the last digit stays
unfoldable pub trimmed : List ℕ → List ℕ
trimmed [] = []
trimmed (d ∷ []) = d ∷ []
trimmed (d ∷ e ∷ ds) = pick (eqb d 0) (trimmed (e ∷ ds)) (d ∷ e ∷ ds)

-- a number below 10 ^ 20 in decimal
unfoldable pub in_decimal : ℕ → List ℕ
in_decimal n = ascii (trimmed (digits 10 20 n))

-- a piece's number, a space, its answer, a newline
unfoldable pub line : ℕ → ℕ → List ℕ
line n answer = in_decimal n ++ (0x20 ∷ (in_decimal answer ++ (0x0A ∷ [])))

-- the lines of pieces, numbered from n on
unfoldable pub lines : ℕ → List (List ℕ) → List ℕ
lines n [] = []
lines n (p ∷ ps) = line n (answer_of p) ++ lines (suc n) ps

-- THE LISTING

-- `PKT ANS` and a newline
abbrev pub header : List ℕ
header = 0x50 ∷ 0x4B ∷ 0x54 ∷ 0x20 ∷ 0x41 ∷ 0x4E ∷ 0x53 ∷ 0x0A ∷ []

unfoldable pub listing : List ℕ → List ℕ
listing input = header ++ lines 1 (pieces [] input ++ last_piece (rest [] input))

-- THE STATE BETWEEN TWO PARTS OF AN INPUT

-- a queue that holds these bytes, with zeros behind them
abbrev pub queue_of : List ℕ → Queue
queue_of held = record { bytes = held ++ replicate (64 - length held) 0; fill = length held }

-- the bytes held, and the number of the piece that they begin
abbrev pub bench_of : List ℕ → ℕ → Bench
bench_of held n = record { queue = queue_of held; number = n }

-- FEEDING

-- a line has at most 25 bytes; the number 2 ^ 64 - 1 is not given, so that numbers never wrap
unfoldable pub goes_on : ℕ → ℕ → Bool
goes_on n room = ltb n 18446744073709551615 && leb 25 room

-- how many bytes of an input are taken: each while there is room for a line
unfoldable pub takes : List ℕ → ℕ → ℕ → List ℕ → ℕ
takes held n room [] = 0
takes held n room (b ∷ bs) =
    pick (goes_on n room)
    (suc (pick (ends held b) (takes [] (suc n) (room - length (line n (answer_of (held ++ (b ∷ []))))) bs) (takes (held ++ (b ∷ [])) n room bs)))
    0

-- a text at a place of a row, and all else as it was
abbrev pub placed : List ℕ → ℕ → List ℕ → List ℕ
placed row at text = take at row ++ (text ++ drop (at + length text) row)

-- the part of an input that is taken
abbrev pub part_of : Bench → List ℕ → ℕ → List ℕ
part_of b input room = take (takes (queued b.queue) b.number room input) input

-- the lines of the pieces that a part finishes
abbrev pub lines_of : Bench → List ℕ → List ℕ
lines_of b part = lines b.number (pieces (queued b.queue) part)

abbrev pub fed_to : Bench → List ℕ → Fed
fed_to b part =
    record {
      bench = bench_of (rest (queued b.queue) part) (b.number + length (pieces (queued b.queue) part));
      taken = length part;
      written = length (lines_of b part);
    }

-- what feeding an input answers, with so much room; nothing is taken by a bench that holds more than a piece can
unfoldable pub feed : Bench → List ℕ → ℕ → Fed
feed b input room = pick (leb b.queue.fill 40) (fed_to b (part_of b input room)) (record { bench = b; taken = 0; written = 0 })

-- the row afterwards: the lines at its front, and every later place as it was
unfoldable pub row_fed : Bench → List ℕ → List ℕ → List ℕ
row_fed b input row = pick (leb b.queue.fill 40) (placed row 0 (lines_of b (part_of b input (length row)))) row

-- the promise of feeding; that counts are within the input and the row follows, and is said so that a caller need not show it
pub record Feeding (b : Bench) (input before after : List ℕ) (r : Fed) : Type 0 where
  pub answer : r ≡ feed b input (length before)
  pub row : after ≡ row_fed b input before
  pub taken : r.taken ≤ length input
  pub written : r.written ≤ length before

-- the line of the last rest, if there is one and room for it
unfoldable pub last_line : Bench → ℕ → List ℕ
last_line b room = pick (leb b.queue.fill 40 && goes_on b.number room) (lines b.number (last_piece (queued b.queue))) []

-- the promise of finishing
pub record Finishing (b : Bench) (before after : List ℕ) (r : ℕ) : Type 0 where
  pub answer : r ≡ length (last_line b (length before))
  pub row : after ≡ placed before 0 (last_line b (length before))
  pub written : r ≤ length before

-- parts, one behind the other
unfoldable pub joined_parts : List (List ℕ) → List ℕ
joined_parts [] = []
joined_parts (part ∷ parts) = part ++ joined_parts parts

-- a run of calls: each is handed some part of the input, takes bytes of it, and has what it wrote to its row written out; the rest of the part goes to the
-- next call; at the end of the input the last rest is finished. Of a bench, an input and all that is written out
pub data Runs : Bench → List ℕ → List ℕ → Type 0 where
  finished : {b : Bench} (row : List ℕ) → goes_on b.number (length row) ≡ true →
      Runs b [] (take (length (last_line b (length row))) (placed row 0 (last_line b (length row))))
  called : {b : Bench} {text : List ℕ} (part later row : List ℕ) →
      Runs (feed b part (length row)).bench (drop (feed b part (length row)).taken part ++ later) text →
      Runs b (part ++ later) (take (feed b part (length row)).written (row_fed b part row) ++ text)

-- WHAT A CUT IS

-- a piece: at most 41 bytes, no 0x17 before its last byte, and it ends in 0x17 or has 41
pub record Piece (p : List ℕ) : Type 0 where
  pub before : List ℕ
  pub last : ℕ
  pub bytes : p ≡ before ++ (last ∷ [])
  pub short : length p ≤ 41
  pub none : has 0x17 before ≡ false
  pub end : (last ≡ 0x17) ⊎ (length p ≡ 41)

-- bytes that are not cut: fewer than 41, and no 0x17
pub record Uncut (bs : List ℕ) : Type 0 where
  pub short : length bs < 41
  pub none : has 0x17 bs ≡ false

-- an input cut into pieces and a rest: joined, they are the input
pub record Cut (input : List ℕ) (ps : List (List ℕ)) (left : List ℕ) : Type 0 where
  pub joined : joined_parts ps ++ left ≡ input
  pub each : Each Piece ps
  pub uncut : Uncut left

-- the lines of pieces, numbered from n on, each with the number that the table of ACK gives on a card with the jam on
unfoldable pub table_lines : ℕ → List (List ℕ) → List ℕ
table_lines n [] = []
table_lines n (p ∷ ps) = line n (ack_refusal true p) ++ table_lines (suc n) ps

-- WITHIN THE CRATE

-- where a number's first written digit stands: only zeros before it, and no zero there, unless it is the last place
pub record First (ds : List ℕ) (first : ℕ) : Type 0 where
  pub within : first < 20
  pub zeros : take first ds ≡ replicate first 0
  pub some : first < 19 → 0 < get_or ds first 0

-- a number as twenty decimal digits, and the place of the first that is written
pub record Spelled (n : ℕ) (ds : List ℕ) (first : ℕ) : Type 0 where
  pub number : num 10 ds ≡ n
  pub count : length ds ≡ 20
  pub each : below 10 ds ≡ true
  pub place : First ds first

-- the largest number that twenty digits spell
abbrev pub all_nines : ℕ
all_nines = 99999999999999999999

-- a text was put at a place, and r is the place behind it
pub record Put (before : List ℕ) (at : ℕ) (text after : List ℕ) (r : ℕ) : Type 0 where
  pub row : after ≡ placed before at text
  pub behind : r ≡ at + length text

-- a line was put at a place, and it has at most 25 bytes
pub record PutLine (before : List ℕ) (at n answer : ℕ) (after : List ℕ) (r : ℕ) : Type 0 where
  pub put : Put before at (line n answer) after r
  pub short : r ≤ at + 25

-- one byte further on, if anywhere
abbrev pub onward : Option ℕ → Option ℕ
onward None = None
onward (Some n) = Some (suc n)

-- how many bytes at an input's front end the piece of which k are held, if it ends there
unfoldable pub end_of : ℕ → List ℕ → Option ℕ
end_of k [] = None
end_of k (b ∷ bs) = pick (ends_at k b) (Some 1) (onward (end_of (suc k) bs))

-- how many bytes the next piece has, where none is begun, if it ends in the input and there are a number and room for its line
unfoldable pub next_end : ℕ → ℕ → List ℕ → Option ℕ
next_end n room input = pick (goes_on n room) (end_of 0 input) None

-- lines of pieces were put at a place, numbered from n on; m is the next number, and w the place behind them
pub record Lined (n : ℕ) (before : List ℕ) (at : ℕ) (after : List ℕ) (m w : ℕ) (ps : List (List ℕ)) : Type 0 where
  pub row : after ≡ placed before at (lines n ps)
  pub number : m ≡ n + length ps
  pub written : w ≡ at + length (lines n ps)
  pub fits : w ≤ length before

-- the same after i bytes of an input, where no piece is begun, behind the pieces qs: and how many of its bytes are to be taken
pub record Going (qs : List (List ℕ)) (n : ℕ) (input before : List ℕ) (at : ℕ) (after : List ℕ) (m w i : ℕ) : Type 0 where
  pub within : i ≤ length input
  pub none : rest [] (take i input) ≡ []
  pub lined : Lined n before at after m w (qs ++ pieces [] (take i input))
  pub left : takes [] (n + length qs) (length before - (at + length (lines n qs))) input ≡ i + takes [] m (length before - w) (drop i input)

-- the piece of k bytes at an input's front was listed, and those behind it, up to one that does not end or has no room for its line
pub record ListsOn (input : List ℕ) (k n : ℕ) (before : List ℕ) (at : ℕ) (after : List ℕ) (r : Reached) : Type 0 where
  pub behind : ℕ
  pub taken : r.taken ≡ k + behind
  pub going : Going (take k input ∷ []) n (drop k input) before at after r.number r.written behind
  pub over : next_end r.number (length before - r.written) (drop (k + behind) input) ≡ None

-- a place within a row, and where the piece at an input's front has k bytes, that it has some, that they are there, and a number and room for its line
pub record Begins (input : List ℕ) (front : Option ℕ) (n : ℕ) (before : List ℕ) (at : ℕ) : Type 0 where
  pub place : at ≤ length before
  pub some : (k : ℕ) → front ≡ Some k → 0 < k
  pub within : (k : ℕ) → front ≡ Some k → k ≤ length input
  pub goes : (k : ℕ) → front ≡ Some k → goes_on n (length before - at) ≡ true

-- the same, or nothing if no piece is at the front
pub record Lists (input : List ℕ) (front : Option ℕ) (n : ℕ) (before : List ℕ) (at : ℕ) (after : List ℕ) (r : Reached) : Type 0 where
  pub none : front ≡ None → (after ≡ before) × (r ≡ record { taken = 0; number = n; written = at })
  pub some : (k : ℕ) → front ≡ Some k → ListsOn input k n before at after r

-- the bytes of a queue were listed as one piece
pub record ListsHeld (q : Queue) (n : ℕ) (before after : List ℕ) (r : Reached) : Type 0 where
  pub count : length (queued q) ≡ q.fill
  pub taken : r.taken ≡ q.fill
  pub none : q.fill ≡ 0 → (after ≡ before) × (r ≡ record { taken = 0; number = n; written = 0 })
  pub some : 0 < q.fill → Lined n before 0 after r.number r.written (queued q ∷ [])

-- what feeding answers where no piece is begun and lines stand before a place
abbrev pub fed_whole : ℕ → ℕ → List ℕ → Fed
fed_whole n at part =
    record {
      bench = bench_of (rest [] part) (n + length (pieces [] part));
      taken = length part;
      written = at + length (lines n (pieces [] part));
    }

-- the part behind a piece's end was taken, and its lines stand behind those put before
pub record FeedsWhole (n : ℕ) (input before : List ℕ) (at : ℕ) (after : List ℕ) (r : Fed) : Type 0 where
  pub part : List ℕ
  pub taken : part ≡ take (takes [] n (length before - at) input) input
  pub answer : r ≡ fed_whole n at part
  pub lined : Lined n before at after r.bench.number r.written (pieces [] part)

-- a card when bytes were written to FIFO, and that they are bytes, which a caller need not show
pub record Held (before : Card) (bs : List ℕ) (after : Card) : Type 0 where
  pub card : after ≡ fed before bs
  pub bytes : below 256 bs ≡ true

-- a card with the bytes of a queue written to it, one by one
pub record Refilled (q : Queue) (c : Card) : Type 0 where
  pub held : Held fresh_card (queued q) c
  pub count : length (queued q) ≡ q.fill

-- a part was taken, and the lines of the pieces that it finishes stand in the row
pub record Feeds (b : Bench) (input before after : List ℕ) (r : Fed) : Type 0 where
  pub answer : r ≡ fed_to b (part_of b input (length before))
  pub row : after ≡ placed before 0 (lines_of b (part_of b input (length before)))
  pub written : r.written ≤ length before
