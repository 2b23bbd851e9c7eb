-- The law of the bench: in whatever parts an input comes, and however much room each call has, what is written is the listing of the whole input.
-- By induction on the parts, from the laws of cutting. Assumes nothing.
use Prim.Native.Nat.{ℕ, zero, suc, ◌+◌, ◌-◌, ◌≤◌, ◌<◌}
use mathlib.Core.Path.{◌≡◌, refl, sym, ap, ap₂, ◌∙◌}
use mathlib.Core.Bool.{true}
use mathlib.Core.List.{List, [], ◌∷◌, ◌++◌, append_assoc}
use native.Mathlib.Omega.{arith}
use lib.ListN.{length, take, drop, replicate}
use lib.Seq.{take_at}
use borrow.Author.Tests.{le-leb}
use Rattle.listing.specs.declared.feeding.Bench.{Bench}
use Rattle.listing.specs.declared.feeding.Fed.{Fed}
use Rattle.parts.specs.Queues.{queued}
use Rattle.listing.specs.Listing.{pieces, rest, last_piece, lines, header, listing, queue_of, bench_of, goes_on, takes, lines_of, fed_to, feed, last_line, row_fed, placed, Runs, finished, called}
use Rattle.listing.proofs.feeding.Laws.{rest_append, pieces_append, lines_append, rest_short}

-- the pieces of an input, behind what is held
module _ (n : ℕ) (held xs ys : List ℕ) where
  lines_parted : lines n (pieces held (xs ++ ys) ++ last_piece (rest held (xs ++ ys)))
      ≡ lines n (pieces held xs) ++ lines (n + length (pieces held xs)) (pieces (rest held xs) ys ++ last_piece (rest (rest held xs) ys))
  lines_parted =
      ap₂ (λ (ps : List (List ℕ)) (r : List ℕ). lines n (ps ++ last_piece r)) (pieces_append held xs ys) (rest_append held xs ys)
      ∙ ap (lines n) (append_assoc (pieces held xs) (pieces (rest held xs) ys) (last_piece (rest (rest held xs) ys)))
      ∙ lines_append n (pieces held xs) (pieces (rest held xs) ys ++ last_piece (rest (rest held xs) ys))

-- a bench holds the bytes that it was left with
pub held_again : (held : List ℕ) → queued (queue_of held) ≡ held
held_again held = take_at held (replicate (64 - length held) 0) (length held) refl

-- what a call takes, behind the bytes that the call before it left
pub feed_again : (held : List ℕ) (n : ℕ) (input : List ℕ) (room : ℕ) → length held ≤ 40 →
    feed (bench_of held n) input room ≡ fed_to (bench_of held n) (take (takes held n room input) input)
unfolding feed
feed_again held n input room h =
    simp (le-leb (length held) 40 h) (ap (λ (x : List ℕ). fed_to (bench_of held n) (take (takes x n room input) input)) (held_again held))

pub left_behind : (held : List ℕ) (n : ℕ) (part : List ℕ) → (fed_to (bench_of held n) part).bench ≡ bench_of (rest held part) (n + length (pieces held part))
left_behind held n part = ap (λ (x : List ℕ). bench_of (rest x part) (n + length (pieces x part))) (held_again held)

pub line_behind : (held : List ℕ) (n : ℕ) (part : List ℕ) → lines_of (bench_of held n) part ≡ lines n (pieces held part)
line_behind held n part = ap (λ (x : List ℕ). lines n (pieces x part)) (held_again held)

-- a call with room for a line takes at least one byte
some_taken : (held : List ℕ) (n room b : ℕ) (bs : List ℕ) → goes_on n room ≡ true → 0 < takes held n room (b ∷ bs)
unfolding takes
some_taken held n room b bs e = rw e (omega arith)

pub takes_some : (b : Bench) (x : ℕ) (xs : List ℕ) (room : ℕ) → b.queue.fill ≤ 40 → goes_on b.number room ≡ true → 0 < (feed b (x ∷ xs) room).taken
unfolding feed
takes_some b x xs room h g =
    let t : 0 < takes (queued b.queue) b.number room (x ∷ xs) = some_taken (queued b.queue) b.number room x xs g in
    simp (le-leb b.queue.fill 40 h) (some_front (takes (queued b.queue) b.number room (x ∷ xs)) t)
  where
    some_front : (k : ℕ) → 0 < k → 0 < length (take k (x ∷ xs))
    some_front zero l = absurd (omega arith)
    some_front (suc k) l = omega arith

-- A RUN OF CALLS

take_drop : (t : ℕ) (xs : List ℕ) → take t xs ++ drop (length (take t xs)) xs ≡ xs
take_drop zero xs = refl
take_drop (suc t) [] = refl
take_drop (suc t) (x ∷ xs) = ap (λ (l : List ℕ). x ∷ l) (take_drop t xs)

-- the front of a row is the text that was put there
front : (row text : List ℕ) (k : ℕ) → k ≡ length text → take k (placed row 0 text) ≡ text
front row text k e = take_at text (drop (0 + length text) row) k (sym e)

-- the last line
module _ (b : Bench) (held : List ℕ) (n : ℕ) (e : b ≡ bench_of held n) (h : length held ≤ 40) where
  last_again : (room : ℕ) → goes_on b.number room ≡ true → last_line b room ≡ lines n (last_piece held)
  unfolding last_line
  last_again room g =
      ap (λ (x : Bench). last_line x room) e
      ∙ simp (le-leb (length held) 40 h, let f : goes_on n room ≡ true = ap (λ (x : Bench). goes_on x.number room) (sym e) ∙ g in f, held_again held)

  -- a call
  module _ (input row : List ℕ) where
    pub call_answer : feed b input (length row) ≡ fed_to (bench_of held n) (take (takes held n (length row) input) input)
    call_answer = ap (λ (x : Bench). feed x input (length row)) e ∙ feed_again held n input (length row) h

    pub call_row : row_fed b input row ≡ placed row 0 (lines n (pieces held (take (takes held n (length row) input) input)))
    unfolding row_fed
    call_row = ap (λ (x : Bench). row_fed x input row) e ∙ simp (le-leb (length held) 40 h, held_again held)

    pub call_text : take (feed b input (length row)).written (row_fed b input row) ≡ lines n (pieces held (take (takes held n (length row) input) input))
    call_text =
        ap (take (feed b input (length row)).written) call_row
        ∙ front row (lines n (pieces held (take (takes held n (length row) input) input))) (feed b input (length row)).written
        (ap (λ (r : Fed). r.written) call_answer ∙ ap length (line_behind held n (take (takes held n (length row) input) input)))

    pub call_rest : take (takes held n (length row) input) input ++ drop (feed b input (length row)).taken input ≡ input
    call_rest =
        ap (λ (k : ℕ). take (takes held n (length row) input) input ++ drop k input) (ap (λ (r : Fed). r.taken) call_answer) ∙ take_drop (takes held n (length row) input) input

run_lines_lem : {b : Bench} {input text : List ℕ} → Runs b input text → (held : List ℕ) (n : ℕ) → b ≡ bench_of held n → length held ≤ 40 →
    text ≡ lines n (pieces held input ++ last_piece (rest held input))
unfolding pieces rest
run_lines_lem {b} (finished row g) held n e h =
    front row (last_line b (length row)) (length (last_line b (length row))) refl ∙ last_again b held n e h (length row) g
run_lines_lem {b} (called input later row r) held n e h =
    let part = take (takes held n (length row) input) input in
    let behind = drop (feed b input (length row)).taken input ++ later in
    let left : (feed b input (length row)).bench ≡ bench_of (rest held part) (n + length (pieces held part)) = ap (λ (x : Fed). x.bench) (call_answer b held n e h input row) ∙ left_behind held n part in
    let all : part ++ behind ≡ input ++ later = sym (append_assoc part (drop (feed b input (length row)).taken input) later) ∙ ap (λ (l : List ℕ). l ++ later) (call_rest b held n e h input row) in
    ap₂ (λ (x y : List ℕ). x ++ y) (call_text b held n e h input row) (run_lines_lem r (rest held part) (n + length (pieces held part)) left (rest_short held part h))
    ∙ sym (lines_parted n held part behind)
    ∙ ap (λ (x : List ℕ). lines n (pieces held x ++ last_piece (rest held x))) all

-- however the calls are made, the header and what is written out are the listing of the whole input
pub run_listing : (input text : List ℕ) → Runs (bench_of [] 1) input text → header ++ text ≡ listing input
unfolding listing
run_listing input text r = ap (λ (l : List ℕ). header ++ l) (run_lines_lem r [] 1 refl (omega arith))
