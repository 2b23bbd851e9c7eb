-- A block into the queue: what writing bytes to FIFO one after another comes to, and that it is what is stored at once. Assumes nothing.
use Prim.Native.Nat.{ℕ, zero, suc, ◌+◌, ◌-◌, ◌%◌, ◌≤◌, ◌<◌, min}
use mathlib.Core.Path.{◌≡◌, refl, sym, ap, ap₂, ◌∙◌}
use mathlib.Core.Bool.{Bool, true, false}
use mathlib.Core.List.{List, [], ◌∷◌, ◌++◌, append_assoc}
use native.Mathlib.Nat.{mod-eq_of_lt, zero-min, min-zero, suc-min-suc, min-le_left, min-le_right, min-eq_left, min-eq_right, le_of_lt}
use native.Mathlib.Numerals.{add-one}
use native.Mathlib.Omega.{arith}
use lib.Dec.{ltb, leb-suc-suc, leb-suc-zero, leb-zero}
use lib.ListN.{length, take, drop, set, replicate, length-set, length-take, length-drop}
use lib.Seq.{take-take, paste, paste-zero, take-suc-set, length-take-le, drop-drop}
use borrow.Author.Tests.{lt-ltb, le-ltb}
use Rattle.wire.specs.Digits.{pick, below}
use Rattle.std.specs.Prelude.{Result, Ok, Err, ⊤}
use Rattle.wire.specs.Numbers.{given, answered, number_of}
use Rattle.wire.specs.declared.numbers.Refusal.{Refusal}
use Rattle.wire.proofs.numbers.Names.{given_number, unlawful_named, queue_full_named}
use Rattle.wire.proofs.digits.Laws.{below_at, below_take, below_drop, zeros}
use Rattle.parts.specs.declared.queue.Queue.{Queue}
use Rattle.parts.specs.Queues.{queued, enqueued, queue_lawful}
use Rattle.parts.proofs.queue.Laws.{enqueued_lawful, zeros_behind_fill}
use Rattle.card.specs.declared.card.Card.{Card}
use Rattle.card.specs.declared.blocks.BlockAnswer.{BlockAnswer}
use Rattle.card.specs.Blocks.{block_answer, behind, one_by_one, write_block, free, finding, joined, block_lines}
use Rattle.card.specs.Cards.{answer, with_queue}
use Rattle.card.specs.Lawful.{lawful}
use Rattle.card.specs.Registers.{write_register}
use Rattle.card.proofs.lawful.Laws.{Parts, parts, whole}
use Rattle.card.proofs.registers.Laws.{queue_within, fifo_3, fifo_joins}

-- ---- one after another

-- bytes that join a queue one after another
abbrev pub filled : Queue → List ℕ → Queue
filled q [] = q
filled q (b ∷ bs) = filled (enqueued q (b % 256)) bs

pub joins_lawful : (c : Card) (b : ℕ) → lawful c ≡ true → c.queue.fill < 64 → lawful (with_queue c (enqueued c.queue b)) ≡ true
joins_lawful c b l h =
    let p : Parts c = parts c l in
    whole _ (record { interrupts = p.interrupts; event = p.event; time_latch = p.time_latch; settings = p.settings; jam = p.jam; queue = enqueued_lawful c.queue b h p.queue; clock = p.clock })

-- with k free places
ends : (row : List ℕ) (c : Card) (k : ℕ) → lawful c ≡ true → c.queue.fill + k ≡ 64
    → one_by_one c row ≡ block_answer (with_queue c (filled c.queue (take k row))) (pick (ltb k (length row)) 3 0) (length (take k row))
unfolding one_by_one
ends [] c zero l h = refl
ends [] c (suc k) l h = ap (λ (t : Bool). block_answer c (pick t 3 0) 0) (sym (leb-suc-zero (suc k)))
ends (b ∷ bs) c zero l h =
    let w : write_register c 13 b ≡ answer c 3 = fifo_3 c b l (omega arith) in
    rw w (simp (queue_full_named, leb-suc-suc 0 (length bs), leb-zero (length bs)))
ends (b ∷ bs) c (suc k) l h =
    let q : Queue = enqueued c.queue (b % 256) in
    let w : write_register c 13 b ≡ answer (with_queue c q) 0 = fifo_joins c b l (λ e. omega arith) in
    let n : 1 + length (take k bs) ≡ suc (length (take k bs)) = omega arith in
    rw w (ap (behind 1) (ends bs (with_queue c q) k (joins_lawful c (b % 256) l (omega arith)) (omega arith))
    ∙ ap (block_answer (with_queue c (filled q (take k bs))) (pick (ltb k (length bs)) 3 0)) n
    ∙ ap (λ (t : Bool). block_answer (with_queue c (filled q (take k bs))) (pick t 3 0) (suc (length (take k bs)))) (sym (leb-suc-suc (suc k) (length bs))))

-- refused by 18
pub block_18 : (c : Card) (row : List ℕ) → lawful c ≡ false → record { card = c; taken = 0; outcome = Err Refusal.Unlawful } ≡ write_block c row
unfolding write_block
block_18 c row e = simp (e, unlawful_named)

pub free_places : (q : Queue) → q.fill ≤ 64 → q.fill + free q ≡ 64
free_places q h = omega arith

table : (known : Bool) (q : Queue) (row : List ℕ) → known ≡ true → pick (ltb (free q) (length row)) 3 0 ≡ given (block_lines known q row)
table known q row e = simp e

-- of a lawful card: as many bytes as find a free place
pub block_is : (c : Card) (row : List ℕ) → lawful c ≡ true
    → write_block c row ≡ block_answer (with_queue c (filled c.queue (take (free c.queue) row))) (given (block_lines (lawful c) c.queue row)) (finding c.queue row)
unfolding write_block
block_is c row l =
    simp l
    (ends row c (free c.queue) l (free_places c.queue (queue_within c l))
    ∙ ap₂ (block_answer (with_queue c (filled c.queue (take (free c.queue) row)))) (table true c.queue row refl) (length-take (free c.queue) row))

-- of every card: the number of its table
pub block_number : (c : Card) (row : List ℕ) → number_of (write_block c row).outcome ≡ given (block_lines (lawful c) c.queue row)
block_number c row = go (lawful c) refl
  where
    go : (t : Bool) → lawful c ≡ t → number_of (write_block c row).outcome ≡ given (block_lines (lawful c) c.queue row)
    go true l = ap (λ (r : BlockAnswer). number_of r.outcome) (block_is c row l) ∙ given_number (block_lines (lawful c) c.queue row) tt refl
    go false l = ap (λ (r : BlockAnswer). number_of r.outcome) (sym (block_18 c row l)) ∙ simp l

-- 0 if every byte finds a place
pub block_accepts : (c : Card) (row : List ℕ) → lawful c ≡ true → length row ≤ free c.queue → number_of (write_block c row).outcome ≡ 0
block_accepts c row l h = block_number c row ∙ simp (l, le-ltb (free c.queue) (length row) h)

-- and the queue that bytes joined is lawful
pub filled_lawful : (bs : List ℕ) (q : Queue) → queue_lawful q ≡ true → length bs ≤ free q → queue_lawful (filled q bs) ≡ true
filled_lawful [] q h e = h
filled_lawful (b ∷ bs) q h e = filled_lawful bs (enqueued q (b % 256)) (enqueued_lawful q (b % 256) (omega arith) h) (omega arith)

-- ---- at once

one_behind : (q : Queue) (b : ℕ) (bs : List ℕ) → q.fill < length q.bytes → joined (enqueued q b) bs ≡ joined q (b ∷ bs)
one_behind q b bs h =
    let e : take (q.fill + 1) (set q.bytes q.fill b) ≡ queued q ++ (b ∷ []) = rw add-one (take-suc-set q.bytes q.fill b h) in
    let n : q.fill + 1 + length bs ≡ q.fill + suc (length bs) = omega arith in
    ap₂ (λ (held : List ℕ) (k : ℕ). record { bytes = held ++ (bs ++ replicate (64 - k) 0); fill = k }) e n
    ∙ ap (λ (l : List ℕ). record { bytes = l; fill = q.fill + suc (length bs) }) (append_assoc (queued q) (b ∷ []) (bs ++ replicate (64 - (q.fill + suc (length bs))) 0))

module _ (q : Queue) (l : length q.bytes ≡ 64) (h : queue_lawful q ≡ true) where
  zeros_from_lem : (k : ℕ) → drop (q.fill + k) q.bytes ≡ replicate (64 - (q.fill + k)) 0
  zeros_from_lem k =
      let d : List ℕ = drop (q.fill + k) q.bytes in
      let z : below 1 d ≡ true = rw (drop-drop k q.fill q.bytes) at (below_drop 1 k (drop q.fill q.bytes) (zeros_behind_fill q h)) in
      zeros d z ∙ ap (λ (n : ℕ). replicate n 0) (length-drop (q.fill + k) q.bytes ∙ ap (λ (n : ℕ). n - (q.fill + k)) l)

  -- the first bytes of a row stored behind the ones held
  pub stored_joined : (row : List ℕ) (n : ℕ) → n ≤ length row
      → ◌≡◌ {A = Queue} (record { bytes = paste q.bytes q.fill row n; fill = q.fill + n }) (joined q (take n row))
  stored_joined row n a =
      ap (λ (bs : List ℕ). record { bytes = bs; fill = q.fill + n })
      (append_assoc (queued q) (take n row) (drop (q.fill + n) q.bytes) ∙ ap (λ (bs : List ℕ). queued q ++ (take n row ++ bs)) (zeros_from_lem n))
      ∙ ap (λ (k : ℕ). record { bytes = queued q ++ (take n row ++ replicate (64 - (q.fill + k)) 0); fill = q.fill + k }) (sym (length-take-le n row a))

-- bytes that join one after another stand behind the ones held, and zeros behind
pub filled_joined : (bs : List ℕ) (q : Queue) → length q.bytes ≡ 64 → queue_lawful q ≡ true → q.fill + length bs ≤ 64 → below 256 bs ≡ true → filled q bs ≡ joined q bs
filled_joined [] q l h f s = paste_zero_is
  where
    paste_zero_is : q ≡ joined q []
    paste_zero_is = ap₂ (λ (bytes : List ℕ) (n : ℕ). record { bytes = bytes; fill = n }) (paste-zero q.bytes q.fill []) (let e : q.fill ≡ q.fill + 0 = omega arith in e) ∙ stored_joined q l h [] 0 (omega arith)
filled_joined (b ∷ bs) q l h f s =
    let m : b % 256 ≡ b = mod-eq_of_lt (below_at 256 (b ∷ bs) s 0 (omega arith)) in
    ap (λ (x : ℕ). filled (enqueued q x) bs) m
    ∙ filled_joined bs (enqueued q b) (length-set q.bytes q.fill b ∙ l) (enqueued_lawful q b (omega arith) h) (omega arith) (below_drop 256 1 (b ∷ bs) s)
    ∙ one_behind q b bs (omega arith)

-- ---- what is stored and counted

take_finding : (n : ℕ) (row : List ℕ) → take (min n (length row)) row ≡ take n row
take_finding zero row = ap (λ (k : ℕ). take k row) (zero-min (length row))
take_finding (suc n) [] = ap (λ (k : ℕ). take {A = ℕ} k []) (min-zero (suc n))
take_finding (suc n) (b ∷ bs) = ap (λ (k : ℕ). take k (b ∷ bs)) (suc-min-suc n (length bs)) ∙ ap (λ (l : List ℕ). b ∷ l) (take_finding n bs)

-- of a card that may be handed in: 64 places, bytes of eight bits
module _ (c : Card) (row : List ℕ) (l : lawful c ≡ true) (places : length c.queue.bytes ≡ 64) (bytes : below 256 row ≡ true) where
  -- the closed form
  pub block_joined : write_block c row ≡ block_answer (with_queue c (joined c.queue (take (finding c.queue row) row))) (given (block_lines (lawful c) c.queue row)) (finding c.queue row)
  block_joined =
      let q : Queue = c.queue in
      let n : length (take (free q) row) ≡ finding q row = length-take (free q) row in
      let f : filled q (take (free q) row) ≡ joined q (take (free q) row) =
      filled_joined (take (free q) row) q places (parts c l).queue (omega (arith, n, min-le_left (free q) (length row), queue_within c l)) (below_take 256 (free q) row bytes) in
      block_is c row l
      ∙ ap (λ (p : Queue). block_answer (with_queue c p) (given (block_lines (lawful c) q row)) (finding q row)) (f ∙ ap (joined q) (sym (take_finding (free q) row)))

  -- and what the code leaves
  module _ (stored : List ℕ) (taken : ℕ) (e : stored ≡ paste c.queue.bytes c.queue.fill (take taken row) (length (take taken row))) where
    block_stored : taken ≡ finding c.queue row → (o : Result ⊤ Refusal) → o ≡ answered (given (block_lines (lawful c) c.queue row)) tt
        → record { card = with_queue c (record { bytes = stored; fill = c.queue.fill + taken }); taken = taken; outcome = o } ≡ write_block c row
    block_stored t o g =
        let h : taken ≤ length row = omega (arith, t, min-le_right (free c.queue) (length row)) in
        let n : length (take taken row) ≡ taken = length-take-le taken row h in
        let k : take taken (take taken row) ≡ take taken row = take-take taken taken row (omega arith) in
        let p : stored ≡ paste c.queue.bytes c.queue.fill row taken = e ∙ ap (λ (m : ℕ). paste c.queue.bytes c.queue.fill (take taken row) m) n
        ∙ ap (λ (bs : List ℕ). (take c.queue.fill c.queue.bytes ++ bs) ++ drop (c.queue.fill + taken) c.queue.bytes) k in
        ap (λ (bs : List ℕ). record { card = with_queue c (record { bytes = bs; fill = c.queue.fill + taken }); taken = taken; outcome = o }) p
        ∙ ap₂ (λ (q : Queue) (m : Result ⊤ Refusal). record { card = with_queue c q; taken = taken; outcome = m }) (stored_joined c.queue places (parts c l).queue row taken h) g
        ∙ ap (λ (k : ℕ). block_answer (with_queue c (joined c.queue (take k row))) (given (block_lines (lawful c) c.queue row)) k) t
        ∙ sym block_joined

    -- some are left over
    pub block_3 : free c.queue < length row → (o : Result ⊤ Refusal) → o ≡ Err Refusal.QueueFull → taken ≡ free c.queue
        → record { card = with_queue c (record { bytes = stored; fill = c.queue.fill + taken }); taken = taken; outcome = o } ≡ write_block c row
    block_3 h o m t = block_stored (t ∙ sym (min-eq_left (le_of_lt h))) o (m ∙ simp (l, lt-ltb (free c.queue) (length row) h, queue_full_named))

    -- none is
    pub block_0 : length row ≤ free c.queue → (o : Result ⊤ Refusal) → o ≡ Ok tt → taken ≡ length row
        → record { card = with_queue c (record { bytes = stored; fill = c.queue.fill + taken }); taken = taken; outcome = o } ≡ write_block c row
    block_0 h o m t = block_stored (t ∙ sym (min-eq_right h)) o (m ∙ simp (l, le-ltb (free c.queue) (length row) h))
