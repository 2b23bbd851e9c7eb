-- What feeding and finishing answer: behind a piece's end, and behind bytes that are held. Assumes nothing.
use Prim.Native.Nat.{ℕ, suc, ◌+◌, ◌-◌, ◌≤◌, ◌<◌}
use mathlib.Core.Path.{◌≡◌, refl, sym, ap, ap₂, ◌∙◌}
use mathlib.Core.Bool.{Bool, true, false, ◌&&◌}
use mathlib.Core.List.{List, [], ◌∷◌, ◌++◌, append-nil}
use mathlib.Core.Logic.{⊎_elim}
use native.Mathlib.Nat.{zero-add}
use native.Mathlib.Omega.{arith}
use Rattle.std.specs.Prelude.{Option, None, Some}
use lib.Dec.{leb}
use lib.ListN.{length, take, drop, length-append, length-drop, length-take, take-append-drop, drop_of_length-le, replicate}
use lib.Seq.{take-add, drop-drop, length-take-le, take_all, take-nil}
use borrow.Author.Tests.{le-leb, lt-leb}
use Rattle.wire.specs.Digits.{pick, below}
use Rattle.wire.proofs.digits.Laws.{lt_or_le, below_append}
use Rattle.wire.proofs.packets.Laws.{and_false}
use Rattle.parts.specs.declared.queue.Queue.{Queue}
use Rattle.card.specs.declared.card.Card.{Card}
use Rattle.card.specs.Reset.{fresh_card}
use Rattle.laws.specs.Calls.{fed}
use Rattle.laws.proofs.Blocks.{fed_append}
use Rattle.laws.proofs.Fed.{fed_card}
use Rattle.laws.proofs.Keeps.{fresh_lawful, fresh_queue}
use Rattle.listing.specs.declared.feeding.Bench.{Bench}
use Rattle.listing.specs.declared.feeding.Fed.{Fed}
use Rattle.listing.specs.declared.feeding.Reached.{Reached}
use Rattle.parts.specs.Queues.{queued}
use Rattle.listing.specs.Listing.{pieces, rest, answer_of, line, lines, queue_of, goes_on, takes, placed, part_of, feed, row_fed, last_piece, last_line, end_of, next_end, Lined, Going, ListsOn, Lists, ListsHeld, FeedsWhole, Feeds, Feeding, Finishing}
use Rattle.listing.proofs.feeding.Laws.{rest_append, pieces_append, lines_append}
use Rattle.listing.proofs.feeding.Ends.{Unended, unended, Ended}
use Rattle.listing.proofs.lines.Laws.{placed_twice, put_none}
use Rattle.listing.proofs.feeding.Parts.{held_again}
use Rattle.listing.proofs.feeding.Going.{lined_none, lined_length, going_none, next_goes, next_ends}

-- BEHIND A PIECE'S END

-- as far as listing came, and no next piece
pub record Stopped (n : ℕ) (input before : List ℕ) (at : ℕ) (after : List ℕ) (m w i : ℕ) : Type 0 where
  pub going : Going [] n input before at after m w i
  pub over : next_end m (length before - w) (drop i input) ≡ None

module _ (input : List ℕ) (front : Option ℕ) (n : ℕ) (before : List ℕ) (at : ℕ) (after : List ℕ) (r : Reached) (s : Lists input front n before at after r)
    (e : front ≡ next_end n (length before - at) input) (h : at ≤ length before) where
  none_listed : front ≡ None → Stopped n input before at after r.number r.written r.taken
  none_listed z =
      let a = s.none z in
      rw (a.0, a.1) (record { going = going_none [] n input before at before n at (lined_none n before at h); over = sym e ∙ z })

  module _ (k : ℕ) (z : front ≡ Some k) where
    u : Ended [] input k
    u = next_ends n (length before - at) input k (sym e ∙ z)

    abbrev l : ListsOn input k n before at after r
    l = s.some k z

    some_listed : Stopped n input before at after r.number r.written (k + l.behind)
    unfolding lines
    some_listed =
        let p = take k input in
        let c : pieces [] (take (k + l.behind) input) ≡ p ∷ pieces [] (take l.behind (drop k input)) =
        ap (pieces []) (take-add k l.behind input) ∙ pieces_append [] p (take l.behind (drop k input)) ∙ ap₂ (λ (ps : List (List ℕ)) (held : List ℕ). ps ++ pieces held (take l.behind (drop k input))) u.pieces u.rest in
        let g : goes_on n (length before - at) ≡ true = next_goes n (length before - at) input k (sym e ∙ z) in
        let t = takes [] r.number (length before - r.written) (drop (k + l.behind) input) in
        record {
          going = record {
            within = omega (arith, l.going.within, length-drop k input, u.within);
            none = ap (rest []) (take-add k l.behind input) ∙ rest_append [] p (take l.behind (drop k input)) ∙ ap (λ (held : List ℕ). rest held (take l.behind (drop k input))) u.rest ∙ l.going.none;
            lined = rw c l.going.lined;
            left =
                ap₂ (λ (x y : ℕ). takes [] x (length before - y) input) (let q : n + 0 ≡ n = omega arith in q) (let q : at + 0 ≡ at = omega arith in q)
                ∙ u.takes n (length before - at) g
                ∙ ap₂ (λ (x y : ℕ). k + takes [] x y (drop k input)) (let q : suc n ≡ n + 1 = omega arith in q)
                (let q : length before - at - length (line n (answer_of p)) ≡ length before - (at + length (line n (answer_of p) ++ [])) = omega (arith, ap length (append-nil (line n (answer_of p)))) in q)
                ∙ ap (λ (x : ℕ). k + x) (l.going.left ∙ ap (λ (xs : List ℕ). l.behind + takes [] r.number (length before - r.written) xs) (drop-drop l.behind k input))
                ∙ (let q : k + (l.behind + t) ≡ k + l.behind + t = omega arith in q);
          };
          over = l.over;
        }

  pub listed : Stopped n input before at after r.number r.written r.taken
  listed = by_front front refl
    where
      by_front : (o : Option ℕ) → front ≡ o → Stopped n input before at after r.number r.written r.taken
      by_front None z = none_listed z
      by_front (Some k) z = rw (s.some k z).taken (some_listed k z)

abbrev answered : Queue → ℕ → ℕ → ℕ → Fed
answered q n t w = record { bench = record { queue = q; number = n }; taken = t; written = w }

fed_same : (q p : Queue) (n m t u w v : ℕ) → q ≡ p → n ≡ m → t ≡ u → w ≡ v → answered q n t w ≡ answered p m u v
fed_same q p n m t u w v a b c d =
    ap₂ (λ (x : Queue) (y : ℕ). answered x y t w) a b ∙ ap₂ (λ (x y : ℕ). answered p m x y) c d

-- the queue of a card that holds bytes
held_queue : (held : List ℕ) (c : Card) → c ≡ fed fresh_card held → below 256 held ≡ true → length held ≤ 64 → c.queue ≡ queue_of held
held_queue held c e b h =
    ap (λ (k : Card). k.queue) (e ∙ fed_card held fresh_card fresh_lawful fresh_queue h b)
    ∙ ap (λ (n : ℕ). record { bytes = held ++ replicate (64 - n) 0; fill = n }) (let z : 0 + length held ≡ length held = omega arith in z)

-- no byte is taken for want of room or of a number
takes_off : (held : List ℕ) (n room : ℕ) (xs : List ℕ) → goes_on n room ≡ false → takes held n room xs ≡ 0
unfolding takes
takes_off held n room [] e = refl
takes_off held n room (x ∷ xs) e = simp e

-- with the pieces up to place i and what is held then
module _ (n : ℕ) (input before : List ℕ) (at : ℕ) (after : List ℕ) (m w i : ℕ) (s : Stopped n input before at after m w i) where
  abbrev g : Going [] n input before at after m w i
  g = s.going

  whole_fed : (part held : List ℕ) → part ≡ take (takes [] n (length before - at) input) input → pieces [] part ≡ pieces [] (take i input) → rest [] part ≡ held
      → (q : Queue) → q ≡ queue_of held → (t : ℕ) → t ≡ length part → (r : Fed) → r ≡ answered q m t w → FeedsWhole n input before at after r
  whole_fed part held ep ec eh q eq t et r er =
      let l : Lined n before at after m w (pieces [] part) = rw ec g.lined in
      record {
        part = part;
        taken = ep;
        answer = er ∙ fed_same _ _ _ _ _ _ _ _ (eq ∙ ap queue_of (sym eh)) l.number et l.written;
        lined = rw er l;
      }

  taken_is : (t : ℕ) → takes [] m (length before - w) (drop i input) ≡ t → takes [] n (length before - at) input ≡ i + t
  unfolding lines
  taken_is t e =
      ap₂ (λ (x y : ℕ). takes [] x (length before - y) input) (let q : n ≡ n + 0 = omega arith in q) (let q : at ≡ at + 0 = omega arith in q)
      ∙ g.left ∙ ap (λ (x : ℕ). i + x) e

  -- all bytes are taken: those behind the last end are held
  pub whole_held : goes_on m (length before - w) ≡ true → (bs : List ℕ) → bs ≡ drop i input → (c : Card) → c ≡ fed fresh_card bs → below 256 bs ≡ true
      → (r : Fed) → r ≡ answered c.queue m (length input) w → FeedsWhole n input before at after r
  unfolding next_end
  whole_held go bs ebs c ec b r er =
      let u : Unended [] bs = unended [] bs (ap (end_of 0) ebs ∙ sym (simp go) ∙ s.over) in
      let t : takes [] n (length before - at) input ≡ length input =
      taken_is (length bs) (ap (takes [] m (length before - w)) (sym ebs) ∙ u.takes m (length before - w) go) ∙ (let q : i + length bs ≡ length input = omega (arith, g.within, ap length ebs, length-drop i input) in q) in
      let j : take i input ++ bs ≡ input = ap (λ (xs : List ℕ). take i input ++ xs) ebs ∙ take-append-drop i input in
      whole_fed input bs (sym (ap (λ (x : ℕ). take x input) t ∙ take_all (length input) input (omega arith)))
      (ap (pieces []) (sym j) ∙ pieces_append [] (take i input) bs ∙ ap (λ (held : List ℕ). pieces [] (take i input) ++ pieces held bs) g.none ∙ ap (λ (ps : List (List ℕ)). pieces [] (take i input) ++ ps) u.pieces ∙ append-nil (pieces [] (take i input)))
      (ap (rest []) (sym j) ∙ rest_append [] (take i input) bs ∙ ap (λ (held : List ℕ). rest held bs) g.none ∙ u.rest)
      c.queue (held_queue bs c ec b (omega (arith, u.short (omega arith)))) (length input) refl r er

  -- no byte more is taken
  pub whole_over : goes_on m (length before - w) ≡ false → (c : Card) → c ≡ fresh_card → (r : Fed) → r ≡ answered c.queue m i w → FeedsWhole n input before at after r
  unfolding below
  whole_over go c ec r er =
      let t : takes [] n (length before - at) input ≡ i = taken_is 0 (takes_off [] m (length before - w) (drop i input) go) ∙ (let q : i + 0 ≡ i = omega arith in q) in
      whole_fed (take i input) [] (ap (λ (x : ℕ). take x input) (sym t)) refl g.none c.queue (held_queue [] c ec refl (omega arith)) i (sym (length-take-le i input g.within)) r er

take_within : (t : ℕ) (xs : List ℕ) → length (take t xs) ≤ length xs
take_within t xs = simp length-take (omega arith)

-- BEHIND BYTES THAT ARE HELD

-- lines behind lines
lined_append : (n : ℕ) (before : List ℕ) (at : ℕ) (mid : List ℕ) (m w : ℕ) (ps : List (List ℕ)) → Lined n before at mid m w ps → (after : List ℕ) (k v : ℕ) (qs : List (List ℕ))
    → Lined m mid w after k v qs → Lined n before at after k v (ps ++ qs)
lined_append n before at mid m w ps l after k v qs h =
    let same : length mid ≡ length before = lined_length n before at mid m w ps l in
    let t : lines n (ps ++ qs) ≡ lines n ps ++ lines m qs = lines_append n ps qs ∙ ap (λ (x : ℕ). lines n ps ++ lines x qs) (sym l.number) in
    record {
      row =
          h.row
          ∙ ap₂ (λ (x : List ℕ) (y : ℕ). placed x y (lines m qs)) l.row l.written
          ∙ placed_twice before at (lines n ps) (lines m qs) (omega (arith, l.written, h.written, h.fits))
          ∙ ap (placed before at) (sym t);
      number = omega (arith, h.number, l.number, length-append ps qs);
      written = omega (arith, h.written, l.written, ap length t, length-append (lines n ps) (lines m qs));
      fits = omega (arith, h.fits);
    }

module _ (b : Bench) (input before after : List ℕ) (r : Fed) where
  abbrev held : List ℕ
  held = queued b.queue

  abbrev n : ℕ
  n = b.number

  -- with the part that is taken, its pieces, and what is held then
  feeds_part : (part left : List ℕ) (ps : List (List ℕ)) → part ≡ part_of b input (length before) → pieces held part ≡ ps → rest held part ≡ left
      → (q : Queue) → q ≡ queue_of left → (m w t : ℕ) → Lined n before 0 after m w ps → t ≡ length part → r ≡ answered q m t w → Feeds b input before after r
  feeds_part part left ps ep ec el q eq m w t l et er =
      let z : w ≡ length (lines n (pieces held part)) = l.written ∙ (let e : 0 + length (lines n ps) ≡ length (lines n ps) = omega arith in e) ∙ ap (λ (x : List (List ℕ)). length (lines n x)) (sym ec) in
      record {
        answer = rw (← ep) (er ∙ fed_same _ _ _ _ _ _ _ _ (eq ∙ ap queue_of (sym el)) (l.number ∙ ap (λ (x : List (List ℕ)). n + length x) (sym ec)) et z);
        row = rw (← ep) (l.row ∙ ap (λ (x : List (List ℕ)). placed before 0 (lines n x)) (sym ec));
        written = let e : r.written ≡ w = ap (λ (x : Fed). x.written) er in omega (arith, l.fits);
      }

  module _ (c : Card) (ec : c ≡ fed fresh_card held) (bytes : below 256 held ≡ true) (short : length held ≤ 40) where
    -- no byte is taken
    pub held_off : after ≡ before → goes_on n (length before) ≡ false → r ≡ answered c.queue n 0 0 → Feeds b input before after r
    unfolding pieces rest
    held_off ea go er =
        feeds_part [] held [] (sym (ap (λ (t : ℕ). take t input) (takes_off held n (length before) input go))) refl refl c.queue (held_queue held c ec bytes (omega arith)) n 0 0
        (rw ea (lined_none n before 0 (omega arith))) refl er

    -- all bytes join the ones held
    pub held_more : after ≡ before → goes_on n (length before) ≡ true → end_of (length held) input ≡ None → (d : Card) → d ≡ fed c input → below 256 input ≡ true
        → r ≡ answered d.queue n (length input) 0 → Feeds b input before after r
    held_more ea go en d ed small er =
        let u : Unended held input = unended held input en in
        let e : d ≡ fed fresh_card (held ++ input) = ed ∙ ap (λ (k : Card). fed k input) ec ∙ sym (fed_append fresh_card held input) in
        feeds_part input (held ++ input) [] (sym (ap (λ (t : ℕ). take t input) (u.takes n (length before) go) ∙ take_all (length input) input (omega arith))) u.pieces u.rest
        d.queue (held_queue (held ++ input) d e (below_append 256 held input bytes small) (omega (arith, length-append held input, u.short short))) n 0 (length input)
        (rw ea (lined_none n before 0 (omega arith))) refl er

    -- the piece ends, and others behind it
    pub held_ends : goes_on n (length before) ≡ true → (k : ℕ) → Ended held input k → (mid : List ℕ) (m w : ℕ) → Lined n before 0 mid m w ((held ++ take k input) ∷ [])
        → (xs : List ℕ) → xs ≡ drop k input → (f : Fed) → FeedsWhole m xs mid w after f
        → r ≡ record { bench = f.bench; taken = k + f.taken; written = f.written } → Feeds b input before after r
    unfolding lines
    held_ends go k u mid m w l xs exs f h er =
        let p = held ++ take k input in
        let same : length mid ≡ length before = lined_length n before 0 mid m w (p ∷ []) l in
        let t : takes held n (length before) input ≡ k + takes [] m (length mid - w) xs =
        u.takes n (length before) go
        ∙ ap (λ (x : ℕ). k + takes [] (suc n) x (drop k input))
        (let e : length before - length (line n (answer_of p)) ≡ length mid - w = omega (arith, l.written, ap length (append-nil (line n (answer_of p)))) in e)
        ∙ ap₂ (λ (x : ℕ) (ys : List ℕ). k + takes [] x (length mid - w) ys) (let e : suc n ≡ m = omega (arith, l.number) in e) (sym exs) in
        let ep : take k input ++ h.part ≡ part_of b input (length before) =
        ap (λ (ys : List ℕ). take k input ++ ys) (h.taken ∙ ap (take (takes [] m (length mid - w) xs)) exs)
        ∙ sym (take-add k (takes [] m (length mid - w) xs) input) ∙ ap (λ (x : ℕ). take x input) (sym t) in
        feeds_part (take k input ++ h.part) (rest [] h.part) ((p ∷ []) ++ pieces [] h.part) ep
        (pieces_append held (take k input) h.part ∙ ap₂ (λ (ps : List (List ℕ)) (left : List ℕ). ps ++ pieces left h.part) u.pieces u.rest)
        (rest_append held (take k input) h.part ∙ ap (λ (left : List ℕ). rest left h.part) u.rest)
        f.bench.queue (ap (λ (x : Fed). x.bench.queue) h.answer) f.bench.number f.written (k + f.taken)
        (lined_append n before 0 mid m w (p ∷ []) l after f.bench.number f.written (pieces [] h.part) h.lined)
        (let e : f.taken ≡ length h.part = ap (λ (x : Fed). x.taken) h.answer in
        omega (arith, length-append (take k input) h.part, length-take-le k input u.within)) er

-- THE LAST REST

-- the bytes of a queue, as one piece
pub held_listed : (q : Queue) (n : ℕ) (before after : List ℕ) (r : Reached) → length (queued q) ≡ q.fill → (front : Option ℕ) → (q.fill ≡ 0 → front ≡ None) → (0 < q.fill → front ≡ Some q.fill)
    → Lists (queued q) front n before 0 after r → ListsHeld q n before after r
unfolding pieces
held_listed q n before after r h front fn fs s =
    record {
      count = h;
      taken = ⊎_elim (λ (z : 0 < q.fill). let l = s.some q.fill (fs z) in omega (arith, l.taken, l.going.within, length-drop q.fill (queued q)))
          (λ (z : q.fill ≤ 0). let e : r.taken ≡ 0 = ap (λ (x : Reached). x.taken) (s.none (fn (omega arith))).1 in omega arith) (lt_or_le 0 q.fill);
      none = λ z. s.none (fn z);
      some = λ z.
          let l = s.some q.fill (fs z) in
          let d : pieces [] (take l.behind (drop q.fill (queued q))) ≡ [] =
          ap (λ (xs : List ℕ). pieces [] (take l.behind xs)) (drop_of_length-le (queued q) (let x : length (queued q) ≤ q.fill = omega arith in x)) ∙ ap (pieces []) (take-nil l.behind) in
          let f : take q.fill (queued q) ≡ queued q = take_all q.fill (queued q) (omega arith) in
          let g : (take q.fill (queued q) ∷ []) ++ pieces [] (take l.behind (drop q.fill (queued q))) ≡ queued q ∷ [] = ap₂ (λ (p : List ℕ) (ps : List (List ℕ)). (p ∷ []) ++ ps) f d in
          rw g at l.going.lined;
    }

pub last_none : (b : Bench) (row : List ℕ) → last_line b (length row) ≡ [] → Finishing b row row 0
last_none b row e = record { answer = rw e refl; row = rw e (sym (put_none row 0)); written = omega arith }

pick_same : {A : Type 0} (t : Bool) (a : A) → pick t a a ≡ a
pick_same true a = refl
pick_same false a = refl

last_empty : (b : Bench) (room : ℕ) → b.queue.fill ≡ 0 → last_line b room ≡ []
unfolding last_line last_piece lines
last_empty b room e = rw e (pick_same (leb 0 40 && goes_on b.number room) [])

pub last_long : (b : Bench) (room : ℕ) → 40 < b.queue.fill → last_line b room ≡ []
unfolding last_line
last_long b room h = simp (lt-leb b.queue.fill 40 h)

pub last_off : (b : Bench) (room : ℕ) → goes_on b.number room ≡ false → last_line b room ≡ []
unfolding last_line
last_off b room e = simp (e, and_false)

one_piece : (held : List ℕ) → (length held ≡ 0 → ⊥) → last_piece held ≡ held ∷ []
unfolding last_piece
one_piece [] h = absurd (h refl)
one_piece (b ∷ bs) h = refl

last_lines : (b : Bench) (room : ℕ) (ps : List (List ℕ)) → b.queue.fill ≤ 40 → goes_on b.number room ≡ true → last_piece (queued b.queue) ≡ ps → last_line b room ≡ lines b.number ps
unfolding last_line
last_lines b room ps h g e = simp (le-leb b.queue.fill 40 h, g, e)

pub last_held : (b : Bench) (before after : List ℕ) (r : Reached) → b.queue.fill ≤ 40 → goes_on b.number (length before) ≡ true
    → ListsHeld b.queue b.number before after r → Finishing b before after r.written
last_held b before after r h g s = ⊎_elim some none (lt_or_le 0 b.queue.fill)
  where
    none : b.queue.fill ≤ 0 → Finishing b before after r.written
    none z = let a = s.none (omega arith) in rw (a.0, a.1) (last_none b before (last_empty b (length before) (omega arith)))

    some : 0 < b.queue.fill → Finishing b before after r.written
    some z =
        let l : Lined b.number before 0 after r.number r.written (queued b.queue ∷ []) = s.some z in
        let t : last_line b (length before) ≡ lines b.number (queued b.queue ∷ []) =
        last_lines b (length before) _ h g (one_piece (queued b.queue) (λ q. omega (arith, s.count))) in
        record { answer = rw t (l.written ∙ zero-add _); row = rw t l.row; written = l.fits }

-- A PIECE THAT ENDS BEHIND BYTES THAT ARE HELD

module _ (held input : List ℕ) (k : ℕ) (u : Ended held input k) (short : length held ≤ 40) (c d : Card) (ec : c ≡ fed fresh_card held) (bytes : below 256 held ≡ true)
    (bs : List ℕ) (ebs : bs ≡ take k input) (ed : d ≡ fed c bs) (small : below 256 bs ≡ true) where
  size : length (held ++ bs) ≡ length held + k
  size = length-append held bs ∙ ap (λ (x : ℕ). length held + x) (ap length ebs ∙ length-take-le k input u.within)

  queue : d.queue ≡ queue_of (held ++ bs)
  queue =
      held_queue (held ++ bs) d (ed ∙ ap (λ (x : Card). fed x bs) ec ∙ sym (fed_append fresh_card held bs)) (below_append 256 held bs bytes small) (omega (arith, size, u.short short))

  pub ended_fill : d.queue.fill ≡ length held + k
  ended_fill = ap (λ (q : Queue). q.fill) queue ∙ size

  pub ended_lined : (n : ℕ) (before after : List ℕ) (r : Reached) → ListsHeld d.queue n before after r → Lined n before 0 after r.number r.written ((held ++ take k input) ∷ [])
  ended_lined n before after r s =
      let e : queued d.queue ≡ held ++ take k input = ap queued queue ∙ held_again (held ++ bs) ∙ ap (λ (xs : List ℕ). held ++ xs) ebs in
      rw e at (s.some (omega (arith, ended_fill, u.some)))

-- FEEDING

pub feed_none : (b : Bench) (input row : List ℕ) → 40 < b.queue.fill → Feeding b input row row (record { bench = b; taken = 0; written = 0 })
unfolding feed row_fed
feed_none b input row h =
    record { answer = simp (lt-leb b.queue.fill 40 h); row = simp (lt-leb b.queue.fill 40 h); taken = omega arith; written = omega arith }

pub feed_some : (b : Bench) (input before after : List ℕ) (r : Fed) → b.queue.fill ≤ 40 → Feeds b input before after r → Feeding b input before after r
unfolding feed row_fed
feed_some b input before after r h f =
    record {
      answer = simp (le-leb b.queue.fill 40 h) f.answer;
      row = simp (le-leb b.queue.fill 40 h) f.row;
      taken = let e : r.taken ≡ length (part_of b input (length before)) = ap (λ (x : Fed). x.taken) f.answer in omega (arith, take_within (takes (queued b.queue) b.number (length before) input) input);
      written = f.written;
    }
