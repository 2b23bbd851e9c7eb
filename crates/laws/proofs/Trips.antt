-- The first trip, of the calls: what a closed event latch keeps and counts over a chain of calls, and an open one with bit 2 set; and what opens it. Assumes nothing.
use Prim.Native.Nat.{ℕ, suc, ◌+◌, ◌≤◌, ◌<◌, min}
use mathlib.Core.Path.{◌≡◌, refl, sym, ap, ap₂, subst, ◌∙◌}
use mathlib.Core.Bool.{Bool, true, false, ◌&&◌}
use mathlib.Core.List.{List, [], ◌∷◌, ◌++◌}
use mathlib.Core.Logic.{◌⊎◌, inl, inr, ⊎_elim}
use native.Mathlib.Nat.{min-le_left, min-eq_left, min-eq_right}
use native.Mathlib.Omega.{arith}
use lib.ListN.{length, drop}
use Rattle.std.specs.Prelude.{Ok, ⊤}
use Rattle.wire.specs.Digits.{pick}
use Rattle.wire.specs.Numbers.{given_or}
use Rattle.wire.specs.Words.{moment, read_words}
use Rattle.wire.specs.declared.numbers.Answer.{Answer}
use Rattle.wire.proofs.digits.Laws.{and_true, lt_or_le}
use Rattle.wire.proofs.packets.Laws.{and_false}
use Rattle.parts.specs.declared.event.Event.{Event}
use Rattle.parts.specs.Events.{keeps_first, clear_event, control_written, opened, matching, captured, counted}
use Rattle.parts.specs.Pending.{bit}
use Rattle.parts.proofs.event.Laws.{closed_keeps, bit_written, edge_counts, edge_captures}
use Rattle.card.specs.declared.card.Card.{Card}
use Rattle.card.specs.Cards.{with_event}
use Rattle.card.specs.Lawful.{lawful}
use Rattle.card.specs.Registers.{words_now, read_register, value_read, matched}
use Rattle.card.specs.Reset.{fresh_card}
use Rattle.card.specs.Waiting.{card_after}
use Rattle.card.proofs.lawful.Laws.{parts}
use Rattle.laws.specs.Calls.{Call, after, number, after_all}
use Rattle.laws.specs.Each.{Each}
use Rattle.laws.specs.Readings.{five_read}
use Rattle.laws.specs.Refusals.{Excepted}
use Rattle.laws.specs.Trips.{Opens, matched_by, matchings, some, first_words, Unopened, StaysClosed, FirstKept}
use Rattle.laws.proofs.Keeps.{keeps_all, fresh_all}
use Rattle.laws.proofs.Latches.{edge_accepted, edge_matched, edge_passed, reset_answers}
use Rattle.laws.proofs.Outcomes.{Effect, Outcome, by, found_effect, outcome}
use Rattle.laws.proofs.Readings.{control_written_lem, count_written, count_reads, event_five, time_in}
use Rattle.laws.proofs.Refused.{accepted_lawful, unlawful_stays}

-- ---- a call that neither opens the latch nor is a matching edge

-- leaves the latch, closed or open as it was, the count, and bit 2 if it is set
record Left (c d : Card) : Type 0 where
  closed : d.event.closed ≡ c.event.closed
  missed : d.event.missed ≡ c.event.missed
  latch : d.event.latch ≡ c.event.latch
  keeping : keeps_first c.event.control ≡ true → keeps_first d.event.control ≡ true

same : (c d : Card) → d.event ≡ c.event → Left c d
same c d e =
    record {
      closed = ap (λ (x : Event). x.closed) e;
      missed = ap (λ (x : Event). x.missed) e;
      latch = ap (λ (x : Event). x.latch) e;
      keeping = λ h. ap (λ (x : Event). keeps_first x.control) e ∙ h;
    }

-- CONTROL written with bit 2 set
control_left : (c d : Card) (v : ℕ) → d.event ≡ control_written c.event v → keeps_first v ≡ true → Left c d
control_left c d v e b =
    record {
      closed = ap (λ (x : Event). x.closed) e ∙ ap (λ (t : Bool). c.event.closed && t) b ∙ and_true c.event.closed;
      missed = ap (λ (x : Event). x.missed) e;
      latch = ap (λ (x : Event). x.latch) e;
      keeping = λ h. ap (λ (x : Event). keeps_first x.control) e ∙ bit_written v ∙ b;
    }

-- an edge, by whether the card is lawful and whether it matches
edge_is : (falling t : Bool) (c : Card) → (lawful c && matching c.event.control falling) ≡ t → matched_by (Call.edge falling) c ≡ pick t (c ∷ []) []
unfolding matched_by
edge_is falling t c e = ap (λ (x : Bool). pick x (c ∷ []) []) e

edge_known : (falling t : Bool) (c : Card) → lawful c ≡ true → matching c.event.control falling ≡ t → matched_by (Call.edge falling) c ≡ pick t (c ∷ []) []
edge_known falling t c l e = edge_is falling t c (ap (λ (x : Bool). x && matching c.event.control falling) l ∙ e)

no_opener : {row : List ℕ} → Opens (Call.block row) → ⊥
no_opener = elim [ ]

module _ (c : Card) where
  left : (k : Call) (d : Card) → lawful c ≡ true → Effect c k d → (Opens k → ⊥) → matched_by k c ≡ [] → Left c d
  unfolding card_after
  left k d l (Effect.sets_time year day hour minute second e) o m = same c d refl
  left k d l Effect.reads_time o m = same c d refl
  left k d l (Effect.reads_other reg e) o m = same c d refl
  left k d l (Effect.requests_time v) o m = same c d refl
  left k d l (Effect.writes_control v) o m = go (keeps_first v) refl
    where
      go : (t : Bool) → keeps_first v ≡ t → Left c d
      go true e = control_left c d v refl e
      go false e = absurd (o (Opens.clears v e))
  left k d l (Effect.clears_done v e) o m = by (Left c) (bit 1 v) (λ f. same c _ refl) (λ f. same c c refl)
  left k d l (Effect.takes_packet v b e) o m = same c d refl
  left k d l (Effect.joins_queue v e) o m = same c d refl
  left k d l (Effect.joins_block row e) o m = same c d refl
  left k d l (Effect.writes_mask v) o m = same c d refl
  left k d l (Effect.clears_pending v) o m = same c d refl
  left k d l (Effect.writes_level v) o m = same c d refl
  left k d l (Effect.writes_vector v) o m = same c d refl
  left k d l (Effect.opens_latch v) o m = absurd (o (Opens.writes v))
  left k d l (Effect.matches_edge falling e) o m = absurd (let z : 1 ≡ 0 = ap length (sym (edge_known falling true c l e) ∙ m) in omega arith)
  left k d l (Effect.passes_edge falling e) o m = same c d refl
  left k d l Effect.tells_line o m = same c d refl
  left k d l (Effect.sets_strobe s e) o m = same c d refl
  left k d l (Effect.sets_periodic s e) o m = same c d refl
  left k d l (Effect.waits n row e) o m = same c d refl
  left k d l Effect.resets o m = absurd (o Opens.resets)
  left k d l (Effect.saves row) o m = same c d refl
  left k d l (Effect.loads bytes e j) o m = same c d refl
  left k d l (Effect.writes_frame row) o m = same c d refl
  left k d l (Effect.switches_jam on j) o m = same c d refl

  left_excepted : {n : ℕ} (k : Call) (d : Card) → Excepted k c d n → Left c d
  unfolding matched_by
  left_excepted k d (Excepted.packet v l b z) = same c d refl
  left_excepted k d (Excepted.block row l r f) = left (Call.block _) d l (found_effect c row l) no_opener refl

  left_by : {n : ℕ} (k : Call) (d : Card) → Outcome k c d n → (Opens k → ⊥) → matched_by k c ≡ [] → Left c d
  left_by k d (Outcome.unlawful l) o m = same c d refl
  left_by k d (Outcome.refused l e f) o m = same c d refl
  left_by k d (Outcome.accepted l x) o m = left k d l x o m
  left_by k d (Outcome.excepted l x e f) o m = left_excepted k d x

-- ---- a call that does not open the latch is a matching edge, or leaves it

abbrev Step : Call → Card → Type 0
Step k c = ((matched_by k c ≡ []) × Left c (after k c)) ⊎ ((matched_by k c ≡ c ∷ []) × (after k c ≡ matched c) × (lawful c ≡ true))

other : (k : Call) (c : Card) → (Opens k → ⊥) → matched_by k c ≡ [] → Step k c
other k c o m = inl (m, left_by c k (after k c) (outcome k c) o m)

-- of a lawful card, and an unlawful one, which stays
edge_step : (falling known : Bool) (c : Card) → lawful c ≡ known → Step (Call.edge falling) c
edge_step falling true c l = go (matching c.event.control falling) refl
  where
    go : (t : Bool) → matching c.event.control falling ≡ t → Step (Call.edge falling) c
    go true e = inr (edge_known falling true c l e, edge_matched falling c (edge_accepted falling c l) e, l)
    go false e = inl (edge_known falling false c l e, same c (after (Call.edge falling) c) (ap (λ (d : Card). d.event) (edge_passed falling c (edge_accepted falling c l) e)))
edge_step falling false c l =
    inl (edge_is falling false c (ap (λ (x : Bool). x && matching c.event.control falling) l), same c (after (Call.edge falling) c) (ap (λ (d : Card). d.event) (unlawful_stays (Call.edge falling) c l)))

step : (k : Call) (c : Card) → (Opens k → ⊥) → Step k c
unfolding matched_by
step (Call.set_time year day hour minute second) c o = other _ c o refl
step (Call.read reg) c o = other _ c o refl
step (Call.write reg v) c o = other _ c o refl
step (Call.block row) c o = other _ c o refl
step (Call.edge falling) c o = edge_step falling (lawful c) c refl
step Call.line c o = other _ c o refl
step (Call.set_strobe s) c o = other _ c o refl
step (Call.set_periodic d) c o = other _ c o refl
step (Call.wait n row) c o = other _ c o refl
step Call.reset c o = other _ c o refl
step (Call.save row) c o = other _ c o refl
step (Call.load bytes) c o = other _ c o refl
step (Call.write_frame row) c o = other _ c o refl
step (Call.switch_jam on) c o = other _ c o refl

-- ---- over chains

-- a count with one more, and with more behind it
count_more : (m n : ℕ) → min 65535 (min 65535 (m + 1) + n) ≡ min 65535 (m + suc n)
count_more m n = ⊎_elim below above (lt_or_le (m + 1) 65536)
  where
    below : m + 1 < 65536 → min 65535 (min 65535 (m + 1) + n) ≡ min 65535 (m + suc n)
    below h = ap (λ (x : ℕ). min 65535 (x + n)) (min-eq_right (omega (arith, h))) ∙ ap (min 65535) {x = m + 1 + n} {y = m + suc n} (omega arith)

    above : 65536 ≤ m + 1 → min 65535 (min 65535 (m + 1) + n) ≡ min 65535 (m + suc n)
    above h = ap (λ (x : ℕ). min 65535 (x + n)) (min-eq_left (omega arith)) ∙ min-eq_left (omega arith) ∙ sym (min-eq_left (omega arith))

-- the count with no more
count_same : (m : ℕ) → m ≤ 65535 → m ≡ min 65535 (m + 0)
count_same m h = sym (min-eq_right (let z : m + 0 ≤ 65535 = omega (arith, h) in z) ∙ omega arith)

-- a chain behind its first call, and what it makes of the whole chain
module _ (k : Call) (ks : List Call) (c : Card) (u : Unopened (k ∷ ks) c) where
  abbrev d : Card
  d = after k c

  rest : d.event.missed ≤ 65535 → Unopened ks d
  rest m = record { count = m; none = u.none.1 }

  with_first : (ds : List Card) → matched_by k c ≡ ds → ds ++ matchings ks d ≡ matchings (k ∷ ks) c
  with_first ds e = ap (λ (l : List Card). l ++ matchings ks d) (sym e)

  module _ (h : c.event.closed ≡ true) (behind : Unopened ks d → d.event.closed ≡ true → StaysClosed ks d) where
    closed_passed : (matched_by k c ≡ []) × Left c d → StaysClosed (k ∷ ks) c
    closed_passed p =
        let r = behind (rest (omega (arith, p.1.missed, u.count))) (p.1.closed ∙ h) in
        record {
          closed = r.closed;
          latch = r.latch ∙ p.1.latch;
          missed = r.missed ∙ ap₂ (λ (m : ℕ) (ds : List Card). min 65535 (m + length ds)) p.1.missed (with_first [] p.0);
        }

    closed_missed : (matched_by k c ≡ c ∷ []) × (d ≡ matched c) × (lawful c ≡ true) → StaysClosed (k ∷ ks) c
    closed_missed p =
        let q : d.event ≡ counted c.event = ap (λ (x : Card). x.event) p.1 ∙ edge_counts c.event (words_now c) h in
        let m : d.event.missed ≡ min 65535 (c.event.missed + 1) = ap (λ (x : Event). x.missed) q in
        let r = behind (rest (omega (arith, m, min-le_left 65535 (c.event.missed + 1)))) (ap (λ (x : Event). x.closed) q ∙ h) in
        record {
          closed = r.closed;
          latch = r.latch ∙ ap (λ (x : Event). x.latch) q;
          missed =
              r.missed ∙ ap (λ (n : ℕ). min 65535 (n + length (matchings ks d))) m ∙ count_more c.event.missed (length (matchings ks d))
              ∙ ap (λ (ds : List Card). min 65535 (c.event.missed + length ds)) (with_first (c ∷ []) p.0);
        }

  module _ (h : c.event.closed ≡ false) (b : keeps_first c.event.control ≡ true) where
    open_passed : (Unopened ks d → d.event.closed ≡ false → keeps_first d.event.control ≡ true → FirstKept ks d) → (matched_by k c ≡ []) × Left c d → FirstKept (k ∷ ks) c
    open_passed behind p =
        let r = behind (rest (omega (arith, p.1.missed, u.count))) (p.1.closed ∙ h) (p.1.keeping b) in
        let e = with_first [] p.0 in
        record {
          closed = r.closed ∙ ap some e;
          latch = r.latch ∙ ap₂ first_words e p.1.latch;
          missed = r.missed ∙ ap₂ (λ (m : ℕ) (ds : List Card). min 65535 (m + length (drop 1 ds))) p.1.missed e;
        }

    open_captured : (Unopened ks d → d.event.closed ≡ true → StaysClosed ks d) → (matched_by k c ≡ c ∷ []) × (d ≡ matched c) × (lawful c ≡ true) → FirstKept (k ∷ ks) c
    open_captured behind p =
        let q : d.event ≡ captured c.event (words_now c) = ap (λ (x : Card). x.event) p.1 ∙ edge_captures c.event (words_now c) h in
        let m : d.event.missed ≡ c.event.missed = ap (λ (x : Event). x.missed) q in
        let r = behind (rest (omega (arith, m, u.count))) (ap (λ (x : Event). x.closed) q ∙ b) in
        let e = with_first (c ∷ []) p.0 in
        record {
          closed = r.closed ∙ ap some e;
          latch = r.latch ∙ ap (λ (x : Event). x.latch) q ∙ ap (λ (ds : List Card). first_words ds c.event.latch) e;
          missed = r.missed ∙ ap₂ (λ (n : ℕ) (ds : List Card). min 65535 (n + length (drop 1 ds))) m e;
        }

-- a closed latch stays as it is and counts
pub stays_closed : (ks : List Call) (c : Card) → Unopened ks c → c.event.closed ≡ true → StaysClosed ks c
stays_closed [] c u h = record { closed = h; latch = refl; missed = count_same c.event.missed u.count }
stays_closed (k ∷ ks) c u h =
    ⊎_elim (closed_passed k ks c u h (stays_closed ks (after k c))) (closed_missed k ks c u h (stays_closed ks (after k c))) (step k c u.none.0)

-- an open one with bit 2 set keeps the first, and then counts
pub keeps_first_lem : (ks : List Call) (c : Card) → Unopened ks c → c.event.closed ≡ false → keeps_first c.event.control ≡ true → FirstKept ks c
keeps_first_lem [] c u h b = record { closed = h; latch = refl; missed = count_same c.event.missed u.count }
keeps_first_lem (k ∷ ks) c u h b =
    ⊎_elim (open_passed k ks c u h b (keeps_first_lem ks (after k c))) (open_captured k ks c u h b (stays_closed ks (after k c))) (step k c u.none.0)

-- ---- as the registers read

-- each matching edge came on a lawful card
abbrev AllLawful : List Card → Type 0
AllLawful ds = Each (λ (d : Card). lawful d ≡ true) ds

matched_lawful : (ks : List Call) (c : Card) → Each (λ (k : Call). Opens k → ⊥) ks → AllLawful (matchings ks c)
matched_lawful [] c o = tt
matched_lawful (k ∷ ks) c o =
    let r = matched_lawful ks (after k c) o.1 in
    ⊎_elim
    (λ (p : (matched_by k c ≡ []) × Left c (after k c)). subst (λ (ds : List Card). AllLawful (ds ++ matchings ks (after k c))) (sym p.0) r)
    (λ (p : (matched_by k c ≡ c ∷ []) × (after k c ≡ matched c) × (lawful c ≡ true)). subst (λ (ds : List Card). AllLawful (ds ++ matchings ks (after k c))) (sym p.0) (p.2, r))
    (step k c o.0)

-- of a lawful card with an open latch and bit 2 set, over a chain with a matching edge: EVENT0 to EVENT4 read as the time of the first, and register 18 as the count before
-- plus those that came after it, at most 65,535
pub first_reads : (ks : List Call) (c d : Card) (ds : List Card) → lawful c ≡ true → Unopened ks c → c.event.closed ≡ false → keeps_first c.event.control ≡ true → matchings ks c ≡ d ∷ ds
    → (read_words (five_read (after_all ks c) 6) ≡ Ok (moment d.clock.time.day d.clock.time.tick.ticks))
    × (value_read (read_register (after_all ks c) 18).outcome ≡ min 65535 (c.event.missed + length ds))
first_reads ks c d ds k u h b e =
    let f = keeps_first_lem ks c u h b in
    let l = keeps_all ks c k in
    let m = subst AllLawful e (matched_lawful ks c u.none) in (
      ap read_words (event_five (after_all ks c) l) ∙ time_in d (after_all ks c).event.latch m.0 (f.latch ∙ ap (λ (es : List Card). first_words es c.event.latch) e),
      ap (λ (a : Answer Card ℕ). given_or 0 a.outcome) (count_reads (after_all ks c) l) ∙ f.missed ∙ ap (λ (es : List Card). min 65535 (c.event.missed + length (drop 1 es))) e,
    )

-- ---- what opens it

module _ (v : ℕ) (c : Card) where
  -- register 18, by whatever value: the latch is open and the count clear, and nothing else changes
  pub count_opens : number (Call.write 18 v) c ≡ 0 → after (Call.write 18 v) c ≡ with_event c (opened c.event)
  unfolding after
  count_opens e = ap (λ (a : Answer Card ⊤). a.after) (count_written c v (accepted_lawful (Call.write 18 v) c e))

  -- CONTROL: with bit 2 clear the latch is open and with it set as it was, and the count is kept
  pub control_opens : number (Call.write 11 v) c ≡ 0 → after (Call.write 11 v) c ≡ with_event c (control_written c.event v)
  unfolding after
  control_opens e = ap (λ (a : Answer Card ⊤). a.after) (control_written_lem c v (accepted_lawful (Call.write 11 v) c e))

-- reset clears all of it
pub reset_opens : (c : Card) → number Call.reset c ≡ 0 → (after Call.reset c).event ≡ clear_event
unfolding after
reset_opens c e = ap (λ (a : Answer Card ⊤). a.after.event) (reset_answers c (accepted_lawful Call.reset c e))

-- so each of the three leaves it open
pub opens : (k : Call) (c : Card) → Opens k → number k c ≡ 0 → (after k c).event.closed ≡ false
opens k c (Opens.writes v) e = ap (λ (d : Card). d.event.closed) (count_opens v c e)
opens k c (Opens.clears v b) e = ap (λ (d : Card). d.event.closed) (control_opens v c e) ∙ ap (λ (t : Bool). c.event.closed && t) b ∙ and_false c.event.closed
opens k c Opens.resets e = ap (λ (x : Event). x.closed) (reset_opens c e)

-- ---- a closed latch has bit 2 set

pub closed_held : (c : Card) → lawful c ≡ true → c.event.closed ≡ true → keeps_first c.event.control ≡ true
closed_held c l = closed_keeps c.event (parts c l).event

-- in every card to which calls lead
pub closed_reached : (ks : List Call) → (after_all ks fresh_card).event.closed ≡ true → keeps_first (after_all ks fresh_card).event.control ≡ true
closed_reached ks = closed_held (after_all ks fresh_card) (fresh_all ks)
