-- Taking goes ERR, SLO, FAST, one by one, and each waits once at most: after its taking it waits no more, and after three takings none does. Said of the call.
-- Assumes nothing.
use Prim.Native.Nat.{◌+◌}
use mathlib.Core.Path.{◌≡◌, refl, ap, ◌∙◌}
use mathlib.Core.Bool.{Bool, true, false}
use Rattle.std.specs.Prelude.{ℕ, Option, Some, None}
use Rattle.wire.specs.Numbers.{given_or}
use Rattle.sync.specs.declared.board.Board.{Board}
use Rattle.sync.specs.Lawful.{lawful}
use Rattle.sync.specs.Interrupts.{err_taken, slo_taken, fast_taken, next, next_taken, take_interrupt}
use Rattle.sync.specs.Calls.{Call, after, after_all}
use Rattle.sync.specs.Runs.{takings, Gives}
use Rattle.sync.proofs.interrupts.Laws.{err_first, slo_next, fast_last, none_waits}
use Rattle.sync.proofs.Keeps.{keeps, keeps_all}
use Rattle.sync.proofs.Done.{take_done, vector_done}

module _ (b : Board) (h : lawful b ≡ true) where
  gives : (i : Option ℕ) (d : Board) → (next b ≡ i) × (next_taken b ≡ d) → Gives b i d
  gives i d q = (ap (given_or None) (vector_done b h) ∙ q.0, take_done b h ∙ q.1)

  pub takes_err : b.err ≡ true → Gives b (Some (b.base + 2)) (err_taken b)
  takes_err e = gives _ _ (err_first b e)

  pub takes_slo : b.err ≡ false → b.slo ≡ true → Gives b (Some (b.base + 1)) (slo_taken b)
  takes_slo e s = gives _ _ (slo_next b e s)

  pub takes_fast : b.err ≡ false → b.slo ≡ false → b.fast ≡ true → Gives b (Some b.base) (fast_taken b)
  takes_fast e s f = gives _ _ (fast_last b e s f)

  pub takes_none : b.err ≡ false → b.slo ≡ false → b.fast ≡ false → Gives b None b
  takes_none e s f = gives _ _ (none_waits b e s f)

-- EACH WAITS ONCE AT MOST

module _ (b : Board) (h : lawful b ≡ true) where
  no_err : (e s f : Bool) → b.err ≡ e → b.slo ≡ s → b.fast ≡ f → (after Call.take b).err ≡ false
  no_err true s f x y z = ap (λ (d : Board). d.err) (takes_err b h x).1
  no_err false true f x y z = ap (λ (d : Board). d.err) (takes_slo b h x y).1 ∙ x
  no_err false false true x y z = ap (λ (d : Board). d.err) (takes_fast b h x y z).1 ∙ x
  no_err false false false x y z = ap (λ (d : Board). d.err) (takes_none b h x y z).1 ∙ x

  no_slo : (s f : Bool) → b.err ≡ false → b.slo ≡ s → b.fast ≡ f → (after Call.take b).slo ≡ false
  no_slo true f x y z = ap (λ (d : Board). d.slo) (takes_slo b h x y).1
  no_slo false true x y z = ap (λ (d : Board). d.slo) (takes_fast b h x y z).1 ∙ y
  no_slo false false x y z = ap (λ (d : Board). d.slo) (takes_none b h x y z).1 ∙ y

  no_fast : (f : Bool) → b.err ≡ false → b.slo ≡ false → b.fast ≡ f → (after Call.take b).fast ≡ false
  no_fast true x y z = ap (λ (d : Board). d.fast) (takes_fast b h x y z).1
  no_fast false x y z = ap (λ (d : Board). d.fast) (takes_none b h x y z).1 ∙ z

  -- after a taking no ERR waits; after another, no SLO; after a third, no FAST
  pub err_gone : (after Call.take b).err ≡ false
  err_gone = no_err b.err b.slo b.fast refl refl refl

  pub slo_gone : b.err ≡ false → (after Call.take b).slo ≡ false
  slo_gone e = no_slo b.slo b.fast e refl refl

  pub fast_gone : b.err ≡ false → b.slo ≡ false → (after Call.take b).fast ≡ false
  fast_gone e s = no_fast b.fast e s refl

-- so three takings leave none
pub after_three : (b : Board) → lawful b ≡ true → given_or None (take_interrupt (after_all (takings 3) b)).outcome ≡ None
after_three b h = last (after Call.take (after Call.take b)) (keeps_all (takings 2) b h) (err_gone one k) (slo_gone one k (err_gone b h))
  where
    one : Board
    one = after Call.take b

    k : lawful (after Call.take b) ≡ true
    k = keeps Call.take b h

    last : (d : Board) → lawful d ≡ true → d.err ≡ false → d.slo ≡ false → given_or None (take_interrupt (after Call.take d)).outcome ≡ None
    last d g e s = (takes_none (after Call.take d) (keeps Call.take d g) (err_gone d g) (slo_gone d g e) (fast_gone d g e s)).0
