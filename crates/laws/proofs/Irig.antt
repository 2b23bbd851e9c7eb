-- Frames, of the calls: a row that reads is the row that is written for a card of what it reads as, and there are such cards. By the laws of frames and of a card's time.
-- Assumes nothing.
use Prim.Native.Nat.{ℕ}
use mathlib.Core.Path.{◌≡◌, refl, sym}
use mathlib.Core.Bool.{true}
use mathlib.Core.List.{List}
use lib.Dec.{lit≤}
use Rattle.std.specs.Prelude.{Ok}
use Rattle.wire.specs.declared.words.Moment.{Moment}
use Rattle.wire.proofs.words.Laws.{writable_day, writable_tick}
use Rattle.clock.specs.Time.{days_in, instant}
use Rattle.clock.specs.Clocks.{with_time}
use Rattle.card.specs.declared.card.Card.{Card}
use Rattle.card.specs.Cards.{with_clock}
use Rattle.card.specs.Lawful.{lawful}
use Rattle.irig.specs.Reading.{read_frame}
use Rattle.irig.proofs.RoundTrip.{writes, write_back, read_long, read_writable, read_whole}
use Rattle.laws.specs.Calls.{Call, number, left}
use Rattle.laws.proofs.Years.{with_time_lem}

-- 2000 has every day that a frame can have
all_days : days_in 2000 ≡ 366
unfolding days_in
all_days = refl

module _ (row : List ℕ) (m : Moment) (n : read_frame row ≡ Ok m) (c : Card) (l : lawful c ≡ true) where
  -- a card at the time that the row reads as
  abbrev then : Card
  then = with_clock c (with_time c.clock (instant 2000 m.day m.tick.ticks))

  pub then_lawful : lawful then ≡ true
  then_lawful =
      let w = read_writable row m n in
      let d = writable_day _ _ w in
      let y = all_days in
      with_time_lem c (instant 2000 m.day m.tick.ticks) l
      record { proper = record { year = lit≤ tt; day_low = d.0; day_high = rw y d.1; tick = writable_tick _ _ w }; year = lit≤ tt }

  -- a frame written for it into the row leaves the row as it is
  pub written_then : (number (Call.write_frame row) then ≡ 0) × (left (Call.write_frame row) then ≡ row)
  unfolding number left
  written_then = (writes then row then_lawful (read_long row m n), write_back then row then_lawful m n refl (sym (read_whole row m n)))
