-- `LawfulClock::second` meets its contract: the second falls on the multiples of 10,000,000.
-- It stays an answer: tried without, from one lemma over plain variables, the proof did not close. Assumes nothing.
use Rattle.clock.proofs.lawful.Laws.{parts}
use Rattle.clock.proofs.time.Laws.{in_range_lem}
use Rattle.clock.proofs.falling.Laws.{second_rhythm}
use Rattle.clock.proofs.lawful.LawfulClock.second.Goals as goal

pub returns : goal.returns
returns c = second_rhythm _ (in_range_lem _ (parts _ c.args.self.lawful).time).proper _ c.above.ensures.0 c.above.ensures.1
