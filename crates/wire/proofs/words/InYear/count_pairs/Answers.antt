-- `InYear::count_pairs` meets its contract: nine counts, by `ten_pairs`.
-- Assumes nothing.
use Rattle.wire.proofs.words.Pairs.{ten_pairs}
use Rattle.wire.proofs.words.InYear.count_pairs.Goals as goal

pub returns : goal.returns
returns c =
    let s = c.args.self in
    ten_pairs s.day s.tick c.whole_seconds-whole.result s.day_small s.tick_small c.whole_seconds-whole.ensures
    c.split-hundreds.ensures c.split-days.ensures
    c.split-hours.ensures c.split-minutes.ensures c.split-seconds.ensures
    c.split-hundredths.ensures c.split-ten_thousandths.ensures c.split-millionths.ensures c.split-last.ensures
