-- 18: a board that no calls of ours could have left. Which calls leave each of the others, `way` of Runs.antt says; law `lawful_exactly_if` of proofs/Reached.antt.
use Rattle.std.specs.Prelude.{Bool, ◌&&◌, ◌||◌, not, ltb, eqb}
use Rattle.wire.specs.Digits.{pick}
use Rattle.sync.specs.declared.board.Board.{Board}
use Rattle.sync.specs.Boards.{switches_fit}

-- before the first pulse the board is as it started
unfoldable pub unseen_lawful : Board → Bool
unseen_lawful b = eqb b.elapsed 0 && (b.bit && not (b.err || (b.slo || b.fast)))

-- after it SLO waits only with FAST: they are raised together, and SLO is taken first.
-- Until a pulse is missing, ERR waits only with SLO: an early pulse raises both, and ERR is taken first.
-- From then on the bit is set, and the microseconds stand at 1,008,001.
unfoldable pub seen_lawful : Board → Bool
seen_lawful b =
    (not b.slo || b.fast)
    && pick (ltb b.elapsed 1008001) (not b.err || b.slo) (eqb b.elapsed 1008001 && b.bit)

unfoldable pub lawful : Board → Bool
lawful b = switches_fit b.rc1 b.base && pick b.seen (seen_lawful b) (unseen_lawful b)
