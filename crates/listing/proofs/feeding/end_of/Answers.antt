-- `feeding::end_of` meets its contract: the first 0x17, or the 41st byte.
-- Assumes nothing.
use Rattle.std.proofs.Common.{arith, rules}
use Rattle.listing.proofs.feeding.Ends.{found_end, found_full}
use Rattle.listing.proofs.feeding.end_of.Goals as goal

pub returns-in-Some : goal.returns-in-Some
returns-in-Some c = found_end _ _ c.min.result c.requires (omega arith) c.in-Some.i (search rules) (search rules) (λ j h q. absurd (search rules))

pub returns-in-None : goal.returns-in-None
returns-in-None c = found_full _ _ c.min.result c.requires (omega arith) c.if-held-front-eq41.true (search rules)
