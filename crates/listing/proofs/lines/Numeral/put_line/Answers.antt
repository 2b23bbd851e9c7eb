-- `lines::Numeral::put_line` meets its contract: four texts, one behind the other, in at most 25 bytes.
-- Assumes nothing.
use native.Mathlib.Omega.{arith}
use Rattle.listing.proofs.lines.Laws.{put_line_lem}
use Rattle.listing.proofs.lines.Numeral.put_line.Goals as goal

pub returns : goal.returns
returns c =
    put_line_lem _ _ _ _ _ _ _ _ _ _ _ _ c.requires (omega (arith, c.ranges.answer)) c.put-at.ensures c.put_text-at.ensures c.put_small-at.ensures c.put_text.ensures
