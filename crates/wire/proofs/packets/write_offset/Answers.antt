-- `packets::write_offset` meets its contract: 9 by the test, and the bytes by `put`.
-- Assumes nothing.
use Prim.Native.Nat.{ℕ}
use mathlib.Core.Path.{refl, sym, ◌∙◌, ap, ap₂}
use mathlib.Core.List.{List, ◌∷◌}
use lib.IntN.{nat_abs}
use mir.Syntax.{w32}
use mir.ValLaws.{to_z-of_z}
use Rattle.wire.specs.declared.packets.Packet.TheVariants as Packet
use Rattle.wire.specs.Digits.{digits}
use Rattle.wire.specs.Packets.{data_of, framed, ascii, sign_of, offset_fits}
use Rattle.wire.proofs.packets.Laws.{write_9, write_put, seven_digits}
use Rattle.wire.proofs.packets.write_offset.Goals as goal

pub returns-then-not-offset_fits : goal.returns-then-not-offset_fits
returns-then-not-offset_fits c =
    let q = to_z-of_z w32 c.args.offset c.ranges.offset in
    write_9 (Packet.G _) _ (ap offset_fits (sym q) ∙ sym c.offset_fits.ensures ∙ c.if-not-offset_fits.true)

pub returns : goal.returns
unfolding data_of
returns c =
    let q = to_z-of_z w32 c.args.offset c.ranges.offset in
    let n = c.offset_size-n.result in
    write_put (Packet.G _) _ _
    (ap₂ (λ (b : ℕ) (l : List ℕ). framed 0x47 (b ∷ l)) (c.sign_of.ensures ∙ ap sign_of q)
    (seven_digits n _ _ _ _ _ _ _ c.digit.ensures c.digit-2.ensures c.digit-3.ensures c.digit-4.ensures c.digit-5.ensures c.digit-6.ensures c.digit-7.ensures
    ∙ ap (λ (k : ℕ). ascii (digits 10 7 k)) (c.offset_size-n.ensures ∙ ap nat_abs q)))
    (ap offset_fits (sym q) ∙ sym c.offset_fits.ensures ∙ c.if-not-offset_fits.false) refl _ _ c.put.ensures
