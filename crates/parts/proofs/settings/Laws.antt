-- Lawful settings, range by range, and what a packet or a reset sets. Assumes nothing.
use mathlib.Core.Path.{◌≡◌, refl, ap}
use mathlib.Core.Bool.{Bool, true, false, ◌&&◌, not}
use native.Mathlib.Omega.{arith}
use lib.Dec.{ltb}
use lib.IntN.{pos}
use borrow.Author.Tests.{lt-ltb, leb-true}
use Rattle.wire.specs.Packets.{mode_means, pair_means, offset_fits, needs_jam_off, fits, means}
use Rattle.wire.specs.declared.packets.ClockSource.{ClockSource}
use Rattle.wire.specs.declared.packets.Packet.{Packet}
use Rattle.wire.proofs.digits.Laws.{and_both}
use Rattle.parts.specs.declared.settings.Settings.{Settings}
use Rattle.parts.specs.Settings.{settings_lawful, jam_fits, applied}

pub record SettingsParts (s : Settings) : Type 0 where
  pub mode : ltb s.mode 8 ≡ true
  pub meant : mode_means s.mode ≡ true
  pub pair : pair_means s.format s.modulation ≡ true
  pub offset : offset_fits s.offset ≡ true

pub settings_parts : (s : Settings) → settings_lawful s ≡ true → SettingsParts s
unfolding settings_lawful
settings_parts s e =
    let a = and_both (ltb s.mode 8) _ e in
    let b = and_both (mode_means s.mode) _ a.1 in
    let d = and_both (pair_means s.format s.modulation) (offset_fits s.offset) b.1 in
    record { mode = a.0; meant = b.0; pair = d.0; offset = d.1 }

pub settings_lawful_lem : (s : Settings) → SettingsParts s → settings_lawful s ≡ true
unfolding settings_lawful
settings_lawful_lem s q = simp (q.mode, q.meant, q.pair, q.offset)

-- what a packet that fits and means sets
pub applied_lawful : (k : Packet) (s : Settings) → fits k ≡ true → means k ≡ true → settings_lawful s ≡ true → settings_lawful (applied k s) ≡ true
applied_lawful (Packet.A m) s f e h =
    let q = settings_parts s h in
    settings_lawful_lem (applied (Packet.A m) s) (record { mode = lt-ltb m 8 (omega (arith, leb-true m 7 f)); meant = e; pair = q.pair; offset = q.offset })
applied_lawful (Packet.G z) s f e h =
    let q = settings_parts s h in
    settings_lawful_lem (applied (Packet.G z) s) (record { mode = q.mode; meant = q.meant; pair = q.pair; offset = f })
applied_lawful (Packet.H a m) s f e h =
    let q = settings_parts s h in
    settings_lawful_lem (applied (Packet.H a m) s) (record { mode = q.mode; meant = q.meant; pair = e; offset = q.offset })
applied_lawful (Packet.I c) s f e h =
    let q = settings_parts s h in
    settings_lawful_lem (applied (Packet.I c) s) (record { mode = q.mode; meant = q.meant; pair = q.pair; offset = q.offset })
applied_lawful (Packet.K g) s f e h =
    let q = settings_parts s h in
    settings_lawful_lem (applied (Packet.K g) s) (record { mode = q.mode; meant = q.meant; pair = q.pair; offset = q.offset })

-- the jam may stand beside what a packet sets, if it might before and the packet does not need it off while it is on
pub applied_jam : (k : Packet) (s : Settings) (jam : Bool) → (jam && needs_jam_off k) ≡ false → jam_fits jam s ≡ true → jam_fits jam (applied k s) ≡ true
applied_jam (Packet.A m) s jam e h = h
applied_jam (Packet.G z) s jam e h = ap not e
applied_jam (Packet.H f m) s jam e h = h
applied_jam (Packet.I c) s jam e h = h
applied_jam (Packet.K g) s jam e h = h

-- another clock source and no offset
pub reset_lawful : (s : Settings) (c : ClockSource) → settings_lawful s ≡ true
    → settings_lawful (record { mode = s.mode; format = s.format; modulation = s.modulation; clock = c; generator = s.generator; offset = pos 0 }) ≡ true
reset_lawful s c h = let q = settings_parts s h in settings_lawful_lem _ (record { mode = q.mode; meant = q.meant; pair = q.pair; offset = refl })
