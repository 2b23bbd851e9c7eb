-- The settings: what packets set, and what is saved; and whether the jam may stand beside them.
use Rattle.std.specs.Prelude.{Bool, ◌&&◌, not, ltb}
use Rattle.wire.specs.Packets.{mode_means, pair_means, offset_fits, offset_large}
use Rattle.wire.specs.declared.packets.Packet.{Packet}
use Rattle.parts.specs.declared.settings.Settings.{Settings}

-- 18: a mode of 0 to 7 but 4 and 7, no forbidden pair, an offset of at most seven digits
unfoldable pub settings_lawful : Settings → Bool
settings_lawful s = ltb s.mode 8 && (mode_means s.mode && (pair_means s.format s.modulation && offset_fits s.offset))

-- 18 and 25: the jam to the reference may stand beside settings, unless it is on and their offset large
abbrev pub jam_fits : Bool → Settings → Bool
jam_fits jam s = not (jam && offset_large s.offset)

-- the settings with what a packet says
abbrev pub applied : Packet → Settings → Settings
applied (Packet.A m) s = record { mode = m; format = s.format; modulation = s.modulation; clock = s.clock; generator = s.generator; offset = s.offset }
applied (Packet.G z) s = record { mode = s.mode; format = s.format; modulation = s.modulation; clock = s.clock; generator = s.generator; offset = z }
applied (Packet.H f m) s = record { mode = s.mode; format = f; modulation = m; clock = s.clock; generator = s.generator; offset = s.offset }
applied (Packet.I c) s = record { mode = s.mode; format = s.format; modulation = s.modulation; clock = c; generator = s.generator; offset = s.offset }
applied (Packet.K g) s = record { mode = s.mode; format = s.format; modulation = s.modulation; clock = s.clock; generator = g; offset = s.offset }
