-- The interrupt registers: MASK, the pending bits, LEVEL and VECTOR. Their ranges, what writing one does, what an occurrence raises, and whether the line is up.
use Rattle.std.specs.Prelude.{ℕ, ◌%◌, Bool, true, false, ◌&&◌, not, ltb, eqb}
use Rattle.wire.specs.Digits.{pick}
use Rattle.parts.specs.declared.interrupts.Interrupts.{Interrupts}
use Rattle.parts.specs.Pending.{raised, cleared, meet}

-- with one of them changed

abbrev pub with_mask : Interrupts → ℕ → Interrupts
with_mask i v = record { mask = v; pending = i.pending; level = i.level; vector = i.vector }

abbrev pub with_pending : Interrupts → ℕ → Interrupts
with_pending i v = record { mask = i.mask; pending = v; level = i.level; vector = i.vector }

abbrev pub with_level : Interrupts → ℕ → Interrupts
with_level i v = record { mask = i.mask; pending = i.pending; level = v; vector = i.vector }

abbrev pub with_vector : Interrupts → ℕ → Interrupts
with_vector i v = record { mask = i.mask; pending = i.pending; level = i.level; vector = v }

-- 18: mask and pending bits 0 to 4, level bits 0 to 2
unfoldable pub interrupts_lawful : Interrupts → Bool
interrupts_lawful i = ltb i.mask 32 && (ltb i.pending 32 && ltb i.level 8)

-- writing MASK, INTSTAT, LEVEL or VECTOR; bits not named are ignored, and a register of any other number is none of these
unfoldable pub interrupts_written : Interrupts → ℕ → ℕ → Interrupts
interrupts_written i reg v =
    pick (eqb reg 14) (with_mask i (v % 32))
    (pick (eqb reg 15) (with_pending i (cleared v i.pending))
    (pick (eqb reg 16) (with_level i (v % 8))
    (pick (eqb reg 17) (with_vector i (v % 256))
    i)))

-- a matching edge raises pending bit 0
abbrev pub event_raised : Interrupts → Interrupts
event_raised i = with_pending i (raised 1 true i.pending)

-- periodic raises bit 1, strobe bit 2, second bit 3
unfoldable pub sources_raised : Bool → Bool → Bool → ℕ → ℕ
sources_raised periodic strobe second pending = raised 2 periodic (raised 4 strobe (raised 8 second pending))

-- which of them raises the bit of an index
abbrev pub source_of : ℕ → Bool → Bool → Bool → Bool
source_of i periodic strobe second = pick (eqb i 1) periodic (pick (eqb i 2) strobe (pick (eqb i 3) second false))

-- the line is up exactly if LEVEL is not 0 and some pending bit is also set in MASK
unfoldable pub line_up : Interrupts → Bool
line_up i = not (eqb i.level 0) && meet i.pending i.mask
