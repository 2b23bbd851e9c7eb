-- What registers read as when something was written to them or latched.
use Rattle.std.specs.Prelude.{ℕ, ◌+◌, List, [], ◌∷◌}
use Rattle.card.specs.declared.card.Card.{Card}
use Rattle.card.specs.Registers.{read_register, value_read}

-- the registers that keep what is written to them, and how many values each holds
pub data Keeps : ℕ → ℕ → Type 0 where
  control : Keeps 11 8
  mask : Keeps 14 32
  level : Keeps 16 8
  vector : Keeps 17 256

-- the values of the five registers from r on
abbrev pub five_read : Card → ℕ → List ℕ
five_read c r = value_read (read_register c r).outcome ∷ value_read (read_register c (1 + r)).outcome ∷ value_read (read_register c (2 + r)).outcome ∷ value_read (read_register c (3 + r)).outcome ∷ value_read (read_register c (4 + r)).outcome ∷ []
