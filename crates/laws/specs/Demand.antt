-- Demand 3, in its own words, of `wait` and of the row that it leaves.
use Rattle.std.specs.Prelude.{ℕ, pred, ◌+◌, ◌-◌, ◌*◌, ◌/◌, ◌≤◌, ◌<◌, ◌≡◌, true, List, ◌++◌, length, take, drop, get_or}
use Rattle.wire.specs.Numbers.{number_of}
use Rattle.wire.specs.Time.{ticks_of_day}
use Rattle.clock.specs.Time.{later}
use Rattle.clock.specs.Falling.{falls}
use Rattle.clock.specs.Waiting.{moved_on, Stands, clock_later}
use Rattle.card.specs.declared.card.Card.{Card}
use Rattle.card.specs.Lawful.{lawful}
use Rattle.card.specs.Waiting.{told, wait, row_waited}

-- "Given a lawful card, a wait of at most a day that does not run past year 9999, and room for one record or more"
pub record Asked (c : Card) (n room : ℕ) : Type 0 where
  pub known : lawful c ≡ true
  pub day : n ≤ ticks_of_day
  pub year : (later n c.clock.time).year ≤ 9999
  pub place : 0 < room

-- what the wait answers, and the records in front of the row that it leaves
abbrev pub ticks_passed : Card → ℕ → ℕ → ℕ
ticks_passed c n room = (told (wait c n room).outcome).passed.ticks

abbrev pub records_written : Card → ℕ → ℕ → ℕ
records_written c n room = (told (wait c n room).outcome).written

abbrev pub front : Card → ℕ → List ℕ → List ℕ
front c n row = take (records_written c n (length row)) (row_waited c n row)

-- "it lists every tick after its start, up to the last tick passed, on which second, strobe or periodic falls: each such tick once, in rising order, with
-- exactly the sources that fall on it"
pub record Lists (c : Card) (n : ℕ) (row : List ℕ) : Type 0 where
  pub accepted : number_of (wait c n (length row)).outcome ≡ 0
  pub count : length (front c n row) ≡ records_written c n (length row)
  pub every : (k : ℕ) → 1 ≤ k → k ≤ ticks_passed c n (length row) → 0 < falls c.clock k → Stands (8 * k + falls c.clock k) (front c n row)
  pub exactly : (r : ℕ) → Stands r (front c n row)
      → (1 ≤ r / 8) × (r / 8 ≤ ticks_passed c n (length row)) × (0 < falls c.clock (r / 8)) × (r ≡ 8 * (r / 8) + falls c.clock (r / 8))
  pub rising : (i j : ℕ) → i < j → j < length (front c n row) → get_or (front c n row) i 0 / 8 < get_or (front c n row) j 0 / 8
  pub once : (i j : ℕ) → i < length (front c n row) → j < length (front c n row) → get_or (front c n row) i 0 / 8 ≡ get_or (front c n row) j 0 / 8 → i ≡ j

-- "Records fill the row from its front; later places stay unchanged. The time and the periodic count advance by the ticks passed", and the strobe stays
pub record Leaves (c : Card) (n : ℕ) (row : List ℕ) : Type 0 where
  pub places : drop (records_written c n (length row)) (row_waited c n row) ≡ drop (records_written c n (length row)) row
  pub clock : (wait c n (length row)).after.clock ≡ clock_later (ticks_passed c n (length row)) c.clock

-- "It stops early only if more such ticks fall within it than there is room for, and then with the room full, on the last one listed."
pub record Early (c : Card) (n : ℕ) (row : List ℕ) : Type 0 where
  -- one more such tick
  pub next : ℕ
  pub behind : ticks_passed c n (length row) < next
  pub within : next ≤ n
  pub falling : 0 < falls c.clock next
  pub full : records_written c n (length row) ≡ length row
  pub last : get_or (front c n row) (pred (length row)) 0 / 8 ≡ ticks_passed c n (length row)

-- the card that a wait leaves, and the ticks that are left to wait
abbrev pub left_card : Card → ℕ → ℕ → Card
left_card c n room = (wait c n room).after

abbrev pub left_ticks : Card → ℕ → ℕ → ℕ
left_ticks c n room = n - ticks_passed c n room

-- "Waiting for the rest, with no other call between, continues as the one wait would have": with a row r, and for the rest with a row s, as with one row of the
-- places of both. The rest is again a wait as above, so it is never refused
pub record Continues (c : Card) (n : ℕ) (r s : List ℕ) : Type 0 where
  pub asked : Asked (left_card c n (length r)) (left_ticks c n (length r)) (length s)
  pub passes : ticks_passed c n (length r + length s) ≡ ticks_passed c n (length r) + ticks_passed (left_card c n (length r)) (left_ticks c n (length r)) (length s)
  pub leaves : left_card c n (length r + length s) ≡ left_card (left_card c n (length r)) (left_ticks c n (length r)) (length s)
  pub lists : (t : List ℕ) → length t ≡ length r + length s
      → front c n t ≡ front c n r ++ moved_on (ticks_passed c n (length r)) (front (left_card c n (length r)) (left_ticks c n (length r)) s)

-- "A wait of 0 passes nothing and lists nothing."
pub record Nothing (c : Card) (row : List ℕ) : Type 0 where
  pub accepted : number_of (wait c 0 (length row)).outcome ≡ 0
  pub passes : ticks_passed c 0 (length row) ≡ 0
  pub writes : records_written c 0 (length row) ≡ 0
  pub leaves : row_waited c 0 row ≡ row
  pub keeps : left_card c 0 (length row) ≡ c
