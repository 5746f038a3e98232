-- A linear congruential generator of 64 bits, with the multiplier and the increment of Knuth's MMIX.
use Rattle.std.specs.Prelude.{ℕ, zero, suc, ◌+◌, ◌*◌, ◌/◌, ◌%◌, ◌^◌}

-- the state after one draw
unfoldable pub next_state : ℕ → ℕ
next_state state = (state * 6364136223846793005 + 1442695040888963407) % 2 ^ 64

-- the number that a state gives: its high 31 bits
unfoldable pub high_bits : ℕ → ℕ
high_bits state = state / 2 ^ 33

-- the state after so many draws
unfoldable pub state_after : ℕ → ℕ → ℕ
state_after seed zero = seed
state_after seed (suc draws) = next_state (state_after seed draws)

-- the draw of this number, counted from 0, as one of the numbers below a span
unfoldable pub draw : ℕ → ℕ → ℕ → ℕ
draw seed number span = high_bits (next_state (state_after seed number)) % span
