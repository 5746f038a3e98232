-- The finest level in use is one of the levels, where there is one.
use Rattle.std.proofs.Common.{ℕ, zero, suc, ◌+◌, ◌≤◌, Bool, List, ◌∷◌, filter, length, arith}
use Rattle.std.specs.Option.{unwrap_or}
use Rattle.std.specs.List.{range_with_len}
use Rattle.std.proofs.lemmas.Bool.{cond_both}
use Rattle.plan_model.specs.Strips.{first_of}
use Rattle.plan_model.specs.States.{State, finest_at, finest_used, is_seen}

-- the first of some numbers in a row that passes a test is no more than the number behind them
first_within : (test : ℕ → Bool) (from count : ℕ) → unwrap_or (first_of (filter test (range_with_len from count))) 0 ≤ from + count
first_within test from zero = omega arith
first_within test from (suc count) =
    let later : unwrap_or (first_of (filter test (range_with_len (from + 1) count))) 0 ≤ (from + 1) + count = first_within test (from + 1) count in
    cond_both (test from) (from ∷ filter test (range_with_len (from + 1) count)) (filter test (range_with_len (from + 1) count)) (λ (passed : List ℕ). unwrap_or (first_of passed) 0 ≤ from + suc count)
    (λ _. omega arith) (λ _. omega (arith, later))

pub finest_within : (st : State) → finest_at st ≤ length st.levels
unfolding finest_used
finest_within st =
    let within : finest_at st ≤ 0 + length st.levels = first_within (is_seen st.k (length st.levels) st.altitude) 0 (length st.levels) in
    omega (arith, within)
