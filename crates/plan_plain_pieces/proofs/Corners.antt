-- What the test of a corner shows.
use Rattle.std.proofs.Common.{◌≡◌, ◌^◌, Bool, true, false, ◌&&◌, ℤ, pos, neg_ℤ, ◌≤ℤ◌, subst, sym, ◌∙◌, arith}
use Rattle.std.specs.Prelude.{int_le}
use Rattle.std.proofs.lemmas.Bool.{and_parts}
use Rattle.std.proofs.lemmas.Int.{ints}

-- a number is no farther from zero than 2^24
pub record IsNear (v : ℤ) : Type 0 where
  pub low : neg_ℤ (pos (2 ^ 24)) ≤ℤ v
  pub high : v ≤ℤ pos (2 ^ 24)

le_is : (a b : ℤ) → int_le a b ≡ true → a ≤ℤ b
le_is a b h = grind (arith, ints)

le_of : (a b : ℤ) → a ≤ℤ b → int_le a b ≡ true
le_of a b h = grind (arith, ints)

both : (a b : Bool) → a ≡ true → b ≡ true → (a && b) ≡ true
both true b e f = f
both false b e f = e

pub near_is : (v w : ℤ) (found : Bool) → w ≡ v → found ≡ (int_le (neg_ℤ (pos (2 ^ 24))) w && int_le w (pos (2 ^ 24))) → found ≡ true → IsNear v
near_is v w found same test holds =
    let parts = and_parts (int_le (neg_ℤ (pos (2 ^ 24))) w) (int_le w (pos (2 ^ 24))) (sym test ∙ holds) in
    subst IsNear same (record { low = le_is (neg_ℤ (pos (2 ^ 24))) w parts.0; high = le_is w (pos (2 ^ 24)) parts.1 })

pub near_test : (v w : ℤ) (found : Bool) → w ≡ v → found ≡ (int_le (neg_ℤ (pos (2 ^ 24))) w && int_le w (pos (2 ^ 24))) → neg_ℤ (pos (2 ^ 24)) ≤ℤ v → v ≤ℤ pos (2 ^ 24) → found ≡ true
near_test v w found same test low high =
    test ∙ both (int_le (neg_ℤ (pos (2 ^ 24))) w) (int_le w (pos (2 ^ 24))) (le_of (neg_ℤ (pos (2 ^ 24))) w (subst (λ z. neg_ℤ (pos (2 ^ 24)) ≤ℤ z) (sym same) low)) (le_of w (pos (2 ^ 24)) (subst (λ z. z ≤ℤ pos (2 ^ 24)) (sym same) high))
