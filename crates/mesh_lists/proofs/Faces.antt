-- The places that a triangle's line names.
use Rattle.std.proofs.Common.{◌≡◌, ℕ, ◌-◌, ◌<◌, ◌≤◌, Bool, true, false, nat_eq, [], ◌∷◌, refl, arith, IsTrue}
use Rattle.std.proofs.lemmas.Bool.Decides.{nat_tests}
use Rattle.std.proofs.lemmas.List.Elements.{All-cons, All-nil}
use Rattle.mesh_lists.specs.Says.{are_apart}
use Rattle.mesh_lists.specs.Lists.{IsFace}

same_test : (a b : ℕ) → 1 ≤ a → 1 ≤ b → nat_eq (a - 1) (b - 1) ≡ nat_eq a b
same_test a b more also = grind (arith, nat_tests)

apart_of : (a b c : ℕ) → 1 ≤ a → 1 ≤ b → 1 ≤ c → are_apart a b c ≡ true → are_apart (a - 1) (b - 1) (c - 1) ≡ true
unfolding are_apart
apart_of a b c some more last apart =
    let ab = same_test a b some more in
    let bc = same_test b c more last in
    let ca = same_test c a last some in
    rw (ab, bc, ca) apart

true_of : (b : Bool) → b ≡ true → IsTrue b
true_of true is = refl
true_of false is = cc

pub face_of : (count a b c : ℕ) → 1 ≤ a → 1 ≤ b → 1 ≤ c → a ≤ count → b ≤ count → c ≤ count → are_apart a b c ≡ true → IsFace count ((a - 1) ∷ (b - 1) ∷ (c - 1) ∷ [])
face_of count a b c some more last below under beneath apart =
    let P : ℕ → Type 0 = λ place. place < count in
    record {
      three = refl;
      below = All-cons P (a - 1) ((b - 1) ∷ (c - 1) ∷ []) (omega arith) (All-cons P (b - 1) ((c - 1) ∷ []) (omega arith) (All-cons P (c - 1) [] (omega arith) (All-nil P)));
      apart = true_of _ (apart_of a b c some more last apart);
    }
