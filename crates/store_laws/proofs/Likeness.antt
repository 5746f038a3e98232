-- What stands for heights stands for any that are the same where it matters.
use Rattle.std.proofs.Common.{◌≡◌, Bool, true, false, eqb, ℕ, zero, suc, ◌+◌, ◌-◌, ◌<◌, ◌≤◌, ℤ, FitsSigned, List, refl, ap, sym, ◌∙◌, subst, arith}
use Rattle.std.specs.Int.{w16}
use Rattle.std.proofs.lemmas.Bool.Decides.{nat_tests}
use Rattle.store_model.specs.Blocks.{plain_bytes, IsWordBlock}
use Rattle.store_model.specs.Format.{Head}
use Rattle.store_model.specs.Store.{Levels, region_of, IsBlockOf, IsLevel, IsFront}

block_like : (top : Bool) (head : Head) (heights other : Levels) (level k : ℕ) (bytes : List ℕ) → heights level ≡ other level → (top ≡ false → heights (level + 1) ≡ other (level + 1)) → IsBlockOf top head heights level k bytes → IsBlockOf top head other level k bytes
block_like true head heights other level k bytes here next x = x ∙ ap (λ (f : ℤ → ℤ → ℤ). plain_bytes f (region_of head level k)) here
block_like false head heights other level k bytes here next x =
    subst (λ (f : ℤ → ℤ → ℤ). IsWordBlock f (other level) head.step (region_of head level k) bytes) (next refl)
    (subst (λ (f : ℤ → ℤ → ℤ). IsWordBlock (heights (level + 1)) f head.step (region_of head level k) bytes) here x)

pub level_like : (head : Head) (heights other : Levels) (level : ℕ) (bytes : List ℕ) → heights level ≡ other level → (eqb (level + 1) head.levels ≡ false → heights (level + 1) ≡ other (level + 1)) → IsLevel head heights level bytes → IsLevel head other level bytes
level_like head heights other level bytes here next x = record {
  all = record {
    content = x.all.content;
    short = x.all.short;
    blocks = λ k h. block_like (eqb (level + 1) head.levels) head heights other level k (x.all.content k) here next (x.all.blocks k h);
    spelled = x.all.spelled;
  };
  short = λ i j. subst (λ (f : ℤ → ℤ → ℤ). FitsSigned w16 (f i j)) here (x.short i j);
  outside = λ i j e. ap (λ (f : ℤ → ℤ → ℤ). f i j) (sym here) ∙ x.outside i j e;
}

pub front_like : (head : Head) (heights other : Levels) (n : ℕ) (bytes : List ℕ) → n ≤ head.levels → ((m : ℕ) → head.levels ≤ m + n → m < head.levels → (i j : ℤ) → heights m i j ≡ other m i j) → IsFront head heights n bytes → IsFront head other n bytes
front_like head heights other zero bytes few same x = x
front_like head heights other (suc n) bytes few same x =
    let level = head.levels - suc n in
    let at : (m : ℕ) → head.levels ≤ m + suc n → m < head.levels → heights m ≡ other m = λ m l h. (λ t. λ i j. same m l h i j t) in (
      x.0,
      x.1,
      front_like head heights other n x.0 (omega arith) (λ m l h. same m (omega arith) h) x.2,
      level_like head heights other level x.1 (at level (omega arith) (omega arith))
          (λ e. (let less : level + 1 < head.levels = grind (arith, nat_tests) in at (level + 1) (omega arith) less)) x.3,
      x.4,
    )
