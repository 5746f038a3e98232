-- Where nothing of the blend width goes to the coarser level, the coarser heights don't count.
use Rattle.std.proofs.Common.{◌≡◌, ℕ, ◌/◌, Bool, true, false, ℤ, pos, ◌+ℤ◌, ◌-ℤ◌, ◌*ℤ◌, int_lt, refl, ap, sym, ◌∙◌, arith}
use Rattle.std.specs.Int.{int_max}
use Rattle.std.proofs.lemmas.Int.{ints}
use Rattle.clip_regions.specs.declared.region.Region.{Region}
use Rattle.plan_model.specs.Window.{blend_width}
use Rattle.mesh_model.specs.Height.{border_distance, blend_share, blended_height}

nothing : (x : ℤ) (n : ℕ) (y : ℤ) → x +ℤ pos 0 *ℤ pos n *ℤ y ≡ x
nothing x n y = omega (arith, ints)

by_share : (w q p : ℕ) (share own y z : ℤ) → share ≡ pos 0 →
    (pos w -ℤ share) *ℤ pos q *ℤ own +ℤ share *ℤ pos p *ℤ y ≡ (pos w -ℤ pos 0) *ℤ pos q *ℤ own +ℤ pos 0 *ℤ pos p *ℤ z
by_share w q p share own y z none =
    ap (λ s. (pos w -ℤ s) *ℤ pos q *ℤ own +ℤ s *ℤ pos p *ℤ y) none
    ∙ nothing ((pos w -ℤ pos 0) *ℤ pos q *ℤ own) p y ∙ sym (nothing ((pos w -ℤ pos 0) *ℤ pos q *ℤ own) p z)

pub coarsest_share : (k : ℕ) (r : Region) (i j : ℤ) → blend_share k true r i j ≡ pos 0
unfolding blend_share
coarsest_share k r i j = refl

pub unmixed : (k : ℕ) (coarsest : Bool) (r : Region) (i j own a b : ℤ) → blend_share k coarsest r i j ≡ pos 0 →
    blended_height k coarsest r i j own a b ≡ blended_height k true r i j own (pos 0) (pos 0)
unfolding blended_height
unmixed k coarsest r i j own a b none =
    by_share (blend_width k) (32 / blend_width k) (16 / blend_width k) (blend_share k coarsest r i j) own (a +ℤ b) (pos 0 +ℤ pos 0) none ∙ sym (own_only k r i j own)
  where
    own_only : (k' : ℕ) (r' : Region) (i' j' own' : ℤ) → (pos (blend_width k') -ℤ blend_share k' true r' i' j') *ℤ pos (32 / blend_width k') *ℤ own' +ℤ blend_share k' true r' i' j' *ℤ pos (16 / blend_width k') *ℤ (pos 0 +ℤ pos 0) ≡ (pos (blend_width k') -ℤ pos 0) *ℤ pos (32 / blend_width k') *ℤ own' +ℤ pos 0 *ℤ pos (16 / blend_width k') *ℤ (pos 0 +ℤ pos 0)
    own_only k' r' i' j' own' = by_share (blend_width k') (32 / blend_width k') (16 / blend_width k') (blend_share k' true r' i' j') own' (pos 0 +ℤ pos 0) (pos 0 +ℤ pos 0) (coarsest_share k' r' i' j')

not_above : (x : ℤ) → int_lt (pos 0) (int_max (pos 0) x) ≡ false → int_max (pos 0) x ≡ pos 0
not_above x h = grind (arith, ints)

pub no_share : (k : ℕ) (r : Region) (i j : ℤ) → int_lt (pos 0) (blend_share k false r i j) ≡ false → blend_share k false r i j ≡ pos 0
unfolding blend_share
no_share k r i j h = not_above (pos (blend_width k) -ℤ border_distance r i j) h
