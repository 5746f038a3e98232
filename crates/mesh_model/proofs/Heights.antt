-- At the coarsest level a vertex stands at its own height.
use Rattle.std.proofs.Common.{◌≡◌, ℕ, suc, zero, ◌-◌, ◌*◌, ◌/◌, ◌^◌, ◌≤◌, true, [], ◌∷◌, ℤ, pos, ◌+ℤ◌, ◌-ℤ◌, ◌*ℤ◌, refl, ap, ◌∙◌, arith}
use Rattle.std.proofs.lemmas.Int.{ints}
use Rattle.clip_regions.specs.declared.region.Region.{Region}
use Rattle.plan_model.specs.Window.{blend_width}
use Rattle.terrain_model.specs.Terrain.{Terrain, height_at, level_height}
use Rattle.mesh_model.specs.Height.{blend_share, blended_height, vertex_height, active_at, lower_end, upper_end}

pub times_one : (x : ℤ) → x *ℤ pos 1 ≡ x
times_one x = omega (arith, ints)

-- the weights of a cell's own height make 32
weight : (m : ℕ) → m ≤ 4 → 2 ^ m * (32 / 2 ^ m) ≡ 32
weight zero h = refl
weight (suc zero) h = refl
weight (suc (suc zero)) h = refl
weight (suc (suc (suc zero))) h = refl
weight (suc (suc (suc (suc zero)))) h = refl
weight (suc (suc (suc (suc (suc m))))) h = absurd (omega arith)

weighed : (w q p : ℕ) (own s : ℤ) → w * q ≡ 32 → (pos w -ℤ pos 0) *ℤ pos q *ℤ own +ℤ pos 0 *ℤ pos p *ℤ s ≡ pos 32 *ℤ own
weighed w q p own s e =
    let whole : (pos w -ℤ pos 0) *ℤ pos q ≡ pos 32 = ap (λ x. x *ℤ pos q) (minus_zero w) ∙ ap pos e in
    ap (λ x. x *ℤ own +ℤ pos 0 *ℤ pos p *ℤ s) whole ∙ nothing (pos 32 *ℤ own) p s
  where
    minus_zero : (n : ℕ) → pos n -ℤ pos 0 ≡ pos n
    minus_zero n = omega (arith, ints)

    nothing : (x : ℤ) (n : ℕ) (y : ℤ) → x +ℤ pos 0 *ℤ pos n *ℤ y ≡ x
    nothing x n y = omega (arith, ints)

pub unblended : (k : ℕ) (r : Region) (i j own a b : ℤ) → k ≤ 8 → blended_height k true r i j own a b ≡ pos 32 *ℤ own
unfolding blended_height blend_share blend_width
unblended k r i j own a b high = weighed (2 ^ (k - 4)) (32 / 2 ^ (k - 4)) (16 / 2 ^ (k - 4)) own (a +ℤ b) (weight (k - 4) (omega arith))

pub one_level_height : (terrain : Terrain) (k : ℕ) (r : Region) (i j : ℤ) → k ≤ 8 → vertex_height terrain k (r ∷ []) 0 i j ≡ pos 32 *ℤ height_at terrain i j
unfolding vertex_height level_height
one_level_height terrain k r i j high =
    unblended k (active_at (r ∷ []) 0) i j (height_at terrain (i *ℤ pos (2 ^ 0)) (j *ℤ pos (2 ^ 0))) (level_height terrain 1 (lower_end i) (lower_end j)) (level_height terrain 1 (upper_end i) (upper_end j)) high
    ∙ ap (λ h. pos 32 *ℤ h) (λ t. height_at terrain (times_one i t) (times_one j t))
