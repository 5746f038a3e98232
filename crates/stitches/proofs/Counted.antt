-- The stitches of the levels that are left.
use Rattle.std.proofs.Common.{◌≡◌, ℕ, suc, ◌+◌, ◌<◌, ◌≤◌, List, [], ◌∷◌, length, get_or, drop, refl, ap, ◌∙◌, arith}
use Rattle.std.proofs.Math.Seq.{drop-cons}
use Rattle.std.proofs.lemmas.List.{drop_all}
use Rattle.clip_regions.specs.declared.region.Region.{Region}
use Rattle.clip_regions.specs.Regions.{empty_region}
use Rattle.mesh_model.specs.Height.{active_at}
use Rattle.mesh_model.specs.Nested.{border_count, stitch_count, all_stitch_count}

pub all_counted : (actives : List Region) → 0 < length actives → stitch_count (active_at actives 0) (drop 1 actives) ≡ all_stitch_count actives
unfolding active_at
all_counted [] some = absurd (omega arith)
all_counted (active ∷ coarser) some = refl

pub next_counted : (actives : List Region) (finer : Region) (level : ℕ) → level < length actives →
    stitch_count finer (drop level actives) ≡ border_count finer + stitch_count (active_at actives level) (drop (level + 1) actives)
unfolding active_at
next_counted actives finer level low =
    let next : suc level ≡ level + 1 = omega arith in
    ap (stitch_count finer) (drop-cons actives level empty_region low ∙ (λ n. get_or actives level empty_region ∷ drop (next n) actives))

pub none_counted : (actives : List Region) (finer : Region) (level : ℕ) → length actives ≤ level → stitch_count finer (drop level actives) ≡ 0
none_counted actives finer level high = ap (stitch_count finer) (drop_all level actives high)
