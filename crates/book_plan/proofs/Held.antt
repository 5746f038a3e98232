-- The first held tile that a region meets, as the passes have it.
use Rattle.std.proofs.Common.{◌≡◌, ℕ, ◌+◌, ◌<◌, ◌≤◌, ◌^◌, Bool, true, false, ◌==◌, ◌&&◌, cond, ℤ, pos, negsuc, List, [], ◌∷◌, map, length, Option, Some, None, is_some, refl, ap, sym, ◌∙◌, subst, inl, inr, ◌⊎◌, arith}
use Rattle.std.proofs.Math.Pow.{pow_mono}
use Rattle.std.proofs.lemmas.Bool.{cases_Bool, and_parts, and_from, eqb-true, eq-eqb, true≢false}
use Rattle.std.proofs.lemmas.List.{get_or_default}
use Rattle.std.specs.List.{filter, fold, range_with_len, Contains}
use mathlib.Core.Path.{ap₂}
use Rattle.clip_regions.specs.declared.region.Region.{Region}
use Rattle.clip_regions.specs.FloorDivision.{floor_rem}
use Rattle.plan_model.specs.Limits.{IsSize}
use Rattle.plan_model.specs.Window.{torus_side}
use Rattle.plan_model.specs.Blocks.{tile_of, tiles_per_side, same_tile}
use Rattle.plan_model.specs.Strips.{first_of}
use Rattle.plan_model.specs.States.{State, Pass, pass_at, job_of}
use Rattle.plan_model.specs.Tiles.{tiles, tiles_met, meets_tile, job_holds, holder, is_held}
use Rattle.plan_model.specs.Claims.{held_tiles}
use Rattle.plan_model.specs.declared.tiles.TileId.{TileId}
use Rattle.plan_model.specs.declared.events.JobNote.{JobNote}
use Rattle.plan_model.specs.declared.events.Work.TheVariants.{Free}
use Rattle.book_plan.specs.Found.{comes_before, earlier, job_under, first_under}
use Rattle.plan_holds.proofs.Members.{Among, among_at, contained, passed, passing, first_among, mapped, flat, ranged, ranged_of}
use Rattle.book_plan.proofs.Order.{at, Ordered, tiles_ordered, filter_ordered, first_ordered, none_first, not_self, not_back, passes_on}

-- ---- the earliest of what is under a region
abbrev Under : ℕ → ℕ → Region → Pass → Option TileId
Under k level r pass = job_under k level r (job_of pass)

-- a tile is the one that was found, or is under the region by one of some passes
abbrev Has : ℕ → ℕ → Region → Option TileId → List Pass → TileId → Type 0
Has k level r acc passes t = (acc ≡ Some t) ⊎ ((p : Pass) × Among p passes × (Under k level r p ≡ Some t))

-- what was found and one more
one_of : (acc o : Option TileId) (u : TileId) → earlier acc o ≡ Some u → (acc ≡ Some u) ⊎ (o ≡ Some u)
one_of acc None u e = inl e
one_of None (Some t) u e = inr e
one_of (Some v) (Some t) u e =
    elim (cases_Bool (comes_before t v)) [
      | inl b ↦ inr (sym (ap (λ (c : Bool). cond c (Some t) (Some v)) b) ∙ e)
      | inr b ↦ inl (sym (ap (λ (c : Bool). cond c (Some t) (Some v)) b) ∙ e)
    ]

-- each of the two is there or was passed over for one that it doesn't come before
abbrev Outdone : Option TileId → TileId → Type 0
Outdone o t = (u : TileId) × (o ≡ Some u) × (comes_before t u ≡ false)

some_same : (t u : TileId) → Some t ≡ Some u → t ≡ u
some_same t u e = cc

old_outdone : (acc o : Option TileId) (t : TileId) → acc ≡ Some t → Outdone (earlier acc o) t
old_outdone acc None t e = (t, e, not_self t)
old_outdone None (Some x) t e = absurd (cc)
old_outdone (Some v) (Some x) t e =
    let same : v ≡ t = some_same v t e in
    elim (cases_Bool (comes_before x v)) [
      | inl b ↦ (x, ap (λ (c : Bool). cond c (Some x) (Some v)) b, subst (λ (w : TileId). comes_before w x ≡ false) same (not_back x v b))
      | inr b ↦ (v, ap (λ (c : Bool). cond c (Some x) (Some v)) b, subst (λ (w : TileId). comes_before w v ≡ false) same (not_self v))
    ]

new_outdone : (acc o : Option TileId) (t : TileId) → o ≡ Some t → Outdone (earlier acc o) t
new_outdone acc None t e = absurd (cc)
new_outdone None (Some x) t e = (x, refl, subst (λ (w : TileId). comes_before w x ≡ false) (some_same x t e) (not_self x))
new_outdone (Some v) (Some x) t e =
    let same : x ≡ t = some_same x t e in
    elim (cases_Bool (comes_before x v)) [
      | inl b ↦ (x, ap (λ (c : Bool). cond c (Some x) (Some v)) b, subst (λ (w : TileId). comes_before w x ≡ false) same (not_self x))
      | inr b ↦ (v, ap (λ (c : Bool). cond c (Some x) (Some v)) b, subst (λ (w : TileId). comes_before w v ≡ false) same b)
    ]

abbrev found : ℕ → ℕ → Region → Option TileId → List Pass → Option TileId
found k level r acc passes = fold (λ first pass. earlier first (job_under k level r (job_of pass))) acc passes

-- what is found is one of them
found_is : (k level : ℕ) (r : Region) (acc : Option TileId) (passes : List Pass) (u : TileId) → found k level r acc passes ≡ Some u → Has k level r acc passes u
found_is k level r acc [] u e = inl e
found_is k level r acc (p ∷ passes) u e =
    elim (found_is k level r (earlier acc (Under k level r p)) passes u e) [
      | inl old ↦ elim (one_of acc (Under k level r p) u old) [
        | inl a ↦ inl a
        | inr b ↦ inr (p, inl refl, b)
      ]
      | inr new ↦ inr (new.0, inr new.1, new.2)
    ]

-- and where there is one, one is found that it doesn't come before
found_least : (k level : ℕ) (r : Region) (acc : Option TileId) (passes : List Pass) (t : TileId) → Has k level r acc passes t → Outdone (found k level r acc passes) t
found_least k level r acc [] t (inl e) = (t, e, not_self t)
found_least k level r acc [] t (inr h) = absurd h.1
found_least k level r acc (p ∷ passes) t (inl e) =
    let o : Outdone (earlier acc (Under k level r p)) t = old_outdone acc (Under k level r p) t e in
    let l : Outdone (found k level r (earlier acc (Under k level r p)) passes) o.0 = found_least k level r (earlier acc (Under k level r p)) passes o.0 (inl o.1) in
    (l.0, l.1, passes_on t o.0 l.0 o.2 l.2)
found_least k level r acc (p ∷ passes) t (inr h) =
    elim h.1 [
      | inl same ↦
          let here : Under k level r p ≡ Some t = ap (Under k level r) same ∙ h.2 in
          let o : Outdone (earlier acc (Under k level r p)) t = new_outdone acc (Under k level r p) t here in
          let l : Outdone (found k level r (earlier acc (Under k level r p)) passes) o.0 = found_least k level r (earlier acc (Under k level r p)) passes o.0 (inl o.1) in
          (l.0, l.1, passes_on t o.0 l.0 o.2 l.2)
      | inr after ↦ found_least k level r (earlier acc (Under k level r p)) passes t (inr (h.0, after, h.2))
    ]

-- ---- a tile that a job holds
tile_itself : (t : TileId) → same_tile t t ≡ true
unfolding same_tile
tile_itself t = and_from (t.tx == t.tx) (t.ty == t.ty) (eq-eqb t.tx t.tx refl) (eq-eqb t.ty t.ty refl)

one_tile : (t u : TileId) → same_tile t u ≡ true → t ≡ u
unfolding same_tile
one_tile t u e =
    let parts : ((t.tx == u.tx) ≡ true) × ((t.ty == u.ty) ≡ true) = and_parts (t.tx == u.tx) (t.ty == u.ty) e in
    ap₂ at (eqb-true t.tx u.tx parts.0) (eqb-true t.ty u.ty parts.1)

under_of : (k level : ℕ) (r : Region) (t : TileId) (o : Option JobNote) → job_holds k level t o ≡ true → meets_tile k r t ≡ true → job_under k level r o ≡ Some t
under_of k level r t None e m = absurd (true≢false (sym e))
under_of k level r t (Some job) e m =
    let parts : ((job.level == level) ≡ true) × (same_tile (tile_of k job.piece.bx job.piece.by) t ≡ true) = and_parts (job.level == level) (same_tile (tile_of k job.piece.bx job.piece.by) t) e in
    let same : tile_of k job.piece.bx job.piece.by ≡ t = one_tile (tile_of k job.piece.bx job.piece.by) t parts.1 in
    ap (λ (b : Bool). cond b (Some (tile_of k job.piece.bx job.piece.by)) None) (and_from (job.level == level) (meets_tile k r (tile_of k job.piece.bx job.piece.by)) parts.0 (ap (meets_tile k r) same ∙ m)) ∙ ap Some same

-- what is under the region: the tile of a job of the level, which the region meets
pub record IsUnder (k level : ℕ) (r : Region) (t : TileId) (o : Option JobNote) : Type 0 where
  pub job : JobNote
  pub has : o ≡ Some job
  pub tile : tile_of k job.piece.bx job.piece.by ≡ t
  pub holds : job_holds k level t o ≡ true
  pub met : meets_tile k r t ≡ true

cond_true : (b : Bool) (t u : TileId) → cond b (Some t) None ≡ Some u → (b ≡ true) × (t ≡ u)
cond_true true t u e = (refl, some_same t u e)
cond_true false t u e = absurd (cc)

of_under : (k level : ℕ) (r : Region) (t : TileId) (o : Option JobNote) → job_under k level r o ≡ Some t → IsUnder k level r t o
of_under k level r t None e = absurd (cc)
of_under k level r t (Some job) e =
    let tile : TileId = tile_of k job.piece.bx job.piece.by in
    let both : (((job.level == level) && meets_tile k r tile) ≡ true) × (tile ≡ t) = cond_true ((job.level == level) && meets_tile k r tile) tile t e in
    let parts : ((job.level == level) ≡ true) × (meets_tile k r tile ≡ true) = and_parts (job.level == level) (meets_tile k r tile) both.0 in
    record {
      job = job;
      has = refl;
      tile = both.1;
      holds = and_from (job.level == level) (same_tile tile t) parts.0 (ap (same_tile tile) (sym both.1) ∙ tile_itself tile);
      met = ap (meets_tile k r) (sym both.1) ∙ parts.1;
    }

-- ---- held tiles
abbrev holding : State → ℕ → TileId → ℕ → Bool
holding st level t p = job_holds st.k level t (job_of (pass_at st p))

some_of : {X : Type 0} (o : Option X) → is_some o ≡ true → (x : X) × (o ≡ Some x)
some_of None e = absurd (true≢false (sym e))
some_of (Some x) e = (x, refl)

some_from : {X : Type 0} (xs : List X) (x : X) → Among x xs → is_some (first_of xs) ≡ true
some_from [] x h = absurd h
some_from (y ∷ ys) x h = refl

held_pass : (st : State) (level : ℕ) (t : TileId) → is_held st level t ≡ true → (p : ℕ) × (p < length st.passes) × (holding st level t p ≡ true)
unfolding is_held holder
held_pass st level t e =
    let s : (p : ℕ) × (first_of (filter (holding st level t) (range_with_len 0 (length st.passes))) ≡ Some p) = some_of (first_of (filter (holding st level t) (range_with_len 0 (length st.passes)))) e in
    let m : Among s.0 (range_with_len 0 (length st.passes)) × (holding st level t s.0 ≡ true) = passed (holding st level t) (range_with_len 0 (length st.passes)) s.0 (first_among (filter (holding st level t) (range_with_len 0 (length st.passes))) s.0 s.1) in
    let below : s.0 < 0 + length st.passes = (ranged_of 0 (length st.passes) s.0 m.0).1 in
    (s.0, omega (arith, below), m.1)

pass_held : (st : State) (level : ℕ) (t : TileId) (p : ℕ) → p < length st.passes → holding st level t p ≡ true → is_held st level t ≡ true
unfolding is_held holder
pass_held st level t p h e =
    some_from (filter (holding st level t) (range_with_len 0 (length st.passes))) p (passing (holding st level t) (range_with_len 0 (length st.passes)) p (ranged 0 (length st.passes) p (omega arith) (omega arith)) e)

-- the tile of a block is one of the torus
rem_below : (a : ℤ) (d : ℕ) → 0 < d → floor_rem a d < d
unfolding floor_rem
rem_below (pos n) d h = omega arith
rem_below (negsuc n) d h = omega arith

some_tiles : (k : ℕ) → 4 ≤ k → 0 < tiles_per_side k
unfolding tiles_per_side torus_side
some_tiles k h = let large : 2 ^ 4 ≤ 2 ^ k = pow_mono {i = 4} {j = k} h in omega arith

tile_there : (k : ℕ) (bx by : ℤ) → 4 ≤ k → Among (tile_of k bx by) (tiles k)
unfolding tiles tile_of
tile_there k bx by h =
    let column : floor_rem bx (tiles_per_side k) < tiles_per_side k = rem_below bx (tiles_per_side k) (some_tiles k h) in
    let row : floor_rem by (tiles_per_side k) < tiles_per_side k = rem_below by (tiles_per_side k) (some_tiles k h) in
    flat (λ ty. map (λ tx. at tx ty) (range_with_len 0 (tiles_per_side k))) (range_with_len 0 (tiles_per_side k)) (floor_rem by (tiles_per_side k)) (at (floor_rem bx (tiles_per_side k)) (floor_rem by (tiles_per_side k))) (ranged 0 (tiles_per_side k) (floor_rem by (tiles_per_side k)) (omega arith) (omega arith)) (mapped (λ tx. at tx (floor_rem by (tiles_per_side k))) (range_with_len 0 (tiles_per_side k)) (floor_rem bx (tiles_per_side k)) (ranged 0 (tiles_per_side k) (floor_rem bx (tiles_per_side k)) (omega arith) (omega arith)))

-- a held tile that the region meets is found or outdone
held_found : (st : State) (level : ℕ) (r : Region) (t : TileId) → Among t (tiles_met st.k r) → is_held st level t ≡ true → Outdone (found st.k level r None st.passes) t
unfolding tiles_met
held_found st level r t h e =
    let p : (p : ℕ) × (p < length st.passes) × (holding st level t p ≡ true) = held_pass st level t e in
    let met : meets_tile st.k r t ≡ true = (passed (meets_tile st.k r) (tiles st.k) t h).1 in
    let here : Among (pass_at st p.0) st.passes = among_at st.passes (pass_at st p.0) p.0 p.1 (get_or_default st.passes p.0 (pass_at st p.0) Free p.1) in
    found_least st.k level r None st.passes t (inr (pass_at st p.0, here, under_of st.k level r t (job_of (pass_at st p.0)) p.2 met))

-- what is found is a held tile that the region meets
found_held : (st : State) (level : ℕ) (r : Region) (u : TileId) → 4 ≤ st.k → found st.k level r None st.passes ≡ Some u → Among u (tiles_met st.k r) × (is_held st level u ≡ true)
unfolding tiles_met
found_held st level r u size e =
    elim (found_is st.k level r None st.passes u e) [
      | inl none ↦ absurd (cc)
      | inr h ↦
          let is : IsUnder st.k level r u (job_of h.0) = of_under st.k level r u (job_of h.0) h.2 in
          let at' : Contains st.passes h.0 = contained st.passes h.0 h.1 in
          let below : at'.0 < length st.passes = at'.1 in
          let same : pass_at st at'.0 ≡ h.0 = get_or_default st.passes at'.0 Free h.0 below ∙ at'.2 in
          let there : Among u (tiles st.k) = subst (λ (t : TileId). Among t (tiles st.k)) is.tile (tile_there st.k is.job.piece.bx is.job.piece.by size) in
          (passing (meets_tile st.k r) (tiles st.k) u there is.met, pass_held st level u at'.0 below (ap (λ (p : Pass). job_holds st.k level u (job_of p)) same ∙ is.holds))
    ]

met_ordered : (k : ℕ) (r : Region) → Ordered (tiles_met k r)
unfolding tiles_met
met_ordered k r = filter_ordered (meets_tile k r) (tiles k) (tiles_ordered k)

by_found : (st : State) (level : ℕ) (r : Region) (o : Option TileId) → 4 ≤ st.k → found st.k level r None st.passes ≡ o → o ≡ first_of (filter (is_held st level) (tiles_met st.k r))
by_found st level r None size e =
    sym (none_first (is_held st level) (tiles_met st.k r) (λ t h held.
    let o : Outdone (found st.k level r None st.passes) t = held_found st level r t h held in
    let none : None ≡ Some o.0 = sym e ∙ o.1 in
    cc))
by_found st level r (Some u) size e =
    let here : Among u (tiles_met st.k r) × (is_held st level u ≡ true) = found_held st level r u size e in
    sym (first_ordered (is_held st level) (tiles_met st.k r) u (met_ordered st.k r) here.0 here.1 (λ t h held.
    let o : Outdone (found st.k level r None st.passes) t = held_found st level r t h held in
    let same : u ≡ o.0 = some_same u o.0 (sym e ∙ o.1) in
    subst (λ (v : TileId). comes_before t v ≡ false) (sym same) o.2))

pub first_is : (st : State) (level : ℕ) (r : Region) → IsSize st.k → first_under st.k level r st.passes ≡ first_of (held_tiles st level r)
unfolding first_under held_tiles
first_is st level r size = by_found st level r (found st.k level r None st.passes) size.low refl
