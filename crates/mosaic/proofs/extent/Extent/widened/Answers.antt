use Rattle.std.proofs.Common.{◌≡◌, ◌∙◌, sym, ap, subst, FitsSigned, rules}
use Rattle.std.specs.Int.{w16, int_min, int_max}
use Rattle.std.proofs.lemmas.Int.{to_z-of_z}
use mir.Val.{to_z, of_z}
use Rattle.mosaic.specs.Extents.{IsExtent, widened}
use Rattle.mosaic.proofs.Extents.{bounds_eq, both, widened_extent}
use Rattle.mosaic.proofs.extent.Extent.widened.Goals as goal

pub returns-clause-value : goal.returns-clause-value
unfolding widened
returns-clause-value c =
    let here = c.self.inside in
    let corner = c.corner-corner.result in
    let fw : FitsSigned w16 c.min.result = search rules in
    let fe : FitsSigned w16 c.max.result = search rules in
    let fs : FitsSigned w16 c.min-2.result = search rules in
    let fn : FitsSigned w16 c.max-2.result = search rules in
    let gw : FitsSigned w16 here.west = search rules in
    let ge : FitsSigned w16 here.east = search rules in
    let gs : FitsSigned w16 here.south = search rules in
    let gn : FitsSigned w16 here.north = search rules in
    let flat : FitsSigned w16 corner.lat = search rules in
    let flon : FitsSigned w16 corner.lon = search rules in
    let lat : to_z w16 (of_z w16 corner.lat) ≡ c.args.tile.now.corner.lat = to_z-of_z w16 corner.lat flat ∙ ap (λ k. k.lat) c.corner-corner.ensures in
    let lon : to_z w16 (of_z w16 corner.lon) ≡ c.args.tile.now.corner.lon = to_z-of_z w16 corner.lon flon ∙ ap (λ k. k.lon) c.corner-corner.ensures in
    let w : to_z w16 (of_z w16 here.west) ≡ c.args.self.now.west = to_z-of_z w16 here.west gw ∙ ap (λ b. b.west) c.self.view_is in
    let e : to_z w16 (of_z w16 here.east) ≡ c.args.self.now.east = to_z-of_z w16 here.east ge ∙ ap (λ b. b.east) c.self.view_is in
    let s : to_z w16 (of_z w16 here.south) ≡ c.args.self.now.south = to_z-of_z w16 here.south gs ∙ ap (λ b. b.south) c.self.view_is in
    let n : to_z w16 (of_z w16 here.north) ≡ c.args.self.now.north = to_z-of_z w16 here.north gn ∙ ap (λ b. b.north) c.self.view_is in
    bounds_eq (to_z w16 (of_z w16 c.min.result)) (to_z w16 (of_z w16 c.max.result)) (to_z w16 (of_z w16 c.min-2.result)) (to_z w16 (of_z w16 c.max-2.result)) here.side (int_min c.args.self.now.west c.args.tile.now.corner.lon) (int_max c.args.self.now.east c.args.tile.now.corner.lon) (int_min c.args.self.now.south c.args.tile.now.corner.lat) (int_max c.args.self.now.north c.args.tile.now.corner.lat) c.args.self.now.side
    (to_z-of_z w16 c.min.result fw ∙ c.min.ensures.value ∙ both int_min (to_z w16 (of_z w16 here.west)) (to_z w16 (of_z w16 corner.lon)) c.args.self.now.west c.args.tile.now.corner.lon w lon)
    (to_z-of_z w16 c.max.result fe ∙ c.max.ensures.value ∙ both int_max (to_z w16 (of_z w16 here.east)) (to_z w16 (of_z w16 corner.lon)) c.args.self.now.east c.args.tile.now.corner.lon e lon)
    (to_z-of_z w16 c.min-2.result fs ∙ c.min-2.ensures.value ∙ both int_min (to_z w16 (of_z w16 here.south)) (to_z w16 (of_z w16 corner.lat)) c.args.self.now.south c.args.tile.now.corner.lat s lat)
    (to_z-of_z w16 c.max-2.result fn ∙ c.max-2.ensures.value ∙ both int_max (to_z w16 (of_z w16 here.north)) (to_z w16 (of_z w16 corner.lat)) c.args.self.now.north c.args.tile.now.corner.lat n lat)
    (ap (λ b. b.side) c.self.view_is)

pub returns-clause-extent : goal.returns-clause-extent
returns-clause-extent c =
    let before : IsExtent c.args.self.now = subst IsExtent c.self.view_is c.self.invariant in
    subst IsExtent (sym (returns-clause-value c)) (widened_extent c.args.self.now c.args.tile.now before)
