use Rattle.std.proofs.Common.{◌≡◌, ℕ, ◌+◌, ◌*◌, ◌<◌, length, get_or, ap, sym, ◌∙◌, arith}
use Rattle.std.proofs.lemmas.Bool.{eqb-true}
use Rattle.std.proofs.lemmas.Nat.{mul-add-lt}
use Rattle.std.proofs.lemmas.List.{get_or_read}
use mathlib.Core.Path.{ap₂}
use Rattle.plan_model.specs.Blocks.{tiles_per_side}
use Rattle.tile_pins.specs.Pinned.{Pinned, first_frame}
use Rattle.tile_pins.proofs.Changes.{free_is}
use Rattle.tile_pins.proofs.pins.Pins.is_free.Goals as goal

pub returns : goal.returns
returns c = λ e.
    let s = c.self.inside in
    let side : c.tiles_per_side-side.result ≡ tiles_per_side c.self.inside.k = c.tiles_per_side-side.ensures.value in
    let x : c.args.tile.tx < tiles_per_side c.self.inside.k = omega (arith, side) in
    let y : c.args.tile.ty < tiles_per_side c.self.inside.k = omega (arith, side) in
    let product : c.from.result * c.from-2.result ≡ c.args.tile.ty * tiles_per_side c.self.inside.k = ap₂ (λ (a b : ℕ). a * b) c.from.ensures (c.from-2.ensures ∙ side) in
    let at : c.from.result * c.from-2.result + c.from-3.result ≡ c.args.tile.ty * tiles_per_side c.self.inside.k + c.args.tile.tx = omega (arith, product, c.from-3.ensures) in
    let below : c.args.tile.ty * tiles_per_side c.self.inside.k + c.args.tile.tx < tiles_per_side c.self.inside.k * tiles_per_side c.self.inside.k = mul-add-lt c.args.tile.ty (tiles_per_side c.self.inside.k) c.args.tile.tx (tiles_per_side c.self.inside.k) y x in
    let inside : c.from.result * c.from-2.result + c.from-3.result < length c.self.inside.counts.items = omega (arith, at, below, c.self.invariant.many) in
    let read : c.index.result.now ≡ get_or c.self.inside.counts.items (c.from.result * c.from-2.result + c.from-3.result) 0 = get_or_read c.self.inside.counts.items (c.from.result * c.from-2.result + c.from-3.result) c.index.result.now inside c.index.ensures 0 in
    ap (λ (p : Pinned). first_frame p c.args.tile) (sym c.self.view_is) ∙ free_is c.self.inside.k c.self.inside.pinned c.self.inside.counts.items c.self.invariant c.args.tile x y (ap (λ (i : ℕ). get_or c.self.inside.counts.items i 0) (sym at) ∙ sym read ∙ eqb-true c.index.result.now 0 e)
