-- By cases on whether anything is filled.
use Rattle.std.proofs.Common.{◌≡◌, List, [], ◌∷◌, ◌++◌, filter, ap, sym, ◌∙◌}
use Rattle.clip_regions.specs.declared.region.Region.{Region}
use Rattle.plan_model.specs.Strips.{has_cell, left_of, right_of, above, below}
use Rattle.strip_planner.proofs.Cases.{strips_none, strips_around}
use Rattle.strip_planner.proofs.Sides.{four, inside}
use Rattle.strip_planner.proofs.window_strips.strips.Goals as goal

pub returns-then-is_empty : goal.returns-then-is_empty
returns-then-is_empty c =
    c.push.ensures ∙ ap (λ (xs : List Region). xs ++ c.args.window ∷ []) c.none-out.ensures ∙ sym (strips_none c.args.filled c.args.window (sym c.is_empty.ensures.value ∙ c.if-is_empty.true))

pub push_right-requires-clause-inside : goal.push_right-requires-clause-inside
push_right-requires-clause-inside c =
    inside c.inside_is_held.ensures c.args.filled c.args.window c.requires (sym c.is_empty.ensures.value ∙ c.if-is_empty.false)

pub push_above-requires-clause-inside : goal.push_above-requires-clause-inside
push_above-requires-clause-inside c =
    inside c.inside_is_held.ensures c.args.filled c.args.window c.requires (sym c.is_empty.ensures.value ∙ c.if-is_empty.false)

pub push_below-requires-clause-inside : goal.push_below-requires-clause-inside
push_below-requires-clause-inside c =
    inside c.inside_is_held.ensures c.args.filled c.args.window c.requires (sym c.is_empty.ensures.value ∙ c.if-is_empty.false)

-- the strip alone, if it has a cell
abbrev only : Region → List Region
only strip = filter has_cell (strip ∷ [])

pub returns : goal.returns
returns c =
    let left : c.push_left.new.out ≡ only (left_of c.args.filled c.args.window) = c.push_left.ensures.value ∙ ap (λ (xs : List Region). xs ++ only (left_of c.args.filled c.args.window)) c.none-out.ensures in
    let right : c.push_right.new.out ≡ only (left_of c.args.filled c.args.window) ++ only (right_of c.args.filled c.args.window) = c.push_right.ensures.value ∙ ap (λ (xs : List Region). xs ++ only (right_of c.args.filled c.args.window)) left in
    let over : c.push_above.new.out ≡ (only (left_of c.args.filled c.args.window) ++ only (right_of c.args.filled c.args.window)) ++ only (above c.args.filled c.args.window) = c.push_above.ensures.value ∙ ap (λ (xs : List Region). xs ++ only (above c.args.filled c.args.window)) right in
    c.push_below.ensures.value ∙ ap (λ (xs : List Region). xs ++ only (below c.args.filled c.args.window)) over ∙ four has_cell (left_of c.args.filled c.args.window) (right_of c.args.filled c.args.window) (above c.args.filled c.args.window) (below c.args.filled c.args.window) ∙ sym (strips_around c.args.filled c.args.window (sym c.is_empty.ensures.value ∙ c.if-is_empty.false))
