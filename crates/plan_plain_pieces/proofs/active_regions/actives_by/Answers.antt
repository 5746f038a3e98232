-- One more active region at each turn, of the next finer level.
use Rattle.std.proofs.Common.{◌≡◌, ℕ, ◌-◌, ◌^◌, List, drop, length, ap, ◌∙◌, arith}
use Rattle.std.proofs.lemmas.List.Elements.{All-same, All-drop}
use Rattle.clip_regions.specs.declared.region.Region.{Region}
use Rattle.clip_regions.specs.Regions.{IsWithin}
use Rattle.plan_model.specs.Actives.{actives_by}
use Rattle.plan_model.specs.Window.{margin}
use Rattle.plan_plain_pieces.proofs.Drawn.{actives_within}
use Rattle.plan_plain_pieces.proofs.active_regions.actives_by.Goals as goal

pub active_of-region-requires-clause-coarser : goal.active_of-region-requires-clause-coarser
active_of-region-requires-clause-coarser c =
    let rest : List Region = drop (length c.args.filled.now - c.loop-i.i) c.args.filled.now in
    All-same (IsWithin (2 ^ 24)) c.as_slice.result.now (actives_by (margin c.args.k) rest) (c.as_slice.ensures.value ∙ c.loop-i.invariant) (actives_within (2 ^ 24) (margin c.args.k) rest (omega arith) (All-drop (IsWithin (2 ^ 24)) (length c.args.filled.now - c.loop-i.i) c.args.filled.now c.requires.filled))

pub returns-clause-value : goal.returns-clause-value
returns-clause-value c =
    let at_end : length c.args.filled.now - c.loop-i.i ≡ 0 = omega arith in
    c.loop-i.invariant ∙ ap (λ (n : ℕ). actives_by (margin c.args.k) (drop n c.args.filled.now)) at_end

pub returns-clause-within : goal.returns-clause-within
returns-clause-within c =
    let rest : List Region = drop (length c.args.filled.now - c.loop-i.i) c.args.filled.now in
    All-same (IsWithin (2 ^ 24)) c.loop-i.out.items (actives_by (margin c.args.k) rest) c.loop-i.invariant (actives_within (2 ^ 24) (margin c.args.k) rest (omega arith) (All-drop (IsWithin (2 ^ 24)) (length c.args.filled.now - c.loop-i.i) c.args.filled.now c.requires.filled))
