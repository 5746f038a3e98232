-- What is true of active regions, handed to the list that keeps them.
use Rattle.std.proofs.Common.{◌≡◌, length, take, ap, sym, ◌∙◌, subst}
use Rattle.plan_model.specs.Actives.{actives}
use Rattle.active_region.specs.Active.{AreDrawn}
use Rattle.active_region.proofs.Kept.{all_filled_near, actives_are_drawn, first_of_twelve, rest_of_twelve}
use Rattle.active_region.proofs.drawing.actives.Goals as goal

pub twelve-requires-clause-filled : goal.twelve-requires-clause-filled
twelve-requires-clause-filled c =
    all_filled_near c.windows_are_near.ensures c.args.k c.args.filled.now (record { low = c.requires.k.low; high = c.requires.k.high }) c.requires.filled

drawn : (c : goal.After-twelve) → AreDrawn c.args.k (actives c.args.k c.args.finest c.args.filled.now)
drawn c =
    actives_are_drawn c.windows_are_near.ensures c.actives_are_as_many.ensures c.actives_lie_in_windows.ensures c.actives_are_nested.ensures c.args.k c.args.finest c.args.filled.now c.requires.k c.requires.many c.requires.filled

first : (c : goal.After-twelve) → take (length c.args.filled.now) c.twelve.result ≡ actives c.args.k c.args.finest c.args.filled.now
first c = first_of_twelve c.actives_are_as_many.ensures c.args.k c.args.finest c.args.filled.now c.twelve.result c.twelve.ensures.value

pub new-requires-clause-counted : goal.new-requires-clause-counted
new-requires-clause-counted c = ap length (first c) ∙ c.actives_are_as_many.ensures c.args.k c.args.finest c.args.filled.now

pub new-requires-clause-unused : goal.new-requires-clause-unused
new-requires-clause-unused c =
    rest_of_twelve c.actives_are_as_many.ensures c.args.k c.args.finest c.args.filled.now c.twelve.result c.twelve.ensures.value

pub new-requires-clause-active : goal.new-requires-clause-active
new-requires-clause-active c = record {
  k = c.args.k;
  size = c.requires.k;
  drawn = subst (AreDrawn c.args.k) (sym (first c)) (drawn c);
}

pub returns-clause-value : goal.returns-clause-value
returns-clause-value c =
    c.new.ensures.value ∙ first_of_twelve c.actives_are_as_many.ensures c.args.k c.args.finest c.args.filled.now c.twelve.result c.twelve.ensures.value

pub returns-clause-drawn : goal.returns-clause-drawn
returns-clause-drawn c =
    subst (AreDrawn c.args.k) (sym (returns-clause-value c)) (actives_are_drawn c.windows_are_near.ensures c.actives_are_as_many.ensures c.actives_lie_in_windows.ensures c.actives_are_nested.ensures c.args.k c.args.finest c.args.filled.now c.requires.k c.requires.many c.requires.filled)
