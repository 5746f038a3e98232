use Rattle.std.proofs.Common.{◌≡◌, ◌-◌, ◌+◌, ◌∷◌, [], List, sym, ap, subst, arith, length, length-append}
use Rattle.clip_script.specs.Lines.{words_after}
use Rattle.clip_script.specs.Steps.{spaces_of, space_said}
use Rattle.mesh_model.specs.declared.shapes.HalfSpace.{HalfSpace}
use Rattle.clip_script.proofs.Halves.{after_spaces, spaces_end, spaces_bad, spaces_over, spaces_more}
use Rattle.clip_script.proofs.spaces.view_of.Goals as goal

pub returns-in-None : goal.returns-in-None
returns-in-None c = record {
  value =
      sym (spaces_end _ c.groups.view (6 - c.groups._seen) (words_after c.groups.rest.now) c.groups.invariant.same (ap words_after c.in-None.ensures.value));
}

pub returns-in-None-space_from : goal.returns-in-None-space_from
returns-in-None-space_from c = record {
  value =
      sym (spaces_bad _ c.groups.view (6 - c.groups._seen) (words_after c.groups.rest.now) c.in-Some.word.front.now (words_after c.in-Some.word.rest.now)
      c.groups.invariant.same c.in-Some.ensures.value (sym c.in-None-space_from.ensures.value));
}

pub groups-preserved : goal.groups-preserved
groups-preserved c =
    let whole = spaces_of 6 (words_after c.args.words.now) in
    let view = c.groups.view in
    let group = c.in-Some-space_from.group in
    let next = 6 - (c.groups._seen + 1) in
    let P : List HalfSpace → Type 0 = λ view. whole ≡ after_spaces view (spaces_of next (words_after group.rest.now)) in
    record {
      counted = omega (arith, ap length c.add.ensures, length-append view (group.space ∷ []));
      same = subst P (sym c.add.ensures) (spaces_more whole view (6 - c.groups._seen) next (words_after c.groups.rest.now) c.in-Some.word.front.now
          (words_after c.in-Some.word.rest.now) (space_said group) c.groups.invariant.same (omega arith) c.in-Some.ensures.value (sym c.in-Some-space_from.ensures.value));
    }

pub returns-in-None-next_word : goal.returns-in-None-next_word
returns-in-None-next_word c = record {
  value =
      sym (spaces_end _ c.groups.view (6 - c.groups._seen) (words_after c.groups.rest.now) c.groups.invariant.same (ap words_after c.in-None-next_word.ensures.value));
}

pub returns-in-Some-next_word : goal.returns-in-Some-next_word
returns-in-Some-next_word c = record {
  value =
      sym (spaces_over _ c.groups.view (6 - c.groups._seen) (words_after c.groups.rest.now) c.in-Some-next_word.field-0.front.now (words_after c.in-Some-next_word.field-0.rest.now)
      c.groups.invariant.same (omega arith) c.in-Some-next_word.ensures.value);
}
