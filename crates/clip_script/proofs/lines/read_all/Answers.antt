use Rattle.std.proofs.Common.{length-append, ◌≡◌, ◌+◌, ◌∷◌, ap, sym, ◌∙◌, subst, arith, List, length, All, []}
use Rattle.clip_script.specs.Lines.{lines}
use Rattle.clip_script.specs.Reading.{all_said}
use Rattle.clip_script.proofs.Cuts.{lines_none}
use Rattle.clip_script.proofs.Readings.{turn_skipped, turn_said, turn_bad, turn_none, all_more, said_before}
use Rattle.clip_script.proofs.lines.read_all.Goals as goal

pub loop-text-preserved-then-is_skipped : goal.loop-text-preserved-then-is_skipped
loop-text-preserved-then-is_skipped g c = record {
  few = omega (arith, ap length c.next_line-line.ensures.value);
  same = turn_skipped (g.G.Grammar.says c.args.grammar.now) _ c.loop-text.all.items c.loop-text.before (lines c.loop-text.text.now) c.next_line-line.result.front.now
      (lines c.next_line-line.result.rest.now) c.loop-text.invariant.same c.next_line-line.ensures.value (sym c.is_skipped.ensures.value ∙ c.if-is_skipped.true);
  less = omega (arith, c.loop-text.invariant.less);
  fit = c.loop-text.invariant.fit;
}

pub loop-text-preserved : goal.loop-text-preserved
loop-text-preserved g c =
    let says = g.G.Grammar.says c.args.grammar.now in
    let fits = g.G.Grammar.fits c.args.grammar.now in
    let whole = all_said says c.args.left.before (lines c.args.left.text.now) in
    let rest = all_said says (c.loop-text.before + 1) (lines c.next_line-line.result.rest.now) in
    let grown = sym {A = List g.row.T.Denot} c.in_ok-append-in-Some.ensures.ok in
    let P : List g.row.T.Denot → Type 0 = λ items. whole ≡ said_before items rest in
    let Q : List g.row.T.Denot → Type 0 = λ items. All fits items in
    record {
      few = omega (arith, ap length c.next_line-line.ensures.value);
      same = subst P grown (turn_said says whole c.loop-text.all.items c.loop-text.before (lines c.loop-text.text.now) c.next_line-line.result.front.now
          (lines c.next_line-line.result.rest.now) c.in-Some.said c.loop-text.invariant.same c.next_line-line.ensures.value
          (sym c.is_skipped.ensures.value ∙ c.if-is_skipped.false) (sym c.in-Some.ensures.value));
      less = omega (arith, c.loop-text.invariant.less, ap length c.in_ok-append-in-Some.ensures.ok, length-append c.loop-text.all.items (c.in-Some.said ∷ []));
      fit = subst Q grown (all_more fits c.loop-text.all.items c.in-Some.said c.loop-text.invariant.fit c.in-Some.ensures.fits);
    }

pub returns-in-None-clause-stop : goal.returns-in-None-clause-stop
returns-in-None-clause-stop g c =
    turn_bad (g.G.Grammar.says c.args.grammar.now) _ c.loop-text.all.items c.loop-text.before (lines c.loop-text.text.now) c.next_line-line.result.front.now
    (lines c.next_line-line.result.rest.now) c.loop-text.invariant.same c.next_line-line.ensures.value (sym c.is_skipped.ensures.value ∙ c.if-is_skipped.false)
    (sym c.in-None.ensures.value)

pub returns-clause-said : goal.returns-clause-said
returns-clause-said g c =
    turn_none (g.G.Grammar.says c.args.grammar.now) _ c.loop-text.all.items c.loop-text.before (lines c.loop-text.text.now) c.loop-text.invariant.same
    (lines_none c.loop-text.text.now c.loop-text-test.ensures)
