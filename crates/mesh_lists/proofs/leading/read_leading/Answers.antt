use Rattle.std.proofs.Common.{◌≡◌, ◌+◌, ◌∷◌, ◌++◌, [], List, ℕ, sym, ap, subst, ◌∙◌, arith, length, length-append, append_assoc, append-nil, All, refl}
use Rattle.mesh_lists.specs.Lines.{LeavesBehind, leading, whole_lines}
use Rattle.mesh_lists.proofs.Cuts.{empty_lines}
use Rattle.mesh_lists.proofs.Heads.{leaves_none, leaves_more, all_more, all_none}
use Rattle.mesh_lists.proofs.leading.read_leading.Goals as goal

pub loop-all-init : goal.loop-all-init
loop-all-init g c =
    let lines = whole_lines c.args.text.now in
    let says = g.G.Grammar.says c.args.grammar.now in
    let fits = g.G.Grammar.fits c.args.grammar.now in
    let none : c.new-all.result.items ≡ [] = c.new-all.ensures.items in
    let P : List g.row.T.Denot → Type 0 = λ items. leading says lines ≡ items ++ leading says lines in
    let Q : List g.row.T.Denot → Type 0 = λ items. All fits items in
    let R : List g.row.T.Denot → Type 0 = λ items. LeavesBehind (length items) c.args.text.now c.args.text.now in
    record { same = subst P (sym none) refl; left = subst R (sym none) (leaves_none c.args.text.now); fit = subst Q (sym none) (all_none fits) }

pub loop-all-preserved : goal.loop-all-preserved
loop-all-preserved g c =
    let says = g.G.Grammar.says c.args.grammar.now in
    let fits = g.G.Grammar.fits c.args.grammar.now in
    let whole = leading says (whole_lines c.args.text.now) in
    let items = c.loop-all.all.items in
    let said = c.in-Some.first.said in
    let more = leading says (whole_lines c.in-Some.first.text.now) in
    let all : whole ≡ (items ++ said ∷ []) ++ more =
    c.loop-all.invariant.same ∙ ap (λ (more : List g.row.T.Denot). items ++ more) c.in-Some.ensures.value ∙ sym (append_assoc items (said ∷ []) more) in
    let grown = sym {A = List g.row.T.Denot} c.in_ok-append-in-Some.ensures.ok in
    let one : length items + 1 ≡ length (items ++ said ∷ []) = omega (arith, length-append items (said ∷ [])) in
    let P : List g.row.T.Denot → Type 0 = λ items. whole ≡ items ++ more in
    let Q : List g.row.T.Denot → Type 0 = λ items. All fits items in
    let R : List g.row.T.Denot → Type 0 = λ items. LeavesBehind (length items) c.args.text.now c.in-Some.first.text.now in
    let S : ℕ → Type 0 = λ n. LeavesBehind n c.args.text.now c.in-Some.first.text.now in
    record {
      same = subst P grown all;
      left = subst R grown (subst S one (leaves_more (length items) 1 c.args.text.now c.loop-all.text.now c.in-Some.first.text.now c.loop-all.invariant.left c.in-Some.ensures.left));
      fit = subst Q grown (all_more fits items said c.loop-all.invariant.fit c.in-Some.ensures.fits);
    }

pub returns-clause-said : goal.returns-clause-said
returns-clause-said g c =
    let says = g.G.Grammar.says c.args.grammar.now in
    let none = ap (leading says) (empty_lines c.loop-all.text.now c.loop-all-test.ensures) in
    sym (c.loop-all.invariant.same ∙ ap (λ (more : List g.row.T.Denot). c.loop-all.all.items ++ more) none ∙ append-nil c.loop-all.all.items)
