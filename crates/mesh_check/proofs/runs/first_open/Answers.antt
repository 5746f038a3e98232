use Rattle.std.proofs.Common.{◌≡◌, ◌+◌, ◌-◌, ◌*◌, ◌≤◌, ◌<◌, ℕ, List, true, false, take, drop, length, sym, ap, ◌∙◌, subst, arith, nat_eq, All, length-drop}
use Rattle.std.proofs.lemmas.Slice.{between_to_end}
use Rattle.std.proofs.lemmas.Bool.Decides.{nat_tests, Decides-eqb}
use Rattle.std.proofs.lemmas.List.Elements.{All-drop}
use Rattle.std.proofs.lemmas.List.Sorted.{IsNonDecreasingBy-drop}
use Rattle.std.specs.List.Sorted.{IsNonDecreasing}
use Rattle.mesh_check.specs.Keys.{IsEdgeOf}
use Rattle.mesh_check.proofs.Fronts.{closed_below, closed_run, judged_start, judged_more, judged_all}
use Rattle.mesh_check.proofs.runs.first_open.Goals as goal

pub loop-rest-init : goal.loop-rest-init
loop-rest-init c = record {
  few = omega arith;
  sorted = c.requires.sorted;
  ends = c.requires.ends;
  judged = (0, judged_start c.args.places.border c.args.places.vertices.now c.args.keys.now);
}

pub returns-then-not-is_closed-clause-before : goal.returns-then-not-is_closed-clause-before
returns-then-not-is_closed-clause-before c =
    let rest = c.loop-rest.rest.now in
    let judged = c.loop-rest.invariant.judged in
    let test : nat_eq (length rest) 0 ≡ false = sym c.is_empty.ensures ∙ c.loop-rest-test.true in
    let some : 0 < length rest = grind (arith, nat_tests) in
    λ pair below. closed_below c.args.places.border c.args.places.vertices.now c.args.keys.now rest judged.0 pair judged.1 c.loop-rest.invariant.sorted some
    (let is = c.first_run-run.ensures.pair in omega arith)

pub returns-then-not-is_closed-clause-open : goal.returns-then-not-is_closed-clause-open
returns-then-not-is_closed-clause-open c =
    let rest = c.loop-rest.rest.now in
    let run = c.first_run-run.result in
    let told = c.first_run-run.ensures in
    let judged = c.loop-rest.invariant.judged in
    let test : nat_eq (length rest) 0 ≡ false = sym c.is_empty.ensures ∙ c.loop-rest-test.true in
    let some : 0 < length rest = grind (arith, nat_tests) in
    let low : judged.0 ≤ run.pair = let h = judged.1.above 0 some in let is = told.pair in omega arith in
    closed_run c.args.places.border c.args.places.vertices.now c.args.keys.now rest judged.0 run.pair run.there run.back judged.1 low told.there told.back
    ∙ sym c.is_closed.ensures.value ∙ c.if-not-is_closed.true

pub returns-then-not-is_closed-clause-there : goal.returns-then-not-is_closed-clause-there
returns-then-not-is_closed-clause-there c =
    let rest = c.loop-rest.rest.now in
    let run = c.first_run-run.result in
    let told = c.first_run-run.ensures in
    let judged = c.loop-rest.invariant.judged in
    let test : nat_eq (length rest) 0 ≡ false = sym c.is_empty.ensures ∙ c.loop-rest-test.true in
    let some : 0 < length rest = grind (arith, nat_tests) in
    let low : 2 * judged.0 ≤ 2 * run.pair = let h = judged.1.above 0 some in let is = told.pair in omega arith in
    told.there ∙ judged.1.counts (2 * run.pair) low

pub returns-then-not-is_closed-clause-back : goal.returns-then-not-is_closed-clause-back
returns-then-not-is_closed-clause-back c =
    let rest = c.loop-rest.rest.now in
    let run = c.first_run-run.result in
    let told = c.first_run-run.ensures in
    let judged = c.loop-rest.invariant.judged in
    let test : nat_eq (length rest) 0 ≡ false = sym c.is_empty.ensures ∙ c.loop-rest-test.true in
    let some : 0 < length rest = grind (arith, nat_tests) in
    let low : 2 * judged.0 ≤ 2 * run.pair + 1 = let h = judged.1.above 0 some in let is = told.pair in omega arith in
    told.back ∙ judged.1.counts (2 * run.pair + 1) low

pub loop-rest-preserved : goal.loop-rest-preserved
loop-rest-preserved c =
    let rest = c.loop-rest.rest.now in
    let run = c.first_run-run.result in
    let told = c.first_run-run.ensures in
    let judged = c.loop-rest.invariant.judged in
    let count = length c.args.places.vertices.now in
    let n = run.there + run.back in
    let test : nat_eq (length rest) 0 ≡ false = sym c.is_empty.ensures ∙ c.loop-rest-test.true in
    let some : 0 < length rest = grind (arith, nat_tests) in
    let within : n ≤ length rest = told.few in
    let left : take (length rest - n) (drop n rest) ≡ drop n rest = between_to_end rest n (length rest) (omega arith) in
    let closed = sym c.is_closed.ensures.value ∙ c.if-not-is_closed.false in
    let P : List ℕ → Type 0 = λ rest. IsNonDecreasing rest in
    let Q : List ℕ → Type 0 = λ rest. All (IsEdgeOf count) rest in
    record {
      few = omega (arith, ap length left, length-drop n rest, c.loop-rest.invariant.few);
      sorted = subst P (sym left) (IsNonDecreasingBy-drop (λ x. x) n rest c.loop-rest.invariant.sorted);
      ends = subst Q (sym left) (All-drop (IsEdgeOf count) n rest c.loop-rest.invariant.ends);
      judged = (
        run.pair + 1,
        judged_more c.args.places.border c.args.places.vertices.now c.args.keys.now rest (take (length rest - n) (drop n rest)) judged.0 run.pair run.there run.back judged.1
            c.loop-rest.invariant.sorted some told.pair told.there told.back told.above told.others left closed,
      );
    }

pub returns-clause-none : goal.returns-clause-none
returns-clause-none c =
    let rest = c.loop-rest.rest.now in
    let judged = c.loop-rest.invariant.judged in
    let test : nat_eq (length rest) 0 ≡ true = sym c.is_empty.ensures ∙ c.loop-rest-test.false in
    judged_all c.args.places.border c.args.places.vertices.now c.args.keys.now rest judged.0 judged.1 ((Decides-eqb (length rest) 0).0 test)
