use Rattle.std.proofs.Common.{◌≡◌, ◌⊎◌, ◌+◌, ◌<◌, ℕ, List, length, sym, ap, ◌∙◌, subst, arith, true, false, nat_eq, Result, Err, []}
use Rattle.std.proofs.lemmas.Bool.Decides.{nat_tests, Decides-eqb}
use Rattle.mesh_lists.specs.Lines.{cut_line, leading, whole_lines}
use Rattle.mesh_lists.specs.Says.{triangle_of}
use Rattle.mesh_lists.specs.Lists.{Lists}
use Rattle.mesh_lists.proofs.Bodies.{Says, bad_end, good_end}
use Rattle.mesh_lists.proofs.Cuts.{no_text, some_left}
use Rattle.mesh_lists.proofs.body.read_body.Goals as goal

pub returns-then-not-is_empty : goal.returns-then-not-is_empty
returns-then-not-is_empty c =
    let text = c.args.head.text.now in
    let lines = whole_lines text in
    let vertices = c.in_ok-vertices.vertices in
    let triangles = c.in_ok-triangles.triangles in
    let first = c.in_ok-vertices.ensures in
    let second = c.in_ok-triangles.ensures in
    let count : c.len-count.result ≡ length vertices.all.items = omega arith in
    let faces : c.len.result ≡ length triangles.all.items = omega arith in
    let says : Says lines (whole_lines triangles.text.now) vertices.all.items triangles.all.items = record {
      vertices_are = first.said;
      triangles_are = second.said ∙ ap (λ (n : ℕ). leading (triangle_of n) (whole_lines vertices.text.now)) count
          ∙ ap (leading (triangle_of (length vertices.all.items))) (sym first.left.lines);
      counted = omega (arith, first.left.counted, second.left.counted);
    } in
    let test : nat_eq (length triangles.text.now) 0 ≡ false = sym c.is_empty.ensures ∙ c.if-not-is_empty.true in
    let some : 0 < length triangles.text.now = grind (arith, nat_tests) in
    let end = sym (first.left.end ∙ second.left.end) in
    let P : List ℕ → Type 0 = λ rest. (0 < length (whole_lines triangles.text.now)) ⊎ ((length (whole_lines triangles.text.now) ≡ 0) × (0 < length rest)) in
    let left = subst P end (some_left triangles.text.now some) in
    let number : c.args.head.lines + (length vertices.all.items + length triangles.all.items) + 1 ≡ c.args.head.lines + (c.len-count.result + c.len.result) + 1 = omega arith in
    let last : ◌≡◌ {A = Result Lists ℕ} (Err (c.args.head.lines + (length vertices.all.items + length triangles.all.items) + 1)) (Err (c.args.head.lines + (c.len-count.result + c.len.result) + 1)) = ap Err number in
    record { lists = bad_end c.args.head.lines c.args.head.border lines (whole_lines triangles.text.now) (cut_line text) vertices.all.items triangles.all.items says left ∙ last }

pub returns : goal.returns
returns c =
    let text = c.args.head.text.now in
    let lines = whole_lines text in
    let vertices = c.in_ok-vertices.vertices in
    let triangles = c.in_ok-triangles.triangles in
    let first = c.in_ok-vertices.ensures in
    let second = c.in_ok-triangles.ensures in
    let count : c.len-count.result ≡ length vertices.all.items = omega arith in
    let says : Says lines (whole_lines triangles.text.now) vertices.all.items triangles.all.items = record {
      vertices_are = first.said;
      triangles_are = second.said ∙ ap (λ (n : ℕ). leading (triangle_of n) (whole_lines vertices.text.now)) count
          ∙ ap (leading (triangle_of (length vertices.all.items))) (sym first.left.lines);
      counted = omega (arith, first.left.counted, second.left.counted);
    } in
    let test : nat_eq (length triangles.text.now) 0 ≡ true = sym c.is_empty.ensures ∙ c.if-not-is_empty.false in
    let none = no_text triangles.text.now ((Decides-eqb (length triangles.text.now) 0).0 test) in
    let rest : cut_line text ≡ [] = first.left.end ∙ second.left.end ∙ none.1 in
    record { lists = good_end c.args.head.lines c.args.head.border lines (whole_lines triangles.text.now) (cut_line text) vertices.all.items triangles.all.items says (ap length none.0) (ap length rest) }
