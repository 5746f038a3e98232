use Rattle.std.proofs.Common.{length, ap, arith}
use Rattle.std.proofs.lemmas.List.Sorted.{IsNonDecreasingBy-from_sort, length_permutation}
use Rattle.mesh_check.proofs.EdgeCounts.{edges_counted}
use Rattle.mesh_check.proofs.edges.sorted_edges.Goals as goal

pub returns-clause-sorted : goal.returns-clause-sorted
returns-clause-sorted c = IsNonDecreasingBy-from_sort (λ x. x) c.sort_unstable.new.self.items c.sort_unstable.ensures.sorted

pub returns-clause-few : goal.returns-clause-few
returns-clause-few c =
    let same = length_permutation c.in_ok-keys.keys.items c.sort_unstable.new.self.items c.sort_unstable.ensures.permutation in
    let all = ap length c.in_ok-keys.ensures.keys in
    let count = edges_counted c.args.triangles.now in
    omega (arith, same, all, count, c.requires.few)
