use Rattle.std.proofs.Common.{◌≡◌, ◌<◌, ℕ, pos, length, get_or}
use Rattle.block_heights.specs.Pieces.{IsExact, row_value}
use Rattle.block_heights.proofs.rows.exact_row.Given as goal

abbrev pub invariant-loop-a : goal.invariant-loop-a
invariant-loop-a l = record {
  whole : length l.heights ≡ 8;
  exact : l.all < 65536 → (k : ℕ) → k < l.a → IsExact (row_value l.row.predicted l.row.before l.row.codes l.row.step k) (get_or l.heights k (pos 0));
}
