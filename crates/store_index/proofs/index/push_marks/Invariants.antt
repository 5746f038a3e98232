use Rattle.std.proofs.Common.{◌≡◌, ◌*◌}
use Rattle.store_index.specs.Places.{behind}
use Rattle.store_index.specs.Index.{marks_of}
use Rattle.store_index.proofs.index.push_marks.Given as goal

abbrev pub invariant-loop-m : goal.invariant-loop-m
invariant-loop-m l = record {
  place : l.at ≡ behind l.bytes l.first (32 * l._m);
  marks : l.marks.items ≡ marks_of l.bytes l.first l._m;
}
