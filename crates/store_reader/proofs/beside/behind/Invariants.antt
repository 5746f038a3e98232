use Rattle.std.proofs.Common.{◌≡◌, ◌≤◌, length}
use Rattle.store_reader.specs.Reading.{behind}
use Rattle.store_reader.proofs.beside.behind.Given as goal

abbrev pub invariant-loop : goal.invariant-loop
invariant-loop l = record { inside : l.at ≤ length l.bytes; place : l.at ≡ behind l.bytes l.start l.counter }
