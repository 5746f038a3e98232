use Rattle.std.proofs.Common.{◌≤◌, vec_len}
use Rattle.std.specs.Io.KnownBytes.{Consumes}
use Rattle.outer_shelf.proofs.folder.read_past_limit.Given as goal

-- what was read so far is no more than is asked for, and is what the reader gave
abbrev pub invariant-loop : goal.invariant-loop
invariant-loop g l = record {
  few : vec_len l.bytes ≤ l.most;
  taken : Consumes (g.F.Read.remaining l.initial.file) (g.F.Read.remaining l.file) l.bytes.items;
}
