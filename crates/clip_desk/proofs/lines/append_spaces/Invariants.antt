use Rattle.std.proofs.Common.{◌≡◌, ◌++◌, take}
use Rattle.std.specs.Prelude.{flat_map, string_bytes}
use Rattle.clip_desk.specs.Lines.{space_text}
use Rattle.clip_desk.proofs.lines.append_spaces.Given as goal

abbrev pub invariant-loop-space : goal.invariant-loop-space
invariant-loop-space l = string_bytes l.line ≡ string_bytes l.fn.line ++ flat_map space_text (take l.space-index l.spaces)
