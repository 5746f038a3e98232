use Rattle.std.proofs.Common.{◌≡◌, map, take, Ok, string_bytes, vec_len}
use Rattle.clipmap_prog.specs.Inputs.{name_reading, named_view}
use Rattle.clipmap_prog.specs.Reading.{each_of}
use Rattle.clipmap_prog.proofs.tile_files.judge_names.Given as goal

-- the names so far, judged
abbrev pub invariant-loop-name : goal.invariant-loop-name
invariant-loop-name l = record {
  found : (each_of name_reading (map string_bytes (take l.name-index l.names))).found ≡ Ok (map named_view l.judged.items);
  all : vec_len l.judged ≡ l.name-index;
}
