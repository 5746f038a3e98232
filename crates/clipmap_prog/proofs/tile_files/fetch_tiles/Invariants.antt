use Rattle.std.proofs.Common.{◌≡◌, ◌≤◌, IfSome, map, take, Ok, vec_len}
use Rattle.clipmap_prog.specs.Inputs.{tile_reading, named_view}
use Rattle.clipmap_prog.specs.Reading.{each_of}
use Rattle.run_actions.specs.Runs.{CallsWithin}
use Rattle.clipmap_prog.proofs.tile_files.fetch_tiles.Given as goal

-- the files so far were fetched and read, and the shelf told no other
abbrev pub invariant-loop-one : goal.invariant-loop-one
invariant-loop-one g l = record {
  found : IfSome (g.S.Shelf.told l.initial.shelf).files (λ files. (each_of (tile_reading files) (map named_view (take l.one-index l.named))).found ≡ Ok l.tiles.items);
  calls : IfSome (g.S.Shelf.told l.initial.shelf).files
      (λ files. CallsWithin (each_of (tile_reading files) (map named_view (take l.one-index l.named))).fetches (g.S.Shelf.told l.initial.shelf).calls (g.S.Shelf.told l.shelf).calls);
  files_stay : (g.S.Shelf.told l.shelf).files ≡ (g.S.Shelf.told l.initial.shelf).files;
  faults_stay : (g.S.Shelf.told l.initial.shelf).faults ≤ (g.S.Shelf.told l.shelf).faults;
  all : vec_len l.tiles ≡ l.one-index;
}
