use Rattle.decode_workers.proofs.OneTerrain.{terrain_of}
use Rattle.decode_workers.proofs.copy_heights.draw_copies.Given as goal

abbrev pub ghosts-draw_named : goal.ghosts-draw_named
ghosts-draw_named a = record { terrain = terrain_of a.copies.now }
