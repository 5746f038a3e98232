use Rattle.std.proofs.Common.{◌≡◌, false, ◌++◌, length, count_by, sym, ap, ◌∙◌}
use Rattle.std.specs.List.{list_any}
use Rattle.terrain_model.specs.Voids.{is_void, without_voids}
use Rattle.terrain_model.specs.Tile.{samples_from}
use Rattle.hgt_tiles.proofs.TileLemmas.{plain_row, none_counted}
use Rattle.hgt_tiles.proofs.tiles.append_row.Goals as goal

pub returns-clause-heights : goal.returns-clause-heights
returns-clause-heights c =
    let samples = samples_from c.args.bytes.now c.args.first in
    let side = length c.args.row.now in
    let none : list_any is_void (samples side) ≡ false = sym c.read_row.ensures.voids ∙ c.if-read_row.false in
    c.in_ok-extend_from_slice.ensures.items
    ∙ ap (λ xs. c.args.heights.now.items ++ xs) (c.read_row.ensures.row ∙ plain_row (samples side) none)
    ∙ ap (λ n. c.args.heights.now.items ++ without_voids (samples n)) c.requires.row

pub returns-clause-voids : goal.returns-clause-voids
returns-clause-voids c =
    let samples = samples_from c.args.bytes.now c.args.first in
    let none : list_any is_void (samples (length c.args.row.now)) ≡ false = sym c.read_row.ensures.voids ∙ c.if-read_row.false in
    none_counted (samples (length c.args.row.now)) none ∙ ap (λ n. count_by is_void (samples n)) c.requires.row
