-- A piece of a block of a store, decoded.
use Rattle.std.proofs.Common.{◌≡◌, Bool, true, false, cond, eqb, ℕ, ◌+◌, ◌<◌, ℤ, pos, ◌+ℤ◌, ◌*ℤ◌, List, length, ap, sym, ◌∙◌, subst, ⊎_elim, arith, eq-eqb}
use Rattle.std.proofs.lemmas.Bool.{cases_Bool}
use Rattle.std.proofs.lemmas.Bool.Decides.{nat_tests}
use Rattle.clip_regions.specs.declared.region.Region.{Region}
use Rattle.clip_regions.specs.Regions.{contains, area}
use Rattle.terrain_model.specs.Terrain.{IsTerrain, level_height}
use Rattle.four_point.specs.declared.patch.Patch.{Patch}
use Rattle.four_point.specs.Patches.{patch_height}
use Rattle.four_point.specs.Prediction.{prediction}
use Rattle.four_point.specs.Steps.{value_of, brought, IsNear}
use Rattle.block_heights.specs.declared.block.Kind.{Kind}
use Rattle.block_heights.specs.declared.block.Kind.TheVariants.{Outside, Plain, Words}
use Rattle.block_heights.specs.declared.block.PieceFault.TheVariants.{BadBlock, OutOfRange}
use Rattle.block_heights.specs.Pieces.{within, column_of, row_of, plain_height, coded_height}
use Rattle.store_model.specs.Sizes.{level_region}
use Rattle.store_model.specs.Blocks.{plain_bytes, IsCoding, IsWordBlock}
use Rattle.store_model.specs.Laws.{LevelOutside}
use Rattle.store_model.specs.Format.{Head}
use Rattle.store_model.specs.Store.{Levels, region_of, IsBlock, IsBlockOf}
use Rattle.terrain_store.specs.Stores.{Stored}
use Rattle.terrain_store.specs.Blocks.{IsStoredBlock}
use Rattle.store_pieces.specs.Laws.{IsPieceOf, PiecesAreHeights, PiecesHaveNoFault}
use Rattle.store_model.proofs.Outside.{level_fits}
use Rattle.store_laws.proofs.Blocks.{OneList, WordHasNoFault, codes_same, coding_no_fault, plain_length, plain_no_fault}
use Rattle.store_pieces.proofs.Plain.{plain_height_is}
use Rattle.store_pieces.proofs.Regions.{CellOf, cell_of, outside_level, inside_level}

-- ---- by the kind of a level
plain_there : (head : Head) (heights : Levels) (level k : ℕ) (bytes : List ℕ) → level + 1 ≡ head.levels → IsBlock head heights level k bytes → bytes ≡ plain_bytes (heights level) (region_of head level k)
plain_there head heights level k bytes top b =
    subst (λ (t : Bool). IsBlockOf t head heights level k bytes) (eq-eqb (level + 1) head.levels top) b

word_there : (head : Head) (heights : Levels) (level k : ℕ) (bytes : List ℕ) → level + 1 < head.levels → IsBlock head heights level k bytes → IsWordBlock (heights (level + 1)) (heights level) head.step (region_of head level k) bytes
word_there head heights level k bytes below b =
    let other : eqb (level + 1) head.levels ≡ false = grind (arith, nat_tests) in
    subst (λ (t : Bool). IsBlockOf t head heights level k bytes) other b

-- ---- one cell of a piece
zero_outside : LevelOutside → (store : Stored) (kind : Kind) (level : ℕ) (bx by : ℤ) (inside cells : Region) (patch : Patch) (i j : ℤ) → IsPieceOf store kind level bx by inside cells patch → contains (level_region store.head.width store.head.height level) i j ≡ false → level_height store.terrain level i j ≡ pos 0
zero_outside law store kind level bx by inside cells patch i j p out =
    law store.terrain level i j p.stands.sound_terrain
    (subst (λ (h : ℕ). contains (level_region store.terrain.width h level) i j ≡ false) p.stands.same_height (subst (λ (w : ℕ). contains (level_region w store.head.height level) i j ≡ false) p.stands.same_width out))

-- a height by whether the cell lies inside
within_is : (inside : Region) (f : ℤ → ℤ → ℤ) (i j h : ℤ) → (contains inside i j ≡ true → f i j ≡ h) → (contains inside i j ≡ false → pos 0 ≡ h) → within inside f i j ≡ h
unfolding within
within_is inside f i j h here there =
    ⊎_elim
    (λ (t : contains inside i j ≡ true). ap (λ (b : Bool). cond b (f i j) (pos 0)) t ∙ here t)
    (λ (e : contains inside i j ≡ false). ap (λ (b : Bool). cond b (f i j) (pos 0)) e ∙ there e)
    (cases_Bool (contains inside i j))

beside_block : LevelOutside → (store : Stored) (kind : Kind) (level : ℕ) (bx by : ℤ) (inside cells : Region) (patch : Patch) (bytes : List ℕ) (i j : ℤ) → IsPieceOf store kind level bx by inside cells patch → IsStoredBlock store level bx by inside bytes → CellOf bx by cells i j → contains inside i j ≡ false → pos 0 ≡ level_height store.terrain level i j
beside_block law store kind level bx by inside cells patch bytes i j p s at out =
    let here : contains (region_of store.head level s.k) i j ≡ false = ap (λ (r : Region). contains r i j) (sym s.cells) ∙ out in
    sym (zero_outside law store kind level bx by inside cells patch i j p (outside_level store.head level s.k bx by i j s.at at.in_block here))

plain_cell : (store : Stored) (level : ℕ) (bx by : ℤ) (inside : Region) (bytes : List ℕ) (i j : ℤ) → IsTerrain store.terrain → level + 1 ≡ store.head.levels → IsStoredBlock store level bx by inside bytes → contains inside i j ≡ true → plain_height bytes inside i j ≡ level_height store.terrain level i j
plain_cell store level bx by inside bytes i j sound top s here =
    let heights = level_height store.terrain level in
    let is : bytes ≡ plain_bytes heights inside = plain_there store.head (level_height store.terrain) level s.k bytes top s.stored.stands ∙ ap (plain_bytes heights) (sym s.cells) in
    ap (λ (xs : List ℕ). plain_height xs inside i j) is ∙ plain_height_is heights inside i j (λ a b. level_fits store.terrain level a b sound) here

word_block : (store : Stored) (level : ℕ) (bx by : ℤ) (inside : Region) (bytes : List ℕ) → level + 1 < store.head.levels → IsStoredBlock store level bx by inside bytes → IsWordBlock (level_height store.terrain (level + 1)) (level_height store.terrain level) store.head.step inside bytes
word_block store level bx by inside bytes below s =
    subst (λ (r : Region). IsWordBlock (level_height store.terrain (level + 1)) (level_height store.terrain level) store.head.step r bytes) (sym s.cells) (word_there store.head (level_height store.terrain) level s.k bytes below s.stored.stands)

in_level : (store : Stored) (level : ℕ) (bx by : ℤ) (inside : Region) (bytes : List ℕ) (i j : ℤ) → IsStoredBlock store level bx by inside bytes → contains inside i j ≡ true → contains (level_region store.head.width store.head.height level) i j ≡ true
in_level store level bx by inside bytes i j s here =
    inside_level store.head level s.k bx by i j s.at (ap (λ (r : Region). contains r i j) (sym s.cells) ∙ here)

value_is : OneList → (coarser other code : ℤ → ℤ → ℤ) (heights : ℤ → ℤ → ℤ) (step : ℕ) (inside : Region) (bytes : List ℕ) (i j : ℤ) → IsCoding code inside bytes → (w : IsWordBlock other heights step inside bytes) → contains inside i j ≡ true → prediction coarser i j ≡ prediction other i j → value_of coarser step i j (code i j) ≡ value_of other step i j (w.code i j)
unfolding value_of
value_is one coarser other code heights step inside bytes i j coding w here same =
    ap (λ (p : ℤ). p +ℤ pos step *ℤ code i j) same ∙ ap (λ (d : ℤ). prediction other i j +ℤ pos step *ℤ d) (codes_same one code w.code inside bytes i j coding w.coding here)

-- ---- the heights of a piece
pub pieces_are_heights : LevelOutside → OneList → PiecesAreHeights
pieces_are_heights law one store Outside level bx by inside cells patch out p size is = λ k h.
    let at = cell_of bx by cells k p.part (omega (arith, size)) in
    is k h ∙ sym (zero_outside law store Outside level bx by inside cells patch (column_of cells k) (row_of cells k) p (p.block.1 p.in_store (column_of cells k) (row_of cells k) at.in_block))
pieces_are_heights law one store (Plain bytes) level bx by inside cells patch out p size is = λ k h.
    let i = column_of cells k in
    let j = row_of cells k in
    let at = cell_of bx by cells k p.part (omega (arith, size)) in
    is.1 k h
    ∙ within_is inside (plain_height bytes.now inside) i j (level_height store.terrain level i j)
    (λ here. plain_cell store level bx by inside bytes.now i j p.stands.sound_terrain p.block.0 p.block.1 here)
    (λ out_of. beside_block law store (Plain bytes) level bx by inside cells patch bytes.now i j p p.block.1 at out_of)
pieces_are_heights law one store (Words bytes) level bx by inside cells patch out p size is = λ k h.
    let i = column_of cells k in
    let j = row_of cells k in
    let at = cell_of bx by cells k p.part (omega (arith, size)) in
    let step = store.head.step in
    let coarser = level_height store.terrain (level + 1) in
    let w = word_block store level bx by inside bytes.now p.block.0 p.block.1 in
    is.heights k h
    ∙ within_is inside (coded_height (patch_height patch) step is.code) i j (level_height store.terrain level i j)
    (λ here. ap brought (value_is one (patch_height patch) coarser is.code (level_height store.terrain level) step inside bytes.now i j is.coding w here (p.predicts i j p.block.0 (in_level store level bx by inside bytes.now i j p.block.1 here) at.in_piece)) ∙ sym (w.restored i j here))
    (λ out_of. beside_block law store (Words bytes) level bx by inside cells patch bytes.now i j p p.block.1 at out_of)

-- ---- no piece is refused
pub pieces_have_no_fault : OneList → WordHasNoFault → PiecesHaveNoFault
pieces_have_no_fault one none store Outside level bx by inside cells patch n fault p size bad = bad
pieces_have_no_fault one none store (Plain bytes) level bx by inside cells patch n (BadBlock fault) p size bad =
    let s = p.block.1 in
    let heights = level_height store.terrain level in
    let is : bytes.now ≡ plain_bytes heights inside = plain_there store.head (level_height store.terrain) level s.k bytes.now p.block.0 s.stored.stands ∙ ap (plain_bytes heights) (sym s.cells) in
    plain_no_fault (area inside) bytes.now fault (ap length is ∙ plain_length heights inside) bad
pieces_have_no_fault one none store (Plain bytes) level bx by inside cells patch n (OutOfRange a b v) p size bad = bad
pieces_have_no_fault one none store (Words bytes) level bx by inside cells patch n (BadBlock fault) p size bad =
    let w = word_block store level bx by inside bytes.now p.block.0 p.block.1 in
    coding_no_fault none w.code inside bytes.now fault w.coding bad
pieces_have_no_fault one none store (Words bytes) level bx by inside cells patch n (OutOfRange a b v) p size bad =
    let k = bad.out.0 in
    let at_k = bad.out.2 in
    let step = store.head.step in
    let coarser = level_height store.terrain (level + 1) in
    let w = word_block store level bx by inside bytes.now p.block.0 p.block.1 in
    let at = cell_of bx by cells k p.part (let l = bad.out.1 in omega (arith, size, l)) in
    let in_piece : contains cells a b ≡ true = ap (contains cells a) at_k.row ∙ ap (λ (x : ℤ). contains cells x (row_of cells k)) at_k.column ∙ at.in_piece in
    let here : contains inside a b ≡ true = at_k.within_block in
    at_k.far (subst (IsNear step) (sym (at_k.value_is ∙ value_is one (patch_height patch) coarser bad.code (level_height store.terrain level) step inside bytes.now a b bad.coding w here (p.predicts a b p.block.0 (in_level store level bx by inside bytes.now a b p.block.1 here) in_piece))) (w.near a b here))
