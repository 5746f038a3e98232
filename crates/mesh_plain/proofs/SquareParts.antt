-- The three cases of the square parts of a level.
use Rattle.std.proofs.Common.{◌≡◌, ℕ, true, false, List, [], ◌∷◌, refl}
use Rattle.clip_regions.specs.declared.region.Region.{Region}
use Rattle.clip_regions.specs.Regions.{is_empty}
use Rattle.mesh_model.specs.declared.shapes.Vertex.{Vertex}
use Rattle.mesh_model.specs.declared.shapes.PartKind.TheVariants.{Whole, North, West, East, South}
use Rattle.mesh_model.specs.Vertices.{hole}
use Rattle.mesh_model.specs.Parts.{PartTriangles, square_part, square_parts, corners_at, squares_in}

pub no_square_parts : (vertices : List Vertex) (level : ℕ) (finer active : Region) → is_empty active ≡ true → square_parts vertices level finer active ≡ []
unfolding square_parts
no_square_parts vertices level finer active none = rw none refl

pub one_square_part : (vertices : List Vertex) (level : ℕ) (finer active : Region) → is_empty active ≡ false → is_empty (hole finer) ≡ true → square_parts vertices level finer active ≡ square_part vertices level Whole (squares_in active) ∷ []
unfolding square_parts
one_square_part vertices level finer active some whole = rw (some, whole) refl

-- the parts round a gap
abbrev pub parts_around : List Vertex → ℕ → Region → Region → List PartTriangles
parts_around vertices level active gap =
    square_part vertices level North (squares_in (corners_at active.x0 active.y0 active.x1 gap.y0))
    ∷ square_part vertices level West (squares_in (corners_at active.x0 gap.y0 gap.x0 gap.y1))
    ∷ square_part vertices level East (squares_in (corners_at gap.x1 gap.y0 active.x1 gap.y1))
    ∷ square_part vertices level South (squares_in (corners_at active.x0 gap.y1 active.x1 active.y1))
    ∷ []

pub four_square_parts : (vertices : List Vertex) (level : ℕ) (finer active : Region) → is_empty active ≡ false → is_empty (hole finer) ≡ false → square_parts vertices level finer active ≡ parts_around vertices level active (hole finer)
unfolding square_parts
four_square_parts vertices level finer active some gap = rw (some, gap) refl
