-- What it is to add parts to the lists of a mesh.
use Rattle.std.specs.Prelude.{◌≡◌, ℕ, zero, suc, ◌+◌, ◌^◌, ◌≤ℤ◌, List, [], ◌∷◌, ◌++◌, length, drop, flat_map}
use Rattle.clip_regions.specs.declared.region.Region.{Region}
use Rattle.clip_regions.specs.Regions.{IsWithin}
use Rattle.mesh_model.specs.declared.shapes.PartKind.{PartKind}
use Rattle.mesh_model.specs.declared.shapes.PartKind.TheVariants.{North, West, East, South}
use Rattle.mesh_model.specs.declared.shapes.Vertex.{Vertex}
use Rattle.mesh_model.specs.declared.shapes.Part.{Part}
use Rattle.mesh_model.specs.Parts.{PartTriangles, squares_in}
use Rattle.mesh_model.specs.Height.{active_at}
use Rattle.mesh_model.specs.Mesh.{parts_from}
use Rattle.mesh_laws.specs.declared.ring.Ring.{Ring}
use Rattle.mesh_laws.specs.Rings.{no_ring, next_ring, ring_part, ring_parts_from}
use Rattle.mesh_laws.specs.Conditions.{IsBefore}

-- the triangles of these parts
unfoldable pub triangles_of : List PartTriangles → List (List ℕ)
triangles_of added = flat_map (λ part. part.triangles) added

-- the parts stand in the two lists after what was there
pub record Adds (vertices : List Vertex) (added : List PartTriangles) (triangles : List (List ℕ)) (parts : List Part)
    (triangles' : List (List ℕ)) (parts' : List Part) : Type 0 where
  pub triangles_are : triangles' ≡ triangles ++ triangles_of added
  pub parts_are : parts' ≡ parts ++ parts_from vertices (length triangles) added

-- a block of squares, by its corners, that lies in the region
pub record HasBlock (r block : Region) : Type 0 where
  pub near : IsWithin (2 ^ 24) r
  pub placed : IsWithin (2 ^ 24) block
  pub west : r.x0 ≤ℤ block.x0
  pub east : block.x1 ≤ℤ r.x1
  pub north : r.y0 ≤ℤ block.y0
  pub south : block.y1 ≤ℤ r.y1

-- the blocks round a hole
abbrev pub north_block : Region → Region → Region
north_block active gap = record { x0 = active.x0; y0 = active.y0; x1 = active.x1; y1 = gap.y0 }

abbrev pub west_block : Region → Region → Region
west_block active gap = record { x0 = active.x0; y0 = gap.y0; x1 = gap.x0; y1 = gap.y1 }

abbrev pub east_block : Region → Region → Region
east_block active gap = record { x0 = gap.x1; y0 = gap.y0; x1 = active.x1; y1 = gap.y1 }

abbrev pub south_block : Region → Region → Region
south_block active gap = record { x0 = active.x0; y0 = gap.y1; x1 = active.x1; y1 = active.y1 }

-- the part of the squares of a block
abbrev pub block_part : Ring → Ring → ℕ → PartKind → Region → PartTriangles
block_part finer ring level kind block =
    ring_part finer ring level kind (squares_in block)

-- the four parts round the hole of a ring
abbrev pub parts_around : ℕ → Ring → Ring → List PartTriangles
parts_around level finer ring =
    block_part finer ring level North (north_block ring.active ring.hole)
    ∷ block_part finer ring level West (west_block ring.active ring.hole)
    ∷ block_part finer ring level East (east_block ring.active ring.hole)
    ∷ block_part finer ring level South (south_block ring.active ring.hole)
    ∷ []

-- the ring that stands before this level of some active regions
abbrev pub ring_before : List Region → ℕ → Ring
ring_before actives zero = no_ring
ring_before actives (suc level) = next_ring (ring_before actives level) (active_at actives level)

-- the parts of the levels from this one on
abbrev pub parts_left : List Region → ℕ → List PartTriangles
parts_left actives level = ring_parts_from level (ring_before actives level) (drop level actives)

-- the lists are those of the levels from one to the last below another: with the parts of the levels from that one on
-- behind them, they are those of the levels from the first on
abbrev pub AreFaces : List Vertex → List Region → ℕ → ℕ → List (List ℕ) → List Part → Type 0
AreFaces vertices actives from to triangles parts =
    Adds vertices (parts_left actives to) triangles parts
    (triangles_of (parts_left actives from)) (parts_from vertices 0 (parts_left actives from))

-- a part whose first triangle has a place so many greater
unfoldable pub moved_on : ℕ → Part → Part
moved_on more part = record part { first = part.first + more }

-- the rings of the levels from one to the last below another are made, and those from that one on are left
pub record IsUnderWay (vertices : List Vertex) (actives : List Region) (from level : ℕ) (finer : Ring)
    (triangles : List (List ℕ)) (parts : List Part) : Type 0 where
  pub before : IsBefore actives level finer
  pub place : finer ≡ ring_before actives level
  pub left :
      Adds vertices (ring_parts_from level finer (drop level actives)) triangles parts
      (triangles_of (parts_left actives from)) (parts_from vertices 0 (parts_left actives from))
