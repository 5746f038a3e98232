-- Which cells a region has.
use Rattle.std.proofs.Common.{◌≡◌, ℕ, ◌≤◌, Bool, true, false, ◌&&◌, ◌↔◌, IsTrue, ℤ, ◌≤ℤ◌, ◌<ℤ◌, refl, ap, sym, ◌∙◌, subst, inl, inr, arith}
use Rattle.std.proofs.lemmas.Int.{ints}
use Rattle.std.proofs.lemmas.Bool.{and_parts, and_from, or_parts, or_from, or_right, cases_Bool, true≢false, false_from_ne_true}
use Rattle.std.specs.Int.{int_min, int_max}
use mathlib.Core.Path.{ap₂}
use lib.Signed.{lt_z, le_z}
use mir.Syntax.{w32}
use mir.Val.{SFits, of_z, to_z}
use Rattle.clip_regions.proofs.Numbers.{read_back}
use Rattle.clip_regions.specs.declared.region.Region.{Region}
use Rattle.clip_regions.specs.Regions.{contains, is_empty, empty_region, spelled, meet, holds, IsWithin}

-- two tests that pass together are equal
pub same_test : (a b : Bool) → (a ≡ true → b ≡ true) → (b ≡ true → a ≡ true) → a ≡ b
same_test true b f g = sym (f refl)
same_test false true f g = g refl
same_test false false f g = refl

-- ---- tests on signed numbers
pub tested_le : (a b : ℤ) → le_z a b ≡ true → a ≤ℤ b
tested_le a b e = omega (arith, ints)

pub le_tested : (a b : ℤ) → a ≤ℤ b → le_z a b ≡ true
le_tested a b h = grind (arith, ints)

pub tested_lt : (a b : ℤ) → lt_z a b ≡ true → a <ℤ b
tested_lt a b e = omega (arith, ints)

pub lt_tested : (a b : ℤ) → a <ℤ b → lt_z a b ≡ true
lt_tested a b h = grind (arith, ints)

pub not_lt_tested : (a b : ℤ) → b ≤ℤ a → lt_z a b ≡ false
not_lt_tested a b h = grind (arith, ints)

pub tested_not_lt : (a b : ℤ) → lt_z a b ≡ false → b ≤ℤ a
tested_not_lt a b e = omega (arith, ints)

-- ---- cells
-- the cell (i, j) lies in r
pub record Lies (r : Region) (i j : ℤ) : Type 0 where
  pub west : r.x0 ≤ℤ i
  pub east : i ≤ℤ r.x1
  pub north : r.y0 ≤ℤ j
  pub south : j ≤ℤ r.y1

pub lies : (r : Region) (i j : ℤ) → contains r i j ≡ true → Lies r i j
unfolding contains
lies r i j e =
    let parts : ((le_z r.x0 i && le_z i r.x1) ≡ true) × ((le_z r.y0 j && le_z j r.y1) ≡ true) = and_parts (le_z r.x0 i && le_z i r.x1) (le_z r.y0 j && le_z j r.y1) e in
    let across : (le_z r.x0 i ≡ true) × (le_z i r.x1 ≡ true) = and_parts (le_z r.x0 i) (le_z i r.x1) parts.0 in
    let down' : (le_z r.y0 j ≡ true) × (le_z j r.y1 ≡ true) = and_parts (le_z r.y0 j) (le_z j r.y1) parts.1 in
    record { west = tested_le r.x0 i across.0; east = tested_le i r.x1 across.1; north = tested_le r.y0 j down'.0; south = tested_le j r.y1 down'.1 }

pub lying : (r : Region) (i j : ℤ) → Lies r i j → contains r i j ≡ true
unfolding contains
lying r i j h =
    and_from (le_z r.x0 i && le_z i r.x1) (le_z r.y0 j && le_z j r.y1) (and_from (le_z r.x0 i) (le_z i r.x1) (le_tested r.x0 i h.west) (le_tested i r.x1 h.east)) (and_from (le_z r.y0 j) (le_z j r.y1) (le_tested r.y0 j h.north) (le_tested j r.y1 h.south))

-- the corners are in order
pub record HasCell (r : Region) : Type 0 where
  pub across : r.x0 ≤ℤ r.x1
  pub along : r.y0 ≤ℤ r.y1

pub has_cell : (r : Region) → is_empty r ≡ false → HasCell r
unfolding is_empty
has_cell r e =
    let parts : (lt_z r.x1 r.x0 ≡ false) × (lt_z r.y1 r.y0 ≡ false) = or_parts (lt_z r.x1 r.x0) (lt_z r.y1 r.y0) e in
    record { across = tested_not_lt r.x1 r.x0 parts.0; along = tested_not_lt r.y1 r.y0 parts.1 }

pub not_empty : (r : Region) → HasCell r → is_empty r ≡ false
unfolding is_empty
not_empty r h =
    or_from (lt_z r.x1 r.x0) (lt_z r.y1 r.y0) (not_lt_tested r.x1 r.x0 h.across) (not_lt_tested r.y1 r.y0 h.along)

pub cell_in : (r : Region) (i j : ℤ) → Lies r i j → HasCell r
cell_in r i j h = record { across = omega (arith, ints); along = omega (arith, ints) }

pub none_in_empty : (r : Region) (i j : ℤ) → is_empty r ≡ true → contains r i j ≡ false
none_in_empty r i j e =
    false_from_ne_true (contains r i j) (λ t. true≢false (sym e ∙ not_empty r (cell_in r i j (lies r i j t))))

pub corner_lies : (r : Region) → HasCell r → Lies r r.x0 r.y0
corner_lies r h = record { west = omega (arith, ints); east = h.across; north = omega (arith, ints); south = h.along }

pub last_corner_lies : (r : Region) → HasCell r → Lies r r.x1 r.y1
last_corner_lies r h = record { west = h.across; east = omega (arith, ints); north = h.along; south = omega (arith, ints) }

pub empty_if_none : (r : Region) → ((i j : ℤ) → contains r i j ≡ false) → is_empty r ≡ true
empty_if_none r none =
    elim (cases_Bool (is_empty r)) [
      | inl e ↦ e
      | inr e ↦ absurd (true≢false (sym (lying r r.x0 r.y0 (corner_lies r (has_cell r e))) ∙ none r.x0 r.y0))
    ]

-- regions of equal corners are equal
abbrev pub corners : ℤ → ℤ → ℤ → ℤ → Region
corners west north east south = record { x0 = west; y0 = north; x1 = east; y1 = south }

pub same_corners : (r s : Region) → r.x0 ≡ s.x0 → r.y0 ≡ s.y0 → r.x1 ≡ s.x1 → r.y1 ≡ s.y1 → r ≡ s
same_corners r s a b c d =
    ap (λ (v : ℤ). corners v r.y0 r.x1 r.y1) a ∙ ap (λ (v : ℤ). corners s.x0 v r.x1 r.y1) b ∙ ap (λ (v : ℤ). corners s.x0 s.y0 v r.y1) c ∙ ap (λ (v : ℤ). corners s.x0 s.y0 s.x1 v) d

-- ---- one spelling of the empty region
pub spelled_empty : (r : Region) → is_empty r ≡ true → spelled r ≡ empty_region
unfolding spelled
spelled_empty r e = rw e refl

pub spelled_other : (r : Region) → is_empty r ≡ false → spelled r ≡ r
unfolding spelled
spelled_other r e = rw e refl

pub empty_is_empty : is_empty empty_region ≡ true
unfolding is_empty
empty_is_empty = refl

pub spelled_cells : (r : Region) (i j : ℤ) → contains (spelled r) i j ≡ contains r i j
spelled_cells r i j =
    elim (cases_Bool (is_empty r)) [
      | inl e ↦ ap (λ (q : Region). contains q i j) (spelled_empty r e) ∙ none_in_empty empty_region i j empty_is_empty ∙ sym (none_in_empty r i j e)
      | inr e ↦ ap (λ (q : Region). contains q i j) (spelled_other r e)
    ]

-- what is true of the empty region and of r, where r has a cell, is true of r as it is spelled
pub spelled_by : (P : Region → Type 0) (r : Region) → P empty_region → (HasCell r → P r) → P (spelled r)
spelled_by P r at_empty at_other =
    elim (cases_Bool (is_empty r)) [
      | inl e ↦ subst P (sym (spelled_empty r e)) at_empty
      | inr e ↦ subst P (sym (spelled_other r e)) (at_other (has_cell r e))
    ]

-- ---- bounds
pub empty_within : (n : ℕ) → 1 ≤ n → IsWithin n empty_region
empty_within n h = record {
  x0_low = omega (arith, ints);
  x0_high = omega (arith, ints);
  y0_low = omega (arith, ints);
  y0_high = omega (arith, ints);
  x1_low = omega (arith, ints);
  x1_high = omega (arith, ints);
  y1_low = omega (arith, ints);
  y1_high = omega (arith, ints);
}

-- ---- what the calls' results say of cells
pub empty_cells : (r : Region) (b : Bool) → b ≡ is_empty r → IsTrue b ↔ ((i j : ℤ) → contains r i j ≡ false)
empty_cells r b e =
    (λ (t : IsTrue b). λ (i : ℤ). λ (j : ℤ). none_in_empty r i j (sym e ∙ t), λ (none : (i j : ℤ) → contains r i j ≡ false). e ∙ empty_if_none r none)

pub holds_empty : (a b : Region) → is_empty b ≡ true → holds a b ≡ true
unfolding holds
holds_empty a b e = rw e refl

-- the corners of b lie within those of a
pub record Within (a b : Region) : Type 0 where
  pub west : a.x0 ≤ℤ b.x0
  pub east : b.x1 ≤ℤ a.x1
  pub north : a.y0 ≤ℤ b.y0
  pub south : b.y1 ≤ℤ a.y1

pub holds_within : (a b : Region) → Within a b → holds a b ≡ true
unfolding holds
holds_within a b h =
    or_right (is_empty b) ((le_z a.x0 b.x0 && le_z b.x1 a.x1) && (le_z a.y0 b.y0 && le_z b.y1 a.y1)) (and_from (le_z a.x0 b.x0 && le_z b.x1 a.x1) (le_z a.y0 b.y0 && le_z b.y1 a.y1) (and_from (le_z a.x0 b.x0) (le_z b.x1 a.x1) (le_tested a.x0 b.x0 h.west) (le_tested b.x1 a.x1 h.east)) (and_from (le_z a.y0 b.y0) (le_z b.y1 a.y1) (le_tested a.y0 b.y0 h.north) (le_tested b.y1 a.y1 h.south)))

pub within : (a b : Region) → holds a b ≡ true → is_empty b ≡ false → Within a b
unfolding holds
within a b e some =
    let tests : ((le_z a.x0 b.x0 && le_z b.x1 a.x1) && (le_z a.y0 b.y0 && le_z b.y1 a.y1)) ≡ true = rw some at e in
    let parts : ((le_z a.x0 b.x0 && le_z b.x1 a.x1) ≡ true) × ((le_z a.y0 b.y0 && le_z b.y1 a.y1) ≡ true) = and_parts (le_z a.x0 b.x0 && le_z b.x1 a.x1) (le_z a.y0 b.y0 && le_z b.y1 a.y1) tests in
    let across : (le_z a.x0 b.x0 ≡ true) × (le_z b.x1 a.x1 ≡ true) = and_parts (le_z a.x0 b.x0) (le_z b.x1 a.x1) parts.0 in
    let along : (le_z a.y0 b.y0 ≡ true) × (le_z b.y1 a.y1 ≡ true) = and_parts (le_z a.y0 b.y0) (le_z b.y1 a.y1) parts.1 in
    record { west = tested_le a.x0 b.x0 across.0; east = tested_le b.x1 a.x1 across.1; north = tested_le a.y0 b.y0 along.0; south = tested_le b.y1 a.y1 along.1 }

-- a region that has one with a cell within its corners has a cell
pub larger_has_cell : (a b : Region) → Within a b → HasCell b → HasCell a
larger_has_cell a b w some = record { across = omega (arith, ints); along = omega (arith, ints) }

-- a region whose spelling has a cell is spelled as it is
pub spelled_same : (r : Region) → HasCell (spelled r) → spelled r ≡ r
spelled_same r some =
    elim (cases_Bool (is_empty r)) [
      | inl e ↦ absurd (true≢false (sym (ap is_empty (spelled_empty r e) ∙ empty_is_empty) ∙ not_empty (spelled r) some))
      | inr e ↦ spelled_other r e
    ]

pub held_cell : (a b : Region) → Within a b → (i j : ℤ) → Lies b i j → Lies a i j
held_cell a b w i j h = record { west = omega (arith, ints); east = omega (arith, ints); north = omega (arith, ints); south = omega (arith, ints) }

all_held : (a b : Region) → holds a b ≡ true → (i j : ℤ) → contains b i j ≡ true → contains a i j ≡ true
all_held a b e i j t =
    let some : is_empty b ≡ false = not_empty b (cell_in b i j (lies b i j t)) in
    lying a i j (held_cell a b (within a b e some) i j (lies b i j t))

held_if_all : (a b : Region) → ((i j : ℤ) → contains b i j ≡ true → contains a i j ≡ true) → holds a b ≡ true
held_if_all a b all =
    elim (cases_Bool (is_empty b)) [
      | inl e ↦ holds_empty a b e
      | inr e ↦
          let first : Lies a b.x0 b.y0 = lies a b.x0 b.y0 (all b.x0 b.y0 (lying b b.x0 b.y0 (corner_lies b (has_cell b e)))) in
          let last : Lies a b.x1 b.y1 = lies a b.x1 b.y1 (all b.x1 b.y1 (lying b b.x1 b.y1 (last_corner_lies b (has_cell b e)))) in
          holds_within a b (record { west = first.west; east = last.east; north = first.north; south = last.south })
    ]

pub holds_cells : (a b : Region) (t : Bool) → t ≡ holds a b → IsTrue t ↔ ((i j : ℤ) → IsTrue (contains b i j) → IsTrue (contains a i j))
holds_cells a b t e =
    (λ (yes : IsTrue t). all_held a b (sym e ∙ yes), λ (all : (i j : ℤ) → contains b i j ≡ true → contains a i j ≡ true). e ∙ held_if_all a b all)

-- ---- the meet of two regions, before its spelling
unfoldable pub both : Region → Region → Region
both a b = record { x0 = int_max a.x0 b.x0; y0 = int_max a.y0 b.y0; x1 = int_min a.x1 b.x1; y1 = int_min a.y1 b.y1 }

pub meet_is : (a b : Region) → meet a b ≡ spelled (both a b)
unfolding meet both
meet_is a b = refl

both_lies : (a b : Region) (i j : ℤ) → Lies a i j → Lies b i j → Lies (both a b) i j
unfolding both
both_lies a b i j h k = record {
  west = grind (arith, ints);
  east = grind (arith, ints);
  north = grind (arith, ints);
  south = grind (arith, ints);
}

pub in_left : (a b : Region) → Within a (both a b)
unfolding both
in_left a b = record {
  west = grind (arith, ints);
  east = grind (arith, ints);
  north = grind (arith, ints);
  south = grind (arith, ints);
}

pub in_right : (a b : Region) → Within b (both a b)
unfolding both
in_right a b = record {
  west = grind (arith, ints);
  east = grind (arith, ints);
  north = grind (arith, ints);
  south = grind (arith, ints);
}

pub both_cells : (a b : Region) (i j : ℤ) → contains (both a b) i j ≡ (contains a i j && contains b i j)
both_cells a b i j =
    same_test (contains (both a b) i j) (contains a i j && contains b i j) (λ (t : contains (both a b) i j ≡ true). and_from (contains a i j) (contains b i j) (lying a i j (held_cell a (both a b) (in_left a b) i j (lies (both a b) i j t))) (lying b i j (held_cell b (both a b) (in_right a b) i j (lies (both a b) i j t)))) (λ (t : (contains a i j && contains b i j) ≡ true). let parts : (contains a i j ≡ true) × (contains b i j ≡ true) = and_parts (contains a i j) (contains b i j) t in lying (both a b) i j (both_lies a b i j (lies a i j parts.0) (lies b i j parts.1)))

pub meet_cells : (a b r : Region) → r ≡ meet a b → (i j : ℤ) → contains r i j ≡ (contains a i j && contains b i j)
meet_cells a b r e i j =
    ap (λ (q : Region). contains q i j) (e ∙ meet_is a b) ∙ spelled_cells (both a b) i j ∙ both_cells a b i j

inside_within : (n : ℕ) (a b : Region) → IsWithin n a → Within a b → HasCell b → IsWithin n b
inside_within n a b h w some = record {
  x0_low = omega (arith, ints);
  x0_high = omega (arith, ints);
  y0_low = omega (arith, ints);
  y0_high = omega (arith, ints);
  x1_low = omega (arith, ints);
  x1_high = omega (arith, ints);
  y1_low = omega (arith, ints);
  y1_high = omega (arith, ints);
}

-- a region that lies in a, as it is spelled, is within a's bounds
pub kept_within : (n : ℕ) (a b : Region) → 1 ≤ n → IsWithin n a → Within a b → IsWithin n (spelled b)
kept_within n a b least h w =
    spelled_by (IsWithin n) b (empty_within n least) (λ (some : HasCell b). inside_within n a b h w some)

pub kept_in : (a b : Region) → Within a b → holds a (spelled b) ≡ true
kept_in a b w =
    spelled_by (λ (q : Region). holds a q ≡ true) b (holds_empty a empty_region empty_is_empty) (λ (some : HasCell b). holds_within a b w)

pub meet_within : (n : ℕ) (a b r : Region) → 1 ≤ n → r ≡ meet a b → IsWithin n a → IsWithin n r
meet_within n a b r least e h = subst (IsWithin n) (sym (e ∙ meet_is a b)) (kept_within n a (both a b) least h (in_left a b))

pub meet_in_left : (a b r : Region) → r ≡ meet a b → holds a r ≡ true
meet_in_left a b r e = subst (λ (q : Region). holds a q ≡ true) (sym (e ∙ meet_is a b)) (kept_in a (both a b) (in_left a b))

pub meet_in_right : (a b r : Region) → r ≡ meet a b → holds b r ≡ true
meet_in_right a b r e = subst (λ (q : Region). holds b q ≡ true) (sym (e ∙ meet_is a b)) (kept_in b (both a b) (in_right a b))

-- ---- what the code computes
pub spans_is : (low high first last : ℤ) (t : Bool) → SFits w32 low → SFits w32 high → SFits w32 first → SFits w32 last → t ≡ (le_z (to_z w32 (of_z w32 low)) (to_z w32 (of_z w32 first)) && le_z (to_z w32 (of_z w32 last)) (to_z w32 (of_z w32 high))) → t ≡ (le_z low first && le_z last high)
spans_is low high first last t fl fh ff fa e =
    e ∙ ap₂ (λ (x y : Bool). x && y) (ap₂ le_z (read_back low fl) (read_back first ff)) (ap₂ le_z (read_back last fa) (read_back high fh))

pub contains_is : (r : Region) (i j : ℤ) (t : Bool) → t ≡ ((le_z r.x0 i && le_z i r.x1) && (le_z r.y0 j && le_z j r.y1)) → t ≡ contains r i j
unfolding contains
contains_is r i j t e = e

pub holds_is : (a b : Region) (t : Bool) → is_empty b ≡ false → t ≡ ((le_z a.x0 b.x0 && le_z b.x1 a.x1) && (le_z a.y0 b.y0 && le_z b.y1 a.y1)) → t ≡ holds a b
unfolding holds
holds_is a b t some e = rw some e

-- the second test decides where the first passed, and the first where it failed
pub second_test : (x y z : Bool) → true ≡ x → z ≡ y → z ≡ (x && y)
second_test x y z e f = subst (λ (v : Bool). z ≡ (v && y)) e f

pub first_test : (x y z : Bool) → z ≡ x → z ≡ false → z ≡ (x && y)
first_test x y z e f = f ∙ subst (λ (v : Bool). false ≡ (v && y)) (sym f ∙ e) refl

pub max_is : (a b r : ℤ) → SFits w32 a → SFits w32 b → SFits w32 r → r ≡ int_max (to_z w32 (of_z w32 a)) (to_z w32 (of_z w32 b)) → to_z w32 (of_z w32 r) ≡ int_max a b
max_is a b r fa fb fr e = read_back r fr ∙ e ∙ ap₂ int_max (read_back a fa) (read_back b fb)

pub min_is : (a b r : ℤ) → SFits w32 a → SFits w32 b → SFits w32 r → r ≡ int_min (to_z w32 (of_z w32 a)) (to_z w32 (of_z w32 b)) → to_z w32 (of_z w32 r) ≡ int_min a b
min_is a b r fa fb fr e = read_back r fr ∙ e ∙ ap₂ int_min (read_back a fa) (read_back b fb)
