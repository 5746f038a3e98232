-- The words of `frame`.
use Rattle.std.specs.Prelude.{ℕ, ◌≤◌, ℤ, pos, neg_ℤ, ◌≤ℤ◌, Option, Some, None, List, ◌∷◌, ◌&&◌, if◌then◌else◌, option_and_then, length, map, string_bytes}
use Rattle.clipmap_words.specs.Names.{is_name, is_inputs}
use Rattle.number_words.specs.Numbers.{natural_of}
use Rattle.clipmap_words.specs.Numbers.{coordinate_of}
use Rattle.clipmap_words.specs.declared.frame.FrameWords.{FrameWords}

-- the words `frame K L X Y OUT INPUT+`, read
pub record FrameView : Type 0 where
  pub k : ℕ
  pub levels : ℕ
  pub x : ℤ
  pub y : ℤ
  pub out : List ℕ
  pub inputs : List (List ℕ)

-- the numbers of a `frame` are in range, and it has no more than 64 inputs
pub record IsFrameInRange (frame : FrameView) : Type 0 where
  pub k_low : 4 ≤ frame.k
  pub k_high : frame.k ≤ 8
  pub levels_low : 1 ≤ frame.levels
  pub levels_high : frame.levels ≤ 12
  pub x_low : neg_ℤ (pos 4194304) ≤ℤ frame.x
  pub x_high : frame.x ≤ℤ pos 4194304
  pub y_low : neg_ℤ (pos 4194304) ≤ℤ frame.y
  pub y_high : frame.y ≤ℤ pos 4194304
  pub few_inputs : length frame.inputs ≤ 64

-- the names of a `frame` with these numbers, where they are names and inputs
abbrev pub frame_with : ℕ → ℕ → ℤ → ℤ → List ℕ → List (List ℕ) → Option FrameView
frame_with k levels x y out inputs =
    if is_name out && is_inputs inputs
    then Some (record { k = k; levels = levels; x = x; y = y; out = out; inputs = inputs })
    else None

-- the words after `frame`, where they are well spelled and in range
unfoldable pub frame_of : List (List ℕ) → Option FrameView
frame_of (k ∷ levels ∷ x ∷ y ∷ out ∷ inputs) =
    option_and_then (λ k. option_and_then (λ levels. option_and_then (λ x. option_and_then (λ y.
    frame_with k levels x y out inputs)
    (coordinate_of y)) (coordinate_of x)) (natural_of 1 12 levels)) (natural_of 4 8 k)
frame_of _ = None

-- the words of a `frame`, as their numbers, names and inputs
abbrev pub frame_view : FrameWords → FrameView
frame_view frame = record {
  k = frame.k;
  levels = frame.levels;
  x = frame.x;
  y = frame.y;
  out = frame.out.now;
  inputs = map string_bytes frame.inputs.now;
}
