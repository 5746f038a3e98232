-- The words of `demo`.
use Rattle.std.specs.Prelude.{ℕ, ◌-◌, ◌^◌, Option, None, List, [], ◌∷◌, option_map}
use Rattle.number_words.specs.Numbers.{natural_of}
use Rattle.clipmap_words.specs.declared.demo.DemoWords.{DemoWords}

-- the words `demo SEED`, read
pub record DemoView : Type 0 where
  pub seed : ℕ

-- a demo of a seed
abbrev pub with_seed : ℕ → DemoView
with_seed seed = record { seed = seed }

-- the words after `demo`, where they are one number of 64 bits
unfoldable pub demo_of : List (List ℕ) → Option DemoView
demo_of (seed ∷ []) = option_map with_seed (natural_of 0 (2 ^ 64 - 1) seed)
demo_of _ = None

-- the word of a `demo`, as a number
abbrev pub demo_view : DemoWords → DemoView
demo_view demo = record { seed = demo.seed }
