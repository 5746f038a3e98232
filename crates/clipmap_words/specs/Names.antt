-- The names in words: of files to write, and of inputs.
use Rattle.std.specs.Prelude.{ℕ, Bool, List, ◌&&◌, ◌||◌, not, nat_le, ◌==◌, length, drop, ◌-◌, codes}
use Rattle.std.specs.List.{list_all, list_any}
use Rattle.std.specs.Str.{str_eq_ignore_ascii_case}

-- 1 to 200 bytes without a zero byte
abbrev pub is_name : List ℕ → Bool
is_name word = nat_le 1 (length word) && nat_le (length word) 200 && list_all (λ b. not (b == 0)) word

-- the name of a store: one that ends in `.gct`, in any case
abbrev pub is_store : List ℕ → Bool
is_store word = str_eq_ignore_ascii_case (drop (length word - 4) word) (codes ".gct")

-- one store, or 1 to 64 names of which none is a store's
abbrev pub is_inputs : List (List ℕ) → Bool
is_inputs words =
    nat_le 1 (length words) && nat_le (length words) 64 && list_all is_name words
    && (length words == 1 || not (list_any is_store words))
