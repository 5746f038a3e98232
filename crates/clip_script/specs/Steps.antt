-- What the lines of a play script say.
use Rattle.std.specs.Prelude.{ℕ, zero, suc, ◌-◌, ◌^◌, ℤ, pos, neg_ℤ, Option, Some, None, List, [], ◌∷◌, if◌then◌else◌, option_and_then, codes}
use Rattle.std.specs.Option.{option_map}
use Rattle.std.specs.Str.{bytes_eq}
use Rattle.mesh_model.specs.declared.shapes.HalfSpace.{HalfSpace}
use Rattle.number_words.specs.Numbers.{natural_of, whole_of}
use Rattle.plan_model.specs.declared.events.Event.{Event}
use Rattle.plan_model.specs.declared.events.Event.TheVariants.{Move, Claim, Finish, Publish, Begin, End}
use Rattle.clip_script.specs.Lines.{words, words_after}
use Rattle.clip_script.specs.declared.numbers.Pair.{Pair}
use Rattle.clip_script.specs.declared.numbers.Ranges.{Ranges}
use Rattle.clip_script.specs.declared.spaces.Group.{Group}
use Rattle.clip_script.specs.declared.step.Place.{Place}
use Rattle.clip_script.specs.declared.step.Step.{Step}
use Rattle.clip_script.specs.declared.step.Step.TheVariants.{Book, See, EndSeen}

-- the one word, as a number in a range
abbrev pub one_number : ℕ → ℕ → List (List ℕ) → Option ℕ
one_number low high (word ∷ []) = natural_of low high word
one_number low high _ = None

-- a number of a pass
abbrev pub pass_of : List (List ℕ) → Option ℕ
pass_of = one_number 0 15

-- a coordinate of a viewer
abbrev pub coordinate_of : List ℕ → Option ℤ
coordinate_of = whole_of (neg_ℤ (pos 4194304)) (pos 4194304)

-- the altitude behind a place: 0 where there is none
abbrev pub altitude_of : List (List ℕ) → Option ℕ
altitude_of [] = Some 0
altitude_of (word ∷ more) = one_number 0 1048576 (word ∷ more)

-- a viewer's place: `X Y`, at altitude 0, or `X Y A`
unfoldable pub place_of : List (List ℕ) → Option Place
place_of (x ∷ y ∷ altitude) =
    option_and_then (λ x. option_and_then (λ y. option_and_then (λ a.
    Some (record { x = x; y = y; a = a }))
    (altitude_of altitude)) (coordinate_of y)) (coordinate_of x)
place_of _ = None

-- two numbers in their ranges
abbrev pub two_numbers : Ranges → List (List ℕ) → Option Pair
two_numbers ranges [] = None
two_numbers ranges (word ∷ rest) =
    option_and_then (λ first. option_and_then (λ second. Some (record { first = first; second = second }))
    (one_number ranges.second.0 ranges.second.1 rest)) (natural_of ranges.first.0 ranges.first.1 word)

-- a factor and the last number of a half-space
abbrev pub factor_of : List ℕ → Option ℤ
factor_of = whole_of (neg_ℤ (pos (2 ^ 20))) (pos (2 ^ 20))

abbrev pub offset_of : List ℕ → Option ℤ
offset_of = whole_of (neg_ℤ (pos (2 ^ 40))) (pos (2 ^ 40))

-- a half-space, and the words behind it
pub record SpaceSaid : Type 0 where
  pub space : HalfSpace
  pub rest : List (List ℕ)

-- the half-space of the first four words `a b c d`
unfoldable pub space_of : List (List ℕ) → Option SpaceSaid
space_of (a ∷ b ∷ c ∷ d ∷ rest) =
    option_and_then (λ a. option_and_then (λ b. option_and_then (λ c. option_and_then (λ d.
    Some (record { space = record { a = a; b = b; c = c; d = d }; rest = rest }))
    (offset_of d)) (factor_of c)) (factor_of b)) (factor_of a)
space_of _ = None

-- the half-spaces of the words, which are groups `a b c d`: at most so many
unfoldable pub spaces_of : ℕ → List (List ℕ) → Option (List HalfSpace)
spaces_of most [] = Some []
spaces_of zero (word ∷ more) = None
spaces_of (suc most) (word ∷ more) =
    option_and_then (λ said. option_map (λ spaces. said.space ∷ spaces) (spaces_of most said.rest))
    (space_of (word ∷ more))

-- what the code's reader of a half-space found
abbrev pub space_said : Group → SpaceSaid
space_said group = record { space = group.space; rest = words_after group.rest.now }

-- an event of a pass, by the number of the pass
abbrev pub passed : Event → List (List ℕ) → Option Step
passed event rest = option_map (λ pass. Book pass event) (pass_of rest)

-- a move and a publication, which are taken as pass 0's
abbrev pub moved : List (List ℕ) → Option Step
moved rest = option_map (λ (place : Place). Book 0 (Move place.x place.y place.a)) (place_of rest)

abbrev pub published : ℕ → List (List ℕ) → Option Step
published levels rest = option_map (λ level. Book 0 (Publish level)) (one_number 0 (levels - 1) rest)

-- a view, and the end of a frame of which only a part is written
abbrev pub seen : List (List ℕ) → Option Step
seen rest = option_map See (spaces_of 6 rest)

abbrev pub end_seen : List (List ℕ) → Option Step
end_seen rest = option_map EndSeen (pass_of rest)

-- the step of a line with this first word and these behind it, in a script with this many levels
unfoldable pub step_named : ℕ → List ℕ → List (List ℕ) → Option Step
step_named levels name rest =
    if bytes_eq name (codes "claim") then passed Claim rest
    else if bytes_eq name (codes "finish") then passed Finish rest
    else if bytes_eq name (codes "move") then moved rest
    else if bytes_eq name (codes "publish") then published levels rest
    else if bytes_eq name (codes "begin") then passed Begin rest
    else if bytes_eq name (codes "end") then passed End rest
    else if bytes_eq name (codes "see") then seen rest
    else if bytes_eq name (codes "endseen") then end_seen rest
    else None

-- the same of all words of a line
abbrev pub step_words : ℕ → List (List ℕ) → Option Step
step_words levels [] = None
step_words levels (name ∷ rest) = step_named levels name rest

-- the step that a line says
unfoldable pub step_of : ℕ → List ℕ → Option Step
step_of levels line = step_words levels (words line)
