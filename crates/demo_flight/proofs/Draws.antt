-- One draw more, one move more, and what stands in the lattice.
use Rattle.std.proofs.Common.{◌≡◌, ◌≤◌, ◌<◌, ℕ, zero, ℤ, pos, All, flat_map, subst, append-nil, append_assoc, map-id, ◌+◌, ◌-◌, ◌*◌, ◌%◌, suc, refl, arith, length, map, List, [], ◌∷◌, ◌++◌, ◌∙◌, ap, sym}
use Rattle.std.proofs.Math.Nat.{min-le_left, mul-le-mul_left}
use Rattle.std.proofs.lemmas.Int.{ints}
use Rattle.std.proofs.lemmas.Grind.{flat_map-append}
use Rattle.std.proofs.lemmas.List.Elements.{All-append, All-cons, All-nil}
use Rattle.plan_model.specs.Limits.{IsViewed}
use Rattle.plan_model.specs.declared.events.FlyLine.TheVariants.{Move, Frame, Settle}
use Rattle.clip_script.specs.Ranges.{IsFlown}
use Rattle.std.specs.Prelude.{slice_index_or}
use Rattle.std.specs.List.{range_with_len}
use Rattle.std.proofs.lemmas.List.FromFn.{length-map-range_with_len, map-range_with_len_more, get_or-map-range_with_len}
use Rattle.demo_flight.specs.Generator.{draw, high_bits, next_state, state_after}
use Rattle.demo_flight.specs.Demo.{column_after, first_samples, lattice_height, leg, leg_to, lines_after, moved, row_after, sample}
use Rattle.demo_flight.specs.Parts.{lattice_draw, lattice_heights}

pub one_draw : (seed number : ℕ) → state_after seed (number + 1) ≡ next_state (state_after seed number)
unfolding state_after
one_draw seed number = let e : number + 1 ≡ suc number = omega arith in ap (state_after seed) e

pub first_state : (seed : ℕ) → state_after seed 0 ≡ seed
unfolding state_after
first_state seed = refl

pub one_column : (seed moves : ℕ) → column_after seed (moves + 1) ≡ moved seed (2 * moves) (column_after seed moves)
unfolding column_after
one_column seed moves = let e : moves + 1 ≡ suc moves = omega arith in ap (column_after seed) e

pub one_row : (seed moves : ℕ) → row_after seed (moves + 1) ≡ moved seed (2 * moves + 1) (row_after seed moves)
unfolding row_after
one_row seed moves = let e : moves + 1 ≡ suc moves = omega arith in ap (row_after seed) e

pub lattice_size : (seed : ℕ) → length (lattice_heights seed) ≡ 676
unfolding lattice_heights
lattice_size seed = length-map-range_with_len (lattice_draw seed) 0 676

pub lattice_place : (seed column row : ℕ) → column < 26 → row < 26 → slice_index_or (lattice_heights seed) (26 * row + column) 0 ≡ lattice_height seed column row
unfolding lattice_heights lattice_height lattice_draw
lattice_place seed column row c r =
    get_or-map-range_with_len (lattice_draw seed) 0 676 (26 * row + column) (26 * row + column) 0 (omega arith) (omega arith)

pub low : (seed column row : ℕ) → lattice_height seed column row ≤ 2000
unfolding lattice_height draw
low seed column row =
    let b : high_bits (next_state (state_after seed (26 * row + column))) % 2001 < 2001 = omega arith in
    omega arith

pub mean_is_low : (part first second most : ℕ) → part ≤ 48 → first ≤ most → second ≤ most → (48 - part) * first + part * second ≤ 48 * most
mean_is_low part first second most p f s =
    let a : (48 - part) * first ≤ (48 - part) * most = mul-le-mul_left (48 - part) f in
    let b : part * second ≤ part * most = mul-le-mul_left part s in
    let w : (48 - part) + part ≡ 48 = omega arith in
    let e : ((48 - part) + part) * most ≡ 48 * most = ap (λ n. n * most) w in
    grind arith

-- a list of the values up to a number, and the value there
pub one_more : {X : Type 0} (f : ℕ → X) (n : ℕ) (xs ys : List X) (x : X) → xs ≡ map f (range_with_len 0 n) → ys ≡ xs ++ x ∷ [] → x ≡ f n → ys ≡ map f (range_with_len 0 (n + 1))
one_more f n xs ys x old new value =
    let more = map-range_with_len_more f 0 n n (omega arith) in
    new ∙ ap (λ zs. zs ++ x ∷ []) old ∙ ap (λ z. map f (range_with_len 0 n) ++ z ∷ []) value ∙ sym more

pub one_sample : (seed place : ℕ) (xs ys : List ℤ) (x : ℤ) → xs ≡ first_samples seed place → ys ≡ xs ++ x ∷ [] → x ≡ sample seed place → ys ≡ first_samples seed (place + 1)
unfolding first_samples
one_sample seed place xs ys x old new value = one_more (sample seed) place xs ys x old new value

pub no_sample : (seed : ℕ) → [] ≡ first_samples seed 0
unfolding first_samples
no_sample seed = refl

pub samples_are : (seed count : ℕ) → length (first_samples seed count) ≡ count
unfolding first_samples
samples_are seed count = length-map-range_with_len (sample seed) 0 count

-- ---- the flight
pub no_move : (seed : ℕ) → Move (pos 600) (pos 600) 0 ∷ Settle ∷ Frame ∷ [] ≡ lines_after seed 0
unfolding lines_after
no_move seed = refl

pub one_move : (seed moves : ℕ) → lines_after seed (moves + 1) ≡ lines_after seed moves ++ leg seed moves
unfolding lines_after
one_move seed moves =
    let start = Move (pos 600) (pos 600) 0 ∷ Settle ∷ Frame ∷ [] in
    let more = map-range_with_len_more (λ n. n) 0 moves moves (omega arith) in
    let range : range_with_len 0 (moves + 1) ≡ range_with_len 0 moves ++ moves ∷ [] =
    sym (map-id (range_with_len 0 (moves + 1))) ∙ more ∙ ap (λ xs. xs ++ moves ∷ []) (map-id (range_with_len 0 moves)) in
    ap (λ xs. start ++ flat_map (leg seed) xs) range
    ∙ ap (λ xs. start ++ xs) (flat_map-append (leg seed) (range_with_len 0 moves) (moves ∷ []) ∙ ap (λ xs. flat_map (leg seed) (range_with_len 0 moves) ++ xs) (append-nil (leg seed moves)))
    ∙ sym (append_assoc start (flat_map (leg seed) (range_with_len 0 moves)) (leg seed moves))

pub start_column : (seed : ℕ) → 600 ≡ column_after seed 0
unfolding column_after
start_column seed = refl

pub start_row : (seed : ℕ) → 600 ≡ row_after seed 0
unfolding row_after
start_row seed = refl

stays : (seed number at : ℕ) → moved seed number at ≤ 1200
unfolding moved
stays seed number at = min-le_left 1200 (at + draw seed (1443077 + number) 65 - 32)

near : (n : ℕ) → n ≤ 1200 → IsViewed (pos n)
near n small = record { low = omega (arith, ints); high = omega (arith, ints) }

leg_is_flown : (seed moves : ℕ) → All IsFlown (leg seed moves)
unfolding leg leg_to
leg_is_flown seed moves =
    let column = subst (λ n. n ≤ 1200) (sym (one_column seed moves)) (stays seed (2 * moves) (column_after seed moves)) in
    let row = subst (λ n. n ≤ 1200) (sym (one_row seed moves)) (stays seed (2 * moves + 1) (row_after seed moves)) in
    let x = column_after seed (moves + 1) in
    let y = row_after seed (moves + 1) in
    All-cons IsFlown (Move (pos x) (pos y) 0) (Frame ∷ Settle ∷ []) (record { column = near x column; row = near y row; altitude = omega arith })
    (All-cons IsFlown Frame (Settle ∷ []) tt (All-cons IsFlown Settle [] tt (All-nil IsFlown)))

pub lines_are_flown : (seed moves : ℕ) → All IsFlown (lines_after seed moves)
lines_are_flown seed zero =
    subst (All IsFlown) (no_move seed)
    (All-cons IsFlown (Move (pos 600) (pos 600) 0) (Settle ∷ Frame ∷ []) (record { column = near 600 (omega arith); row = near 600 (omega arith); altitude = omega arith })
    (All-cons IsFlown Settle (Frame ∷ []) tt (All-cons IsFlown Frame [] tt (All-nil IsFlown))))
lines_are_flown seed (suc moves) =
    let e : moves + 1 ≡ suc moves = omega arith in
    subst (λ n. All IsFlown (lines_after seed n)) e
    (subst (All IsFlown) (sym (one_move seed moves)) (All-append IsFlown (lines_after seed moves) (leg seed moves) (lines_are_flown seed moves) (leg_is_flown seed moves)))
