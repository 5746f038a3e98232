-- A block's bytes stand for one list of heights, or have one fault.
use Rattle.std.proofs.Common.{◌≡◌, ◌⊎◌, inl, inr, Bool, true, false, ℕ, ◌-◌, ◌*◌, ◌/◌, ◌%◌, ◌<◌, ℤ, pos, negsuc, ◌<ℤ◌, FitsSigned, List, [], ◌∷◌, map, filter, length, refl, ap, ap₂, sym, ◌∙◌, subst, ⊎_elim, arith, length-append}
use Rattle.std.specs.Int.{w16}
use Rattle.std.specs.List.{flat_map}
use Rattle.std.proofs.lemmas.Int.{ints}
use Rattle.std.proofs.lemmas.Bool.{cases_Bool, cases_order}
use Rattle.std.proofs.lemmas.List.{length-map}
use Rattle.clip_regions.specs.declared.region.Region.{Region}
use Rattle.clip_regions.specs.Regions.{contains, columns, rows, area, numbers_from}
use Rattle.four_point.specs.Steps.{value_of, brought, IsNear}
use Rattle.rice_residuals.specs.Word.{IsWordOf}
use Rattle.rice_residuals.specs.Faults.{HasFault}
use Rattle.rice_residuals.specs.declared.fault.BlockFault.{BlockFault}
use Rattle.rice_residuals.specs.declared.fault.BlockFault.TheVariants as word
use Rattle.store_model.specs.Blocks.{is_coded, coded_values, code_count, signed_bytes, plain_bytes, IsCoding, IsWordBlock}
use Rattle.store_model.specs.Faults.{HasPlainFault, HasBlockFault, ComesBefore, HasValueOut}
use Rattle.store_laws.proofs.Members.{in_filter, flat_same, flat_length_same, map_same}
use Rattle.store_laws.proofs.Cells.{column_member, row_member}
use Rattle.clip_regions.proofs.Cells.{lies}
use Rattle.store_model.proofs.Stores.{numbers_length}

-- no words of one count are words of two lists, and a word has no fault
abbrev pub OneList : Type 0
OneList = (bytes : List ℕ) (xs ys : List ℤ) → length xs ≡ length ys → IsWordOf xs bytes → IsWordOf ys bytes → xs ≡ ys

abbrev pub WordHasNoFault : Type 0
WordHasNoFault = (bytes : List ℕ) (xs : List ℤ) (fault : BlockFault) → IsWordOf xs bytes → HasFault (length xs) bytes fault → ⊥

abbrev pub OneWordFault : Type 0
OneWordFault = (bytes : List ℕ) (count : ℕ) (fault other : BlockFault) → HasFault count bytes fault → HasFault count bytes other → fault ≡ other

-- ---- codes
row_length : (f g : ℤ → ℤ → ℤ) (region : Region) (j : ℤ) → length (map (λ i. f i j) (filter (λ i. is_coded i j) (numbers_from region.x0 (columns region)))) ≡ length (map (λ i. g i j) (filter (λ i. is_coded i j) (numbers_from region.x0 (columns region))))
row_length f g region j =
    let coded = filter (λ i. is_coded i j) (numbers_from region.x0 (columns region)) in
    length-map coded (λ i. f i j) ∙ sym (length-map coded (λ i. g i j))

pub values_length : (f g : ℤ → ℤ → ℤ) (region : Region) → length (coded_values f region) ≡ length (coded_values g region)
unfolding coded_values
values_length f g region =
    flat_length_same (λ j. map (λ i. f i j) (filter (λ i. is_coded i j) (numbers_from region.x0 (columns region)))) (λ j. map (λ i. g i j) (filter (λ i. is_coded i j) (numbers_from region.x0 (columns region)))) (numbers_from region.y0 (rows region)) (row_length f g region)

values_same : (f g : ℤ → ℤ → ℤ) (region : Region) (i j : ℤ) → coded_values f region ≡ coded_values g region → contains region i j ≡ true → is_coded i j ≡ true → f i j ≡ g i j
unfolding coded_values
values_same f g region i j e inside coded =
    let at = lies region i j inside in
    let across = numbers_from region.x0 (columns region) in
    let row = flat_same (λ b. map (λ a. f a b) (filter (λ a. is_coded a b) across)) (λ b. map (λ a. g a b) (filter (λ a. is_coded a b) across)) (numbers_from region.y0 (rows region)) (row_length f g region) e j (row_member region i j at) in
    map_same (λ a. f a j) (λ a. g a j) (filter (λ a. is_coded a j) across) row i (in_filter (λ a. is_coded a j) across i (column_member region i j at) coded)

pub codes_same : OneList → (f g : ℤ → ℤ → ℤ) (region : Region) (bytes : List ℕ) (i j : ℤ) → IsCoding f region bytes → IsCoding g region bytes → contains region i j ≡ true → f i j ≡ g i j
codes_same one f g region bytes i j a b inside =
    ⊎_elim
    (λ (e : is_coded i j ≡ true). values_same f g region i j (one bytes (coded_values f region) (coded_values g region) (values_length f g region) a.word b.word) inside e)
    (λ (e : is_coded i j ≡ false). a.even i j e ∙ sym (b.even i j e))
    (cases_Bool (is_coded i j))

value_same : OneList → (coarser other f g : ℤ → ℤ → ℤ) (step : ℕ) (region : Region) (bytes : List ℕ) (i j : ℤ) → coarser ≡ other → IsCoding f region bytes → IsCoding g region bytes → contains region i j ≡ true → value_of coarser step i j (f i j) ≡ value_of other step i j (g i j)
value_same one coarser other f g step region bytes i j e a b inside =
    ap (λ (c : ℤ → ℤ → ℤ). value_of c step i j (f i j)) e ∙ ap (value_of other step i j) (codes_same one f g region bytes i j a b inside)

pub word_heights_same : OneList → (coarser other f g : ℤ → ℤ → ℤ) (step : ℕ) (region : Region) (bytes : List ℕ) (i j : ℤ) → coarser ≡ other → IsWordBlock coarser f step region bytes → IsWordBlock other g step region bytes → contains region i j ≡ true → f i j ≡ g i j
word_heights_same one coarser other f g step region bytes i j e a b inside =
    a.restored i j inside ∙ ap brought (value_same one coarser other a.code b.code step region bytes i j e a.coding b.coding inside) ∙ sym (b.restored i j inside)

pub coding_no_fault : WordHasNoFault → (f : ℤ → ℤ → ℤ) (region : Region) (bytes : List ℕ) (fault : BlockFault) → IsCoding f region bytes → HasFault (code_count region) bytes fault → ⊥
unfolding code_count
coding_no_fault none f region bytes fault a bad =
    none bytes (coded_values f region) fault a.word (subst (λ (n : ℕ). HasFault n bytes fault) (values_length (λ i j. pos 0) f region) bad)

pub word_block_no_out : OneList → (coarser other f : ℤ → ℤ → ℤ) (step : ℕ) (region : Region) (bytes : List ℕ) (i j value : ℤ) → coarser ≡ other → IsWordBlock other f step region bytes → HasValueOut coarser step region bytes i j value → ⊥
word_block_no_out one coarser other f step region bytes i j value e a out =
    let inside = out.out.inside in
    out.out.far (subst (IsNear step) (sym (out.out.value_is ∙ value_same one coarser other out.code a.code step region bytes i j e out.coding a.coding inside)) (a.near i j inside))

-- ---- the first value that is out of range
order : (a b : ℤ) → (a ≡ b) ⊎ ((a <ℤ b) ⊎ (b <ℤ a))
order (pos a) (pos b) =
    ⊎_elim
    (λ (e : a ≡ b). inl (ap pos e))
    (λ (u : (a < b) ⊎ (b < a)). ⊎_elim (λ (l : a < b). inr (inl (omega (arith, ints)))) (λ (l : b < a). inr (inr (omega (arith, ints)))) u)
    (cases_order a b)
order (pos a) (negsuc b) = inr (inr (omega (arith, ints)))
order (negsuc a) (pos b) = inr (inl (omega (arith, ints)))
order (negsuc a) (negsuc b) =
    ⊎_elim
    (λ (e : a ≡ b). inl (ap negsuc e))
    (λ (u : (a < b) ⊎ (b < a)). ⊎_elim (λ (l : a < b). inr (inr (omega (arith, ints)))) (λ (l : b < a). inr (inl (omega (arith, ints)))) u)
    (cases_order a b)

out_first : OneList → (coarser other : ℤ → ℤ → ℤ) (step : ℕ) (region : Region) (bytes : List ℕ) (i j value a b second : ℤ) → coarser ≡ other → HasValueOut coarser step region bytes i j value → HasValueOut other step region bytes a b second → ComesBefore i j a b → ⊥
out_first one coarser other step region bytes i j value a b second e out later before =
    let inside = out.out.inside in
    out.out.far
    (subst (IsNear step) (sym (out.out.value_is ∙ value_same one coarser other out.code later.code step region bytes i j e out.coding later.coding inside)) (later.out.first i j inside before))

pub one_out : OneList → (coarser other : ℤ → ℤ → ℤ) (step : ℕ) (region : Region) (bytes : List ℕ) (i j value a b second : ℤ) → coarser ≡ other → HasValueOut coarser step region bytes i j value → HasValueOut other step region bytes a b second → (i ≡ a) × (j ≡ b) × (value ≡ second)
one_out one coarser other step region bytes i j value a b second e out later =
    ⊎_elim
    (λ (row : j ≡ b).
    ⊎_elim
    (λ (column : i ≡ a).
    let inside = out.out.inside in
    let same : value ≡ second =
    out.out.value_is
    ∙ value_same one coarser other out.code later.code step region bytes i j e out.coding later.coding inside
    ∙ ap₂ (λ (x y : ℤ). value_of other step x y (later.code x y)) column row
    ∙ sym later.out.value_is in (column, row, same))
    (λ (u : (i <ℤ a) ⊎ (a <ℤ i)).
    ⊎_elim
    (λ (l : i <ℤ a). absurd (out_first one coarser other step region bytes i j value a b second e out later (inr (row, l))))
    (λ (l : a <ℤ i). absurd (out_first one other coarser step region bytes a b second i j value (sym e) later out (inr (sym row, l))))
    u)
    (order i a))
    (λ (u : (j <ℤ b) ⊎ (b <ℤ j)).
    ⊎_elim
    (λ (l : j <ℤ b). absurd (out_first one coarser other step region bytes i j value a b second e out later (inl l)))
    (λ (l : b <ℤ j). absurd (out_first one other coarser step region bytes a b second i j value (sym e) later out (inl l)))
    u)
    (order j b)

-- ---- heights as they are
signed_length : (a b : ℤ) → length (signed_bytes a) ≡ length (signed_bytes b)
unfolding signed_bytes
signed_length (pos a) (pos b) = refl
signed_length (pos a) (negsuc b) = refl
signed_length (negsuc a) (pos b) = refl
signed_length (negsuc a) (negsuc b) = refl

signed_two : (a : ℤ) → length (signed_bytes a) ≡ 2
unfolding signed_bytes
signed_two (pos a) = refl
signed_two (negsuc a) = refl

signed_same : (a b : ℤ) → FitsSigned w16 a → FitsSigned w16 b → signed_bytes a ≡ signed_bytes b → a ≡ b
unfolding signed_bytes
signed_same (pos a) (pos b) p q e =
    let high : a / 256 ≡ b / 256 = cc in
    let low : a % 256 ≡ b % 256 = cc in
    ap pos (omega arith)
signed_same (pos a) (negsuc b) p q e =
    let high : a / 256 ≡ 255 - b / 256 = cc in
    absurd (omega (arith, ints))
signed_same (negsuc a) (pos b) p q e =
    let high : 255 - a / 256 ≡ b / 256 = cc in
    absurd (omega (arith, ints))
signed_same (negsuc a) (negsuc b) p q e =
    let high : 255 - a / 256 ≡ 255 - b / 256 = cc in
    let low : 255 - a % 256 ≡ 255 - b % 256 = cc in
    let few : a < 32768 = omega (arith, ints) in
    let few' : b < 32768 = omega (arith, ints) in
    ap negsuc (omega arith)

plain_row_length : (f g : ℤ → ℤ → ℤ) (region : Region) (j : ℤ) → length (flat_map (λ i. signed_bytes (f i j)) (numbers_from region.x0 (columns region))) ≡ length (flat_map (λ i. signed_bytes (g i j)) (numbers_from region.x0 (columns region)))
plain_row_length f g region j =
    flat_length_same (λ i. signed_bytes (f i j)) (λ i. signed_bytes (g i j)) (numbers_from region.x0 (columns region)) (λ i. signed_length (f i j) (g i j))

pub plain_heights_same : (f g : ℤ → ℤ → ℤ) (region : Region) (i j : ℤ) → ((a b : ℤ) → FitsSigned w16 (f a b)) → ((a b : ℤ) → FitsSigned w16 (g a b)) → plain_bytes f region ≡ plain_bytes g region → contains region i j ≡ true → f i j ≡ g i j
unfolding plain_bytes
plain_heights_same f g region i j p q e inside =
    let at = lies region i j inside in
    let across = numbers_from region.x0 (columns region) in
    let row = flat_same (λ b. flat_map (λ a. signed_bytes (f a b)) across) (λ b. flat_map (λ a. signed_bytes (g a b)) across) (numbers_from region.y0 (rows region)) (plain_row_length f g region) e j (row_member region i j at) in
    let cell = flat_same (λ a. signed_bytes (f a j)) (λ a. signed_bytes (g a j)) across (λ a. signed_length (f a j) (g a j)) row i (column_member region i j at) in
    signed_same (f i j) (g i j) (p i j) (q i j) cell

flat_even : {A : Type 0} (f : A → List ℕ) (m : ℕ) (xs : List A) → ((x : A) → length (f x) ≡ m) → length (flat_map f xs) ≡ length xs * m
flat_even f m [] h = omega arith
flat_even f m (x ∷ xs) h =
    let first = h x in
    let rest : length (flat_map f xs) ≡ length xs * m = flat_even f m xs h in
    omega (arith, length-append (f x) (flat_map f xs))

turned : (c r : ℕ) → r * (c * 2) ≡ 2 * (c * r)
turned c r = grind arith

pub plain_length : (f : ℤ → ℤ → ℤ) (region : Region) → length (plain_bytes f region) ≡ 2 * area region
unfolding plain_bytes area
plain_length f region =
    let across = numbers_from region.x0 (columns region) in
    let row : (j : ℤ) → length (flat_map (λ i. signed_bytes (f i j)) across) ≡ columns region * 2 = λ j. flat_even (λ i. signed_bytes (f i j)) 2 across (λ i. signed_two (f i j)) ∙ ap (λ (n : ℕ). n * 2) (numbers_length region.x0 (columns region)) in
    flat_even (λ j. flat_map (λ i. signed_bytes (f i j)) across) (columns region * 2) (numbers_from region.y0 (rows region)) row
    ∙ ap (λ (n : ℕ). n * (columns region * 2)) (numbers_length region.y0 (rows region))
    ∙ turned (columns region) (rows region)

pub plain_no_fault : (cells : ℕ) (bytes : List ℕ) (fault : BlockFault) → length bytes ≡ 2 * cells → HasPlainFault cells bytes fault → ⊥
plain_no_fault cells bytes (word.CutShort bit) e bad = (let few = bad.1 in omega arith)
plain_no_fault cells bytes (word.LongForm bit) e bad = bad
plain_no_fault cells bytes (word.TooWide bit) e bad = bad
plain_no_fault cells bytes (word.BadPadding bit) e bad = bad
plain_no_fault cells bytes (word.Excess n) e bad = (let some = bad.0 in let more = bad.1 in omega arith)

one_plain_fault : (cells : ℕ) (bytes : List ℕ) (a b : BlockFault) → HasPlainFault cells bytes a → HasPlainFault cells bytes b → a ≡ b
one_plain_fault cells bytes (word.CutShort x) (word.CutShort y) p q = ap word.CutShort (p.0 ∙ sym q.0)
one_plain_fault cells bytes (word.CutShort x) (word.LongForm y) p q = absurd q
one_plain_fault cells bytes (word.CutShort x) (word.TooWide y) p q = absurd q
one_plain_fault cells bytes (word.CutShort x) (word.BadPadding y) p q = absurd q
one_plain_fault cells bytes (word.CutShort x) (word.Excess y) p q = (let few = p.1 in let more = q.1 in absurd (omega arith))
one_plain_fault cells bytes (word.LongForm x) b p q = absurd p
one_plain_fault cells bytes (word.TooWide x) b p q = absurd p
one_plain_fault cells bytes (word.BadPadding x) b p q = absurd p
one_plain_fault cells bytes (word.Excess x) (word.CutShort y) p q = (let few = q.1 in let more = p.1 in absurd (omega arith))
one_plain_fault cells bytes (word.Excess x) (word.LongForm y) p q = absurd q
one_plain_fault cells bytes (word.Excess x) (word.TooWide y) p q = absurd q
one_plain_fault cells bytes (word.Excess x) (word.BadPadding y) p q = absurd q
one_plain_fault cells bytes (word.Excess x) (word.Excess y) p q = (let one = p.1 in let two = q.1 in ap word.Excess (omega arith))

pub one_block_fault : OneWordFault → (top : Bool) (region : Region) (bytes : List ℕ) (a b : BlockFault) → HasBlockFault top region bytes a → HasBlockFault top region bytes b → a ≡ b
one_block_fault one true region bytes a b p q = one_plain_fault (area region) bytes a b p q
one_block_fault one false region bytes a b p q = one bytes (code_count region) a b p q
