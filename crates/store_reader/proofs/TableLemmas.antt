-- One more row in a table.
use Rattle.std.proofs.Common.{◌≡◌, inl, inr, ℕ, ◌+◌, ◌-◌, ◌*◌, ◌<◌, ◌≤◌, ℤ, pos, List, ◌++◌, replicate, length, get_or, ap, sym, ◌∙◌, subst, ⊎_elim, arith}
use Rattle.std.proofs.lemmas.Bool.{cases_lt}
use Rattle.std.proofs.lemmas.List.{length-replicate, get_or_append_left, get_or-append_right}
use Rattle.std.proofs.Math.Nat.{mul-le-mul_right}
use Rattle.store_reader.specs.declared.table.Span.{Span}
use Rattle.store_reader.specs.Tables.{IsRowIn, IsKeptBeside, place_in, AreRowsIn, IsKeptOutside, behind_cells}

-- a place of an earlier row comes before a row
earlier : (columns n a b : ℕ) (span : Span) → span.x0 + span.width ≤ columns → a < span.width → b < n → place_in columns span a b < (span.y0 + n) * columns + span.x0
earlier columns n a b span wide across down =
    let room : (span.y0 + b + 1) * columns ≤ (span.y0 + n) * columns = mul-le-mul_right columns (omega arith) in
    let parts : (span.y0 + b + 1) * columns ≡ (span.y0 + b) * columns + columns = grind arith in
    omega arith

pub rows_more : (n columns at : ℕ) (span : Span) (heights table new : List ℤ) → span.x0 + span.width ≤ columns → at ≡ (span.y0 + n) * columns + span.x0 → IsRowIn span.width heights (n * span.width) at new → IsKeptBeside span.width at table new → AreRowsIn n columns span heights table → AreRowsIn (n + 1) columns span heights new
rows_more n columns at span heights table new wide e row kept before a b across down =
    ⊎_elim
    (λ (l : b < n).
    let first = earlier columns n a b span wide across l in
    kept (place_in columns span a b) (inl (omega arith)) ∙ before a b across l)
    (λ (l : n ≤ b).
    let same : b ≡ n = omega arith in
    let place : (span.y0 + n) * columns + (span.x0 + a) ≡ at + a = omega arith in
    subst (λ (m : ℕ). get_or new (place_in columns span a m) (pos 0) ≡ get_or heights (m * span.width + a) (pos 0)) (sym same)
    (ap (λ (m : ℕ). get_or new m (pos 0)) place ∙ row a across))
    (cases_lt b n)

pub kept_more : (n columns at : ℕ) (span : Span) (old table new : List ℤ) → at ≡ (span.y0 + n) * columns + span.x0 → IsKeptBeside span.width at table new → IsKeptOutside n columns span old table → IsKeptOutside (n + 1) columns span old new
kept_more n columns at span old table new e kept before x outside =
    let same : get_or table x (pos 0) ≡ get_or old x (pos 0) = before x (λ a b l m. outside a b l (omega arith)) in
    ⊎_elim
    (λ (l : x < at). kept x (inl l) ∙ same)
    (λ (l : at ≤ x).
    ⊎_elim
    (λ (inside : x < at + span.width).
    let place : x ≡ place_in columns span (x - at) n = omega arith in
    absurd (outside (x - at) n (omega arith) (omega arith) place))
    (λ (past : at + span.width ≤ x). kept x (inr past) ∙ same)
    (cases_lt x (at + span.width)))
    (cases_lt x at)

-- ---- a table whose first rows are left out
-- the span as it lies in such a table
abbrev pub below_top : Span → ℕ → Span
below_top span top = record { x0 = span.x0; y0 = span.y0 - top; width = span.width; rows = span.rows }

place_below : (columns top a b : ℕ) (span : Span) → top ≤ span.y0 → place_in columns span a b ≡ top * columns + place_in columns (below_top span top) a b
place_below columns top a b span h =
    let row : span.y0 + b ≡ top + (span.y0 - top + b) = omega arith in
    let parts : (top + (span.y0 - top + b)) * columns ≡ top * columns + (span.y0 - top + b) * columns = grind arith in
    let all : (span.y0 + b) * columns ≡ top * columns + (span.y0 - top + b) * columns = ap (λ (n : ℕ). n * columns) row ∙ parts in
    omega arith

pub rows_behind : (columns top : ℕ) (span : Span) (heights table : List ℤ) → top ≤ span.y0 → AreRowsIn span.rows columns (below_top span top) heights table → AreRowsIn span.rows columns span heights (behind_cells (top * columns) table)
rows_behind columns top span heights table h rows a b l m =
    let place = place_below columns top a b span h in
    let n = top * columns in
    let back : place_in columns span a b - n ≡ place_in columns (below_top span top) a b = omega arith in
    get_or-append_right (replicate n (pos 0)) table n (place_in columns span a b) (pos 0) (length-replicate n (pos 0)) (omega arith)
    ∙ ap (λ (x : ℕ). get_or table x (pos 0)) back
    ∙ rows a b l m

pub kept_behind : (columns top : ℕ) (span : Span) (old new : List ℤ) → top ≤ span.y0 → IsKeptOutside span.rows columns (below_top span top) old new → IsKeptOutside span.rows columns span (behind_cells (top * columns) old) (behind_cells (top * columns) new)
kept_behind columns top span old new h kept x outside =
    let n = top * columns in
    let zeros = replicate n (pos 0) in
    let size = length-replicate n (pos 0) in
    ⊎_elim
    (λ (l : x < n).
    get_or_append_left zeros new (pos 0) x (omega (arith, size)) ∙ sym (get_or_append_left zeros old (pos 0) x (omega (arith, size))))
    (λ (l : n ≤ x).
    get_or-append_right zeros new n x (pos 0) size l
    ∙ kept (x - n) (λ a b across down same. outside a b across down (let place = place_below columns top a b span h in omega arith))
    ∙ sym (get_or-append_right zeros old n x (pos 0) size l))
    (cases_lt x n)
