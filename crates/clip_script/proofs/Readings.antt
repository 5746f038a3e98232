-- How readings go on by one line.
use Rattle.std.proofs.Common.{◌≡◌, ℕ, ◌+◌, suc, Bool, true, false, cond, nat_lt, List, [], ◌∷◌, ◌++◌, length, drop, filter, get_or, Option, Some, None, Result, Ok, Err, refl, sym, ap, ◌∙◌, arith, append_assoc, append-nil, All}
use Rattle.std.proofs.lemmas.List.Elements.{All-append, All-cons, All-nil}
use Rattle.std.specs.List.{position_or_len, filter_map}
use Rattle.std.proofs.lemmas.Bool.Decides.{nat_tests}
use Rattle.clip_script.specs.Lines.{is_skipped}
use Rattle.clip_script.specs.Reading.{is_spoken, is_bad, all_said, Opened, opening, opened}

-- what was said before, and then a reading
abbrev pub said_before : {A : Type 0} → List A → Result (List A) ℕ → Result (List A) ℕ
said_before said (Ok more) = Ok (said ++ more)
said_before said (Err number) = Err number

pub said_before_none : {A : Type 0} (reading : Result (List A) ℕ) → said_before [] reading ≡ reading
said_before_none (Ok more) = refl
said_before_none (Err number) = refl

pub said_before_more : {A : Type 0} (said next : List A) (reading : Result (List A) ℕ) → said_before said (said_before next reading) ≡ said_before (said ++ next) reading
said_before_more said next (Ok more) = ap Ok (sym (append_assoc said next more))
said_before_more said next (Err number) = refl

-- no line is left
pub all_said_none : {A : Type 0} (says : List ℕ → Option A) (before : ℕ) → all_said says before [] ≡ Ok []
unfolding all_said
all_said_none says before = refl

-- a test and a number, one place further
test_next : (m n : ℕ) → nat_lt (1 + m) (suc n) ≡ nat_lt m n
test_next m n = grind (arith, nat_tests)

test_first : (n : ℕ) → nat_lt 0 (suc n) ≡ true
test_first n = grind (arith, nat_tests)

said_next : {A : Type 0} (before m n : ℕ) (ok : Result (List A) ℕ) →
    cond (nat_lt (1 + m) (suc n)) (Err (before + (1 + m) + 1)) ok ≡ cond (nat_lt m n) (Err (before + 1 + m + 1)) ok
said_next before m n ok =
    let number : before + (1 + m) + 1 ≡ before + 1 + m + 1 = omega arith in
    let test = test_next m n in
    rw (test, number) refl

opened_next : {A : Type 0} (says : List ℕ → Option A) (before m n : ℕ) (line : List ℕ) (lines : List (List ℕ)) →
    cond (nat_lt (1 + m) (suc n))
    (opening (before + (1 + m) + 1) (drop (1 + m + 1) (line ∷ lines)) (says (get_or (line ∷ lines) (1 + m) []))) (Err (before + (1 + m) + 1))
    ≡ cond (nat_lt m n) (opening (before + 1 + m + 1) (drop (m + 1) lines) (says (get_or lines m []))) (Err (before + 1 + m + 1))
opened_next says before m n line lines =
    let number : before + (1 + m) + 1 ≡ before + 1 + m + 1 = omega arith in
    let place : 1 + m + 1 ≡ suc (m + 1) = omega arith in
    let index : 1 + m ≡ suc m = omega arith in
    let test = test_next m n in
    rw (test, number, place, index) refl

-- what was said before a reading by a test
said_by_test : {A : Type 0} (b : Bool) (said all : List A) (number : ℕ) → said_before said (cond b (Err number) (Ok all)) ≡ cond b (Err number) (Ok (said ++ all))
said_by_test true said all number = refl
said_by_test false said all number = refl

pub all_said_skipped : {A : Type 0} (says : List ℕ → Option A) (before : ℕ) (line : List ℕ) (lines : List (List ℕ)) → is_skipped line ≡ true →
    all_said says before (line ∷ lines) ≡ all_said says (before + 1) lines
unfolding all_said
all_said_skipped says before line lines is = rw is (said_next before (position_or_len (is_bad says) lines) (length lines) (Ok (filter_map says (filter is_spoken lines))))

pub all_said_one : {A : Type 0} (says : List ℕ → Option A) (before : ℕ) (line : List ℕ) (lines : List (List ℕ)) (said : A) → is_skipped line ≡ false → says line ≡ Some said →
    all_said says before (line ∷ lines) ≡ said_before (said ∷ []) (all_said says (before + 1) lines)
unfolding all_said
all_said_one says before line lines said spoken is =
    let m = position_or_len (is_bad says) lines in
    let all = filter_map says (filter is_spoken lines) in
    rw (spoken, is) (said_next before m (length lines) (Ok (said ∷ all)) ∙ sym (said_by_test (nat_lt m (length lines)) (said ∷ []) all (before + 1 + m + 1)))

pub all_said_bad : {A : Type 0} (says : List ℕ → Option A) (before : ℕ) (line : List ℕ) (lines : List (List ℕ)) → is_skipped line ≡ false → says line ≡ None →
    all_said says before (line ∷ lines) ≡ Err (before + 1)
unfolding all_said
all_said_bad says before line lines spoken is =
    let none : before + 0 + 1 ≡ before + 1 = omega arith in
    let test = test_first (length lines) in
    rw (spoken, is) (rw (test, none) refl)

-- no line is left to open
pub opened_none : {A : Type 0} (says : List ℕ → Option A) (before : ℕ) → opened says before [] ≡ Err (before + 1)
unfolding opened
opened_none says before = let none : before + 0 + 1 ≡ before + 1 = omega arith in ap Err none

pub opened_skipped : {A : Type 0} (says : List ℕ → Option A) (before : ℕ) (line : List ℕ) (lines : List (List ℕ)) → is_skipped line ≡ true →
    opened says before (line ∷ lines) ≡ opened says (before + 1) lines
unfolding opened
opened_skipped says before line lines is = rw is (opened_next says before (position_or_len is_spoken lines) (length lines) line lines)

pub opened_here : {A : Type 0} (says : List ℕ → Option A) (before : ℕ) (line : List ℕ) (lines : List (List ℕ)) → is_skipped line ≡ false →
    opened says before (line ∷ lines) ≡ opening (before + 1) lines (says line)
unfolding opened
opened_here says before line lines is =
    let none : before + 0 + 1 ≡ before + 1 = omega arith in
    let test = test_first (length lines) in
    rw is (rw (test, none) refl)

-- a turn of the loop over all lines, with what was said so far
pub turn_skipped : {A : Type 0} (says : List ℕ → Option A) (whole : Result (List A) ℕ) (said : List A) (before : ℕ) (all : List (List ℕ)) (line : List ℕ) (rest : List (List ℕ)) →
    whole ≡ said_before said (all_said says before all) → all ≡ line ∷ rest → is_skipped line ≡ true → whole ≡ said_before said (all_said says (before + 1) rest)
turn_skipped says whole said before all line rest so_far is skipped =
    so_far ∙ ap (said_before said) (ap (all_said says before) is ∙ all_said_skipped says before line rest skipped)

pub turn_said : {A : Type 0} (says : List ℕ → Option A) (whole : Result (List A) ℕ) (said : List A) (before : ℕ) (all : List (List ℕ)) (line : List ℕ) (rest : List (List ℕ)) (a : A) →
    whole ≡ said_before said (all_said says before all) → all ≡ line ∷ rest → is_skipped line ≡ false → says line ≡ Some a →
    whole ≡ said_before (said ++ a ∷ []) (all_said says (before + 1) rest)
turn_said says whole said before all line rest a so_far is spoken what =
    so_far ∙ ap (said_before said) (ap (all_said says before) is ∙ all_said_one says before line rest a spoken what)
    ∙ said_before_more said (a ∷ []) (all_said says (before + 1) rest)

pub turn_bad : {A : Type 0} (says : List ℕ → Option A) (whole : Result (List A) ℕ) (said : List A) (before : ℕ) (all : List (List ℕ)) (line : List ℕ) (rest : List (List ℕ)) →
    whole ≡ said_before said (all_said says before all) → all ≡ line ∷ rest → is_skipped line ≡ false → says line ≡ None → whole ≡ Err (before + 1)
turn_bad says whole said before all line rest so_far is spoken what =
    so_far ∙ ap (said_before said) (ap (all_said says before) is ∙ all_said_bad says before line rest spoken what)

pub turn_none : {A : Type 0} (says : List ℕ → Option A) (whole : Result (List A) ℕ) (said : List A) (before : ℕ) (all : List (List ℕ)) →
    whole ≡ said_before said (all_said says before all) → all ≡ [] → whole ≡ Ok said
turn_none says whole said before all so_far is =
    so_far ∙ ap (said_before said) (ap (all_said says before) is ∙ all_said_none says before) ∙ ap Ok (append-nil said)

-- a turn of the loop that looks for a line that isn't skipped
pub open_skipped : {A : Type 0} (says : List ℕ → Option A) (whole : Result (Opened A) ℕ) (before : ℕ) (all : List (List ℕ)) (line : List ℕ) (rest : List (List ℕ)) →
    whole ≡ opened says before all → all ≡ line ∷ rest → is_skipped line ≡ true → whole ≡ opened says (before + 1) rest
open_skipped says whole before all line rest so_far is skipped =
    so_far ∙ ap (opened says before) is ∙ opened_skipped says before line rest skipped

pub open_here : {A : Type 0} (says : List ℕ → Option A) (whole : Result (Opened A) ℕ) (before : ℕ) (all : List (List ℕ)) (line : List ℕ) (rest : List (List ℕ)) (what : Option A) →
    whole ≡ opened says before all → all ≡ line ∷ rest → is_skipped line ≡ false → says line ≡ what → whole ≡ opening (before + 1) rest what
open_here says whole before all line rest what so_far is spoken said =
    so_far ∙ ap (opened says before) is ∙ opened_here says before line rest spoken ∙ ap (opening (before + 1) rest) said

pub open_none : {A : Type 0} (says : List ℕ → Option A) (whole : Result (Opened A) ℕ) (before : ℕ) (all : List (List ℕ)) →
    whole ≡ opened says before all → all ≡ [] → whole ≡ Err (before + 1)
open_none says whole before all so_far is = so_far ∙ ap (opened says before) is ∙ opened_none says before

-- one more that fits
pub all_more : {A : Type 0} (P : A → Type 0) (xs : List A) (x : A) → All P xs → P x → All P (xs ++ x ∷ [])
all_more P xs x before here = All-append P xs (x ∷ []) before (All-cons P x [] here (All-nil P))
