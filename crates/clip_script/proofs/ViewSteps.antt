-- That a script that is read asks for a view exactly where a line of it does.
use Rattle.std.proofs.Common.{◌≡◌, ℕ, ◌+◌, ◌-◌, suc, Bool, true, false, cond, ◌||◌, nat_lt, nat_eq, List, [], ◌∷◌, length, take, Option, Some, None, Result, Ok, Err, codes, refl, sym, ap, ◌∙◌, subst, arith}
use Rattle.std.specs.List.{list_any, position_or_len}
use Rattle.std.specs.Option.{option_map}
use Rattle.std.specs.Str.{bytes_eq}
use Rattle.std.proofs.lemmas.Bool.Decides.{Decides-eqb}
use Rattle.std.proofs.lemmas.Slice.Eq.{bytes_eq-Decides}
use Rattle.plan_model.specs.declared.events.Event.{Event}
use Rattle.plan_model.specs.declared.events.Event.TheVariants.{Move, Claim, Finish, Publish, Begin, End}
use Rattle.clip_script.specs.Lines.{is_skipped, lines, words}
use Rattle.clip_script.specs.Reading.{all_said, bad_line, go_on, opened, opening, Opened, script_of}
use Rattle.clip_script.specs.Scripts.{pair_behind, size_of, Play, play_of, play_after, with_steps}
use Rattle.clip_script.specs.Steps.{pass_of, place_of, one_number, spaces_of, passed, moved, published, step_named, step_words, step_of}
use Rattle.clip_script.specs.Views.{asks_in_words, asks_view, is_view}
use Rattle.clip_script.specs.declared.fault.ScriptFault.TheVariants.{TooMany}
use Rattle.clip_script.specs.declared.numbers.Pair.{Pair}
use Rattle.clip_script.specs.declared.numbers.Ranges.{Ranges}
use Rattle.clip_script.specs.declared.step.Place.{Place}
use Rattle.clip_script.specs.declared.step.Step.{Step}
use Rattle.clip_script.specs.declared.step.Step.TheVariants.{Book, See, EndSeen}
use Rattle.clip_script.proofs.Cuts.{words_cut}
use Rattle.clip_script.proofs.Readings.{said_before, all_said_none, all_said_skipped, all_said_one, all_said_bad, opened_none, opened_skipped, opened_here}

-- a step that was read asks for a view, or doesn't
abbrev SeesAs : Bool → Option Step → Type 0
SeesAs b None = Unit {0}
SeesAs b (Some step) = is_view step ≡ b

map_sees : {A : Type 0} (b : Bool) (f : A → Step) (o : Option A) → ((a : A) → is_view (f a) ≡ b) → SeesAs b (option_map f o)
map_sees b f None h = tt
map_sees b f (Some a) h = h a

cond_sees : (test b : Bool) (x y : Option Step) → SeesAs b x → SeesAs b y → SeesAs b (cond test x y)
cond_sees true b x y here there = here
cond_sees false b x y here there = there

passed_sees : (event : Event) (rest : List (List ℕ)) → SeesAs false (passed event rest)
passed_sees event rest = map_sees false (λ pass. Book pass event) (pass_of rest) (λ _. refl)

moved_sees : (rest : List (List ℕ)) → SeesAs false (moved rest)
moved_sees rest = map_sees false (λ (place : Place). Book 0 (Move place.x place.y place.a)) (place_of rest) (λ _. refl)

published_sees : (levels : ℕ) (rest : List (List ℕ)) → SeesAs false (published levels rest)
published_sees levels rest = map_sees false (λ level. Book 0 (Publish level)) (one_number 0 (levels - 1) rest) (λ _. refl)

-- by its first word
plain_named : (levels : ℕ) (name : List ℕ) (rest : List (List ℕ)) → bytes_eq name (codes "see") ≡ false → bytes_eq name (codes "endseen") ≡ false →
    SeesAs false (step_named levels name rest)
unfolding step_named
plain_named levels name rest no_see no_end =
    let test : List ℕ → Bool = λ word. bytes_eq name word in
    let ends : Option Step = cond (test (codes "end")) (passed End rest) None in
    let begins : Option Step = cond (test (codes "begin")) (passed Begin rest) ends in
    let publishes : Option Step = cond (test (codes "publish")) (published levels rest) begins in
    let moves : Option Step = cond (test (codes "move")) (moved rest) publishes in
    let finishes : Option Step = cond (test (codes "finish")) (passed Finish rest) moves in
    let ends_sees : SeesAs false ends = cond_sees (test (codes "end")) false (passed End rest) None (passed_sees End rest) tt in
    let begins_sees : SeesAs false begins = cond_sees (test (codes "begin")) false (passed Begin rest) ends (passed_sees Begin rest) ends_sees in
    let publishes_sees : SeesAs false publishes = cond_sees (test (codes "publish")) false (published levels rest) begins (published_sees levels rest) begins_sees in
    let moves_sees : SeesAs false moves = cond_sees (test (codes "move")) false (moved rest) publishes (moved_sees rest) publishes_sees in
    let finishes_sees : SeesAs false finishes = cond_sees (test (codes "finish")) false (passed Finish rest) moves (passed_sees Finish rest) moves_sees in
    rw (no_see, no_end) (cond_sees (test (codes "claim")) false (passed Claim rest) finishes (passed_sees Claim rest) finishes_sees)

seen_named : (levels : ℕ) (name : List ℕ) (rest : List (List ℕ)) → name ≡ codes "see" → SeesAs true (step_named levels name rest)
unfolding step_named
seen_named levels name rest is =
    let P : List ℕ → Type 0 = λ name. SeesAs true (step_named levels name rest) in
    subst P (sym is) (map_sees true See (spaces_of 6 rest) (λ _. refl))

ended_named : (levels : ℕ) (name : List ℕ) (rest : List (List ℕ)) → name ≡ codes "endseen" → SeesAs true (step_named levels name rest)
unfolding step_named
ended_named levels name rest is =
    let P : List ℕ → Type 0 = λ name. SeesAs true (step_named levels name rest) in
    subst P (sym is) (map_sees true EndSeen (pass_of rest) (λ _. refl))

by_name : (levels : ℕ) (name : List ℕ) (rest : List (List ℕ)) (see ends : Bool) → bytes_eq name (codes "see") ≡ see → bytes_eq name (codes "endseen") ≡ ends →
    SeesAs (see || ends) (step_named levels name rest)
by_name levels name rest true ends is other = seen_named levels name rest ((bytes_eq-Decides name (codes "see")).0 is)
by_name levels name rest false true other is = ended_named levels name rest ((bytes_eq-Decides name (codes "endseen")).0 is)
by_name levels name rest false false no_see no_end = plain_named levels name rest no_see no_end

sees_words : (levels : ℕ) (line : List (List ℕ)) → SeesAs (asks_in_words line) (step_words levels line)
sees_words levels [] = tt
sees_words levels (name ∷ rest) = by_name levels name rest (bytes_eq name (codes "see")) (bytes_eq name (codes "endseen")) refl refl

-- the step of a line asks for a view where the line does
line_sees : (levels : ℕ) (line : List ℕ) (step : Step) → step_of levels line ≡ Some step → is_view step ≡ asks_view line
unfolding step_of asks_view
line_sees levels line step is = subst (SeesAs (asks_in_words (words line))) is (sees_words levels (words line))

-- what can't be
abbrev IsThere : {A : Type 0} → Option A → Type 0
IsThere None = ⊥
IsThere (Some a) = Unit {0}

abbrev IsRead : {A E : Type 0} → Result A E → Type 0
IsRead (Ok a) = Unit {0}
IsRead (Err e) = ⊥

-- the line of the sizes asks for no view
size_by : (name : List ℕ) (test : Bool) (o : Option Pair) (pair : Pair) → bytes_eq name (codes "size") ≡ test → cond test o None ≡ Some pair →
    (bytes_eq name (codes "see") || bytes_eq name (codes "endseen")) ≡ false
size_by name true o pair is said =
    let P : List ℕ → Type 0 = λ name. (bytes_eq name (codes "see") || bytes_eq name (codes "endseen")) ≡ false in
    subst P (sym ((bytes_eq-Decides name (codes "size")).0 is)) refl
size_by name false o pair is said = absurd (subst IsThere (sym said) tt)

size_in_words : (ranges : Ranges) (line : List (List ℕ)) (pair : Pair) → pair_behind (codes "size") ranges line ≡ Some pair → asks_in_words line ≡ false
size_in_words ranges [] pair said = refl
size_in_words ranges (name ∷ rest) pair said = size_by name (bytes_eq name (codes "size")) _ pair refl said

size_asks : (line : List ℕ) (pair : Pair) → size_of line ≡ Some pair → asks_view line ≡ false
unfolding size_of asks_view
size_asks line pair said = size_in_words _ (words line) pair said

-- nor does a line that is skipped
skipped_asks : (line : List ℕ) → is_skipped line ≡ true → asks_view line ≡ false
unfolding words asks_view
skipped_asks [] skipped = refl
skipped_asks (b ∷ more) skipped =
    let m = position_or_len (λ b. nat_eq b 32) more in
    let P : ℕ → Type 0 = λ b. asks_view (b ∷ more) ≡ false in
    let next : 1 + m ≡ suc m = omega arith in
    let whole : asks_in_words (words (35 ∷ more)) ≡ asks_in_words (take (1 + m) (35 ∷ more) ∷ []) = ap asks_in_words (words_cut (35 ∷ more) (1 + m) refl) in
    let front : asks_in_words (take (1 + m) (35 ∷ more) ∷ []) ≡ false = ap (λ n. asks_in_words (take n (35 ∷ more) ∷ [])) next in
    subst P (sym ((Decides-eqb b 35).0 skipped)) (whole ∙ front)

-- the steps of a reading
abbrev steps_in : Result (List Step) ℕ → List Step
steps_in (Ok steps) = steps
steps_in (Err number) = []

said_one : (step : Step) (steps : List Step) (rest : Bool) (inner : Result (List Step) ℕ) → said_before (step ∷ []) inner ≡ Ok steps →
    ((more : List Step) → inner ≡ Ok more → list_any is_view more ≡ rest) → list_any is_view steps ≡ (is_view step || rest)
said_one step steps rest (Ok more) is next =
    ap (list_any is_view) (sym (ap steps_in is)) ∙ ap (λ b. is_view step || b) (next more refl)
said_one step steps rest (Err number) is next = absurd (subst IsRead (sym is) tt)

said_by : (levels before : ℕ) (line : List ℕ) (all : List (List ℕ)) (steps : List Step) (skipped : Bool) (said : Option Step) →
    is_skipped line ≡ skipped → step_of levels line ≡ said → all_said (step_of levels) before (line ∷ all) ≡ Ok steps →
    ((more : List Step) → all_said (step_of levels) (before + 1) all ≡ Ok more → list_any is_view more ≡ list_any asks_view all) →
    list_any is_view steps ≡ (asks_view line || list_any asks_view all)
said_by levels before line all steps true said skip what is next =
    next steps (sym (all_said_skipped (step_of levels) before line all skip) ∙ is)
    ∙ ap (λ b. b || list_any asks_view all) (sym (skipped_asks line skip))
said_by levels before line all steps false None spoken what is next =
    absurd (subst IsRead (sym is ∙ all_said_bad (step_of levels) before line all spoken what) tt)
said_by levels before line all steps false (Some step) spoken what is next =
    said_one step steps (list_any asks_view all) (all_said (step_of levels) (before + 1) all)
    (sym (all_said_one (step_of levels) before line all step spoken what) ∙ is) next
    ∙ ap (λ b. b || list_any asks_view all) (line_sees levels line step what)

said_views : (levels before : ℕ) (all : List (List ℕ)) (steps : List Step) → all_said (step_of levels) before all ≡ Ok steps →
    list_any is_view steps ≡ list_any asks_view all
said_views levels before [] steps is =
    ap (list_any is_view) (sym (ap steps_in (sym (all_said_none (step_of levels) before) ∙ is)))
said_views levels before (line ∷ all) steps is =
    said_by levels before line all steps (is_skipped line) (step_of levels line) refl refl is
    (λ more h. said_views levels (before + 1) all more h)

-- the lines behind the sizes
abbrev rest_in : Result (Opened Pair) ℕ → List (List ℕ)
rest_in (Ok size) = size.rest
rest_in (Err number) = []

opening_views : (number : ℕ) (line : List ℕ) (all : List (List ℕ)) (size : Opened Pair) (said : Option Pair) → size_of line ≡ said →
    opening number all said ≡ Ok size → (asks_view line || list_any asks_view all) ≡ list_any asks_view size.rest
opening_views number line all size None what is = absurd (subst IsRead (sym is) tt)
opening_views number line all size (Some pair) what is =
    ap (λ b. b || list_any asks_view all) (size_asks line pair what) ∙ ap (list_any asks_view) (ap rest_in is)

opened_by : (before : ℕ) (line : List ℕ) (all : List (List ℕ)) (size : Opened Pair) (skipped : Bool) → is_skipped line ≡ skipped →
    opened size_of before (line ∷ all) ≡ Ok size → (opened size_of (before + 1) all ≡ Ok size → list_any asks_view all ≡ list_any asks_view size.rest) →
    (asks_view line || list_any asks_view all) ≡ list_any asks_view size.rest
opened_by before line all size true skip is next =
    ap (λ b. b || list_any asks_view all) (skipped_asks line skip) ∙ next (sym (opened_skipped size_of before line all skip) ∙ is)
opened_by before line all size false spoken is next =
    opening_views (before + 1) line all size (size_of line) refl (sym (opened_here size_of before line all spoken) ∙ is)

opened_views : (before : ℕ) (all : List (List ℕ)) (size : Opened Pair) → opened size_of before all ≡ Ok size →
    list_any asks_view all ≡ list_any asks_view size.rest
opened_views before [] size is = absurd (subst IsRead (sym is ∙ opened_none size_of before) tt)
opened_views before (line ∷ all) size is =
    opened_by before line all size (is_skipped line) refl is (λ h. opened_views (before + 1) all size h)

-- a reading that went on, and one that was a script's
record Went {A B : Type 0} (next : A → Result B ℕ) (reading : Result A ℕ) (b : B) : Type 0 where
  first : A
  read : reading ≡ Ok first
  on : next first ≡ Ok b

went : {A B : Type 0} (next : A → Result B ℕ) (reading : Result A ℕ) (b : B) → go_on next reading ≡ Ok b → Went next reading b
went next (Ok a) b is = record { first = a; read = refl; on = is }
went next (Err number) b is = absurd (subst IsRead (sym is) tt)

abbrev play_in : {E : Type 0} → Play → Result Play E → Play
play_in other (Ok play) = play
play_in other (Err e) = other

read_as : (reading : Result Play ℕ) (play : Play) → bad_line reading ≡ Ok play → reading ≡ Ok play
read_as (Ok got) play is = ap Ok (ap (play_in got) is)
read_as (Err number) play is = absurd (subst IsRead (sym is) tt)

few_by : (many : Bool) (count : ℕ) (reading : Result Play ℕ) (play : Play) → cond many (Err (TooMany count)) (bad_line reading) ≡ Ok play → reading ≡ Ok play
few_by true count reading play is = absurd (subst IsRead (sym is) tt)
few_by false count reading play is = read_as reading play is

abbrev steps_of_play : Result Play ℕ → List Step
steps_of_play (Ok play) = play.steps
steps_of_play (Err number) = []

-- a script that is read
pub script_views : (text : List ℕ) (play : Play) → play_of text ≡ Ok play → list_any is_view play.steps ≡ list_any asks_view (lines text)
unfolding play_of script_of
script_views text play is =
    let all = lines text in
    let count = length all in
    let size = went play_after (opened size_of 0 all) play (few_by (nat_lt 1048577 count) count (go_on play_after (opened size_of 0 all)) play is) in
    let steps = went (with_steps size.first) (all_said (step_of size.first.said.second) size.first.before size.first.rest) play size.on in
    ap (list_any is_view) (sym (ap steps_of_play steps.on))
    ∙ said_views size.first.said.second size.first.before size.first.rest steps.first steps.read
    ∙ sym (opened_views 0 all size.first size.read)
