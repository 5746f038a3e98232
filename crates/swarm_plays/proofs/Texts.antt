-- That the text of a history is read as its play.
use Rattle.std.proofs.Common.{◌≡◌, ℕ, ◌+◌, ◌<◌, ◌≤◌, ◌^◌, Bool, false, nat_lt, nat_eq, List, [], ◌∷◌, ◌++◌, All, length, map, flat_map, get_or, Some, Ok, codes, decimal, refl, sym, ap, ◌∙◌, subst, arith, append_assoc}
use Rattle.std.specs.List.{slice_split}
use Rattle.std.proofs.lemmas.Bool.Decides.{Decides-eqb, nat_tests}
use Rattle.std.proofs.lemmas.List.{length-map, length-replicate}
use Rattle.std.proofs.lemmas.List.Elements.{All-append, All-cons, All-nil}
use Rattle.std.proofs.lemmas.List.Splits.{slice_split_at}
use Rattle.plan_model.specs.States.{State, Pass, start_state, empty_level}
use Rattle.plan_model.specs.Steps.{step}
use Rattle.plan_model.specs.Limits.{IsLevelCount}
use Rattle.plan_model.specs.Sound.{IsTaken}
use Rattle.plan_model.specs.Histories.{IsAllowed, IsLegalFrom, IsLegalHistory}
use Rattle.plan_model.specs.declared.events.Event.{Event}
use Rattle.plan_model.specs.declared.events.Event.TheVariants.{Move, Claim, Finish, Publish, Begin, End}
use Rattle.plan_model.specs.declared.events.Entry.{Entry}
use Rattle.plan_model.specs.declared.events.Work.TheVariants.{Free}
use Rattle.plan_holds.specs.Laws.{StepsGoOn}
use Rattle.clip_script.specs.Lines.{is_skipped, lines, words, without_empty_end}
use Rattle.clip_script.specs.Ranges.{AreSizes, IsAsked}
use Rattle.clip_script.specs.Reading.{all_said, opened, opening, go_on, bad_line, script_of}
use Rattle.clip_script.specs.Scripts.{Play, size_of, play_after, play_of}
use Rattle.clip_script.specs.Steps.{step_of}
use Rattle.clip_script.specs.Texts.{event_text, read_pass, step_line}
use Rattle.clip_script.specs.declared.step.Step.{Step}
use Rattle.clip_script.specs.declared.step.Step.TheVariants.{Book}
use Rattle.clip_script.proofs.Cuts.{parts_cut, unequal}
use Rattle.clip_script.proofs.Readings.{said_before, all_said_none, all_said_one, opened_here}
use Rattle.clip_script.proofs.Written.{IsPlain, NaturalsAreRead, decimal_plain, plain_by_test, words_last, words_more}
use Rattle.swarm_plays.specs.Journals.{size_line, entry_line, journal_text, steps_of, play_of_history}

-- ---- the events of a legal history are asked of a book of its levels

taken : (st : State) (p : ℕ) (event : Event) (levels : ℕ) → length st.levels ≡ levels → IsAllowed st p event → IsTaken levels event
taken st p (Move x y a) levels is allowed = allowed
taken st p Claim levels is allowed = tt
taken st p Finish levels is allowed = tt
taken st p (Publish level) levels is allowed = subst (λ n. level < n) is allowed
taken st p Begin levels is allowed = tt
taken st p End levels is allowed = tt

-- each entry of a list is asked of a book of so many levels
abbrev AreAsked : ℕ → List Entry → Type 0
AreAsked levels [] = Unit {0}
AreAsked levels (e ∷ rest) = IsAsked levels e.pass e.event × AreAsked levels rest

are_asked : StepsGoOn → (st : State) (levels : ℕ) (log : List Entry) → length st.levels ≡ levels → length st.passes ≡ 16 → IsLegalFrom st log → AreAsked levels log
are_asked steps st levels [] many passes legal = tt
are_asked steps st levels (e ∷ rest) many passes legal =
    let next = steps st e.pass e.event in (
      record { pass = subst (λ n. e.pass < n) passes legal.0; event = taken st e.pass e.event levels many legal.1 },
      are_asked steps (step st e.pass e.event).state levels rest (next.levels ∙ many) (next.passes ∙ passes) legal.3,
    )

-- ---- lines

abbrev LinesAreLines : Type 0
LinesAreLines = (levels p : ℕ) (event : Event) (rest : List ℕ) → IsLevelCount levels → IsAsked levels p event → lines (step_line p event ++ rest) ≡ event_text p event ∷ lines rest

abbrev text_of : Entry → List ℕ
text_of e = event_text e.pass e.event

lines_none : lines [] ≡ []
unfolding lines
lines_none = refl

event_lines : LinesAreLines → (levels : ℕ) (log : List Entry) → IsLevelCount levels → AreAsked levels log → lines (flat_map entry_line log) ≡ map text_of log
event_lines are levels [] many asked = lines_none
event_lines are levels (e ∷ rest) many asked =
    are levels e.pass e.event (flat_map entry_line rest) many asked.0 ∙ ap (λ (more : List (List ℕ)). text_of e ∷ more) (event_lines are levels rest many asked.1)

-- the line of the sizes, without its line feed
abbrev size_text : ℕ → ℕ → List ℕ
size_text k levels = codes "size" ++ codes " " ++ (decimal k ++ codes " " ++ decimal levels)

size_line_is : (k levels : ℕ) → size_line k levels ≡ size_text k levels ++ codes "\n"
unfolding size_line
size_line_is k levels =
    let D = decimal k in
    let E = decimal levels in
    sym (append_assoc (codes "size" ++ codes " ") (D ++ codes " " ++ E) (codes "\n")
    ∙ ap (λ (t : List ℕ). codes "size " ++ t) (append_assoc (D ++ codes " ") E (codes "\n") ∙ append_assoc D (codes " ") (E ++ codes "\n")))

-- a line's bytes: none of them is a line feed
abbrev IsInLine : ℕ → Type 0
IsInLine b = 32 ≤ b

plain_in_line : (xs : List ℕ) → All IsPlain xs → All IsInLine xs
plain_in_line xs plain k d within = let h = plain k d within in omega (arith, h)

spaced : (xs ys : List ℕ) → All IsInLine xs → All IsInLine ys → All IsInLine (xs ++ codes " " ++ ys)
spaced xs ys front back =
    All-append IsInLine (xs ++ codes " ") ys (All-append IsInLine xs (codes " ") front (All-cons IsInLine 32 [] (omega arith) (All-nil IsInLine))) back

-- numbers of few digits
small : (n : ℕ) → n ≤ 12 → n < 2 ^ 64
small n low = omega (arith, low)

size_in_line : (k levels : ℕ) → k ≤ 12 → levels ≤ 12 → All IsInLine (size_text k levels)
size_in_line k levels low few =
    spaced (codes "size") (decimal k ++ codes " " ++ decimal levels) (plain_in_line (codes "size") (plain_by_test (codes "size") refl))
    (spaced (decimal k) (decimal levels) (plain_in_line (decimal k) (decimal_plain k (small k low))) (plain_in_line (decimal levels) (decimal_plain levels (small levels few))))

-- a text without a line feed, and one behind it
line_first : (line rest : List ℕ) → All IsInLine line → lines (line ++ codes "\n" ++ rest) ≡ line ∷ lines rest
unfolding lines
line_first line rest all =
    let p : ℕ → Bool = λ b. nat_eq b 10 in
    let no_feed : All (λ b. nat_eq b 10 ≡ false) line = λ k d within. let h = all k d within in unequal _ (get_or line k d) 10 (Decides-eqb (get_or line k d) 10) (λ e. omega (arith, h, e)) in
    let P : List (List ℕ) → Type 0 = λ parts. without_empty_end (line ∷ parts) ≡ line ∷ without_empty_end parts in
    ap (λ text. without_empty_end (slice_split p text)) (append_assoc line (codes "\n") rest)
    ∙ ap without_empty_end (slice_split_at p line 10 rest no_feed refl)
    ∙ subst P (sym (parts_cut p rest)) refl

journal_lines : LinesAreLines → (k levels : ℕ) (log : List Entry) → AreSizes k levels → AreAsked levels log → lines (journal_text k levels log) ≡ size_text k levels ∷ map text_of log
journal_lines are k levels log sizes asked =
    let low : k ≤ 12 = let h = sizes.size in omega (arith, h.high) in
    let few : levels ≤ 12 = let h = sizes.many in omega (arith, h.high) in
    let rest = flat_map entry_line log in
    ap (λ (line : List ℕ). lines (line ++ rest)) (size_line_is k levels)
    ∙ line_first (size_text k levels) rest (size_in_line k levels low few)
    ∙ ap (λ (more : List (List ℕ)). size_text k levels ∷ more) (event_lines are levels log sizes.many asked)

-- ---- readings

size_words : (k levels : ℕ) → k ≤ 12 → levels ≤ 12 → words (size_text k levels) ≡ codes "size" ∷ decimal k ∷ decimal levels ∷ []
size_words k levels low few =
    words_more (codes "size") (decimal k ++ codes " " ++ decimal levels) (plain_by_test (codes "size") refl)
    ∙ ap (λ (more : List (List ℕ)). codes "size" ∷ more) (
    words_more (decimal k) (decimal levels) (decimal_plain k (small k low))
    ∙ ap (λ (more : List (List ℕ)). decimal k ∷ more) (words_last (decimal levels) (decimal_plain levels (small levels few))))

size_read : NaturalsAreRead → (k levels : ℕ) → AreSizes k levels → size_of (size_text k levels) ≡ Some (record { first = k; second = levels })
unfolding size_of
size_read naturals k levels sizes =
    let size = sizes.size in
    let many = sizes.many in
    let low : k ≤ 12 = omega (arith, size.high) in
    let few : levels ≤ 12 = omega (arith, many.high) in
    let first = naturals 4 8 k (small k low) size.low size.high in
    let second = naturals 1 12 levels (small levels few) many.low many.high in
    rw (size_words k levels low few) (rw (first, second) refl)

abbrev StepsAreRead : Type 0
StepsAreRead = (levels p : ℕ) (event : Event) → IsLevelCount levels → IsAsked levels p event → step_of levels (event_text p event) ≡ Some (Book (read_pass p event) event)

abbrev EventsAreSpoken : Type 0
EventsAreSpoken = (p : ℕ) (event : Event) → is_skipped (event_text p event) ≡ false

events_read : StepsAreRead → EventsAreSpoken → (levels before : ℕ) (log : List Entry) → IsLevelCount levels → AreAsked levels log → all_said (step_of levels) before (map text_of log) ≡ Ok (steps_of log)
events_read read spoken levels before [] many asked = all_said_none (step_of levels) before
events_read read spoken levels before (e ∷ rest) many asked =
    let said : Step = Book (read_pass e.pass e.event) e.event in
    all_said_one (step_of levels) before (text_of e) (map text_of rest) said (spoken e.pass e.event) (read levels e.pass e.event many asked.0)
    ∙ ap (said_before (said ∷ [])) (events_read read spoken levels (before + 1) rest many asked.1)

opened_read : NaturalsAreRead → (k levels : ℕ) (log : List Entry) → AreSizes k levels → opened size_of 0 (size_text k levels ∷ map text_of log) ≡ Ok (record { said = record { first = k; second = levels }; before = 1; rest = map text_of log })
opened_read naturals k levels log sizes =
    opened_here size_of 0 (size_text k levels) (map text_of log) refl
    ∙ ap (opening 1 (map text_of log)) (size_read naturals k levels sizes)

play_said : StepsAreRead → EventsAreSpoken → (k levels : ℕ) (log : List Entry) → AreSizes k levels → AreAsked levels log → play_after (record { said = record { first = k; second = levels }; before = 1; rest = map text_of log }) ≡ Ok (play_of_history k levels log)
play_said read spoken k levels log sizes asked =
    let To : List Step → Play = λ steps. record { k = k; levels = levels; steps = steps } in
    ap (go_on (λ (steps : List Step). Ok (To steps))) (events_read read spoken levels 1 log sizes.many asked)

-- the text of a history is read as its play
play_read : NaturalsAreRead → LinesAreLines → StepsAreRead → EventsAreSpoken → (k levels : ℕ) (log : List Entry) → AreSizes k levels → AreAsked levels log → length log ≤ 1048576 →
    play_of (journal_text k levels log) ≡ Ok (play_of_history k levels log)
unfolding play_of script_of
play_read naturals are read spoken k levels log sizes asked short =
    let ls = size_text k levels ∷ map text_of log in
    let few : length ls ≤ 1048577 = omega (arith, short, length-map log text_of) in
    let test : nat_lt 1048577 (length ls) ≡ false = grind (arith, nat_tests, few) in
    rw (journal_lines are k levels log sizes asked) (rw test (ap bad_line (ap (go_on play_after) (opened_read naturals k levels log sizes) ∙ play_said read spoken k levels log sizes asked)))

pub journals : StepsGoOn → NaturalsAreRead → LinesAreLines → StepsAreRead → EventsAreSpoken → (k levels : ℕ) (log : List Entry) → AreSizes k levels → IsLegalHistory k levels log → length log ≤ 1048576 →
    play_of (journal_text k levels log) ≡ Ok (play_of_history k levels log)
unfolding start_state
journals steps naturals are read spoken k levels log sizes legal short =
    play_read naturals are read spoken k levels log sizes (are_asked steps (start_state k levels) levels log (length-replicate levels empty_level) (length-replicate {A = Pass} 16 Free) legal) short
