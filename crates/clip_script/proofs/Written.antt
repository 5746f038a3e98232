-- That what is written is read.
use Rattle.std.proofs.Common.{◌≡◌, ℕ, ℤ, pos, negsuc, neg_ℤ, ◌+◌, ◌-◌, ◌%◌, ◌^◌, ◌<◌, ◌≤◌, ◌≤ℤ◌, ◌<ℤ◌, suc, Bool, true, false, nat_eq, if◌then◌else◌, nat_le, w64, FitsSigned, List, [], ◌∷◌, ◌++◌, All, length, get_or, Some, codes, decimal, refl, sym, ap, ◌∙◌, subst, arith, append_assoc}
use lib.Signed.{mag}
use borrow.Author.Differences.{ints}
use Rattle.std.specs.Fmt.{signed_decimal}
use Rattle.std.specs.List.{slice_split, list_all}
use Rattle.std.specs.Option.{option_map}
use Rattle.std.proofs.lemmas.Bool.{and_parts, leb-true}
use Rattle.std.proofs.lemmas.Bool.Decides.{Decides-eqb}
use Rattle.std.proofs.lemmas.Fmt.{decimal_by_steps}
use Rattle.std.proofs.lemmas.List.Elements.{All-append, All-cons, All-nil}
use Rattle.std.proofs.lemmas.List.Splits.{slice_split_at, slice_split_none}
use Rattle.number_words.specs.Numbers.{natural_of, whole_of}
use Rattle.plan_model.specs.Limits.{IsLevelCount, IsViewer, IsViewed}
use Rattle.plan_model.specs.declared.events.Event.{Event}
use Rattle.plan_model.specs.declared.events.Event.TheVariants.{Move, Claim, Finish, Publish, Begin, End}
use Rattle.clip_script.specs.Lines.{lines, words, without_empty_end}
use Rattle.clip_script.specs.Ranges.{IsAsked}
use Rattle.clip_script.specs.Steps.{coordinate_of, place_of, step_named, step_words, step_of}
use Rattle.clip_script.specs.Texts.{event_text, numbers_of, place_text, raised_text, read_pass, step_line}
use Rattle.clip_script.specs.declared.step.Step.TheVariants.{Book}
use Rattle.clip_script.proofs.Cuts.{parts_cut, unequal}

-- a byte that is neither a space nor a line feed nor any before them
abbrev pub IsPlain : ℕ → Type 0
IsPlain b = 33 ≤ b

-- so it isn't one of these
apart : (byte b : ℕ) → byte ≤ 32 → IsPlain b → nat_eq b byte ≡ false
apart byte b low plain = unequal (nat_eq b byte) b byte (Decides-eqb b byte) (λ (e : b ≡ byte). omega arith)

pub all_apart : (byte : ℕ) (xs : List ℕ) → byte ≤ 32 → All IsPlain xs → All (λ b. nat_eq b byte ≡ false) xs
all_apart byte xs low plain k d within = apart byte (get_or xs k d) low (plain k d within)

-- texts of numbers are plain
plain_one : (b : ℕ) → IsPlain b → All IsPlain (b ∷ [])
plain_one b h = All-cons IsPlain b [] h (All-nil IsPlain)

pub decimal_plain : (n : ℕ) → n < 2 ^ 64 → All IsPlain (decimal n)
decimal_plain = decimal_by_steps (λ n text. All IsPlain text)
    (λ n small. plain_one (48 + n) (omega arith))
    (λ n text many plain. All-append IsPlain text ((48 + n % 10) ∷ []) plain (plain_one (48 + n % 10) (omega arith)))

pub signed_plain : (n : ℤ) → mag n < 2 ^ 63 → All IsPlain (signed_decimal n)
signed_plain (pos n) small = decimal_plain n (omega (arith, ints))
signed_plain (negsuc n) small = All-cons IsPlain 45 (decimal (suc n)) (omega arith) (decimal_plain (suc n) (omega (arith, ints)))

-- the words of a plain text, and of one with a space and more behind it
pub words_last : (word : List ℕ) → All IsPlain word → words word ≡ word ∷ []
unfolding words
words_last word plain = slice_split_none (λ b. nat_eq b 32) word (all_apart 32 word (omega arith) plain)

pub words_more : (word rest : List ℕ) → All IsPlain word → words (word ++ codes " " ++ rest) ≡ word ∷ words rest
unfolding words
words_more word rest plain =
    ap (slice_split (λ b. nat_eq b 32)) (append_assoc word (codes " ") rest)
    ∙ slice_split_at (λ b. nat_eq b 32) word 32 rest (all_apart 32 word (omega arith) plain) refl

-- a text by a test of its bytes
pub plain_by_test : (xs : List ℕ) → list_all (λ b. nat_le 33 b) xs ≡ true → All IsPlain xs
plain_by_test [] test = All-nil IsPlain
plain_by_test (b ∷ xs) test =
    let parts = and_parts (nat_le 33 b) (list_all (λ b. nat_le 33 b) xs) test in
    All-cons IsPlain b xs (leb-true 33 b parts.0) (plain_by_test xs parts.1)

-- the numbers of 64 bits are read
abbrev pub NaturalsAreRead : Type 0
NaturalsAreRead = (low high n : ℕ) → n < 2 ^ 64 → low ≤ n → n ≤ high → natural_of low high (decimal n) ≡ Some n

abbrev pub WholesAreRead : Type 0
WholesAreRead = (low high n : ℤ) → neg_ℤ (pos (2 ^ 63)) ≤ℤ n → n <ℤ pos (2 ^ 63) → low ≤ℤ n → n ≤ℤ high → whole_of low high (signed_decimal n) ≡ Some n

viewed_small : (x : ℤ) → IsViewed x → mag x < 2 ^ 63
viewed_small x seen =
    let fits : FitsSigned w64 x = omega (arith, ints, seen.low, seen.high) in
    omega (arith, ints)

coordinate_read : WholesAreRead → (x : ℤ) → IsViewed x → coordinate_of (signed_decimal x) ≡ Some x
coordinate_read wholes x seen =
    wholes (neg_ℤ (pos 4194304)) (pos 4194304) x (omega (arith, ints, seen.low)) (omega (arith, ints, seen.high)) seen.low seen.high

-- a line of a name and a text is the step of that name and the text's words
step_line_is : (levels : ℕ) (name text : List ℕ) (behind : List (List ℕ)) → All IsPlain name → words text ≡ behind →
    step_of levels (name ++ codes " " ++ text) ≡ step_named levels name behind
unfolding step_of
step_line_is levels name text behind plain is =
    ap (step_words levels) (words_more name text plain ∙ ap (λ (more : List (List ℕ)). name ∷ more) is)

-- the words of a place, without and with an altitude
place_words : (x y : ℤ) → IsViewed x → IsViewed y → words (place_text x y) ≡ signed_decimal x ∷ signed_decimal y ∷ []
place_words x y column row =
    words_more (signed_decimal x) (signed_decimal y) (signed_plain x (viewed_small x column))
    ∙ ap (λ (more : List (List ℕ)). signed_decimal x ∷ more) (words_last (signed_decimal y) (signed_plain y (viewed_small y row)))

raised_words : (x y : ℤ) (a : ℕ) → IsViewer x y a → words (raised_text x y a) ≡ signed_decimal x ∷ signed_decimal y ∷ decimal a ∷ []
raised_words x y a viewer =
    words_more (signed_decimal x) (signed_decimal y ++ codes " " ++ decimal a) (signed_plain x (viewed_small x viewer.column))
    ∙ ap (λ (more : List (List ℕ)). signed_decimal x ∷ more) (
    words_more (signed_decimal y) (decimal a) (signed_plain y (viewed_small y viewer.row))
    ∙ ap (λ (more : List (List ℕ)). signed_decimal y ∷ more) (words_last (decimal a) (decimal_plain a (omega (arith, viewer.altitude)))))

-- the step of a move
moved_low : WholesAreRead → (levels : ℕ) (x y : ℤ) → IsViewed x → IsViewed y →
    step_named levels (codes "move") (signed_decimal x ∷ signed_decimal y ∷ []) ≡ Some (Book 0 (Move x y 0))
unfolding step_named place_of
moved_low wholes levels x y column row = rw (coordinate_read wholes x column, coordinate_read wholes y row) refl

moved_high : NaturalsAreRead → WholesAreRead → (levels : ℕ) (x y : ℤ) (a : ℕ) → IsViewer x y a →
    step_named levels (codes "move") (signed_decimal x ∷ signed_decimal y ∷ decimal a ∷ []) ≡ Some (Book 0 (Move x y a))
unfolding step_named place_of
moved_high naturals wholes levels x y a viewer =
    let altitude : natural_of 0 1048576 (decimal a) ≡ Some a = naturals 0 1048576 a (omega (arith, viewer.altitude)) (omega arith) viewer.altitude in
    rw (coordinate_read wholes x viewer.column, coordinate_read wholes y viewer.row, altitude) refl

moved_read : NaturalsAreRead → WholesAreRead → (levels : ℕ) (x y : ℤ) (a : ℕ) (b : Bool) → IsViewer x y a → nat_eq a 0 ≡ b →
    step_of levels (codes "move" ++ codes " " ++ (if b then place_text x y else raised_text x y a)) ≡ Some (Book 0 (Move x y a))
moved_read naturals wholes levels x y a true viewer ground =
    let zero : 0 ≡ a = sym ((Decides-eqb a 0).0 ground) in
    let P : ℕ → Type 0 = λ a. step_of levels (codes "move" ++ codes " " ++ place_text x y) ≡ Some (Book 0 (Move x y a)) in
    subst P zero (
    step_line_is levels (codes "move") (place_text x y) (signed_decimal x ∷ signed_decimal y ∷ []) (plain_by_test (codes "move") refl) (place_words x y viewer.column viewer.row)
    ∙ moved_low wholes levels x y viewer.column viewer.row)
moved_read naturals wholes levels x y a false viewer raised =
    step_line_is levels (codes "move") (raised_text x y a) (signed_decimal x ∷ signed_decimal y ∷ decimal a ∷ []) (plain_by_test (codes "move") refl) (raised_words x y a viewer)
    ∙ moved_high naturals wholes levels x y a viewer

-- a line of one number
one_read : (levels : ℕ) (name : List ℕ) (n : ℕ) → All IsPlain name → n < 2 ^ 64 → step_of levels (name ++ codes " " ++ decimal n) ≡ step_named levels name (decimal n ∷ [])
one_read levels name n plain small = step_line_is levels name (decimal n) (decimal n ∷ []) plain (words_last (decimal n) (decimal_plain n small))

-- an event's line is read as that event
pub event_read : NaturalsAreRead → WholesAreRead → (levels p : ℕ) (event : Event) → IsLevelCount levels → IsAsked levels p event →
    step_of levels (event_text p event) ≡ Some (Book (read_pass p event) event)
unfolding step_named
event_read naturals wholes levels p (Move x y a) many asked = moved_read naturals wholes levels x y a (nat_eq a 0) asked.event refl
event_read naturals wholes levels p Claim many asked =
    one_read levels (codes "claim") p (plain_by_test (codes "claim") refl) (omega (arith, asked.pass))
    ∙ ap (option_map (λ pass. Book pass Claim)) (naturals 0 15 p (omega (arith, asked.pass)) (omega arith) (omega (arith, asked.pass)))
event_read naturals wholes levels p Finish many asked =
    one_read levels (codes "finish") p (plain_by_test (codes "finish") refl) (omega (arith, asked.pass))
    ∙ ap (option_map (λ pass. Book pass Finish)) (naturals 0 15 p (omega (arith, asked.pass)) (omega arith) (omega (arith, asked.pass)))
event_read naturals wholes levels p (Publish level) many asked =
    let high = many.high in
    let there : level < levels = asked.event in
    one_read levels (codes "publish") level (plain_by_test (codes "publish") refl) (omega arith)
    ∙ ap (option_map (λ level. Book 0 (Publish level))) (naturals 0 (levels - 1) level (omega arith) (omega arith) (omega arith))
event_read naturals wholes levels p Begin many asked =
    one_read levels (codes "begin") p (plain_by_test (codes "begin") refl) (omega (arith, asked.pass))
    ∙ ap (option_map (λ pass. Book pass Begin)) (naturals 0 15 p (omega (arith, asked.pass)) (omega arith) (omega (arith, asked.pass)))
event_read naturals wholes levels p End many asked =
    one_read levels (codes "end") p (plain_by_test (codes "end") refl) (omega (arith, asked.pass))
    ∙ ap (option_map (λ pass. Book pass End)) (naturals 0 15 p (omega (arith, asked.pass)) (omega arith) (omega (arith, asked.pass)))

-- a line's bytes: none of them is a line feed
abbrev pub IsWritten : ℕ → Type 0
IsWritten b = 32 ≤ b

written : (xs : List ℕ) → All IsPlain xs → All IsWritten xs
written xs plain k d within = let h = plain k d within in omega (arith, h)

spaced : (xs ys : List ℕ) → All IsWritten xs → All IsWritten ys → All IsWritten (xs ++ codes " " ++ ys)
spaced xs ys front back =
    All-append IsWritten (xs ++ codes " ") ys (All-append IsWritten xs (codes " ") front (All-cons IsWritten 32 [] (omega arith) (All-nil IsWritten))) back

place_written : (x y : ℤ) → IsViewed x → IsViewed y → All IsWritten (place_text x y)
place_written x y column row =
    spaced (signed_decimal x) (signed_decimal y) (written _ (signed_plain x (viewed_small x column))) (written _ (signed_plain y (viewed_small y row)))

move_written : (x y : ℤ) (a : ℕ) (b : Bool) → IsViewer x y a → All IsWritten (if b then place_text x y else raised_text x y a)
move_written x y a true viewer = place_written x y viewer.column viewer.row
move_written x y a false viewer =
    spaced (signed_decimal x) (signed_decimal y ++ codes " " ++ decimal a) (written _ (signed_plain x (viewed_small x viewer.column)))
    (spaced (signed_decimal y) (decimal a) (written _ (signed_plain y (viewed_small y viewer.row))) (written _ (decimal_plain a (omega (arith, viewer.altitude)))))

number_written : (n : ℕ) → n < 2 ^ 64 → All IsWritten (decimal n)
number_written n small = written (decimal n) (decimal_plain n small)

named_written : (name text : List ℕ) → list_all (λ b. nat_le 33 b) name ≡ true → All IsWritten text → All IsWritten (name ++ codes " " ++ text)
named_written name text test back = spaced name text (written name (plain_by_test name test)) back

event_written : (levels p : ℕ) (event : Event) → IsLevelCount levels → IsAsked levels p event → All IsWritten (event_text p event)
event_written levels p (Move x y a) many asked = named_written (codes "move") (numbers_of p (Move x y a)) refl (move_written x y a (nat_eq a 0) asked.event)
event_written levels p Claim many asked = named_written (codes "claim") (decimal p) refl (number_written p (omega (arith, asked.pass)))
event_written levels p Finish many asked = named_written (codes "finish") (decimal p) refl (number_written p (omega (arith, asked.pass)))
event_written levels p (Publish level) many asked =
    let high = many.high in
    let there : level < levels = asked.event in
    named_written (codes "publish") (decimal level) refl (number_written level (omega arith))
event_written levels p Begin many asked = named_written (codes "begin") (decimal p) refl (number_written p (omega (arith, asked.pass)))
event_written levels p End many asked = named_written (codes "end") (decimal p) refl (number_written p (omega (arith, asked.pass)))

-- a text without a line feed, and one behind it
line_first : (line rest : List ℕ) → All IsWritten line → 0 < length line → lines (line ++ codes "\n" ++ rest) ≡ line ∷ lines rest
unfolding lines
line_first line rest all some =
    let p : ℕ → Bool = λ b. nat_eq b 10 in
    let no_feed : All (λ b. nat_eq b 10 ≡ false) line = λ k d within. let h = all k d within in unequal _ (get_or line k d) 10 (Decides-eqb (get_or line k d) 10) (λ e. omega (arith, h, e)) in
    let P : List (List ℕ) → Type 0 = λ parts. without_empty_end (line ∷ parts) ≡ line ∷ without_empty_end parts in
    ap (λ text. without_empty_end (slice_split p text)) (append_assoc line (codes "\n") rest)
    ∙ ap without_empty_end (slice_split_at p line 10 rest no_feed refl)
    ∙ subst P (sym (parts_cut p rest)) refl

some_text : (event : Event) (p : ℕ) → 0 < length (event_text p event)
some_text (Move x y a) p = omega arith
some_text Claim p = omega arith
some_text Finish p = omega arith
some_text (Publish level) p = omega arith
some_text Begin p = omega arith
some_text End p = omega arith

pub event_lines : (levels p : ℕ) (event : Event) (rest : List ℕ) → IsLevelCount levels → IsAsked levels p event →
    lines (step_line p event ++ rest) ≡ event_text p event ∷ lines rest
unfolding step_line
event_lines levels p event rest many asked =
    line_first (event_text p event) rest (event_written levels p event many asked) (some_text event p)
