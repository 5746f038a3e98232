-- How a reading stops, and where its fault comes from.
use Rattle.std.proofs.Common.{◌≡◌, ◌⊎◌, inl, inr, ℕ, ◌<◌, ◌≤◌, true, false, nat_lt, List, length, Result, Err, refl, ap, ◌∙◌, arith}
use Rattle.std.proofs.lemmas.Bool.Decides.{nat_tests}
use Rattle.clip_script.specs.Lines.{lines}
use Rattle.clip_script.specs.Reading.{go_on, bad_line, script_of, IsStop}
use Rattle.clip_script.specs.declared.fault.ScriptFault.{ScriptFault}
use Rattle.clip_script.specs.declared.fault.ScriptFault.TheVariants.{TooMany, BadLine, NoMemory}

-- too many lines
pub many_lines : {A : Type 0} (read : List (List ℕ) → Result A ℕ) (text : List ℕ) → 1048577 < length (lines text) →
    script_of read text ≡ Err (TooMany (length (lines text)))
unfolding script_of
many_lines read text many = let test : nat_lt 1048577 (length (lines text)) ≡ true = grind (arith, nat_tests) in rw test refl

-- no more lines than that
pub few_lines : {A : Type 0} (read : List (List ℕ) → Result A ℕ) (text : List ℕ) → length (lines text) ≤ 1048577 →
    script_of read text ≡ bad_line (read (lines text))
unfolding script_of
few_lines read text few = let test : nat_lt 1048577 (length (lines text)) ≡ false = grind (arith, nat_tests) in rw test refl

-- what stops a reading stops one that goes on with it
pub stop_on : {A B : Type 0} (next : A → Result B ℕ) (whole : Result B ℕ) (reading : Result A ℕ) (fault : ScriptFault) →
    whole ≡ go_on next reading → IsStop reading fault → IsStop whole fault
stop_on next whole reading (TooMany count) is stop = stop
stop_on next whole reading (BadLine number) is stop = is ∙ ap (go_on next) stop
stop_on next whole reading NoMemory is stop = tt

-- the fault of a script
pub fault_of : {A : Type 0} (script : Result A ScriptFault) (reading : Result A ℕ) (fault : ScriptFault) →
    script ≡ bad_line reading → IsStop reading fault → (fault ≡ NoMemory) ⊎ (script ≡ Err fault)
fault_of script reading (TooMany count) is stop = absurd stop
fault_of script reading (BadLine number) is stop = inr (is ∙ ap bad_line stop)
fault_of script reading NoMemory is stop = inl refl
