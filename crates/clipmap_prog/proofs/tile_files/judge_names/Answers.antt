use Rattle.std.proofs.Common.{◌≡◌, ℕ, ◌+◌, ◌∷◌, [], ◌++◌, List, Ok, Err, map, string_bytes, vec_len, ◌∙◌, sym, ap, subst, arith}
use Rattle.std.proofs.lemmas.List.{map-append}
use Rattle.std.proofs.lemmas.Result.{err_from_is_err_and}
use Rattle.clipmap_prog.specs.Inputs.{name_reading, named_view}
use Rattle.clipmap_prog.specs.Reading.{Finds, each_of}
use Rattle.clipmap_prog.proofs.Lists.{of_ok}
use Rattle.clipmap_prog.proofs.Fetching.{stops}
use Rattle.clipmap_prog.proofs.Readings.{turn_found, turn_refused}
use Rattle.clipmap_prog.proofs.tile_files.judge_names.Goals as goal

pub loop-name-preserved : goal.loop-name-preserved
loop-name-preserved c =
    let before = c.loop-name.judged.items in
    let named = c.in_ok-named.named in
    let Judged : List ℕ → Type 0 = λ word. (name_reading word).found ≡ Ok (named_view named) in
    let judged : Judged (string_bytes c.name-item.result) = subst Judged c.as_str.ensures.value c.in_ok-named.ensures.found in
    let pushed : c.append.new.list.items ≡ before ++ named ∷ [] = of_ok c.append.result (c.append.new.list.items ≡ before ++ named ∷ []) c.if-is_err.ensures.value c.append.ensures.items in
    let longer : vec_len c.append.new.list ≡ vec_len c.loop-name.judged + 1 = of_ok c.append.result (vec_len c.append.new.list ≡ vec_len c.loop-name.judged + 1) c.if-is_err.ensures.value c.append.ensures.length in
    record {
      found =
          turn_found string_bytes name_reading c.args.names.now c.loop-name.name-index c.name-item.result c.name-item.result c.loop-name-test.true c.name-item.is
          (map named_view before) (named_view named) c.loop-name.invariant.found judged
          ∙ ap (λ all. Ok all) (sym (ap (map named_view) pushed ∙ map-append named_view before (named ∷ [])));
      all = omega (arith, longer, c.loop-name.invariant.all);
    }

pub returns-in_err-named-clause-found : goal.returns-in_err-named-clause-found
returns-in_err-named-clause-found c =
    let p = err_from_is_err_and c.from_residual.result c.from_residual.ensures.1 in
    let Judged : List ℕ → Type 0 = λ word. Finds named_view (Err p.0) (name_reading word).found in
    let judged : Judged (string_bytes c.name-item.result) = subst Judged c.as_str.ensures.value (rw p.2 c.in_err-named.ensures.found) in
    rw p.1 (stops p.0 (name_reading (string_bytes c.name-item.result)).found (each_of name_reading (map string_bytes c.args.names.now)).found
    (λ cause refused. turn_refused string_bytes name_reading c.args.names.now c.loop-name.name-index c.name-item.result c.name-item.result c.loop-name-test.true c.name-item.is
    (map named_view c.loop-name.judged.items) cause c.loop-name.invariant.found refused) judged)
