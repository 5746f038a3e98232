use Rattle.std.proofs.Common.{◌+◌, ◌*◌, ◌∙◌, ℕ, List, length, inl, refl, sym, ap}
use Rattle.std.proofs.lemmas.List.Elements.{All-take}
use Rattle.std.proofs.lemmas.Result.{err_from_is_err_and}
use Rattle.rice_residuals.specs.Code.{IsResidual}
use Rattle.rice_residuals.specs.List.{residual_list}
use Rattle.rice_residuals.proofs.WordRead.{no_bytes, fault_in_codes, fault_at_end, word_at_end, place_behind, whole_bytes}
use Rattle.rice_residuals.proofs.decoding.read_word.Goals as goal

pub returns-in_default-clause-fault : goal.returns-in_default-clause-fault
returns-in_default-clause-fault c =
    let none = c.in_default.ensures {u = tt} in
    let empty = no_bytes c.args.bytes.now c.new-reader.result.left c.new-reader.ensures.left (none.none.0 refl) in
    (sym (ap (λ (x : List ℕ). 8 * length x) empty), inl empty)

pub returns-in_err-found-clause-fault : goal.returns-in_err-found-clause-fault
returns-in_err-found-clause-fault c =
    let took = c.in-Some.ensures in
    let four = took.place ∙ ap (λ (n : ℕ). n + 4) c.new-reader.ensures.place in
    let p = err_from_is_err_and c.from_residual.result c.from_residual.ensures.1 in
    rw (p.1, p.2) (fault_in_codes c.args.count c.args.bytes.now c.in-Some.parameter c.take.new.self.place c.take.new.self.left _ took.below four (sym c.new-reader.ensures.left ∙ took.bits) c.in_err-found.ensures.fault)

pub read_end-requires-clause-whole : goal.read_end-requires-clause-whole
read_end-requires-clause-whole c =
    let took = c.in-Some.ensures in
    let four = took.place ∙ ap (λ (n : ℕ). n + 4) c.new-reader.ensures.place in
    whole_bytes c.args.bytes.now c.in-Some.parameter c.take.new.self c.read_codes.new.reader four (sym c.new-reader.ensures.left ∙ took.bits) c.in_ok-found.ensures.end

pub returns-clause-word : goal.returns-clause-word
returns-clause-word c =
    let took = c.in-Some.ensures in
    let found = c.in_ok-found.found in
    word_at_end c.args.bytes.now c.in-Some.parameter (residual_list found) c.take.new.self.left c.read_codes.new.reader.left took.below (All-take IsResidual found.count found.values found.in_range) (sym c.new-reader.ensures.left ∙ took.bits) c.in_ok-found.ensures.codes c.in_ok-read_end.ensures.ok

pub returns-in_err-read_end-clause-fault : goal.returns-in_err-read_end-clause-fault
returns-in_err-read_end-clause-fault c =
    let took = c.in-Some.ensures in
    let found = c.in_ok-found.found in
    let four = took.place ∙ ap (λ (n : ℕ). n + 4) c.new-reader.ensures.place in
    let behind = place_behind c.in-Some.parameter (residual_list found) c.take.new.self c.read_codes.new.reader four c.in_ok-found.ensures.codes c.in_ok-found.ensures.end in
    let p = err_from_is_err_and c.from_residual-in_err-read_end.result c.from_residual-in_err-read_end.ensures.1 in
    rw (p.1, p.2) (fault_at_end c.args.count c.args.bytes.now c.in-Some.parameter c.read_codes.new.reader.place (residual_list found) c.take.new.self.left c.read_codes.new.reader.left _ took.below (All-take IsResidual found.count found.values found.in_range) c.in_ok-found.ensures.length (sym c.new-reader.ensures.left ∙ took.bits) c.in_ok-found.ensures.codes behind c.in_err-read_end.ensures.fault)
