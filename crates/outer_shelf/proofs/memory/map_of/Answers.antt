use Rattle.std.proofs.Common.{sym, ap, ◌∙◌, append-nil, take, ◌-◌, ◌≡◌, []}
use Rattle.outer_shelf.specs.Memory.{files_of}
use Rattle.outer_shelf.proofs.FileMap.{files_over, files_over-last, files_over-empty}
use Rattle.outer_shelf.proofs.memory.map_of.Goals as goal

pub loop-name-preserved : goal.loop-name-preserved
loop-name-preserved c =
    c.loop-name.invariant
    ∙ ap (λ es. files_over es (files_of c.loop-name.made.entries)) c.in-Some.ensures.items
    ∙ files_over-last c.pop.new.self.items c.in-Some.name c.in-Some.bytes (files_of c.loop-name.made.entries)
    ∙ ap (files_over c.pop.new.self.items) (sym c.in_ok-store.ensures.ok)

pub returns : goal.returns
returns c =
    let none : c.loop-name.files.items ≡ [] =
    c.in_default.ensures.items ∙ append-nil _ ∙ c.in_default.ensures.rest
    ∙ ap (λ n. take (n - 1) c.loop-name.files.items) c.in_default.ensures.cases.0 in
    sym (ap (λ es. files_over es (files_of c.loop-name.made.entries)) none)
    ∙ sym c.loop-name.invariant
    ∙ files_over-empty c.args.files.items
