use Rattle.std.proofs.Common.{ℕ, Vec, Some, ap, sym, ◌∙◌, option_map}
use Rattle.std.specs.declared.alloc.Global.{Global}
use Rattle.outer_shelf.proofs.FileMap.{get-files_of}
use Rattle.outer_shelf.proofs.memory.find.Goals as goal

pub returns-in-Some : goal.returns-in-Some
returns-in-Some c =
    ap Some c.as_slice.ensures.value
    ∙ ap (option_map (λ (v : Vec ℕ Global). v.items)) c.in-Some.ensures.value
    ∙ sym (get-files_of c.args.files.now c.args.name.now)

pub returns-in-None : goal.returns-in-None
returns-in-None c =
    ap (option_map (λ (v : Vec ℕ Global). v.items)) c.in-None.ensures.value
    ∙ sym (get-files_of c.args.files.now c.args.name.now)
