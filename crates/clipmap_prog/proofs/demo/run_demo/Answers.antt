use Rattle.std.proofs.Common.{◌≡◌, ℕ, Ok, refl}
use Rattle.outer_shelf.specs.Outside.{Files}
use Rattle.run_actions.specs.Runs.{CallsWithin}
use Rattle.run_actions.proofs.Ends.{within_none}
use Rattle.clipmap_words.specs.Demo.{demo_view}
use Rattle.clipmap_prog.specs.Demo.{seed_actions}
use Rattle.clipmap_prog.specs.Reading.{Reading, unfetched}
use Rattle.clipmap_prog.proofs.Concluding.{concluded_done}
use Rattle.clipmap_prog.proofs.Fetching.{always_some}
use Rattle.clipmap_prog.proofs.demo.run_demo.Goals as goal

pub returns-clause-runs : goal.returns-clause-runs
returns-clause-runs g c =
    let seed : ℕ = (demo_view c.args.demo.now).seed in
    let reading : Files → Reading ℕ = λ files. unfetched (Ok seed) in
    let before = g.S.Shelf.told c.args.shelf.now in
    concluded_done g.S.Shelf.leaves seed_actions reading seed c.fly_seed.result c.ended.result
    before before (g.S.Shelf.told c.fly_seed.new.shelf) (g.K.Sink.told c.args.out.now) (g.K.Sink.told c.fly_seed.new.out)
    (always_some (λ files. (reading files).found ≡ Ok seed) before.files (λ files. refl))
    (always_some (λ files. CallsWithin (reading files).fetches before.calls before.calls) before.files (λ files. within_none before.calls before.calls refl))
    refl c.fly_seed.ensures.ran c.ended.ensures.value
