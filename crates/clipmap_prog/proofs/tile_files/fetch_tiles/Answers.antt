use Rattle.std.proofs.Common.{◌≡◌, ◌+◌, ◌∷◌, [], ◌++◌, List, IfSome, Ok, vec_len, refl, ◌∙◌, sym, ap, subst, arith}
use Rattle.std.proofs.lemmas.List.{take_all}
use Rattle.std.proofs.lemmas.Result.{err_from_is_err_and}
use Rattle.outer_shelf.specs.Outside.{Files}
use Rattle.clipmap_prog.specs.declared.tile_files.Named.{Named}
use Rattle.run_actions.specs.Runs.{CallsWithin}
use Rattle.clipmap_prog.proofs.Lists.{of_ok}
use Rattle.clipmap_prog.proofs.Fetching.{always_some, fetched_of, next_found, next_stopped, next_calls, last_calls, no_calls, stopped_later}
use Rattle.clipmap_prog.proofs.tile_files.fetch_tiles.Goals as goal

pub loop-one-init : goal.loop-one-init
loop-one-init g c =
    let s = g.S.Shelf.told c.args.shelf.now in
    record {
      found = always_some (λ (files : Files). (fetched_of files []).found ≡ Ok c.new-tiles.result.items) s.files (λ files. ap (λ ts. Ok ts) (sym c.new-tiles.ensures.items));
      calls = always_some (λ (files : Files). CallsWithin 0 s.calls s.calls) s.files (λ files. no_calls 0 s.calls);
      files_stay = refl;
      faults_stay = omega arith;
      all = c.new-tiles.ensures.len;
    }

pub loop-one-preserved : goal.loop-one-preserved
loop-one-preserved g c =
    let named = c.args.named.now in
    let i = c.loop-one.one-index in
    let s = g.S.Shelf.told c.args.shelf.now in
    let s1 = g.S.Shelf.told c.loop-one.shelf in
    let s2 = g.S.Shelf.told c.fetch_tile.new.shelf in
    let before = c.loop-one.tiles.items in
    let new = c.append.new.list.items in
    let pushed : new ≡ before ++ c.in_ok-tile.tile ∷ [] = of_ok c.append.result (new ≡ before ++ c.in_ok-tile.tile ∷ []) c.if-is_err.ensures.value c.append.ensures.items in
    let longer : vec_len c.append.new.list ≡ vec_len c.loop-one.tiles + 1 = of_ok c.append.result (vec_len c.append.new.list ≡ vec_len c.loop-one.tiles + 1) c.if-is_err.ensures.value c.append.ensures.length in
    record {
      found = next_found named i _ c.loop-one-test.true s s1 c.loop-one.invariant.files_stay before c.loop-one.invariant.found new c.in_ok-tile.tile pushed c.in_ok-tile.ensures.found;
      calls = next_calls named i c.loop-one-test.true s s1 s2 before c.loop-one.invariant.found c.in_ok-tile.ensures.counted c.loop-one.invariant.calls;
      files_stay = c.in_ok-tile.ensures.files_stay ∙ c.loop-one.invariant.files_stay;
      faults_stay = omega (arith, c.in_ok-tile.ensures.faults_stay, c.loop-one.invariant.faults_stay);
      all = omega (arith, longer, c.loop-one.invariant.all);
    }

pub returns-in_err-tile-clause-found : goal.returns-in_err-tile-clause-found
returns-in_err-tile-clause-found g c =
    let p = err_from_is_err_and c.from_residual.result c.from_residual.ensures.1 in
    rw (p.1, p.2) (next_stopped c.args.named.now c.loop-one.one-index _ c.loop-one-test.true (g.S.Shelf.told c.args.shelf.now) (g.S.Shelf.told c.loop-one.shelf)
    c.loop-one.invariant.files_stay c.loop-one.tiles.items c.loop-one.invariant.found _ c.in_err-tile.ensures.found)

pub returns-in_err-tile-clause-calls : goal.returns-in_err-tile-clause-calls
returns-in_err-tile-clause-calls g c =
    last_calls c.args.named.now c.loop-one.one-index c.loop-one-test.true (g.S.Shelf.told c.args.shelf.now) (g.S.Shelf.told c.loop-one.shelf) (g.S.Shelf.told c.fetch_tile.new.shelf)
    c.loop-one.tiles.items c.loop-one.invariant.found c.in_err-tile.ensures.counted c.loop-one.invariant.calls

pub returns-in_err-tile-clause-reason : goal.returns-in_err-tile-clause-reason
returns-in_err-tile-clause-reason g c =
    let p = err_from_is_err_and c.from_residual.result c.from_residual.ensures.1 in
    rw (p.1, p.2) (stopped_later (g.S.Shelf.told c.args.shelf.now) (g.S.Shelf.told c.loop-one.shelf) (g.S.Shelf.told c.fetch_tile.new.shelf)
    _ c.loop-one.invariant.faults_stay c.in_err-tile.ensures.reason)

pub returns-then-is_err-clause-calls : goal.returns-then-is_err-clause-calls
returns-then-is_err-clause-calls g c =
    last_calls c.args.named.now c.loop-one.one-index c.loop-one-test.true (g.S.Shelf.told c.args.shelf.now) (g.S.Shelf.told c.loop-one.shelf) (g.S.Shelf.told c.fetch_tile.new.shelf)
    c.loop-one.tiles.items c.loop-one.invariant.found c.in_ok-tile.ensures.counted c.loop-one.invariant.calls

pub returns-clause-found : goal.returns-clause-found
returns-clause-found g c =
    let s = g.S.Shelf.told c.args.shelf.now in
    let Read : List Named → Type 0 = λ ns. IfSome s.files (λ files. (fetched_of files ns).found ≡ Ok c.loop-one.tiles.items) in
    subst Read (take_all c.loop-one.one-index c.args.named.now c.loop-one-test.false) c.loop-one.invariant.found

pub returns-clause-calls : goal.returns-clause-calls
returns-clause-calls g c =
    let s = g.S.Shelf.told c.args.shelf.now in
    let s1 = g.S.Shelf.told c.loop-one.shelf in
    let Called : List Named → Type 0 = λ ns. IfSome s.files (λ files. CallsWithin (fetched_of files ns).fetches s.calls s1.calls) in
    subst Called (take_all c.loop-one.one-index c.args.named.now c.loop-one-test.false) c.loop-one.invariant.calls
