use Rattle.outer_shelf.specs.Memory.{faults_after}
use Rattle.std.proofs.Common.{◌≡◌, rules, Some, ap}
use Rattle.std.specs.FinMap as finite
use Rattle.outer_shelf.proofs.Told.{on_ok, on_err, either_way, faults_after-rises, fetch_failed, put_failed}
use Rattle.outer_shelf.proofs.memory.MemoryShelfShelf.TheImpl.Goals as goal

pub fetch-tells : goal.fetch-tells
fetch-tells c =
    let old = c.args.self.now in
    let rose = faults_after-rises old.failing old.calls old.faults c.new.self.now.faults in
    record {
      answer = search rules;
      in_limit = search rules;
      failed = fetch_failed c.result c.ensures.fails.0 (rose (ap (λ s. s.faults) c.ensures.called));
      files_stay = search rules;
      counted = search rules;
      faults_stay = search rules;
    }

pub put-tells : goal.put-tells
put-tells c =
    let old = c.args.self.now in
    let new = c.new.self.now in
    let rose = faults_after-rises old.failing old.calls old.faults new.faults in
    let faults : new.faults ≡ faults_after old.failing old.calls old.faults =
    either_way c.result (λ e. ap (λ s. s.faults) e) (λ e. ap (λ s. s.faults) e) c.ensures.ok c.ensures.refused in
    record {
      ok = on_ok c.result (λ e. ap (λ s. Some s.files) e) c.ensures.ok;
      left = on_err c.result (λ e. ap (λ s. Some s.files) e) c.ensures.refused;
      refused = on_err c.result (λ e. ap (λ s. Some (finite.remove s.files c.args.name.now)) e) c.ensures.refused;
      failed = put_failed c.result c.ensures.fails.0 (rose faults);
      counted =
          either_way c.result (λ e. ap (λ s. Some s.calls) e) (λ e. ap (λ s. Some s.calls) e) c.ensures.ok c.ensures.refused;
      faults_stay = search rules;
    }
