use Rattle.outer_shelf.specs.Memory.{faults_after}
use Rattle.std.proofs.Common.{◌≡◌, rules, Some, ap}
use Rattle.outer_shelf.proofs.Told.{on_ok, on_err, either_way, faults_after-rises, write_failed, appends_none}
use Rattle.outer_shelf.proofs.memory.MemorySinkSink.TheImpl.Goals as goal

pub write-tells : goal.write-tells
write-tells c =
    let old = c.args.self.now in
    let new = c.new.self.now in
    let rose = faults_after-rises old.failing old.calls old.faults new.faults in
    let faults : new.faults ≡ faults_after old.failing old.calls old.faults =
    either_way c.result (λ e. ap (λ s. s.faults) e) (λ e. ap (λ s. s.faults) e) c.ensures.ok c.ensures.refused in
    let none = appends_none c.args.piece.now old.written new.written in
    record {
      ok = on_ok c.result (λ e. ap (λ s. Some s.written) e) c.ensures.ok;
      refused = on_err c.result (λ e. none (ap (λ s. s.written) e)) c.ensures.refused;
      failed = write_failed c.result c.ensures.fails.0 (rose faults);
      counted =
          either_way c.result (λ e. ap (λ s. Some s.calls) e) (λ e. ap (λ s. Some s.calls) e) c.ensures.ok c.ensures.refused;
      faults_stay = search rules;
    }
