use Rattle.std.proofs.Common.{◌∙◌, refl}
use Rattle.mcv_clients.proofs.Tables.{left_on, left_same}
use Rattle.mcv_clients.proofs.clients.Clients.end_each_input.Goals as goal

pub loop-number-init : goal.loop-number-init
loop-number-init g c =
    let s = c.args.self.now.clients in
    record { left = left_same s s (λ number. refl); desks = refl }

pub loop-number-preserved : goal.loop-number-preserved
loop-number-preserved g c =
    let old = c.args.self.now.clients in
    let mid = c.loop-number.self.clients in
    let new = c.end_input_of.new.self.clients in
    record {
      left = left_on old mid new c.loop-number.invariant.left c.end_input_of.ensures.left;
      desks = c.end_input_of.ensures.desks ∙ c.loop-number.invariant.desks;
    }
