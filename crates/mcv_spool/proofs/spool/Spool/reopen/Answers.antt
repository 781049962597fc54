use Rattle.std.proofs.Common.{true, false, refl, ◌∙◌}
use Rattle.std.proofs.lemmas.Result.{err_from_is_err_and}
use Rattle.mcv_spool.specs.File.{slots}
use Rattle.mcv_spool.specs.History.{SpoolCall, records_of, spool_state}
use Rattle.mcv_spool.proofs.Histories.{all_read}
use Rattle.mcv_spool.proofs.spool.Spool.reopen.Goals as goal

pub returns-in_err-self-clause-step : goal.returns-in_err-self-clause-step
returns-in_err-self-clause-step g c =
    let gone = err_from_is_err_and c.from_residual.result c.from_residual.ensures.1 in
    rw (gone.1) (λ model. SpoolCall.not_found (spool_state c.args.self.now.disk c.args.self.now.needs_reopen) (spool_state c.recover.new.disk true) (c.recover.ensures.any_moment model) refl)

pub returns-in_err-self-clause-unwritten : goal.returns-in_err-self-clause-unwritten
returns-in_err-self-clause-unwritten g c =
    let gone = err_from_is_err_and c.from_residual.result c.from_residual.ensures.1 in
    rw (gone.1) (λ model other. c.in_err-self.ensures.unwritten model (λ is. other (gone.2 ∙ is)))

pub returns-clause-step : goal.returns-clause-step
returns-clause-step g c = λ model.
    let all = slots (g.D.Disk.seen c.args.self.now.disk) in
    SpoolCall.found (records_of all) (spool_state c.args.self.now.disk c.args.self.now.needs_reopen) (spool_state c.recover.new.disk false)
    (record {
      reads = all_read 0 all (c.in_ok-self.ensures.found model).sound;
      same = c.recover.ensures.slots model;
      durable = c.in_ok-self.ensures.durable model;
      any_moment = c.recover.ensures.any_moment model;
    }) refl
