use Rattle.std.proofs.Common.{Err, false, refl, sym, ap, ◌∙◌}
use Rattle.std.proofs.lemmas.Result.{err_from_is_err_and}
use Rattle.mcv_spool.specs.File.{slots}
use Rattle.mcv_spool.specs.History.{SpoolCall, records_of, shut, spool_state}
use Rattle.mcv_spool.proofs.Histories.{all_read}
use Rattle.mcv_spool.proofs.spool.Spool.open.Goals as goal

pub returns-clause-step : goal.returns-clause-step
returns-clause-step g c = λ model.
    let all = slots (g.D.Disk.seen c.args.disk) in
    SpoolCall.found (records_of all) (shut c.args.disk) (spool_state c.recover.new.disk false)
    (record {
      reads = all_read 0 all (c.in_ok-contents.ensures.found model).sound;
      same = c.recover.ensures.slots model;
      durable = c.in_ok-contents.ensures.durable model;
      any_moment = c.recover.ensures.any_moment model;
    }) refl

pub returns-in_err-contents-clause-refused : goal.returns-in_err-contents-clause-refused
returns-in_err-contents-clause-refused g c =
    let gone = err_from_is_err_and c.from_residual.result c.from_residual.ensures.1 in
    rw (gone.1) (λ model. (
      c.recover.new.disk,
      SpoolCall.not_found (shut c.args.disk) (shut c.recover.new.disk) (c.recover.ensures.any_moment model) refl,
      λ is. c.in_err-contents.ensures.device model (ap Err (sym gone.2 ∙ is)),
      λ other. c.in_err-contents.ensures.unwritten model (λ is. other (gone.2 ∙ is)),
      c.recover.ensures.slots model,
    ))
