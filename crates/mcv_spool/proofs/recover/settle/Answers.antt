use Rattle.std.proofs.Common.{length, sym, ap, ◌∙◌}
use Rattle.mcv_spool.proofs.Moments.{quiet_on}
use Rattle.mcv_spool.proofs.recover.settle.Goals as goal

pub returns-in_err-sync-clause-quiet : goal.returns-in_err-sync-clause-quiet
returns-in_err-sync-clause-quiet g c = λ model. quiet_on g.D.Disk.seen g.D.Disk.may_leave g.D.Disk.moment g.D.Disk.left_since c.args.disk.now c.renew.new.self c.sync.new.self (c.renew.ensures.quiet model) (c.sync.ensures.quiet model)

pub returns-in_err-len-clause-quiet : goal.returns-in_err-len-clause-quiet
returns-in_err-len-clause-quiet g c = λ model.
    quiet_on g.D.Disk.seen g.D.Disk.may_leave g.D.Disk.moment g.D.Disk.left_since c.args.disk.now c.sync.new.self c.len.new.self
    (quiet_on g.D.Disk.seen g.D.Disk.may_leave g.D.Disk.moment g.D.Disk.left_since c.args.disk.now c.renew.new.self c.sync.new.self (c.renew.ensures.quiet model) (c.sync.ensures.quiet model)) (c.len.ensures.quiet model)

pub returns-clause-quiet : goal.returns-clause-quiet
returns-clause-quiet g c = λ model.
    quiet_on g.D.Disk.seen g.D.Disk.may_leave g.D.Disk.moment g.D.Disk.left_since c.args.disk.now c.sync.new.self c.len.new.self
    (quiet_on g.D.Disk.seen g.D.Disk.may_leave g.D.Disk.moment g.D.Disk.left_since c.args.disk.now c.renew.new.self c.sync.new.self (c.renew.ensures.quiet model) (c.sync.ensures.quiet model)) (c.len.ensures.quiet model)

pub returns-clause-durable : goal.returns-clause-durable
returns-clause-durable g c = λ model f left.
    c.in_ok-sync.ensures.durable model f ((c.len.ensures.quiet model).crash f left) ∙ sym ((c.len.ensures.quiet model).same ∙ (c.sync.ensures.quiet model).same)

pub returns-clause-len : goal.returns-clause-len
returns-clause-len g c = λ model. c.in_ok-len.ensures.len model ∙ ap length (sym (c.len.ensures.quiet model).same)
