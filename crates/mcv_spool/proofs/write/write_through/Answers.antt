use Rattle.std.proofs.Common.{length}
use Rattle.mcv_spool.specs.Disk.{IsTornFrom, Torn}
use Rattle.mcv_spool.proofs.Moments.{after_change, after_quiet, started}
use Rattle.mcv_spool.proofs.write.write_through.Goals as goal

pub returns-in_err-write_at-clause-any_moment : goal.returns-in_err-write_at-clause-any_moment
returns-in_err-write_at-clause-any_moment g c = λ model.
    let P = IsTornFrom c.args.at (length c.args.bytes.now) (g.D.Disk.may_leave c.args.disk.now) in
    let change = c.write_at.ensures.changes model in
    after_change g.D.Disk.seen g.D.Disk.may_leave g.D.Disk.moment g.D.Disk.left_since (Torn c.args.at (length c.args.bytes.now)) c.args.disk.now c.args.disk.now c.write_at.new.self P
    (started g.D.Disk.seen g.D.Disk.may_leave g.D.Disk.moment g.D.Disk.left_since c.args.disk.now P) change change.crash

pub returns-in_err-sync-clause-any_moment : goal.returns-in_err-sync-clause-any_moment
returns-in_err-sync-clause-any_moment g c = λ model.
    let P = IsTornFrom c.args.at (length c.args.bytes.now) (g.D.Disk.may_leave c.args.disk.now) in
    let change = c.write_at.ensures.changes model in
    after_quiet g.D.Disk.seen g.D.Disk.may_leave g.D.Disk.moment g.D.Disk.left_since c.args.disk.now c.write_at.new.self c.sync.new.self P
    (after_change g.D.Disk.seen g.D.Disk.may_leave g.D.Disk.moment g.D.Disk.left_since (Torn c.args.at (length c.args.bytes.now)) c.args.disk.now c.args.disk.now c.write_at.new.self P
    (started g.D.Disk.seen g.D.Disk.may_leave g.D.Disk.moment g.D.Disk.left_since c.args.disk.now P) change change.crash)
    (c.sync.ensures.quiet model)

pub returns-clause-any_moment : goal.returns-clause-any_moment
returns-clause-any_moment g c = λ model.
    let P = IsTornFrom c.args.at (length c.args.bytes.now) (g.D.Disk.may_leave c.args.disk.now) in
    let change = c.write_at.ensures.changes model in
    after_quiet g.D.Disk.seen g.D.Disk.may_leave g.D.Disk.moment g.D.Disk.left_since c.args.disk.now c.write_at.new.self c.sync.new.self P
    (after_change g.D.Disk.seen g.D.Disk.may_leave g.D.Disk.moment g.D.Disk.left_since (Torn c.args.at (length c.args.bytes.now)) c.args.disk.now c.args.disk.now c.write_at.new.self P
    (started g.D.Disk.seen g.D.Disk.may_leave g.D.Disk.moment g.D.Disk.left_since c.args.disk.now P) change change.crash)
    (c.sync.ensures.quiet model)
