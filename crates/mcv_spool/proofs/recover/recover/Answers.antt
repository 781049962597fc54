use Rattle.std.proofs.Common.{◌≡◌, ◌*◌, List, ℕ, Err, length, sym, ap, ◌∙◌, subst}
use Rattle.std.proofs.lemmas.Result.{err_from_is_err_and}
use Rattle.mcv_spool.specs.File.{damage, slots}
use Rattle.mcv_spool.specs.FoundFile.{IsFound}
use Rattle.mcv_spool.specs.Version.{HasSlotsOf}
use Rattle.mcv_spool.proofs.Moments.{after_quiet, after_run, started}
use Rattle.mcv_spool.proofs.SettledSpool.{counted_slots}
use Rattle.mcv_spool.proofs.recover.recover.Goals as goal

pub returns-in_err-len-clause-any_moment : goal.returns-in_err-len-clause-any_moment
returns-in_err-len-clause-any_moment g c = λ model.
    let old = c.args.disk.now in
    let P = HasSlotsOf (g.D.Disk.may_leave old) in
    after_quiet g.D.Disk.seen g.D.Disk.may_leave g.D.Disk.moment g.D.Disk.left_since old old c.settle.new.disk P (started g.D.Disk.seen g.D.Disk.may_leave g.D.Disk.moment g.D.Disk.left_since old P) (c.settle.ensures.quiet model)

pub returns-in_err-len-clause-slots : goal.returns-in_err-len-clause-slots
returns-in_err-len-clause-slots g c = λ model. ap slots (c.settle.ensures.quiet model).same

pub returns-in_err-len-clause-unwritten : goal.returns-in_err-len-clause-unwritten
returns-in_err-len-clause-unwritten g c =
    let gone = err_from_is_err_and c.from_residual.result c.from_residual.ensures.1 in
    rw (gone.1) (λ model other. (c.settle.ensures.quiet model).same)

pub returns-in_err-found-clause-any_moment : goal.returns-in_err-found-clause-any_moment
returns-in_err-found-clause-any_moment g c = λ model.
    let old = c.args.disk.now in
    let P = HasSlotsOf (g.D.Disk.may_leave old) in
    let settled = after_quiet g.D.Disk.seen g.D.Disk.may_leave g.D.Disk.moment g.D.Disk.left_since old old c.settle.new.disk P (started g.D.Disk.seen g.D.Disk.may_leave g.D.Disk.moment g.D.Disk.left_since old P) (c.settle.ensures.quiet model) in
    after_quiet g.D.Disk.seen g.D.Disk.may_leave g.D.Disk.moment g.D.Disk.left_since old c.settle.new.disk c.find.new.disk P settled (c.find.ensures.quiet model)

pub returns-in_err-found-clause-slots : goal.returns-in_err-found-clause-slots
returns-in_err-found-clause-slots g c = λ model. ap slots ((c.find.ensures.quiet model).same ∙ (c.settle.ensures.quiet model).same)

pub returns-in_err-found-clause-unwritten : goal.returns-in_err-found-clause-unwritten
returns-in_err-found-clause-unwritten g c =
    let gone = err_from_is_err_and c.from_residual-in_err-found.result c.from_residual-in_err-found.ensures.1 in
    rw (gone.1) (λ model other. (c.find.ensures.quiet model).same ∙ (c.settle.ensures.quiet model).same)

pub returns-in_err-found-clause-damaged : goal.returns-in_err-found-clause-damaged
returns-in_err-found-clause-damaged g c = λ model k h.
    let before = (c.settle.ensures.quiet model).same in
    let gone = err_from_is_err_and c.from_residual-in_err-found.result c.from_residual-in_err-found.ensures.1 in
    ap (λ (f : List ℕ). damage 0 (slots f)) (sym before) ∙ c.in_err-found.ensures.damaged model k (ap Err (sym gone.2) ∙ (sym gone.1 ∙ h))

pub returns-in_err-repair-clause-unwritten : goal.returns-in_err-repair-clause-unwritten
returns-in_err-repair-clause-unwritten g c =
    let gone = err_from_is_err_and c.from_residual-in_err-repair.result c.from_residual-in_err-repair.ensures.1 in
    rw (gone.1) (λ model other. absurd (other gone.2))

pub returns-in_err-repair-clause-slots : goal.returns-in_err-repair-clause-slots
returns-in_err-repair-clause-slots g c = λ model. c.repair.ensures.slots model ∙ ap slots ((c.find.ensures.quiet model).same ∙ (c.settle.ensures.quiet model).same)

pub returns-in_err-repair-clause-any_moment : goal.returns-in_err-repair-clause-any_moment
returns-in_err-repair-clause-any_moment g c = λ model.
    let old = c.args.disk.now in
    let P = HasSlotsOf (g.D.Disk.may_leave old) in
    let settled = after_quiet g.D.Disk.seen g.D.Disk.may_leave g.D.Disk.moment g.D.Disk.left_since old old c.settle.new.disk P (started g.D.Disk.seen g.D.Disk.may_leave g.D.Disk.moment g.D.Disk.left_since old P) (c.settle.ensures.quiet model) in
    let found = after_quiet g.D.Disk.seen g.D.Disk.may_leave g.D.Disk.moment g.D.Disk.left_since old c.settle.new.disk c.find.new.disk P settled (c.find.ensures.quiet model) in
    let same : g.D.Disk.seen c.find.new.disk ≡ g.D.Disk.seen c.args.disk.now = (c.find.ensures.quiet model).same ∙ (c.settle.ensures.quiet model).same in
    after_run g.D.Disk.seen g.D.Disk.may_leave g.D.Disk.moment g.D.Disk.left_since old c.find.new.disk c.repair.new.disk P _ found (c.repair.ensures.any_moment model)
    (λ f is. (g.D.Disk.seen old, g.met.D.Disk.read_may_stay model old, is ∙ ap slots same))

pub returns-clause-any_moment : goal.returns-clause-any_moment
returns-clause-any_moment g c = λ model.
    let old = c.args.disk.now in
    let P = HasSlotsOf (g.D.Disk.may_leave old) in
    let settled = after_quiet g.D.Disk.seen g.D.Disk.may_leave g.D.Disk.moment g.D.Disk.left_since old old c.settle.new.disk P (started g.D.Disk.seen g.D.Disk.may_leave g.D.Disk.moment g.D.Disk.left_since old P) (c.settle.ensures.quiet model) in
    let found = after_quiet g.D.Disk.seen g.D.Disk.may_leave g.D.Disk.moment g.D.Disk.left_since old c.settle.new.disk c.find.new.disk P settled (c.find.ensures.quiet model) in
    let same : g.D.Disk.seen c.find.new.disk ≡ g.D.Disk.seen c.args.disk.now = (c.find.ensures.quiet model).same ∙ (c.settle.ensures.quiet model).same in
    after_run g.D.Disk.seen g.D.Disk.may_leave g.D.Disk.moment g.D.Disk.left_since old c.find.new.disk c.repair.new.disk P _ found (c.repair.ensures.any_moment model)
    (λ f is. (g.D.Disk.seen old, g.met.D.Disk.read_may_stay model old, is ∙ ap slots same))

pub returns-clause-found : goal.returns-clause-found
returns-clause-found g c = λ model.
    subst (λ (f : List ℕ). IsFound f c.in_ok-found.found.pending.items) (c.settle.ensures.quiet model).same (c.in_ok-found.ensures.found model)

pub returns-clause-slots : goal.returns-clause-slots
returns-clause-slots g c = λ model. c.repair.ensures.slots model ∙ ap slots ((c.find.ensures.quiet model).same ∙ (c.settle.ensures.quiet model).same)

pub repair-requires-clause-end : goal.repair-requires-clause-end
repair-requires-clause-end g c = λ model.
    let is = counted_slots _ _ (c.in_ok-found.ensures.found model) in
    ap (λ n. 640 * n) (c.count.ensures.value ∙ is) ∙ ap (λ (f : List ℕ). 640 * length (slots f)) (sym (c.find.ensures.quiet model).same)

pub repair-requires-clause-len : goal.repair-requires-clause-len
repair-requires-clause-len g c = λ model. c.in_ok-len.ensures.len model ∙ ap length (sym (c.find.ensures.quiet model).same)

pub repair-requires-clause-durable : goal.repair-requires-clause-durable
repair-requires-clause-durable g c = λ model f left.
    c.in_ok-len.ensures.durable model f ((c.find.ensures.quiet model).crash f left) ∙ sym (c.find.ensures.quiet model).same
