use Rattle.std.proofs.Common.{◌≡◌, List, ℕ, sym, ap, ◌∙◌}
use Rattle.mcv_spool.specs.File.{slots}
use Rattle.mcv_spool.proofs.Moments.{seen_has}
use Rattle.mcv_spool.proofs.recover.repair.Goals as goal

pub returns-clause-slots : goal.returns-clause-slots
returns-clause-slots g c = λ model.
    let mid = c.is_closed.new.disk in
    let quiet = c.is_closed.ensures.quiet model in
    seen_has g.D.Disk.seen g.D.Disk.may_leave g.D.Disk.moment g.D.Disk.left_since (g.met.D.Disk.read_may_stay model) (g.met.D.Disk.counts_now model) (g.met.D.Disk.only_now model)
    mid c.close.new.disk (λ (f : List ℕ). slots f ≡ slots (g.D.Disk.seen mid)) (c.close.ensures.any_moment model)
    (λ f left. ap slots (c.requires.durable model f (quiet.crash f left) ∙ sym quiet.same))
    ∙ ap slots quiet.same

pub returns-in_err-is_closed-clause-slots : goal.returns-in_err-is_closed-clause-slots
returns-in_err-is_closed-clause-slots g c = λ model. ap slots (c.is_closed.ensures.quiet model).same

pub returns-then-branch-clause-slots : goal.returns-then-branch-clause-slots
returns-then-branch-clause-slots g c = λ model. ap slots (c.is_closed.ensures.quiet model).same
