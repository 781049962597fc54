use Rattle.std.proofs.Common.{ap, ◌∙◌}
use Rattle.mcv_rules.specs.NormalForm.{whole_of}
use Rattle.mcv_symbolic.specs.ShownAnswers.{first_hit, history_of}
use Rattle.mcv_symbolic.proofs.TriedHits.{history-take, lead-hit, lead-neither}
use Rattle.mcv_symbolic.proofs.shown.led.Goals as goal

pub returns-then-branch : goal.returns-then-branch
returns-then-branch c = λ found others y before size t.
    lead-hit found (first_hit (whole_of c.args.plan.now)) others y c.in-Alike.field-0 before (history_of c.args.legs.now.items) (history_of c.truncate.new.self.items) (history_of c.push_first_hit.new.legs.items) c.args.start c.in_ok-push_first_hit-in-Alike.field-0
    (rw c.in-Alike.is at t) size (ap history_of c.truncate.ensures.items ∙ history-take c.args.start c.args.legs.now.items) c.in_ok-push_first_hit-in-Alike.ensures c.if-branch.true

pub returns-else-branch : goal.returns-else-branch
returns-else-branch c = λ found others y before size t.
    lead-neither found (first_hit (whole_of c.args.plan.now)) others y c.in-Alike.field-0 before (history_of c.args.legs.now.items) (history_of c.truncate.new.self.items) (history_of c.push_first_hit.new.legs.items) c.args.start c.in_ok-push_first_hit-in-Alike.field-0
    (rw c.in-Alike.is at t) size (ap history_of c.truncate.ensures.items ∙ history-take c.args.start c.args.legs.now.items) c.in_ok-push_first_hit-in-Alike.ensures c.if-branch.false
