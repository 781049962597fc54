use Rattle.std.proofs.Common.{◌≡◌, ◌++◌, ap, subst, ◌∙◌}
use Rattle.std.specs.Prelude.{OnOk}
use Rattle.mcv_route.specs.Outcomes.{History}
use Rattle.mcv_rules.specs.NormalForm.{whole_of}
use Rattle.mcv_symbolic.specs.ShownAnswers.{answers, history_of}
use Rattle.mcv_symbolic.proofs.TriedHits.{history-take}
use Rattle.mcv_symbolic.proofs.shown.push_instead.Goals as goal

pub returns-clause-legs : goal.returns-clause-legs
returns-clause-legs c =
    subst (λ (es : History). OnOk c.push_answers.result (history_of c.push_answers.new.legs.items ≡ es ++ answers c.args.answer (whole_of c.args.plan.now)))
    (ap history_of c.truncate.ensures.items ∙ history-take c.args.start c.args.legs.now.items) c.push_answers.ensures.legs
