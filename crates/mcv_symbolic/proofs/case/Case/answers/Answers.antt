use Rattle.std.proofs.Common.{◌++◌, ap, ◌∙◌, option_map}
use Rattle.mcv_route.specs.View.{view}
use Rattle.mcv_rules.specs.NormalForm.{whole_of}
use Rattle.mcv_symbolic.specs.ShownAnswers.{answers, history_of}
use Rattle.mcv_symbolic.proofs.CaseSets.{laid_for}
use Rattle.mcv_symbolic.proofs.case.Case.answers.Goals as goal

pub returns : goal.returns
returns c =
    let e = c.self.inside in
    c.in_ok-push_answers.ensures.legs
    ∙ ap (λ legs. history_of legs ++ answers c.args.answer (whole_of e.plan)) c.new-legs.ensures.items
    ∙ ap (answers c.args.answer) (laid_for c.args.self.now (view e.route.now) e.asked.op e.asked.rest.now (option_map (λ m. m.0) e.asked.since) (whole_of e.plan) c.self.view_is c.self.invariant)
