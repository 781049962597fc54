use Rattle.std.proofs.Common.{ap, ◌∙◌, option_map}
use Rattle.mcv_base.specs.declared.reply.Outcome.TheVariants.{Error}
use Rattle.mcv_route.specs.View.{view}
use Rattle.mcv_rules.specs.NormalForm.{whole_of}
use Rattle.mcv_symbolic.specs.ShownAnswers.{answers, history_of, leaf_hit}
use Rattle.mcv_symbolic.specs.Structure.{if_all}
use Rattle.mcv_symbolic.proofs.CaseSets.{laid_for}
use Rattle.mcv_symbolic.proofs.TriedHits.{found-none, found-some}
use Rattle.mcv_symbolic.proofs.case.Case.hit_of.Goals as goal

pub returns-in-Hit : goal.returns-in-Hit
returns-in-Hit c =
    let e = c.self.inside in
    let p = whole_of e.plan in
    found-some (leaf_hit c.args.leaf.now p) (answers Error p) (if_all Error p) (history_of c.new-legs.result.items) (history_of c.push_leaf_hit.new.legs.items) (rw c.in-Hit.is at c.in_ok-push_leaf_hit.ensures) (ap history_of c.new-legs.ensures.items)
    ∙ ap (leaf_hit c.args.leaf.now) (laid_for c.args.self.now (view e.route.now) e.asked.op e.asked.rest.now (option_map (λ m. m.0) e.asked.since) (whole_of e.plan) c.self.view_is c.self.invariant)

pub returns : goal.returns
returns c =
    let e = c.self.inside in
    let p = whole_of e.plan in
    found-none (leaf_hit c.args.leaf.now p) (answers Error p) (if_all Error p) c.in-Alike.field-0 (history_of c.new-legs.result.items) (history_of c.push_leaf_hit.new.legs.items) (rw c.in-Alike.is at c.in_ok-push_leaf_hit.ensures)
    ∙ ap (leaf_hit c.args.leaf.now) (laid_for c.args.self.now (view e.route.now) e.asked.op e.asked.rest.now (option_map (λ m. m.0) e.asked.since) (whole_of e.plan) c.self.view_is c.self.invariant)
