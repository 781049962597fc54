use Rattle.std.proofs.Common.{◌∙◌, ap, length, sym}
use Rattle.mcv_plan.specs.View.{view}
use Rattle.mcv_plan.proofs.PastGrows.{after_next, entries_same, fresh_next, kept_next}
use Rattle.mcv_plan.proofs.FirstWave.{within_count}
use Rattle.mcv_plan.proofs.state.EvalState.advance.Goals as goal

pub returns-clause-heard : goal.returns-clause-heard
returns-clause-heard c = after_next c.args.entry c.args.outcome c.advance-reply.result _ _ c.args.self.now _ c.advance-reply.ensures.heard c.or-self.ensures

pub returns-clause-fresh : goal.returns-clause-fresh
returns-clause-fresh c =
    fresh_next c.args.entry c.args.outcome c.advance-reply.result _ _ c.args.self.now c.advance-reply.new.course c.advance-reply.ensures.heard c.clear.ensures.items c.args.self.now.kept.numbered

pub advance-reply-requires-clause-within : goal.advance-reply-requires-clause-within
advance-reply-requires-clause-within c = within_count c.args.entry c.args.self.now.course c.args.self.now.fresh c.args.self.now.kept c.requires

pub invariant_of-self-clause-kept : goal.invariant_of-self-clause-kept
invariant_of-self-clause-kept c =
    kept_next c.args.self.now.course c.advance-reply.new.course c.args.self.now.fresh c.advance-reply.new.fresh c.advance-reply.ensures.heard.same c.args.self.now.kept
    (c.advance-reply.ensures.capacity ∙ c.clear.ensures.capacity)

pub invariant_of-self-clause-counted : goal.invariant_of-self-clause-counted
invariant_of-self-clause-counted c =
    c.args.self.now.counted ∙ ap length (sym (entries_same (view c.args.self.now.course) (view c.advance-reply.new.course) c.advance-reply.ensures.heard.same))
