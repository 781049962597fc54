use Rattle.std.proofs.Common.{sym, subst}
use Rattle.mcv_core.specs.Steps.{IsAnswered}
use Rattle.mcv_core.specs.View.{core_view}
use Rattle.mcv_core.specs.declared.run.Answer.TheVariants as answer
use Rattle.mcv_core.specs.declared.run.Event.TheVariants as event
use Rattle.mcv_core.proofs.AnswersOfCalls
use Rattle.mcv_core.proofs.engine.Core.answer.Goals as goal

pub returns-in-Begin-clause-answered : goal.returns-in-Begin-clause-answered
returns-in-Begin-clause-answered g c =
    let h = g.H.KeyHash.chosen c.args.self.now.hash in
    let v = core_view c.args.self.now.dispatcher in
    let w = core_view c.begin.new.self.dispatcher in
    subst (λ e. IsAnswered h v e c.call.result w) (sym c.in-Begin.is) (subst (λ a. IsAnswered h v (event.Begin c.in-Begin.request c.in-Begin.key) a w) (sym c.call.ensures) (AnswersOfCalls.begins h v w c.in-Begin.request c.in-Begin.key c.begin.result c.begin.ensures.begun))

pub returns-in-Next-clause-answered : goal.returns-in-Next-clause-answered
returns-in-Next-clause-answered g c =
    let h = g.H.KeyHash.chosen c.args.self.now.hash in
    let v = core_view c.args.self.now.dispatcher in
    let w = core_view c.next.new.self in
    subst (λ e. IsAnswered h v e c.leg.result w) (sym c.in-Next.is) (subst (λ a. IsAnswered h v (event.Next c.in-Next.server) a w) (sym c.leg.ensures) (AnswersOfCalls.sends h v w c.in-Next.server c.next.result c.next.ensures))

pub returns-in-Answered-clause-answered : goal.returns-in-Answered-clause-answered
returns-in-Answered-clause-answered g c =
    let h = g.H.KeyHash.chosen c.args.self.now.hash in
    let v = core_view c.args.self.now.dispatcher in
    let w = core_view c.answered.new.self in
    subst (λ e. IsAnswered h v e c.state.result w) (sym c.in-Answered.is) (subst (λ a. IsAnswered h v (event.Answered c.in-Answered.leg c.in-Answered.parts) a w) (sym c.state.ensures) (AnswersOfCalls.answers h v w c.in-Answered.leg c.in-Answered.parts c.answered.result c.answered.ensures))

pub returns-in-Lost-clause-answered : goal.returns-in-Lost-clause-answered
returns-in-Lost-clause-answered g c =
    let h = g.H.KeyHash.chosen c.args.self.now.hash in
    let v = core_view c.args.self.now.dispatcher in
    let w = core_view c.lost.new.self in
    subst (λ e. IsAnswered h v e c.state-in-Lost.result w) (sym c.in-Lost.is) (subst (λ a. IsAnswered h v (event.Lost c.in-Lost.leg) a w) (sym c.state-in-Lost.ensures) (AnswersOfCalls.loses h v w c.in-Lost.leg c.lost.result c.lost.ensures))

pub returns-in-LostToo-clause-answered : goal.returns-in-LostToo-clause-answered
returns-in-LostToo-clause-answered g c =
    let h = g.H.KeyHash.chosen c.args.self.now.hash in
    let v = core_view c.args.self.now.dispatcher in
    let w = core_view c.lost_too.new.self in
    subst (λ e. IsAnswered h v e c.state-in-LostToo.result w) (sym c.in-LostToo.is) (subst (λ a. IsAnswered h v (event.LostToo c.in-LostToo.leg) a w) (sym c.state-in-LostToo.ensures) (AnswersOfCalls.loses_too h v w c.in-LostToo.leg c.lost_too.result c.lost_too.ensures))

pub returns-in-Spooled-clause-answered : goal.returns-in-Spooled-clause-answered
returns-in-Spooled-clause-answered g c =
    let h = g.H.KeyHash.chosen c.args.self.now.hash in
    let v = core_view c.args.self.now.dispatcher in
    let w = core_view c.spooled.new.self in
    subst (λ e. IsAnswered h v e c.state-in-Spooled.result w) (sym c.in-Spooled.is) (subst (λ a. IsAnswered h v (event.Spooled c.in-Spooled.leg c.in-Spooled.stored) a w) (sym c.state-in-Spooled.ensures) (AnswersOfCalls.stores h v w c.in-Spooled.leg c.in-Spooled.stored c.spooled.result c.spooled.ensures))

pub returns-in-SpoolRefused-clause-answered : goal.returns-in-SpoolRefused-clause-answered
returns-in-SpoolRefused-clause-answered g c =
    let h = g.H.KeyHash.chosen c.args.self.now.hash in
    let v = core_view c.args.self.now.dispatcher in
    let w = core_view c.spool_refused.new.self in
    subst (λ e. IsAnswered h v e c.state-in-SpoolRefused.result w) (sym c.in-SpoolRefused.is) (subst (λ a. IsAnswered h v (event.SpoolRefused c.in-SpoolRefused.leg) a w) (sym c.state-in-SpoolRefused.ensures) (AnswersOfCalls.refuses h v w c.in-SpoolRefused.leg c.spool_refused.result c.spool_refused.ensures))

pub returns-in-Replay-clause-answered : goal.returns-in-Replay-clause-answered
returns-in-Replay-clause-answered g c =
    let h = g.H.KeyHash.chosen c.args.self.now.hash in
    let v = core_view c.args.self.now.dispatcher in
    let w = core_view c.replay.new.self in
    subst (λ e. IsAnswered h v e c.leg-in-Replay.result w) (sym c.in-Replay.is) (subst (λ a. IsAnswered h v (event.Replay c.in-Replay.server) a w) (sym c.leg-in-Replay.ensures) (AnswersOfCalls.replays h v w c.in-Replay.server c.replay.result c.replay.ensures))

pub returns-in-Mark-clause-answered : goal.returns-in-Mark-clause-answered
returns-in-Mark-clause-answered g c =
    let h = g.H.KeyHash.chosen c.args.self.now.hash in
    let v = core_view c.args.self.now.dispatcher in
    let w = core_view c.mark.new.self in
    subst (λ e. IsAnswered h v e answer.Done w) (sym c.in-Mark.is) (AnswersOfCalls.marks h v w c.in-Mark.server c.mark.ensures)

pub returns-in-Unmark-clause-answered : goal.returns-in-Unmark-clause-answered
returns-in-Unmark-clause-answered g c =
    let h = g.H.KeyHash.chosen c.args.self.now.hash in
    let v = core_view c.args.self.now.dispatcher in
    let w = core_view c.unmark.new.self in
    subst (λ e. IsAnswered h v e answer.Done w) (sym c.in-Unmark.is) (AnswersOfCalls.unmarks h v w c.in-Unmark.server c.unmark.ensures)

pub returns-in-Clock-clause-answered : goal.returns-in-Clock-clause-answered
returns-in-Clock-clause-answered g c =
    let h = g.H.KeyHash.chosen c.args.self.now.hash in
    let v = core_view c.args.self.now.dispatcher in
    let w = core_view c.clock.new.self in
    subst (λ e. IsAnswered h v e c.done.result w) (sym c.in-Clock.is) (subst (λ a. IsAnswered h v (event.Clock c.in-Clock.moment) a w) (sym c.done.ensures) (AnswersOfCalls.clocks h v w c.in-Clock.moment c.clock.result c.clock.ensures))

pub returns-in-Turn-clause-answered : goal.returns-in-Turn-clause-answered
returns-in-Turn-clause-answered g c =
    let h = g.H.KeyHash.chosen c.args.self.now.hash in
    let v = core_view c.args.self.now.dispatcher in
    let w = core_view c.turn.new.self in
    subst (λ e. IsAnswered h v e c.done-in-Turn.result w) (sym c.in-Turn.is) (subst (λ a. IsAnswered h v (event.Turn) a w) (sym c.done-in-Turn.ensures) (AnswersOfCalls.turns h v w c.turn.result c.turn.ensures))

pub returns-in-Take-clause-answered : goal.returns-in-Take-clause-answered
returns-in-Take-clause-answered g c =
    let h = g.H.KeyHash.chosen c.args.self.now.hash in
    let v = core_view c.args.self.now.dispatcher in
    let w = core_view c.take.new.self in
    subst (λ e. IsAnswered h v e c.reply.result w) (sym c.in-Take.is) (subst (λ a. IsAnswered h v (event.Take c.in-Take.call) a w) (sym c.reply.ensures) (AnswersOfCalls.takes h v w c.in-Take.call c.take.result c.take.ensures))
