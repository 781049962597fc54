use Rattle.std.proofs.Common.{List, Ok, arith, map, subst, sym}
use Rattle.std.specs.Arc.{arc_value}
use Rattle.mcv_base.specs.Reply.{part_value}
use Rattle.mcv_base.specs.declared.reply.Part.{Part}
use Rattle.mcv_session.specs.Desk.{answer_value}
use Rattle.mcv_text.specs.Request.{request_value}
use Rattle.mcv_turn.specs.Answers.{IsAnswer}
use Rattle.mcv_desks.specs.Mixed.{IsKeyAnswer, IsMixed, MixedRequest, MixedView}
use Rattle.mcv_desks.specs.OneKey.{only_key}
use Rattle.mcv_desks.proofs.MixedReplies.{one_more_reply, reply_to_key}
use Rattle.mcv_desks.proofs.mixed.Mixed.keep.Goals as goal

pub invariant_of-self-2 : goal.invariant_of-self-2
invariant_of-self-2 g c =
    let opened_of = g.F.HubNames.opened_of in
    let m = c.self.inside in
    let q : MixedRequest = record { serial = m.serial; number = m.number; hubs = m.hubs; asked = arc_value m.request } in
    let key = c.args.key in
    let asked : IsKeyAnswer opened_of q key (answer_value (Ok c.args.parts)) = subst (λ (v : MixedView). IsKeyAnswer opened_of v.request key (answer_value (Ok c.args.parts))) (sym c.self.view_is) c.requires in
    let is = subst (λ (ps : List Part). IsAnswer (opened_of asked.hub) (only_key (request_value q.asked) key) (Ok (map part_value ps))) c.in-Some.ensures.items asked.is in
    let its = reply_to_key c.key_words_have_one_reading.ensures.one c.key_words_have_one_reading.ensures.no_rest opened_of q.hubs q.asked key asked.hub asked.of_key c.pop.new.self.items c.in-Some.part is in
    one_more_reply opened_of q m.of_keys.items m.replies.items m.parts m.answered m.fault c.self.invariant c.saturating_add-self-inside.result key c.in-Some.part c.fill.new.replies.items (omega (arith, c.saturating_add-self-inside.ensures)) (c.fill.ensures.filled c.if-not-fill.false) its

-- no place was filled
pub invariant_of-self : goal.invariant_of-self
invariant_of-self g c =
    let m = c.self.inside in
    let q : MixedRequest = record { serial = m.serial; number = m.number; hubs = m.hubs; asked = arc_value m.request } in
    subst (λ rs. IsMixed g.F.HubNames.opened_of q m.of_keys.items rs m.parts m.answered m.fault) (sym (c.fill.ensures.kept c.if-not-fill.true)) c.self.invariant
