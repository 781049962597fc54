use Rattle.std.proofs.Common.{◌≡◌, ◌∙◌, refl, sym}
use Rattle.mcv_session.specs.Desk.{answer_value}
use Rattle.mcv_desks.specs.Mixed.{IsKeyAnswer}
use Rattle.mcv_desks.proofs.MixedReplies.{holds_of}
use Rattle.mcv_desks.proofs.MixedRequests.{goes_on, is_there, none_changes}
use Rattle.mcv_desks.specs.Asked.{mixed_at}
use Rattle.mcv_desks.proofs.desks.put_at.Goals as goal

pub returns-in_default : goal.returns-in_default
returns-in_default g c = none_changes c.args.mixed.now c.args.mixed.now refl

pub put-requires : goal.put-requires
put-requires g c =
    let one = c.in-Some.one.now in
    holds_of (λ q. q.serial ≡ c.args.serial → IsKeyAnswer g.F.HubNames.opened_of q c.args.key (answer_value c.args.outcome)) (mixed_at c.args.mixed.now c.args.place) one.request (is_there c.args.mixed.now c.args.place one (sym c.in-Some.ensures.value)) c.requires (sym c.serial.ensures ∙ c.if-serial.false)

pub returns : goal.returns
returns g c = goes_on c.args.mixed.now c.args.place c.in-Some.one.now c.put.new.self (sym c.in-Some.ensures.value) c.put.ensures
