use Rattle.std.proofs.Common.{◌≡◌, Ok, false, map, refl, sym, subst, ◌∙◌}
use Rattle.mcv_base.specs.Reply.{reply_value}
use Rattle.mcv_reply.specs.Replies.{Connection, Open, Receives}
use Rattle.mcv_reply.specs.Flight.{connection_of, held_in, is_over}
use Rattle.mcv_reply.proofs.FlightSteps.{received, shown_open}
use Rattle.mcv_reply.proofs.replies.Replies.feed.Goals as goal

pub returns-in-Ok : goal.returns-in-Ok
returns-in-Ok c =
    let p = c.self.inside.progress in
    let legs = c.self.inside.legs.items in
    let piece = c.args.piece.now in
    let after = c.read_replies.new in
    let new : Connection = connection_of after.legs.items after.progress in
    let reads = c.in-Ok.ensures in
    let on : is_over p.stage ≡ false = sym c.is_over.ensures ∙ c.if-is_over.false in
    let was : Open legs (held_in p) ≡ c.args.self.now = sym (shown_open legs p on) ∙ c.self.view_is in
    (reads.0, reads.1, subst (λ (v : Connection). Receives v piece (map reply_value reads.0) (Ok tt) new) was (received legs (held_in p) piece (map reply_value reads.0) (Ok tt) after.legs.items after.progress new reads.2 refl tt))
