use Rattle.std.proofs.Common.{◌≡◌, ◌∙◌, ◌+◌, ◌-◌, ◌++◌, ◌∷◌, [], List, ap, arith, length}
use Rattle.mcv_lines.specs.Channel.{request_text}
use Rattle.mcv_lines.specs.declared.sent.Sent.{Sent}
use Rattle.mcv_lines.proofs.OfOneServer.{sent_length}
use Rattle.mcv_lines.proofs.open.OpenLine.send.Goals as goal

pub invariant_of-self-in-Ok-clause-lengths : goal.invariant_of-self-in-Ok-clause-lengths
invariant_of-self-in-Ok-clause-lengths g c =
    let size = c.unwritten.result - c.unwritten-before.result in
    let before = c.unwritten-before.ensures in
    let after = c.unwritten.ensures in
    let more : c.send.new.self.unwritten ≡ c.args.self.now.channel.unwritten + length (request_text c.args.flight.request) = c.in-Ok.ensures.unwritten in
    let one : Sent = record { flight = c.args.flight; at = c.args.now; is_again = c.args.is_again; length = size } in
    sent_length c.args.flight c.args.now c.args.is_again c.args.self.now.sent.items c.push_back_reserved.new.self.items size c.args.self.now.lengths (omega (arith, before, after, more))
    (c.push_back_reserved.ensures.items ∙ ap (λ (xs : List Sent). xs ++ one ∷ []) c.reserve.ensures.items)
