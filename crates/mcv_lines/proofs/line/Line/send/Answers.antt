use Rattle.std.proofs.Common.{◌≡◌, All, rules, subst}
use Rattle.mcv_lines.specs.Line.{flights_of}
use Rattle.mcv_lines.proofs.OfOneServer.{IsFor, sent_for}
use Rattle.mcv_lines.proofs.line.Line.send.Goals as goal

pub invariant_of-self : goal.invariant_of-self
invariant_of-self g c =
    let same : c.args.flight.server.0 ≡ c.args.self.now.server.0 = search rules in
    let own = subst (λ s. All (IsFor c.args.self.now.server) (flights_of s)) c.in-Open.is c.args.self.now.own in
    record { own = sent_for c.args.self.now.server c.args.flight c.args.now c.args.is_again c.in-Open.open.sent.items c.send.new.self.sent.items c.in-Open.open.channel c.send.new.self.channel c.send.result same own c.send.ensures }
