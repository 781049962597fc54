use Rattle.std.proofs.Common.{All, subst}
use Rattle.mcv_lines.specs.Line.{flights_of}
use Rattle.mcv_lines.proofs.OfOneServer.{IsFor, heard_for}
use Rattle.mcv_lines.proofs.line.Line.read.Goals as goal

pub invariant_of-self : goal.invariant_of-self
invariant_of-self g c =
    let own = subst (λ s. All (IsFor c.args.self.now.server) (flights_of s)) c.in-Open.is c.args.self.now.own in
    let hears = c.read.ensures in
    record { own = heard_for c.args.self.now.server c.read.new.room c.in-Open.open.sent.items c.read.new.self.sent.items c.in-Open.open.channel c.read.new.self.channel c.read.result hears.0 own hears.2 }
