use Rattle.std.proofs.Common.{◌∙◌, All, List, subst, sym}
use Rattle.mcv_lines.specs.Line.{flights_of}
use Rattle.mcv_lines.specs.declared.sent.Sent.{Sent}
use Rattle.mcv_lines.proofs.OfOneServer.{IsFor}
use Rattle.mcv_lines.proofs.line.Line.lose.Goals as goal

pub invariant_of-self : goal.invariant_of-self
invariant_of-self g c =
    let own = subst (λ s. All (IsFor c.args.self.now.server) (flights_of s)) (sym c.replace-state.ensures.value ∙ c.in-Open.is) c.args.self.now.own in
    record { own = subst (λ (xs : List Sent). All (IsFor c.args.self.now.server) xs) (sym c.in-Err.ensures.err.still) own }
