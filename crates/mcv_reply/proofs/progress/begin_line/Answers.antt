use Rattle.std.proofs.Common.{List, ℕ, sym, subst}
use Rattle.mcv_reply.specs.declared.word.Row.TheVariants.{Reply}
use Rattle.mcv_reply.specs.Candidate.{IsKept}
use Rattle.mcv_reply.proofs.Steps.{first_some}
use Rattle.mcv_reply.proofs.progress.begin_line.Goals as goal

pub returns-clause-at : goal.returns-clause-at
returns-clause-at c =
    let items = c.candidates-progress.result.items in
    let kept = subst (λ (t : List ℕ). IsKept (Reply c.args.op) c.args.key.now t items) (sym c.clear.ensures.items) c.candidates-progress.ensures in
    (kept, first_some c.args.op c.args.key.now items c.candidates-progress.ensures)
