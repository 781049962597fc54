use Rattle.std.proofs.Common.{◌∙◌, ap, sym, Some}
use Rattle.mcv_queues.specs.Forest.{raised, turned}
use Rattle.mcv_queues.specs.Rows.{links}
use Rattle.mcv_queues.specs.Heap.{hung, next_or, stepped}
use Rattle.mcv_queues.proofs.rows.Rows.step.Goals as goal

pub returns-in-Some-clause-links : goal.returns-in-Some-clause-links
returns-in-Some-clause-links g c =
    let parted = c.part-step.ensures.links ∙ ap (λ s. turned (links c.args.self.now) c.args.upper (Some (next_or c.args.lower s))) c.in-Some.is in
    c.hang.ensures.links ∙ ap (λ f. hung f c.args.upper c.args.lower c.in-Some.step) parted

pub returns-in-None-clause-links : goal.returns-in-None-clause-links
returns-in-None-clause-links g c =
    let parted = c.part-step.ensures.links ∙ ap (λ s. turned (links c.args.self.now) c.args.upper (Some (next_or c.args.lower s))) c.in-None.is in
    c.raise.ensures.links ∙ ap (λ f. raised f c.args.lower (Some c.args.upper)) parted ∙ ap (λ s. stepped (links c.args.self.now) c.args.upper c.args.lower s) (sym c.in-None.is)
