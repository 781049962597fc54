use Rattle.std.proofs.Common.{◌∙◌, ap, None}
use Rattle.mcv_queues.specs.Forest.{raised_some}
use Rattle.mcv_queues.specs.Rows.{links}
use Rattle.mcv_queues.specs.Heap.{without}
use Rattle.mcv_queues.proofs.RemovedNumbers
use Rattle.mcv_queues.proofs.rows.Rows.take_out.Goals as goal

pub returns-clause-out : goal.returns-clause-out
returns-clause-out g c = λ w i there.
    let l = c.args.link in
    let out = c.raise_some-2.ensures.links ∙ ap (λ f. raised_some f l.right None) (c.raise_some.ensures.links ∙ ap (λ f. raised_some f l.left None) c.cut.ensures.links) in
    RemovedNumbers.left_tree w (links c.args.self.now) (links c.raise_some-2.new.self) (links c.join-children.new.self) (links c.join.new.self) c.args.root c.args.number l c.join-children.result c.join.result c.unless.result i there c.requires out c.unless.ensures
    (c.join-children.ensures.joined (without w c.args.number)) (c.join.ensures.joined (without w c.args.number) None)
