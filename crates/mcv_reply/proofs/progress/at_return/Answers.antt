use Rattle.std.proofs.Common.{List, ℕ, ap, arith, sym, subst}
use Rattle.mcv_reply.specs.declared.word.Row.TheVariants.{AfterValue}
use Rattle.mcv_reply.specs.Candidate.{IsKept}
use Rattle.mcv_reply.specs.Reader.{Fed}
use Rattle.mcv_reply.proofs.Stages.{wrong_line_feed}
use Rattle.mcv_reply.proofs.Steps.{last_some, return_step, first_taken}
use Rattle.mcv_reply.proofs.progress.at_return.Goals as goal

pub returns-then-piece-ne10 : goal.returns-then-piece-ne10
returns-then-piece-ne10 c =
    let p = c.args.progress.now in
    wrong_line_feed c.args.op c.args.key.now c.requires.clean p.head p.first.items p.body.items c.requires.at.0 c.args.piece.now c.requires.at.1 c.requires.some c.if-piece-ne10.true

pub returns : goal.returns
returns c =
    let p = c.args.progress.now in
    let kept = subst (λ (t : List ℕ). IsKept AfterValue c.args.key.now t c.candidates-progress.result.items) (sym c.clear.ensures.items) c.candidates-progress.ensures in (
      omega arith,
      omega (arith, c.requires.some),
      (
        (c.requires.at.0, c.requires.at.1, kept, last_some c.args.key.now c.candidates-progress.result.items c.candidates-progress.ensures),
        ap Fed (return_step p.first.items p.body.items c.clear.new.self.items _ c.clear.ensures.items (first_taken c.args.piece.now 10 c.requires.some c.if-piece-ne10.false)),
      ),
    )
