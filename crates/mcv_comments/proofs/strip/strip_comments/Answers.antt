use Rattle.mcv_comments.proofs.Pieces.{strips_push}
use Rattle.mcv_comments.proofs.OneReading.{open_or_strips}
use Rattle.mcv_comments.proofs.strip.strip_comments.Goals as goal

pub returns-in_default-clause-only : goal.returns-in_default-clause-only
returns-in_default-clause-only c = λ out strips.
    absurd (open_or_strips c.args.text.now out (c.loop-rest.rest.now, c.loop-rest.kept.items, c.loop-rest.invariant, c.in_default.ensures) strips)

pub loop-rest-preserved : goal.loop-rest-preserved
loop-rest-preserved c =
    strips_push c.args.text.now c.loop-rest.rest.now c.in-Some.front.rest.now c.loop-rest.kept.items c.in-Some.front.kept.now c.extend_from_slice.new.self.items
    c.loop-rest.invariant c.in-Some.ensures.0 c.in_ok-extend_from_slice.ensures.items
