use Rattle.std.proofs.Common.{length, map, take, ap, arith, ◌∙◌}
use Rattle.std.proofs.lemmas.List.{length-map, length-take, take_all}
use Rattle.mcv_reply.specs.Word.{has_cas, words}
use Rattle.mcv_reply.specs.Candidate.{new_candidate}
use Rattle.mcv_reply.proofs.Lines.{new_kept, few_words, pushed}
use Rattle.mcv_reply.proofs.line.candidates.Goals as goal

pub loop-first-preserved : goal.loop-first-preserved
loop-first-preserved c = pushed c.args.row c.args.key.now c.loop-first.first-index c.words-first-items.result.now _ c.loop-first.candidates.items c.push.new.self.items c.has_cas.result c.new.result
    c.words-first-items.ensures c.has_cas.ensures c.loop-first-test.true c.loop-first.invariant c.new.ensures c.push.ensures.items

pub push-requires : goal.push-requires
push-requires c = (omega arith, omega (arith, few_words c.args.row, ap length c.words-first-items.ensures, ap length c.loop-first.invariant, length-map (take c.loop-first.first-index (words c.args.row)) (new_candidate (has_cas c.args.row) c.args.key.now), length-take c.loop-first.first-index (words c.args.row), c.loop-first-test.true))

pub returns : goal.returns
returns c = new_kept c.args.row c.args.key.now c.requires.short c.loop-first.candidates.items (c.loop-first.invariant ∙ ap (map (new_candidate (has_cas c.args.row) c.args.key.now)) (take_all c.loop-first.first-index (words c.args.row) (omega (arith, ap length c.words-first-items.ensures, c.loop-first-test.false))))
