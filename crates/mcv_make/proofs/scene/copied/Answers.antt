use Rattle.std.proofs.Common.{◌∙◌, ◌++◌, ◌∷◌, [], take, ap, sym}
use Rattle.std.proofs.lemmas.List.{map-append, map_more}
use Rattle.mcv_witness.specs.Finding.{outcomes_of}
use Rattle.mcv_witness.specs.declared.finding.LegOutcome.{LegOutcome}
use Rattle.mcv_symbolic.specs.declared.shown.LegAnswer.{LegAnswer}
use Rattle.mcv_symbolic.specs.ShownAnswers.{history_of}
use Rattle.mcv_make.proofs.scene.copied.Goals as goal

pub loop-answer-preserved : goal.loop-answer-preserved
loop-answer-preserved c =
    let answers = c.args.answers.now in
    let i = c.loop-answer.answer-index in
    let a = c.answer-item.result in
    let more = map_more (λ (b : LegAnswer). (b.leg.now.position, b.outcome)) answers i a c.loop-answer-test.true ∙ ap (λ (b : LegAnswer). history_of (take i answers) ++ (b.leg.now.position, b.outcome) ∷ []) (sym c.answer-item.is) in
    ap outcomes_of c.in_ok-push.ensures.items
    ∙ map-append (λ (l : LegOutcome). (l.position, l.outcome)) c.loop-answer.legs.items (record { position = c.in_ok-position.position; outcome = a.outcome } ∷ [])
    ∙ ap (λ es. es ++ (c.in_ok-position.position, a.outcome) ∷ []) c.loop-answer.invariant
    ∙ ap (λ p. history_of (take i answers) ++ (p, a.outcome) ∷ []) c.in_ok-position.ensures
    ∙ sym more
