use Rattle.std.proofs.Common.{◌∙◌, sym, ap, subst}
use Rattle.mcv_blocks.specs.Blocks.{AreJustifiedPairs}
use Rattle.mcv_cert.specs.Pair.{AreRising}
use Rattle.std.proofs.lemmas.Result.{err_from_is_err_and}
use Rattle.mcv_check.specs.Fault.{IsFaultOfPairs}
use Rattle.mcv_check.proofs.NoFaultOfJustified.{fault_of_certificate, no_fault_of_justified}
use Rattle.mcv_check.proofs.accepted.check.Goals as goal

pub returns-then-window-clause-fault : goal.returns-then-window-clause-fault
returns-then-window-clause-fault c = λ same. c.if-window.true (c.window.ensures.value ∙ same ∙ sym c.window-2.ensures)

pub returns-then-window-clause-justified : goal.returns-then-window-clause-justified
returns-then-window-clause-justified c = λ justified. absurd (c.if-window.true (c.window.ensures.value ∙ justified.0 ∙ sym c.window-2.ensures))

pub judge_routes-requires : goal.judge_routes-requires
judge_routes-requires c = record { sound = c.servers-servers.ensures.sound; pairs = subst AreRising (sym c.pairs.ensures.value) c.pairs.ensures.sound.rising }

pub invariant_of-result : goal.invariant_of-result
invariant_of-result c =
    c.justified_is_covered.ensures c.args.routes c.args.certificate.now c.servers-servers.ensures.sound c.pairs.ensures.sound.rising (sym c.window.ensures.value ∙ c.if-window.false ∙ c.window-2.ensures, subst (AreJustifiedPairs c.args.routes) c.pairs.ensures.value c.in_ok-judge_routes.ensures)

pub returns-in_err-judge_routes-clause-fault : goal.returns-in_err-judge_routes-clause-fault
returns-in_err-judge_routes-clause-fault c =
    let reported = subst (λ ps. IsFaultOfPairs c.args.routes ps c.in_err-judge_routes.field-0.0) c.pairs.ensures.value c.in_err-judge_routes.ensures in
    let p = err_from_is_err_and c.from_residual.result c.from_residual.ensures.1 in
    rw (p.1, p.2) (fault_of_certificate c.args.routes c.args.certificate.now (sym c.window.ensures.value ∙ c.if-window.false ∙ c.window-2.ensures) c.in_err-judge_routes.field-0.0 reported)

pub returns-in_err-judge_routes-clause-justified : goal.returns-in_err-judge_routes-clause-justified
returns-in_err-judge_routes-clause-justified c = λ justified.
    let reported = subst (λ ps. IsFaultOfPairs c.args.routes ps c.in_err-judge_routes.field-0.0) c.pairs.ensures.value c.in_err-judge_routes.ensures in
    let p = err_from_is_err_and c.from_residual.result c.from_residual.ensures.1 in
    rw (p.1, p.2) (no_fault_of_justified c.one_list_of_blocks.ensures c.args.routes c.args.certificate.now.pairs justified.1 c.in_err-judge_routes.field-0.0 reported)
