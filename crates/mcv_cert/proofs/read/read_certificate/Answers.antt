use Rattle.std.proofs.Common.{◌≡◌, ◌∙◌, ap, arith, subst, sym}
use Rattle.std.proofs.lemmas.Result.{err_from_is_err_and}
use Rattle.mcv_cert.specs.Reading.{Reads, Says, headless, over, pairs, reads}
use Rattle.mcv_cert.proofs.Lines.{fault_weaker}
use Rattle.mcv_cert.proofs.read.read_certificate.Goals as goal

pub returns-then-text-gt-TEXT_LIMIT-clause-faulty : goal.returns-then-text-gt-TEXT_LIMIT-clause-faulty
returns-then-text-gt-TEXT_LIMIT-clause-faulty c = over (omega arith)

pub returns-in_default-clause-faulty : goal.returns-in_default-clause-faulty
returns-in_default-clause-faulty c =
    let bare = rw c.in_default.is at c.in_ok-head.ensures in
    headless c.if-text-gt-TEXT_LIMIT.false bare

pub returns-in_err-read_body-clause-faulty : goal.returns-in_err-read_body-clause-faulty
returns-in_err-read_body-clause-faulty c =
    let head = c.in-Some.head in
    let cut = rw c.in-Some.is at c.in_ok-head.ensures in
    let reported = fault_weaker c.in_err-read_body.field-0.0 (Reads head.window head.body.now) (Says c.args.text.now) (λ r read. reads head.window head.body.now r cut.0 c.if-text-gt-TEXT_LIMIT.false cut.1 read) c.in_err-read_body.ensures.faulty in
    let err = err_from_is_err_and c.from_residual-in_err-read_body.result c.from_residual-in_err-read_body.ensures.1 in
    rw (err.1, err.2) reported

pub returns-clause-read : goal.returns-clause-read
returns-clause-read c =
    let head = c.in-Some.head in
    let cut = rw c.in-Some.is at c.in_ok-head.ensures in
    let certificate = c.read_body.new.certificate in
    let said = reads head.window head.body.now (pairs head.window certificate.pairs) cut.0 c.if-text-gt-TEXT_LIMIT.false cut.1 c.in_ok-read_body.ensures.read in
    subst (λ v. Says c.args.text.now (pairs v certificate.pairs)) (sym c.in_ok-read_body.ensures.window) said
