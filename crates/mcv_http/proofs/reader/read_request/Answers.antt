use Rattle.std.proofs.Common.{Err, ap}
use Rattle.mcv_http.specs.Reading.{too_long}
use Rattle.mcv_http.proofs.Reading.{none_that_fits, refused_by}
use Rattle.mcv_http.proofs.reader.read_request.Goals as goal

pub returns-in-Ok-Complete-clause-known : goal.returns-in-Ok-Complete-clause-known
returns-in-Ok-Complete-clause-known c =
    let whole = rw c.in-Ok-Complete.field-0-is at c.in-Ok-Complete.ensures.complete in
    c.answer_of.ensures.known c.parse_request.new.headers whole

pub returns-else-bytes-lt-REQUEST_LIMIT-clause-known : goal.returns-else-bytes-lt-REQUEST_LIMIT-clause-known
returns-else-bytes-lt-REQUEST_LIMIT-clause-known c =
    let none = rw c.in-Ok-Partial.field-0-is at c.in-Ok-Partial.ensures.partial in
    too_long c.if-bytes-lt-REQUEST_LIMIT.false none

pub returns-in-Err-clause-known : goal.returns-in-Err-clause-known
returns-in-Err-clause-known c =
    let refused = refused_by c.args.bytes.now c.in-Err.error c.in-Err.ensures.no_room (λ is. c.in-Err.ensures.too_many (ap Err is)) c.in-Err.ensures.invalid in
    rw c.refusal_by.ensures refused

pub returns-in-Err-clause-answered : goal.returns-in-Err-clause-answered
returns-in-Err-clause-answered c = λ head rest reads few. absurd (none_that_fits c.args.bytes.now c.in-Err.ensures.no_room head rest reads few)
