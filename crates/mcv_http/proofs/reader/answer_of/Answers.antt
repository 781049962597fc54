use Rattle.mcv_http.proofs.Reading.{whole_is_answered, whole_is_known}
use Rattle.mcv_http.proofs.reader.answer_of.Goals as goal

pub returns-clause-known : goal.returns-clause-known
returns-clause-known c = λ headers whole.
    whole_is_known c.args.bytes.now headers c.args.head c.of-method.result.now c.of-target.result.now c.answer.result c.of-method.ensures c.of-target.ensures c.answer.ensures whole

pub returns-clause-answered : goal.returns-clause-answered
returns-clause-answered c = λ headers h at.
    whole_is_answered c.args.bytes.now headers c.args.head c.of-method.result.now c.of-target.result.now c.answer.result c.of-method.ensures c.of-target.ensures c.answer.ensures h at
