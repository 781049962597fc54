use Rattle.std.proofs.Common.{◌≡◌, map}
use Rattle.std.specs.Prelude.{IfOk, IsSomeAnd}
use Rattle.mcv_cert.specs.Pair.{reason_of}
use Rattle.mcv_cert.proofs.Meant.{by_reason}
use Rattle.mcv_cert.proofs.parse.read_reason.Goals as goal

pub returns-clause-meant : goal.returns-clause-meant
returns-clause-meant c =
    by_reason (map (λ w. w.now) c.args.words.now) (λ r. IfOk c.reason_of_words.result (λ o. IsSomeAnd o (λ x. reason_of x ≡ r)))
    c.reason_of_words.ensures.never c.reason_of_words.ensures.twin c.reason_of_words.ensures.same c.reason_of_words.ensures.all
