use Rattle.std.proofs.Common.{◌≡◌, true, nat_lt, length, arith}
use Rattle.std.proofs.lemmas.Bool.Decides.{nat_tests}
use Rattle.mcv_http.proofs.Seconds.{too_short}
use Rattle.mcv_http.proofs.request.seconds.Goals as goal

pub returns-then-query-lt9 : goal.returns-then-query-lt9
returns-then-query-lt9 c =
    let some : nat_lt 0 (length c.args.query.now) ≡ true = grind (arith, nat_tests, c.is_empty.ensures, c.if-is_empty.false) in
    too_short c.args.query.now some c.if-query-lt9.true
