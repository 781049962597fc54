use Rattle.std.proofs.Common.{◌≡◌, ◌<◌, Some, arith, length, ap}
use Rattle.std.proofs.lemmas.Bool.Decides.{nat_tests}
use Rattle.mcv_cert.proofs.Escapes.{next, stops, ended}
use Rattle.mcv_cert.proofs.escape.unescaped.Goals as goal

pub returns-in_default : goal.returns-in_default
returns-in_default c = λ w bytes e.
    let k = c.loop-rest.invariant w bytes e in
    let some : 0 < length c.loop-rest.rest.now = grind (arith, nat_tests) in
    stops k.0 c.loop-rest.rest.now some k.1 k.3 (λ b later small is. c.in_default.ensures.exact b later small is)

pub loop-rest-preserved : goal.loop-rest-preserved
loop-rest-preserved c = λ w bytes e.
    let k = c.loop-rest.invariant w bytes e in
    let some : 0 < length c.loop-rest.rest.now = grind (arith, nat_tests) in
    rw c.in_ok-push.ensures.items (next k.0 c.in-Some.byte c.in-Some.later.now c.loop-rest.rest.now c.loop-rest.word.items w some k.1 k.2 k.3 (λ b later small is. c.in-Some.ensures.exact b later small is))

pub returns : goal.returns
returns c = λ w bytes e.
    let k = c.loop-rest.invariant w bytes e in
    let none : length c.loop-rest.rest.now ≡ 0 = grind (arith, nat_tests) in
    ap Some (ended k.0 c.loop-rest.rest.now c.loop-rest.word.items w none k.2 k.3)
