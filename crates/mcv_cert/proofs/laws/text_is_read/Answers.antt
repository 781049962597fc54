use Rattle.std.proofs.Common.{subst, sym}
use Rattle.std.specs.List.{All}
use Rattle.mcv_cert.specs.Pair.{HasEras, IsPair, NamesLegs}
use Rattle.mcv_cert.specs.Reading.{pairs}
use Rattle.mcv_cert.proofs.Fitting.{are_pairs}
use Rattle.mcv_cert.proofs.Unique.{says_one, says_text}
use Rattle.mcv_cert.proofs.laws.text_is_read.Goals as goal

pub returns-clause-said : goal.returns-clause-said
returns-clause-said c = λ short.
    let cert = c.args.certificate.now in
    let sound = c.pairs.ensures.sound in
    let back = sym c.pairs.ensures.value in
    let are = subst (All (IsPair cert.window)) c.pairs.ensures.value (are_pairs cert.window c.pairs.result.now (subst (All NamesLegs) back sound.legs) (subst (All (HasEras cert.window)) back sound.eras)) in
    says_text cert.window cert.pairs c.window.ensures.small sound.rising are short

pub returns-clause-alone : goal.returns-clause-alone
returns-clause-alone c = λ r short said.
    let cert = c.args.certificate.now in
    let sound = c.pairs.ensures.sound in
    let back = sym c.pairs.ensures.value in
    let are = subst (All (IsPair cert.window)) c.pairs.ensures.value (are_pairs cert.window c.pairs.result.now (subst (All NamesLegs) back sound.legs) (subst (All (HasEras cert.window)) back sound.eras)) in
    says_one _ r (pairs cert.window cert.pairs) said (says_text cert.window cert.pairs c.window.ensures.small sound.rising are short)
