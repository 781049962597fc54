use Rattle.std.proofs.Common.{◌∙◌, refl, sym}
use Rattle.mcv_cert.proofs.Places.{era_words_are, one_era, past_first, past_one_era, past_two_eras}
use Rattle.mcv_cert.proofs.parse.read_eras.Goals as goal

pub returns-in_err-era-clause-meant : goal.returns-in_err-era-clause-meant
returns-in_err-era-clause-meant c = λ s more fits are e.
    absurd (c.in_err-era.ensures s.era (past_first c.args.window s more) fits.era (e ∙ era_words_are c.args.window s more))

pub returns-then-window-eq0-clause-meant : goal.returns-then-window-eq0-clause-meant
returns-then-window-eq0-clause-meant c = λ s more fits are e.
    let some = c.in_ok-era.ensures s.era (past_first c.args.window s more) fits.era (e ∙ era_words_are c.args.window s more) in
    (some.0, some.0 ∙ one_era c.args.window s are c.if-window-eq0.true, some.1 ∙ past_one_era c.args.window s more c.if-window-eq0.true)

pub returns-in_err-get_era-clause-meant : goal.returns-in_err-get_era-clause-meant
returns-in_err-get_era-clause-meant c = λ s more fits are e.
    let some = c.in_ok-era.ensures s.era (past_first c.args.window s more) fits.era (e ∙ era_words_are c.args.window s more) in
    absurd (c.in_err-get_era.ensures s.get_era more fits.get_era (some.1 ∙ past_two_eras c.args.window s more c.if-window-eq0.false))

pub returns-clause-meant : goal.returns-clause-meant
returns-clause-meant c = λ s more fits are e.
    let some = c.in_ok-era.ensures s.era (past_first c.args.window s more) fits.era (e ∙ era_words_are c.args.window s more) in
    let second = c.in_ok-get_era.ensures s.get_era more fits.get_era (some.1 ∙ past_two_eras c.args.window s more c.if-window-eq0.false) in
    (some.0, second.0, second.1)
