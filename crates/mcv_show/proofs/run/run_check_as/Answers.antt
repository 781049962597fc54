use Rattle.std.proofs.Common.{◌∙◌, List, ℕ, Option, option_map, sym, true≢false}
use Rattle.std.proofs.lemmas.Option.{IfSome_then}
use Rattle.std.proofs.lemmas.Result.{IfOk-weaker}
use Rattle.mcv_show.proofs.Verdicts.{explained_as, plain_as, reported_as}
use Rattle.mcv_show.proofs.run.run_check_as.Goals as goal

pub returns-then-is_reported-clause-ok : goal.returns-then-is_reported-clause-ok
returns-then-is_reported-clause-ok g c =
    let known = g.R.Read.remaining c.args.reader.now in
    let given : Option (List ℕ) = option_map (λ s. s.now) c.args.certificate in
    IfOk-weaker c.run_reported.result _ _
    (λ verdict ok. (ok.0, IfSome_then known ok.1 (λ input on. reported_as c.args.options input given verdict ok.0 c.if-is_reported.true on), ok.2)) c.run_reported.ensures.ok

pub returns-then-is_reported-clause-silent : goal.returns-then-is_reported-clause-silent
returns-then-is_reported-clause-silent g c off = absurd (true≢false (sym c.if-is_reported.true ∙ off))

pub returns-then-is_reported-clause-reported : goal.returns-then-is_reported-clause-reported
returns-then-is_reported-clause-reported g c on = c.run_reported.ensures.reported

pub returns-then-is_explained-clause-ok : goal.returns-then-is_explained-clause-ok
returns-then-is_explained-clause-ok g c =
    let known = g.R.Read.remaining c.args.reader.now in
    let given : Option (List ℕ) = option_map (λ s. s.now) c.args.certificate in
    IfOk-weaker c.run_explained.result _ _
    (λ verdict ok. (ok.0, IfSome_then known ok.1 (λ input on. explained_as c.args.options input given verdict ok.0 c.if-is_reported.false c.if-is_explained.true on), ok.2)) c.run_explained.ensures.ok

pub returns-then-is_explained-clause-silent : goal.returns-then-is_explained-clause-silent
returns-then-is_explained-clause-silent g c off = c.run_explained.ensures.silent

pub returns-then-is_explained-clause-reported : goal.returns-then-is_explained-clause-reported
returns-then-is_explained-clause-reported g c on = absurd (true≢false (sym on ∙ c.if-is_reported.false))

pub returns-clause-ok : goal.returns-clause-ok
returns-clause-ok g c =
    let known = g.R.Read.remaining c.args.reader.now in
    let given : Option (List ℕ) = option_map (λ s. s.now) c.args.certificate in
    IfOk-weaker c.run_check.result _ _
    (λ verdict ok. (ok.0, IfSome_then known ok.1 (λ input on. plain_as c.args.options input given verdict ok.0 c.if-is_reported.false c.if-is_explained.false on), ok.2)) c.run_check.ensures.ok

pub returns-clause-silent : goal.returns-clause-silent
returns-clause-silent g c off = c.run_check.ensures.silent

pub returns-clause-reported : goal.returns-clause-reported
returns-clause-reported g c on = absurd (true≢false (sym on ∙ c.if-is_reported.false))
