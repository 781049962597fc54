use Rattle.std.proofs.Common.{◌∙◌, Option, ap, sym}
use Rattle.std.specs.Prelude.{option_and_then}
use Rattle.std.proofs.lemmas.Result.{IfOk-weaker}
use Rattle.serde_json.specs.Data.{Data}
use Rattle.serde_json.specs.Find.{as_str}
use Rattle.serde_json.specs.View.{view}
use Rattle.mcv_faults.specs.TextPlace.{at_fault}
use Rattle.mcv_faults.proofs.Standings.{place_of_found}
use Rattle.mcv_faults.proofs.standing.standing_in.Goals as goal

pub returns-in-Some-clause-said : goal.returns-in-Some-clause-said
returns-in-Some-clause-said c =
    let at = rw c.in-Some.is at c.in_ok-value.ensures in
    IfOk-weaker c.standing_at.result _ _ (λ s said. said ∙ ap (λ (found : Option Data). option_and_then as_str found) at) c.standing_at.ensures.said

pub returns-in-Some-clause-place : goal.returns-in-Some-clause-place
returns-in-Some-clause-place c =
    let at = rw c.in-Some.is at c.in_ok-value.ensures in
    let found = at_fault c.args.path.now (view c.args.document.now) in
    IfOk-weaker c.standing_at.result _ _ (λ s place. place_of_found c.args.text.now s.place found (view c.in-Some.value.now) (sym at) place) c.standing_at.ensures.place

pub returns-in-None-clause-said : goal.returns-in-None-clause-said
returns-in-None-clause-said c =
    let none = rw c.in-None.is at c.in_ok-value.ensures in
    rw c.unknown.ensures (ap (λ (found : Option Data). option_and_then as_str found) none)

pub returns-in-None-clause-place : goal.returns-in-None-clause-place
returns-in-None-clause-place c = rw c.unknown.ensures tt
