use Rattle.std.proofs.Common.{option_map}
use Rattle.std.specs.Prelude.{string_bytes}
use Rattle.std.proofs.lemmas.Result.{IfOk-weaker}
use Rattle.serde_json.specs.View.{view}
use Rattle.mcv_faults.proofs.Standings.{place_in, said_in, said_of_none}
use Rattle.mcv_faults.proofs.standing.standing_of.Goals as goal

pub returns-in-Some-clause-said : goal.returns-in-Some-clause-said
returns-in-Some-clause-said c =
    let document = rw c.in-Some.is at c.in_ok-document.ensures in
    IfOk-weaker c.standing_in.result _ _
    (λ s said. said_in c.args.text.now c.args.path.now (option_map string_bytes s.text) (view c.in-Some.document) document said) c.standing_in.ensures.said

pub returns-in-Some-clause-place : goal.returns-in-Some-clause-place
returns-in-Some-clause-place c =
    let document = rw c.in-Some.is at c.in_ok-document.ensures in
    IfOk-weaker c.standing_in.result _ _ (λ s place. place_in c.args.text.now c.args.path.now s.place (view c.in-Some.document) document place) c.standing_in.ensures.place

pub returns-in-None-clause-said : goal.returns-in-None-clause-said
returns-in-None-clause-said c =
    let none = rw c.in-None.is at c.in_ok-document.ensures in
    rw c.unknown.ensures (said_of_none c.args.text.now c.args.path.now none)

pub returns-in-None-clause-place : goal.returns-in-None-clause-place
returns-in-None-clause-place c = rw c.unknown.ensures tt
