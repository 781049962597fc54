use Rattle.std.proofs.Common.{◌∙◌, List, ℕ, option_map, subst}
use Rattle.std.specs.Prelude.{string_bytes}
use Rattle.std.proofs.lemmas.Result.{IfOk-weaker}
use Rattle.mcv_faults.specs.TextPlace.{IsPlaceAt, IsSaidAt}
use Rattle.mcv_faults.specs.declared.place.TextPlace.{TextPlace}
use Rattle.mcv_faults.proofs.detail.fault_detail.Goals as goal

pub returns : goal.returns
returns c =
    let input = c.args.input.now in
    let standing = c.in_ok-standing.standing in
    let text = option_map string_bytes standing.text in
    let place = option_map (λ (p : TextPlace). (p.line, p.column)) standing.place in
    let path = c.as_bytes.ensures.value ∙ c.path.ensures in
    let said = subst (λ (xs : List ℕ). IsSaidAt input xs text) path c.in_ok-standing.ensures.said in
    let stands = subst (λ (xs : List ℕ). IsPlaceAt input xs place) path c.in_ok-standing.ensures.place in
    IfOk-weaker c.standing_line.result _ _ (λ line is. (text, place, said, stands, is)) c.standing_line.ensures
