use Rattle.std.proofs.Common.{◌≡◌, ◌∙◌, ◌++◌, ℕ, List, [], ◌∷◌, Global, Some, ap, arith, length, rules, slice_get, subst, sym}
use Rattle.std.proofs.lemmas.Grind.{common_steps}
use Rattle.std.specs.Arc.{arc_value}
use Rattle.std.specs.declared.sync.Arc.{Arc}
use Rattle.mcv_base.specs.declared.request.Request.{Request}
use Rattle.mcv_text.specs.Request.{request_value}
use Rattle.mcv_desks.specs.OneKey.{only_key}
use Rattle.mcv_desks.proofs.KeysOfHubs.{at_push, no_item}
use Rattle.mcv_desks.proofs.one_key.requests_of_keys.Goals as goal

pub loop-key-init : goal.loop-key-init
loop-key-init c = record {
  so_many = search rules;
  each = λ key r there. no_item c.new-requests.result.items key r (search rules) there;
}

pub loop-key-preserved : goal.loop-key-preserved
loop-key-preserved c =
    let value = request_value c.args.request.now in
    let P : ℕ → Arc Request Global → Type 0 = λ k r. request_value (arc_value r) ≡ only_key value k in
    let before = c.loop-key.requests.items in
    let key = c.loop-key.key in
    let one = c.in_ok-shared.shared in
    let its : P key one = ap request_value c.in_ok-shared.ensures.ok ∙ c.in_ok-alone.ensures in
    let items : c.push.new.self.items ≡ before ++ one ∷ [] = c.in_ok-push.ensures.items in
    let len : length before ≡ key = search rules in
    let Q : List (Arc Request Global) → Type 0 = λ xs. (k : ℕ) (r : Arc Request Global) → slice_get xs k ≡ Some r → P k r in
    record {
      so_many = grind (arith, common_steps);
      each = subst Q (sym items) (at_push P before key one len c.loop-key.invariant.each its);
    }

pub returns : goal.returns
returns c = record { one_each = grind (arith, common_steps); each = c.loop-key.invariant.each }
