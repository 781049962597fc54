use Rattle.std.proofs.Common.{◌≡◌, List, ℕ, subst}
use Rattle.std.specs.Prelude.{IfOk}
use Rattle.mcv_draw.proofs.Labels.{operation_there, prefix_there, shadow_there}
use Rattle.mcv_draw.proofs.edge.word_of.Goals as goal

pub returns-in-Pool : goal.returns-in-Pool
returns-in-Pool c =
    subst (λ (w : List ℕ). IfOk c.shadow_word.result (λ word. word.items ≡ w))
    (shadow_there c.args.route.now c.in-Pool.leaf c.in-Pool.shadows c.deref.result.now c.args.number c.get.result c.in-Pool.is c.deref.ensures.value c.get.ensures.lookup) c.shadow_word.ensures

pub returns-in-PrefixSelector : goal.returns-in-PrefixSelector
returns-in-PrefixSelector c =
    subst (λ (w : List ℕ). IfOk c.prefix_word.result (λ word. word.items ≡ w))
    (prefix_there c.args.route.now c.in-PrefixSelector.policies c.in-PrefixSelector.wildcard c.deref-in-PrefixSelector.result.now c.args.number c.get-in-PrefixSelector.result c.in-PrefixSelector.is
    c.deref-in-PrefixSelector.ensures.value c.get-in-PrefixSelector.ensures.lookup) c.prefix_word.ensures

pub returns-in-OperationSelector : goal.returns-in-OperationSelector
returns-in-OperationSelector c =
    subst (λ (w : List ℕ). IfOk c.operation_word.result (λ word. word.items ≡ w))
    (operation_there c.args.route.now c.in-OperationSelector.policies c.in-OperationSelector.default_policy c.deref-in-OperationSelector.result.now c.args.number c.get-in-OperationSelector.result
    c.in-OperationSelector.is c.deref-in-OperationSelector.ensures.value c.get-in-OperationSelector.ensures.lookup) c.operation_word.ensures
