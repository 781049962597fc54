use Rattle.mcv_witness.proofs.LongestSelected.{operation-longest, prefix-longest}
use Rattle.mcv_witness.proofs.class_word.+longest.Goals as goal

pub longest-returns-in-PrefixSelector : goal.longest-returns-in-PrefixSelector
longest-returns-in-PrefixSelector t c =
    prefix-longest c.args.rest.now c.args.most c.args.route.now c.in-PrefixSelector.policies c.in-PrefixSelector.wildcard c.deref-in-PrefixSelector.result.now c.deref-in-PrefixSelector-2.result.now
    c.longest_prefix-own.result c.longest_of_selected-selected.result c.longest_of_last.result c.in-PrefixSelector.is c.deref-in-PrefixSelector.ensures.value c.deref-in-PrefixSelector-2.ensures.value
    c.longest_prefix-own.ensures c.longest_of_selected-selected.ensures c.longest_of_last.ensures

pub longest-returns-in-OperationSelector : goal.longest-returns-in-OperationSelector
longest-returns-in-OperationSelector t c =
    operation-longest c.args.rest.now c.args.most c.args.route.now c.in-OperationSelector.policies c.in-OperationSelector.default_policy c.deref-in-OperationSelector.result.now
    c.longest_of_policies-selected.result c.longest_of_last-in-OperationSelector.result c.in-OperationSelector.is c.deref-in-OperationSelector.ensures.value
    c.longest_of_policies-selected.ensures c.longest_of_last-in-OperationSelector.ensures
