use Rattle.std.proofs.Common.{◌≡◌, drop}
use Rattle.mcv_rules.specs.PlanInMemory.{prefixes_of}
use Rattle.mcv_witness.specs.LongestWord.{longest_of}
use Rattle.mcv_witness.proofs.class_word.longest_prefix.Given as goal

-- what is found so far, and the prefixes that are left, give the whole
abbrev pub invariant-loop-policy : goal.invariant-loop-policy
invariant-loop-policy l = longest_of l.most l.rest (prefixes_of (drop l.policy-index l.policies)) ≡ longest_of l.fn.before l.rest (prefixes_of l.policies)
