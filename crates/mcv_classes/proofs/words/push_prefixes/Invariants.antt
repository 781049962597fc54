use Rattle.std.proofs.Common.{◌≡◌, ◌++◌, map, take}
use Rattle.mcv_route.specs.View.{prefix_view}
use Rattle.mcv_classes.specs.Table.{bytes_of}
use Rattle.mcv_classes.proofs.words.push_prefixes.Given as goal

-- the prefixes of the policies so far are there
abbrev pub invariant-loop-policy : goal.invariant-loop-policy
invariant-loop-policy l = bytes_of l.words.items ≡ bytes_of l.fn.words.items ++ map (λ p. p.0) (map prefix_view (take l.policy-index l.policies))
