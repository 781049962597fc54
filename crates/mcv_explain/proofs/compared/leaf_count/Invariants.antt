use Rattle.std.proofs.Common.{◌≡◌, ◌≤◌, ◌+◌, drop, map, option_map}
use Rattle.mcv_cert.specs.Pair.{pair_of}
use Rattle.mcv_cert.specs.Place.{place_of}
use Rattle.mcv_explain.specs.Compared.{leaf_count, is_same_class, is_same_leaf, places}
use Rattle.mcv_explain.proofs.compared.leaf_count.Given as goal

abbrev pub invariant-loop-pair : goal.invariant-loop-pair
invariant-loop-pair l = (l.count ≤ l.pair-index) × (leaf_count (map pair_of l.pairs) ≡ l.count + places is_same_leaf (option_map (λ p. place_of p.now) l.before) (map pair_of (drop l.pair-index l.pairs)))
