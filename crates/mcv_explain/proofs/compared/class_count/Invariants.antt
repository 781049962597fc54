use Rattle.std.proofs.Common.{◌≡◌, ◌≤◌, ◌+◌, drop, map, option_map}
use Rattle.mcv_cert.specs.Pair.{pair_of}
use Rattle.mcv_cert.specs.Place.{place_of}
use Rattle.mcv_explain.specs.Compared.{class_count, is_same_class, is_same_leaf, places}
use Rattle.mcv_explain.proofs.compared.class_count.Given as goal

abbrev pub invariant-loop-pair : goal.invariant-loop-pair
invariant-loop-pair l = (l.count ≤ l.pair-index) × (class_count (map pair_of l.pairs) ≡ l.count + places (λ p q. is_same_class p.spot q.spot) (option_map (λ p. place_of p.now) l.before) (map pair_of (drop l.pair-index l.pairs)))
