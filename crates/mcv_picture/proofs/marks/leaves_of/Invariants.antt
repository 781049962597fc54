use Rattle.std.proofs.Common.{◌≡◌, ◌++◌, drop, map}
use Rattle.std.specs.List.{flat_map}
use Rattle.mcv_cert.specs.Pair.{pair_of}
use Rattle.mcv_picture.specs.Drawing.{own_leaf}
use Rattle.mcv_picture.proofs.marks.leaves_of.Given as goal

-- the leaves so far, and those of the pairs that are left, are the whole
abbrev pub invariant-loop-pair : goal.invariant-loop-pair
invariant-loop-pair l = l.leaves.items ++ flat_map (own_leaf l.number) (map pair_of (drop l.pair-index l.pairs)) ≡ flat_map (own_leaf l.number) (map pair_of l.pairs)
