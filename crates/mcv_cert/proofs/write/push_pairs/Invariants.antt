use Rattle.std.proofs.Common.{◌≡◌, ◌++◌, take, map}
use Rattle.std.specs.List.{flat_map}
use Rattle.mcv_cert.specs.Pair.{pair_of}
use Rattle.mcv_cert.specs.Text.{pair_line}
use Rattle.mcv_cert.proofs.write.push_pairs.Given as goal

abbrev pub invariant-loop-pair : goal.invariant-loop-pair
invariant-loop-pair l = l.text.items ≡ l.fn.text.items ++ flat_map (pair_line l.window) (map pair_of (take l.pair-index l.pairs))
