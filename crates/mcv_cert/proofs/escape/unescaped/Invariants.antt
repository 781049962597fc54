use Rattle.std.proofs.Common.{◌≡◌, ℕ, List, ◌++◌, length}
use Rattle.mcv_cert.specs.Escape.{escaped}
use Rattle.mcv_cert.proofs.Escapes.{AreBytes}
use Rattle.mcv_cert.proofs.escape.unescaped.Given as goal

abbrev pub invariant-loop-rest : goal.invariant-loop-rest
invariant-loop-rest l = (w : List ℕ) → AreBytes w → l.text ≡ escaped w → (v : List ℕ) × AreBytes v × (w ≡ l.word.items ++ v) × (l.rest ≡ escaped v)

abbrev pub decreases-loop-rest : goal.decreases-loop-rest
decreases-loop-rest l = length l.rest
