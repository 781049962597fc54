use Rattle.std.proofs.Common.{◌≡◌, ◌++◌, drop, map}
use Rattle.mcv_route.specs.Children.{joined}
use Rattle.mcv_explain.proofs.pieces.push_pieces.Given as goal

-- what is written, and the pieces that are left, are the whole
abbrev pub invariant-loop-piece : goal.invariant-loop-piece
invariant-loop-piece l = l.text.items ++ joined (map (λ p. p.now) (drop l.piece-index l.pieces)) ≡ l.fn.text.items ++ joined (map (λ p. p.now) l.pieces)
