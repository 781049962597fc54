use Rattle.std.proofs.Common.{◌≡◌, List, ℕ, map, take}
use Rattle.std.specs.List.{All}
use Rattle.mcv_base.specs.Position.{position_text}
use Rattle.mcv_cert.specs.Fits.{FitsPosition}
use Rattle.mcv_cert.proofs.parse.read_positions.Given as goal

abbrev pub invariant-loop-word : goal.invariant-loop-word
invariant-loop-word l = (ps : List (List ℕ)) → All FitsPosition ps → map (λ w. w.now) l.words ≡ map position_text ps → l.positions.items ≡ take l.word-index ps
