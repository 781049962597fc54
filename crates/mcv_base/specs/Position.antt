-- Places in the tree of a route, and their text.
use Rattle.std.specs.Prelude.{ℕ, List, [], ◌∷◌, ◌++◌, codes, decimal}
use Rattle.std.specs.List.{flat_map}

-- the child numbers from the root, joined with dots; that of the root is `-` (own)
abbrev pub position_text : List ℕ → List ℕ
position_text [] = codes "-"
position_text (n ∷ ns) = decimal n ++ flat_map (λ m. codes "." ++ decimal m) ns
