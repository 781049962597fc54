-- Which legs a certificate names where several would do: the first ones, and for `all` those of the symbol with the least number (own).
use Rattle.std.specs.Prelude.{◌≡◌, ◌<◌, ℕ, suc, List, [], ◌∷◌, Option, Some, None, find}
use Rattle.std.specs.Option.{option_and_then}
use Rattle.std.specs.Borrow.{Bor}
use Rattle.mcv_judge.specs.declared.block.Leg.{Leg}
use Rattle.mcv_judge.specs.PairsInMemory.{leg_of}
use Rattle.mcv_judge.specs.Reason.{LegValue, is_twin, has_server}

-- a leg that is borrowed
abbrev pub borrowed : Bor Leg → LegValue
borrowed d = leg_of d.now

-- the first twin of a leaf
abbrev pub first_twin : List LegValue → LegValue → Option LegValue
first_twin legs leaf = find (is_twin leaf) legs

-- the first leg of the symbol that has the server at the index
abbrev pub first_with : List LegValue → (symbol server index : ℕ) → Option LegValue
first_with legs s x i = find (has_server s (Some x) i) legs

-- both, the one before the others
abbrev pub before_others : Option LegValue → Option (List LegValue) → Option (List LegValue)
before_others None ds = None
before_others (Some d) None = None
before_others (Some d) (Some ds) = Some (d ∷ ds)

-- such a leg for each index of a list of servers, the first being this one; nothing where there is none for one of them
abbrev pub each_with : List LegValue → (symbol server index : ℕ) → List ℕ → Option (List LegValue)
each_with legs s x i [] = Some []
each_with legs s x i (y ∷ ys) = before_others (first_with legs s x i) (each_with legs s x (suc i) ys)

-- such a leg for each index of the symbol
abbrev pub filling : List LegValue → (symbol server : ℕ) → Option (List LegValue)
filling legs s x = option_and_then (λ d. each_with legs s x 0 d.servers) (first_with legs s x 0)

-- the legs of the symbol with the least number that has one for each index; nothing where no symbol has
abbrev pub IsFirstFilling : List LegValue → (server : ℕ) → Option (List LegValue) → Type 0
IsFirstFilling legs x None = (s : ℕ) → filling legs s x ≡ None
IsFirstFilling legs x (Some ds) = (s : ℕ) × (filling legs s x ≡ Some ds) × ((t : ℕ) → t < s → filling legs t x ≡ None)
