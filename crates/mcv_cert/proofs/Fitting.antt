-- Pairs have a text where each names a leg that has to: that their numbers have 64 bits is in their type.
use Rattle.std.proofs.Common.{ℕ, List, [], ◌∷◌, map}
use Rattle.std.specs.List.{All}
use Rattle.std.proofs.lemmas.List.Elements.{All-cons, All-head, All-nil, All-tail}
use Rattle.mcv_cert.specs.declared.pair.Pair.{Pair}
use Rattle.mcv_cert.specs.Pair.{HasEras, IsPair, NamesLegs, pair_of}

pub are_pairs : (w : ℕ) (ps : List Pair) → All NamesLegs (map pair_of ps) → All (HasEras w) (map pair_of ps) → All (IsPair w) (map pair_of ps)
are_pairs w [] legs eras = All-nil (IsPair w)
are_pairs w (p ∷ ps) legs eras =
    All-cons (IsPair w) (pair_of p) (map pair_of ps) (record { fits = p.fits; legs = All-head NamesLegs (pair_of p) (map pair_of ps) legs; eras = All-head (HasEras w) (pair_of p) (map pair_of ps) eras })
    (are_pairs w ps (All-tail NamesLegs (pair_of p) (map pair_of ps) legs) (All-tail (HasEras w) (pair_of p) (map pair_of ps) eras))
