-- What is below no site.
use Rattle.std.proofs.Common.{◌≡◌, ℕ, List, [], ◌∷◌, None, refl}
use Rattle.mcv_places.specs.Site.{site_below}

pub none_below : (p : List ℕ) → site_below None p ≡ None
none_below [] = refl
none_below (k ∷ p) = none_below p
