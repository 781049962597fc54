-- A query that is too short to say how many seconds.
use Rattle.std.proofs.Common.{◌≡◌, ◌∙◌, ℕ, ◌<◌, Bool, true, false, nat_lt, List, [], ◌∷◌, length, drop, Option, Some, None, cond, refl, sym, ap, arith, length-drop, codes}
use Rattle.mcv_base.specs.Key.{begins_with}
use Rattle.mcv_http.specs.Request.{seconds_of, short_number}

empty : (bytes : List ℕ) → length bytes ≡ 0 → bytes ≡ []
empty [] none = refl
empty (b ∷ bytes) none = absurd (omega (arith, none))

no_digits : (digits : List ℕ) → length digits ≡ 0 → short_number digits ≡ None
no_digits digits none = ap short_number (empty digits none)

either_none : (b : Bool) (o : Option ℕ) → o ≡ None → cond b o None ≡ None
either_none true o none = none
either_none false o none = refl

pub too_short : (query : List ℕ) → nat_lt 0 (length query) ≡ true → length query < 9 → None ≡ seconds_of query
too_short query some short =
    let none : length (drop 8 query) ≡ 0 = omega (arith, length-drop 8 query, short) in
    sym (ap (λ b. cond b (cond (begins_with query (codes "seconds=")) (short_number (drop 8 query)) None) (Some 30)) some
    ∙ either_none (begins_with query (codes "seconds=")) (short_number (drop 8 query)) (no_digits (drop 8 query) none))
