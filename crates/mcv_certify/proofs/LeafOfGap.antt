-- The leaf of a gap that is reported.
use Rattle.std.proofs.Common.{◌≡◌, ◌<◌, ℕ, List, length, get_or, Some, refl, sym, ap, ◌∙◌, arith}
use Rattle.std.specs.Prelude.{option_map, slice_get}
use Rattle.std.proofs.lemmas.List.{length-map}
use Rattle.std.proofs.lemmas.Option.{same_Some, slice_get-get_or, slice_get-map, slice_get_within}
use Rattle.mcv_cert.specs.Pair.{PlaceValue}
use Rattle.mcv_judge.specs.Faults.{require, place_required}
use Rattle.mcv_judge.specs.PairsInMemory.{leg_of, legs_of}
use Rattle.mcv_judge.specs.Reason.{BlockValue, LegValue}
use Rattle.mcv_judge.specs.declared.block.Leg.{Leg}

pub leg_within : (legs : List Leg) (n : ℕ) (l : LegValue) → slice_get (legs_of legs) n ≡ Some l → n < length legs
leg_within legs n l is =
    let low = slice_get_within (legs_of legs) n l is in
    let count = length-map legs leg_of in
    omega arith

pub leg_there : (legs : List Leg) (n : ℕ) (d : Leg) (l : LegValue) → slice_get (legs_of legs) n ≡ Some l → leg_of (get_or legs n d) ≡ l
leg_there legs n d l is =
    let own = slice_get-get_or legs n d (leg_within legs n l is) in
    same_Some (leg_of (get_or legs n d)) l (sym (slice_get-map leg_of legs n ∙ ap (option_map leg_of) own) ∙ is)

pub placed_at : (b : BlockValue) (l : LegValue) (class leaf : List ℕ) → class ≡ b.spot.class → leaf ≡ l.position → ◌≡◌ {A = PlaceValue} (place_required (require b l)) (record { spot = record { route = b.spot.route; class = class; era = b.spot.era; get_era = b.spot.get_era }; leaf = leaf })
placed_at b l class leaf h g = rw (h, g) refl
