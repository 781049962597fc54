-- Why a certificate's pairs have to come in order: of two at one place the first alone is judged.
use Rattle.std.proofs.Common.{◌≡◌, true, [], ◌∷◌, Some, None, refl}
use Rattle.mcv_cert.specs.Pair.{PlaceValue, PairValue, ReasonValue, SpotValue, never, same, place_cmp}
use Rattle.mcv_judge.specs.Faults.{fault_at}
use Rattle.mcv_judge.specs.Reason.{BlockValue, LegValue, fault_of}
use Rattle.mcv_judge.specs.declared.fault.PairFault.TheVariants.{CanBeAcknowledged}

abbrev leaf : LegValue
leaf = record { position = 1 ∷ []; symbol = 0; servers = 7 ∷ 8 ∷ [] }

abbrev spot : SpotValue
spot = record { route = 0; class = []; era = 0; get_era = 0 }

abbrev block : BlockValue
block = record { spot = spot; readable = leaf ∷ []; acknowledged = record { position = 0 ∷ []; symbol = 0; servers = 7 ∷ 9 ∷ [] } ∷ []; can_be_acknowledged = true }

abbrev place : PlaceValue
place = record { spot = spot; leaf = 1 ∷ [] }

abbrev pair : ReasonValue → PairValue
pair r = record { place = place; reason = r }

-- the second isn't judged, though it speaks of all indexes
judged_at_the_first : fault_at (pair (same 0 (0 ∷ [])) ∷ pair never ∷ []) (block ∷ []) place 0 ≡ None
unfolding place_cmp
judged_at_the_first = refl

nothing_wanted_at_the_last : fault_at (pair (same 0 (0 ∷ [])) ∷ pair never ∷ []) (block ∷ []) place 1 ≡ None
unfolding place_cmp
nothing_wanted_at_the_last = refl

the_second_is_wrong : fault_of block leaf never ≡ Some CanBeAcknowledged
the_second_is_wrong = refl
