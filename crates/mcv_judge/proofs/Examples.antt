-- The definitions at a small certificate. Gets go to a leaf with two servers by its hash, deletes to each server by a leg of its own.
use Rattle.std.proofs.Common.{◌≡◌, true, [], ◌∷◌, Some, None, refl}
use Rattle.mcv_cert.specs.Pair.{ReasonValue, never, twin, same, all, PlaceValue, SpotValue, PairValue, place_cmp}
use Rattle.mcv_judge.specs.Reason.{LegValue, BlockValue, fault_of}
use Rattle.mcv_judge.specs.Faults.{fault_at}
use Rattle.mcv_judge.specs.declared.fault.PairFault.TheVariants.{Missing, Stray, NotAcknowledged, OtherServer, CanBeAcknowledged}

abbrev hashed : LegValue
hashed = record { position = 1 ∷ []; symbol = 0; servers = 7 ∷ 8 ∷ [] }

abbrev first_leg : LegValue
first_leg = record { position = 0 ∷ 0 ∷ []; symbol = 1; servers = 7 ∷ [] }

abbrev second_leg : LegValue
second_leg = record { position = 0 ∷ 1 ∷ []; symbol = 1; servers = 8 ∷ [] }

abbrev spot : SpotValue
spot = record { route = 0; class = []; era = 0; get_era = 0 }

abbrev block : BlockValue
block = record { spot = spot; readable = hashed ∷ []; acknowledged = first_leg ∷ second_leg ∷ []; can_be_acknowledged = true }

abbrev place : PlaceValue
place = record { spot = spot; leaf = 1 ∷ [] }

abbrev pair : ReasonValue → PairValue
pair r = record { place = place; reason = r }

abbrev zeroth : PairValue
zeroth = pair (all 0 ((0 ∷ 0 ∷ []) ∷ []))

abbrev next : PairValue
next = pair (all 1 ((0 ∷ 1 ∷ []) ∷ []))

fine_at_the_first_index : fault_at (zeroth ∷ next ∷ []) (block ∷ []) place 0 ≡ None
unfolding place_cmp
fine_at_the_first_index = refl

fine_at_the_last_index : fault_at (zeroth ∷ next ∷ []) (block ∷ []) place 1 ≡ None
unfolding place_cmp
fine_at_the_last_index = refl

nothing_is_required_behind : fault_at (zeroth ∷ next ∷ []) (block ∷ []) place 2 ≡ None
unfolding place_cmp
nothing_is_required_behind = refl

an_index_without_its_pair : fault_at (zeroth ∷ []) (block ∷ []) place 1 ≡ Some Missing
unfolding place_cmp
an_index_without_its_pair = refl

a_pair_at_an_index_past_the_last : fault_at (zeroth ∷ next ∷ pair (same 2 (0 ∷ 0 ∷ [])) ∷ []) (block ∷ []) place 2 ≡ Some Stray
unfolding place_cmp
a_pair_at_an_index_past_the_last = refl

a_pair_beside_one_for_the_whole_leaf : fault_at (pair (twin (0 ∷ 0 ∷ [])) ∷ next ∷ []) (block ∷ []) place 1 ≡ Some Stray
unfolding place_cmp
a_pair_beside_one_for_the_whole_leaf = refl

-- the leg 0.1 has the other server
another_leg : fault_at (pair (all 0 ((0 ∷ 1 ∷ []) ∷ [])) ∷ next ∷ []) (block ∷ []) place 0 ≡ Some OtherServer
unfolding place_cmp
another_leg = refl

-- a leg that isn't there is reported before one with another server in front of it
absent_before_other : fault_of block hashed (all 0 ((0 ∷ 1 ∷ []) ∷ (0 ∷ 2 ∷ []) ∷ [])) ≡ Some NotAcknowledged
absent_before_other = refl

too_many_legs : fault_of block hashed (all 0 ((0 ∷ 0 ∷ []) ∷ (0 ∷ 0 ∷ []) ∷ [])) ≡ Some OtherServer
too_many_legs = refl

another_symbol : fault_of block hashed (same 0 (0 ∷ 0 ∷ [])) ≡ Some OtherServer
another_symbol = refl

it_can_be : fault_of block hashed never ≡ Some CanBeAcknowledged
it_can_be = refl
