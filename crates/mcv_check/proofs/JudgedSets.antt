-- What was judged of the sets of a spot was judged of its block.
use Rattle.std.proofs.Common.{ℕ, ◌<◌, ◌≤◌, List, [], ◌∷◌}
use Rattle.mcv_cert.specs.Pair.{PairValue}
use Rattle.mcv_route.specs.Routes.{IsSoundRoutes, RoutesValue}
use Rattle.mcv_blocks.specs.Sets.{SetsValue}
use Rattle.mcv_judge.specs.Reason.{BlockValue}
use Rattle.mcv_blocks.specs.SetsInEras.{AreSetsNear, AreSetsOf}
use Rattle.mcv_blocks.specs.Spots.{IsBlockFor, IsBlockWith, in_eras, spot_in}
use Rattle.mcv_blocks.specs.declared.sliding.DeleteEra.{DeleteEra}
use Rattle.mcv_blocks.specs.declared.sliding.SlidingSets.{SlidingSets}
use Rattle.mcv_blocks.proofs.BlocksOfSpots.{block_in_order}
use Rattle.mcv_blocks.proofs.BlockOfSets.{block_is_there}
use Rattle.mcv_check.specs.Judgements.{IsInOrderWith, Leaves, LeavesWith, Stops, StopsWith}
use Rattle.mcv_check.specs.declared.fault.CheckFault.{CheckFault}
use Rattle.mcv_check.specs.declared.fault.CheckFault.TheVariants.{Memory, Pair, Window}
use Rattle.mcv_check.proofs.Steps.{block_leaves, block_stops}

module _ (r : RoutesValue) (sound : IsSoundRoutes r) (d : DeleteEra) (sets : SlidingSets) (near : AreSetsNear r d sets) (get_era : ℕ) (first : d.near.first ≤ get_era) (end : get_era < d.near.end) (s g : SetsValue) (are : AreSetsOf r d.class.now d.era s) (reads : AreSetsOf r d.class.now get_era g) where
  is_block_for : (b : BlockValue) → IsBlockWith s g (spot_in d.class.now d.era get_era) b → IsBlockFor r (in_eras d.class.now d.era get_era) b
  is_block_for b is = block_is_there r d.class.now near.class d.era get_era (near.near.near get_era first end) s g are reads b is

  pub sets_in_order : IsInOrderWith s g (spot_in d.class.now d.era get_era)
  sets_in_order b is = block_in_order r sound b (is_block_for b is).is

  -- what is left behind it is left behind the spot
  pub sets_leave : (pairs rest : List PairValue) → LeavesWith s g (spot_in d.class.now d.era get_era) pairs rest → Leaves r pairs (in_eras d.class.now d.era get_era ∷ []) rest
  sets_leave pairs rest h = block_leaves r sound (in_eras d.class.now d.era get_era) h.block (is_block_for h.block h.is) pairs rest h.same

  -- and its fault is the spot's
  pub sets_stop : (pairs : List PairValue) (fault : CheckFault) → StopsWith s g (spot_in d.class.now d.era get_era) pairs fault → Stops r pairs (in_eras d.class.now d.era get_era ∷ []) fault
  sets_stop pairs (Pair fault) h = block_stops r sound (in_eras d.class.now d.era get_era) h.block (is_block_for h.block h.is) pairs fault h.first
  sets_stop pairs Memory h = tt
  sets_stop pairs Window h = absurd h
