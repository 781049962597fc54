-- Which worlds open a chapter, and which moves are possible one after the other (own).
use Rattle.std.specs.Prelude.{◌≡◌, ◌<◌, ℕ, true, List, [], ◌∷◌, Some, None, ⊤, slice_get, slice_index}
use Rattle.mcv_route.specs.Outcomes.{IsChoice}
use Rattle.mcv_route.specs.Routes.{RouteEntry, RoutesValue}
use Rattle.mcv_base.specs.Key.{IsRest}
use Rattle.mcv_route.specs.Eras.{IsEra}
use Rattle.mcv_symbolic.specs.CoveredRoutes.{sizes_of}
use Rattle.mcv_world.specs.World.{Spooled, Leg, World}
use Rattle.mcv_world.specs.Moves.{Move, Began, Answered, WasSpooled, WasRefused, WasPerformed, EraBegan, Taken, is_move, after}

-- spooled legs alone, and no call. Legs of an earlier chapter may name their call, whose number is no later call's
pub record IsOpening (r : RoutesValue) (w : World) : Type 0 where
  pub calls : (k : ℕ) → w.calls k ≡ None
  pub spooled : (n : ℕ) (s : Leg) → w.legs n ≡ Some s → s.state ≡ Spooled
  pub number : (n : ℕ) (s : Leg) → w.legs n ≡ Some s → n < w.next_leg
  pub owner : (n : ℕ) (s : Leg) (k : ℕ) → w.legs n ≡ Some s → s.call ≡ Some k → k < w.next_call
  pub era : IsEra r w.since

-- a call can begin by this route, on this rest and with this choice: the route is there, the rest has 1 to 250 key
-- bytes, and each symbol has an index below its number of servers
pub record CanBegin (r : RoutesValue) (route : ℕ) (rest choice : List ℕ) : Type 0 where
  pub entry : RouteEntry
  pub there : slice_get r.entries route ≡ Some entry
  pub rest_is : IsRest rest
  pub choice_is : IsChoice (sizes_of r) (slice_index choice)

-- what is asked of a move, whatever the world: that a call can begin so, and that there is such an era
abbrev pub IsAllowed : RoutesValue → Move → Type 0
IsAllowed r (Began op route rest choice) = CanBegin r route rest choice
IsAllowed r (Answered n x) = ⊤
IsAllowed r (WasSpooled n) = ⊤
IsAllowed r (WasRefused n) = ⊤
IsAllowed r (WasPerformed n) = ⊤
IsAllowed r (EraBegan since) = IsEra r since
IsAllowed r (Taken k) = ⊤

-- the move is possible in the world
pub record IsPossible (r : RoutesValue) (w : World) (m : Move) : Type 0 where
  pub allowed : IsAllowed r m
  pub move : is_move r w m ≡ true

-- each move is possible in the world that those before it lead to
abbrev pub ArePossible : RoutesValue → World → List Move → Type 0
ArePossible r w [] = ⊤
ArePossible r w (m ∷ ms) = IsPossible r w m × ArePossible r (after r w m) ms
