-- The sets that the checker compares, of a route at a rest in an era: by all outcomes that can come (own).
use Rattle.std.specs.Prelude.{◌≡◌, ◌≢◌, ℕ, true, List, [], Option, Some, map}
use Rattle.std.specs.List.{All, AllPairs, Contains}
use Rattle.mcv_base.specs.declared.operation.Op.TheVariants.{Delete}
use Rattle.mcv_base.specs.Operation.{is_counting}
use Rattle.mcv_classes.specs.Class.{IsBefore}
use Rattle.mcv_route.specs.Outcomes.{Outcomes, Choice}
use Rattle.mcv_route.specs.Places.{pool_at_position}
use Rattle.mcv_route.specs.Tree.{Tree}
use Rattle.mcv_route.specs.Situation.{Situation, asked}
use Rattle.mcv_route.specs.Launched.{launched}
use Rattle.mcv_route.specs.Replies.{replies}
use Rattle.mcv_route.specs.Verdict.{Has, IsReachable, IsHit, IsDone}
use Rattle.mcv_rules.specs.declared.plan.PlannedLeg.{PlannedLeg}
use Rattle.mcv_symbolic.specs.LegInMemory.{pool_of}

-- the leg at the position can be the answer: under some outcomes that can come its hit is among the replies
abbrev pub CanHitAt : Tree → Situation → Choice → List ℕ → Type 0
CanHitAt t s c p = (o : Outcomes) × IsReachable t s c o × IsHit t s o p

-- some outcomes of a delete that can come have a reply that isn't an error
abbrev pub CanBeAcknowledged : Tree → List ℕ → Option ℕ → Choice → Type 0
CanBeAcknowledged t rest since c = (o : Outcomes) × IsReachable t (asked Delete rest since) c o × IsDone t rest since o

-- a leg of the delete that counts has been sent at the position
abbrev pub IsCountedAt : Tree → List ℕ → Option ℕ → Choice → Outcomes → List ℕ → Type 0
IsCountedAt t rest since c o p = Has (launched t (asked Delete rest since) c o) (λ l. (l.position ≡ p) × (is_counting l.mark ≡ true))

-- whenever the delete has a reply, a leg that counts has been sent at the position
abbrev pub IsAcknowledged : Tree → List ℕ → Option ℕ → Choice → List ℕ → Type 0
IsAcknowledged t rest since c p = (o : Outcomes) → IsReachable t (asked Delete rest since) c o → replies t (asked Delete rest since) o ≢ [] → IsCountedAt t rest since c o p

abbrev pub positions_of : List PlannedLeg → List (List ℕ)
positions_of legs = map (λ l. l.position) legs

-- these legs are those at the positions with the property, in the order of their positions, each with the symbol and the servers of the pool that is there
pub record AreLegsAt (t : Tree) (P : List ℕ → Type 0) (legs : List PlannedLeg) : Type 0 where
  pub pools : All (λ l. pool_at_position t l.position ≡ Some (pool_of l)) legs
  pub rising : AllPairs IsBefore (positions_of legs)
  pub only : All P (positions_of legs)
  pub all : (p : List ℕ) → P p → Contains (positions_of legs) p
