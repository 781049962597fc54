-- The laws by which finitely many comparisons decide coverage.
use Rattle.std.specs.Prelude.{◌≡◌, ◌≢◌, ◌↔◌, ℕ, List, [], Option}
use Rattle.mcv_base.specs.declared.operation.Op.{Op}
use Rattle.mcv_base.specs.declared.operation.Op.TheVariants.{Delete}
use Rattle.mcv_base.specs.declared.reply.Outcome.TheVariants.{Good, Error}
use Rattle.mcv_route.specs.Outcomes.{Outcomes, Choice}
use Rattle.mcv_route.specs.Tree.{Tree}
use Rattle.mcv_route.specs.WellFormedTrees.{IsWellFormed}
use Rattle.mcv_route.specs.Situation.{asked}
use Rattle.mcv_route.specs.Replies.{replies}
use Rattle.mcv_route.specs.Verdict.{IsReachable, IsDone, IsCovered}
use Rattle.mcv_rules.specs.Plan.{Leg}
use Rattle.mcv_rules.specs.Plans.{plan}
use Rattle.mcv_classes.specs.Laws.{AreAlike}
use Rattle.mcv_symbolic.specs.Sets.{CanHitAt, CanBeAcknowledged, IsCountedAt, IsAcknowledged}
use Rattle.mcv_symbolic.specs.Structure.{if_all, Acknowledged, Hits}
use Rattle.mcv_symbolic.specs.JustifiedRoutes.{IsJustified}

-- ---- the sets don't depend on the choice

abbrev pub HitsIgnoreTheChoice : Type 0
HitsIgnoreTheChoice = (t : Tree) (op : Op) (rest : List ℕ) (since : Option ℕ) (c d : Choice) (p : List ℕ) →
    CanHitAt t (asked op rest since) c p → CanHitAt t (asked op rest since) d p

abbrev pub DoneIgnoresTheChoice : Type 0
DoneIgnoresTheChoice = (t : Tree) (rest : List ℕ) (since : Option ℕ) (c d : Choice) →
    CanBeAcknowledged t rest since c → CanBeAcknowledged t rest since d

abbrev pub AcknowledgedIgnoresTheChoice : Type 0
AcknowledgedIgnoresTheChoice = (t : Tree) (rest : List ℕ) (since : Option ℕ) (c d : Choice) (p : List ℕ) →
    IsAcknowledged t rest since c p → IsAcknowledged t rest since d p

-- ---- they are those that the structure of the plan gives, by a rule for each form of a plan

abbrev pub HitsAreExact : Type 0
HitsAreExact = (t : Tree) (op : Op) (rest : List ℕ) (since : Option ℕ) (c : Choice) (p : List ℕ) →
    CanHitAt t (asked op rest since) c p ↔ ((l : Leg) × Hits (plan t (asked op rest since)) l × (l.position ≡ p))

abbrev pub DoneIsExact : Type 0
DoneIsExact = (t : Tree) (rest : List ℕ) (since : Option ℕ) (c : Choice) →
    CanBeAcknowledged t rest since c ↔ (if_all Good (plan t (asked Delete rest since)) ≢ Error)

abbrev pub AcknowledgedIsExact : Type 0
AcknowledgedIsExact = (t : Tree) (rest : List ℕ) (since : Option ℕ) (c : Choice) (p : List ℕ) →
    IsAcknowledged t rest since c p ↔ ((l : Leg) × Acknowledged (plan t (asked Delete rest since)) l × (l.position ≡ p))

-- some outcomes of a delete that can come have a reply, one that isn't an error where there is one, and no counted leg is sent that isn't acknowledged
abbrev pub AcknowledgedIsLeast : Type 0
AcknowledgedIsLeast = (t : Tree) (rest : List ℕ) (since : Option ℕ) (c : Choice) →
    (o : Outcomes) × IsReachable t (asked Delete rest since) c o × (replies t (asked Delete rest since) o ≢ [])
    × (CanBeAcknowledged t rest since c → IsDone t rest since o) × ((p : List ℕ) → IsCountedAt t rest since c o p → IsAcknowledged t rest since c p)

-- ---- coverage

abbrev pub CoveredIsJustified : Type 0
CoveredIsJustified = (sizes : List ℕ) (t : Tree) (rest : List ℕ) (since read : Option ℕ) → IsWellFormed sizes t → IsCovered sizes t rest since read ↔ IsJustified sizes t rest since read

-- a class is covered where one of its rests is
abbrev pub AlikeAreCovered : Type 0
AlikeAreCovered = (sizes : List ℕ) (t : Tree) (rest other : List ℕ) (since read : Option ℕ) → AreAlike t rest other → IsCovered sizes t rest since read → IsCovered sizes t other since read
