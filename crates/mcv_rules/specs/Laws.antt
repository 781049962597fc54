-- The laws of routes, and that a route's plan says the same.
use Rattle.std.specs.Prelude.{◌≡◌, ◌≢◌, ◌⊎◌, ◌↔◌, ◌<◌, ◌≤◌, ℕ, List, [], ◌∷◌, Option, Some, None}
use Rattle.mcv_base.specs.declared.operation.Op.{Op}
use Rattle.mcv_base.specs.declared.operation.Op.TheVariants.{Delete}
use Rattle.mcv_base.specs.declared.reply.Outcome.{Outcome}
use Rattle.mcv_base.specs.declared.reply.Outcome.TheVariants.{Soft, Error}
use Rattle.mcv_route.specs.declared.launch.Launch.{Launch}
use Rattle.mcv_route.specs.Outcomes.{Outcomes, Choice, History, outcomes}
use Rattle.mcv_route.specs.Places.{child_at}
use Rattle.mcv_route.specs.Tree.{Tree, Trees, many, AllSync, none}
use Rattle.mcv_route.specs.WellFormedTrees.{IsWellFormed}
use Rattle.mcv_route.specs.Situation.{Situation, asked, under}
use Rattle.mcv_route.specs.Children.{together}
use Rattle.mcv_route.specs.Replies.{Answer, Source, leg, fixed, refusal, outcome_of, replies}
use Rattle.mcv_route.specs.Launched.{launched}
use Rattle.mcv_route.specs.Reply as one
use Rattle.mcv_route.specs.Verdict.{Has, IsReachable, IsClosed, IsHit}
use Rattle.mcv_rules.specs.Plan.{Leg, reply, HitAt}
use Rattle.mcv_rules.specs.Soundness.{IsSound, IsForDelete}
use Rattle.mcv_rules.specs.Plans.{plan, legs_of}

-- ---- the plan says the same

abbrev pub LaunchedIsPlanned : Type 0
LaunchedIsPlanned = (t : Tree) (s : Situation) (c : Choice) (o : Outcomes) → launched t s c o ≡ legs_of (plan t s) c o

-- there is a reply exactly when the plan has one
abbrev pub ReplyIsPlanned : Type 0
ReplyIsPlanned = (t : Tree) (s : Situation) (o : Outcomes) → outcome_of (replies t s o) ≡ reply (plan t s) o

abbrev pub RepliesAreAlike : Type 0
RepliesAreAlike = (t : Tree) (s : Situation) (o : Outcomes) (a : Answer) → Has (replies t s o) (λ b. b ≡ a) → reply (plan t s) o ≡ Some a.outcome

abbrev pub HitIsPlanned : Type 0
HitIsPlanned = (t : Tree) (s : Situation) (o : Outcomes) (p : List ℕ) → IsHit t s o p ↔ ((l : Leg) × HitAt (plan t s) o l × (l.position ≡ p))

abbrev pub PlansAreSound : Type 0
PlansAreSound = (sizes : List ℕ) (t : Tree) (op : Op) (rest : List ℕ) (since : Option ℕ) → IsWellFormed sizes t → IsSound sizes (plan t (asked op rest since))

abbrev pub DeletesSearchOnErrors : Type 0
DeletesSearchOnErrors = (sizes : List ℕ) (t : Tree) (rest : List ℕ) (since : Option ℕ) → IsWellFormed sizes t → IsForDelete (plan t (asked Delete rest since))

-- ---- the laws

-- the second knows all that the first knows
abbrev pub Extends : Outcomes → Outcomes → Type 0
Extends o o2 = (p : List ℕ) (x : Outcome) → o p ≡ Some x → o2 p ≡ Some x

abbrev pub ReplyStays : Type 0
ReplyStays = (t : Tree) (s : Situation) (o o2 : Outcomes) → Extends o o2 → (replies t s o ≡ []) ⊎ (replies t s o2 ≡ replies t s o)

abbrev pub SentStays : Type 0
SentStays = (t : Tree) (s : Situation) (c : Choice) (o o2 : Outcomes) (l : Launch) → Extends o o2 → Has (launched t s c o) (λ m. m ≡ l) → Has (launched t s c o2) (λ m. m ≡ l)

-- what the outcomes say of whose reply it is
abbrev pub outcome_at : Outcomes → Source → Option Outcome
outcome_at o (leg p) = o p
outcome_at o fixed = Some Soft
outcome_at o refusal = Some Error

-- an answer has the outcome of whose reply it is
abbrev pub AnswersAreTrue : Type 0
AnswersAreTrue = (t : Tree) (s : Situation) (o : Outcomes) (a : Answer) → Has (replies t s o) (λ b. b ≡ a) → outcome_at o a.source ≡ Some a.outcome

abbrev pub ReachableIsClosed : Type 0
ReachableIsClosed = (t : Tree) (s : Situation) (c : Choice) (o : Outcomes) → IsReachable t s c o ↔ IsClosed t s c o

-- the one reply is one of the replies, and is there exactly when there is one
abbrev pub IsOneOf : Option Answer → List Answer → Type 0
IsOneOf None answers = answers ≡ []
IsOneOf (Some a) answers = Has answers (λ b. b ≡ a)

abbrev pub ReplyIsOneOf : Type 0
ReplyIsOneOf = (t : Tree) (s : Situation) (es : History) → IsOneOf (one.reply t s es) (replies t s (outcomes es))

-- an outcome of a further leg leaves the reply, and when it came, as they were
abbrev pub OneReplyStays : Type 0
OneReplyStays = (t : Tree) (s : Situation) (p : List ℕ) (x : Outcome) (es : History) → outcomes es p ≡ None →
    (one.reply t s es ≡ None) ⊎ ((one.reply t s ((p, x) ∷ es) ≡ one.reply t s es) × (one.came t s ((p, x) ∷ es) ≡ one.came t s es))

-- of the children's answers it is the worst, and among equals the one that came last
abbrev pub Prevails : one.Arrival → one.Arrival → Type 0
Prevails a b = (one.weight b.answer < one.weight a.answer) ⊎ ((one.weight b.answer ≡ one.weight a.answer) × (b.came ≤ a.came))

abbrev pub TheLastOfTheWorst : Type 0
TheLastOfTheWorst = (d a : one.Arrival) (more : List one.Arrival) →
    Has (a ∷ more) (λ b. b ≡ together one.last_worse d (a ∷ more)) × ((b : one.Arrival) → Has (a ∷ more) (λ x. x ≡ b) → Prevails (together one.last_worse d (a ∷ more)) b)

-- what the child with number k has replied, and when it did first
abbrev pub arrival_of : Tree → ℕ → Situation → History → one.Arrival
arrival_of t k s es = one.arrival (one.reply t (under k s) es) (one.came t (under k s) es)

-- an AllSyncRoute replies as the one of its children that prevails over all
abbrev pub AllSyncReplies : Type 0
AllSyncReplies = (ts : Trees) (s : Situation) (es : History) → ts ≢ none →
    (k : ℕ) × (t : Tree) × (child_at ts k ≡ Some t) × (one.reply (many AllSync ts) s es ≡ one.reply t (under k s) es)
    × ((j : ℕ) (u : Tree) → child_at ts j ≡ Some u → Prevails (arrival_of t k s es) (arrival_of u j s es))
