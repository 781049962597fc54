-- What each handle sends, said of its children one by one, in the order of the table of handles (mcrouter wiki, List of Route Handles).
use Rattle.std.specs.Prelude.{◌≡◌, ◌≢◌, ◌⊎◌, ◌↔◌, ◌<◌, ◌≤◌, ◌+◌, ◌*◌, ℕ, suc, true, false, List, Option, Some, None, length, map, option_and_then, slice_get, slice_index}
use Rattle.std.specs.Cmp.Lexicographic.{slice_cmp}
use Rattle.std.specs.List.{AllPairs}
use Rattle.std.specs.Ordering.{nat_cmp}
use Rattle.std.specs.declared.cmp.Ordering.TheVariants.{Less}
use Rattle.mcv_base.specs.declared.operation.Op.{Op}
use Rattle.mcv_base.specs.declared.operation.Op.TheVariants.{Add}
use Rattle.mcv_base.specs.declared.operation.Mark.TheVariants.{Shadow}
use Rattle.mcv_base.specs.declared.reply.Outcome.{Outcome}
use Rattle.mcv_base.specs.declared.reply.Outcome.TheVariants.{Good, Error}
use Rattle.mcv_base.specs.Key.{begins_with}
use Rattle.mcv_base.specs.Operation.{is_delete}
use Rattle.mcv_route.specs.Misses.{fails_over_on_miss, is_warmed_up}
use Rattle.mcv_pools.specs.Table.{IsOneToOne}
use Rattle.mcv_route.specs.declared.launch.Launch.{Launch}
use Rattle.mcv_route.specs.Outcomes.{Outcomes, Choice}
use Rattle.mcv_route.specs.Tree.{Pool, Range, Tree, Trees, pool, null, error, many, AllSync, AllInitial, AllAsync, Failover, MissFailover, warm_up, migrate, prefix_selector, operation_selector}
use Rattle.mcv_route.specs.Situation.{Situation, under, asked, asynchronous, shadowed, adding, has_passed}
use Rattle.mcv_route.specs.Children.{is_within, is_policy_for, policy_of, prefix_policy}
use Rattle.mcv_route.specs.Places.{child_at, pool_at_position}
use Rattle.mcv_route.specs.Replies.{outcome_of, replies}
use Rattle.mcv_route.specs.Launched.{launched, own_leg}
use Rattle.mcv_route.specs.Verdict.{Has}
use Rattle.mcv_rules.specs.Plan.{IsMissed}

-- the leg has been sent
abbrev pub Sends : Tree → Situation → Choice → Outcomes → Launch → Type 0
Sends t s c o l = Has (launched t s c o) (λ m. m ≡ l)

-- what the route has replied amounts to, if it has
abbrev pub replied : Tree → Situation → Outcomes → Option Outcome
replied t s o = outcome_of (replies t s o)

-- the child with number k has sent the leg
abbrev pub ChildSends : Trees → ℕ → Situation → Choice → Outcomes → Launch → Type 0
ChildSends ts k s c o l = (t : Tree) × (child_at ts k ≡ Some t) × Sends t (under k s) c o l

-- what the child with number k has replied amounts to
abbrev pub child_replied : Trees → ℕ → Situation → Outcomes → Option Outcome
child_replied ts k s o = option_and_then (λ t. replied t (under k s) o) (child_at ts k)

-- ---- laws of all routes

-- no leg is sent twice: no position is at two places
abbrev pub LegsAreSentOnce : Type 0
LegsAreSentOnce = (t : Tree) (s : Situation) (c : Choice) (o : Outcomes) → IsOneToOne (map (λ l. l.position) (launched t s c o))

-- child numbers are compared from the first on, and a position comes before those below it
abbrev pub ComesBefore : List ℕ → List ℕ → Type 0
ComesBefore p q = slice_cmp nat_cmp p q ≡ Less

-- the legs come in the order of their positions, each before all later ones
abbrev pub LegsComeInOrder : Type 0
LegsComeInOrder = (t : Tree) (s : Situation) (c : Choice) (o : Outcomes) → AllPairs ComesBefore (map (λ l. l.position) (launched t s c o))

-- at a leg's position is a PoolRoute, and the leg goes to its server at the index of its symbol
abbrev pub LegsAreOfPools : Type 0
LegsAreOfPools = (t : Tree) (op : Op) (rest : List ℕ) (since : Option ℕ) (c : Choice) (o : Outcomes) (l : Launch) → Sends t (asked op rest since) c o l
    → (p : Pool) × (pool_at_position t l.position ≡ Some p) × (l.server.0 ≡ slice_index p.servers (c p.symbol))

-- all that is sent below a shadow is marked so
abbrev pub ShadowsAreMarked : Type 0
ShadowsAreMarked = (t : Tree) (s : Situation) (c : Choice) (o : Outcomes) (l : Launch) → s.mark ≡ Shadow → Sends t s c o l → l.mark ≡ Shadow

-- a leg has the operation that is asked, but for the add of a warm-up, which get and gets alone send
abbrev pub LegsHaveTheOperation : Type 0
LegsHaveTheOperation = (t : Tree) (s : Situation) (c : Choice) (o : Outcomes) (l : Launch) → Sends t s c o l → (l.op ≡ s.op) ⊎ ((is_warmed_up s.op ≡ true) × (l.op ≡ Add))

-- so what reads nothing sends its own operation alone, and a delete sends deletes
abbrev pub OwnOperation : Type 0
OwnOperation = (t : Tree) (s : Situation) (c : Choice) (o : Outcomes) (l : Launch) → is_warmed_up s.op ≡ false → Sends t s c o l → l.op ≡ s.op

-- ---- one row for each handle

-- its own leg, and what the targets send whose range holds the index of its symbol
abbrev pub PoolRow : Type 0
PoolRow = (p : Pool) (ranges : List Range) (targets : Trees) (s : Situation) (c : Choice) (o : Outcomes) (l : Launch) →
    Sends (pool p ranges targets) s c o l ↔
    ((own_leg p s c ≡ l) ⊎ ((k : ℕ) × (r : Range) × (slice_get ranges k ≡ Some r) × (is_within r (c p.symbol) ≡ true) × ChildSends targets k (shadowed s) c o l))

abbrev pub NullRow : Type 0
NullRow = (s : Situation) (c : Choice) (o : Outcomes) (l : Launch) → Sends null s c o l → ⊥

abbrev pub ErrorRow : Type 0
ErrorRow = (s : Situation) (c : Choice) (o : Outcomes) (l : Launch) → Sends error s c o l → ⊥

-- what each child sends
abbrev pub AllSyncRow : Type 0
AllSyncRow = (ts : Trees) (s : Situation) (c : Choice) (o : Outcomes) (l : Launch) → Sends (many AllSync ts) s c o l ↔ ((k : ℕ) × ChildSends ts k s c o l)

-- what the first child sends, and what each further one sends that no one waits for
abbrev pub AllInitialRow : Type 0
AllInitialRow = (ts : Trees) (s : Situation) (c : Choice) (o : Outcomes) (l : Launch) →
    Sends (many AllInitial ts) s c o l ↔ (ChildSends ts 0 s c o l ⊎ ((k : ℕ) × ChildSends ts (suc k) (asynchronous s) c o l))

-- what each child sends that no one waits for
abbrev pub AllAsyncRow : Type 0
AllAsyncRow = (ts : Trees) (s : Situation) (c : Choice) (o : Outcomes) (l : Launch) → Sends (many AllAsync ts) s c o l ↔ ((k : ℕ) × ChildSends ts k (asynchronous s) c o l)

-- what a child sends, once all before it have replied errors
abbrev pub FailoverRow : Type 0
FailoverRow = (ts : Trees) (s : Situation) (c : Choice) (o : Outcomes) (l : Launch) →
    Sends (many Failover ts) s c o l ↔ ((k : ℕ) × ((j : ℕ) → j < k → child_replied ts j s o ≡ Some Error) × ChildSends ts k s c o l)

-- for get and gets what a child sends, once all before it have replied and none with a hit
abbrev pub MissFailoverReads : Type 0
MissFailoverReads = (ts : Trees) (s : Situation) (c : Choice) (o : Outcomes) (l : Launch) → fails_over_on_miss s.op ≡ true →
    Sends (many MissFailover ts) s c o l ↔ ((k : ℕ) × ((j : ℕ) → j < k → IsMissed (child_replied ts j s o)) × ChildSends ts k s c o l)

-- for the rest what the first child sends
abbrev pub MissFailoverWrites : Type 0
MissFailoverWrites = (ts : Trees) (s : Situation) (c : Choice) (o : Outcomes) (l : Launch) → fails_over_on_miss s.op ≡ false → Sends (many MissFailover ts) s c o l ↔ ChildSends ts 0 s c o l

-- for get and gets what cold sends; once cold has replied and not with a hit, what warm sends; and once warm has hit then, what cold sends for the add
abbrev pub WarmUpReads : Type 0
WarmUpReads = (cold warm : Tree) (exptime : ℕ) (s : Situation) (c : Choice) (o : Outcomes) (l : Launch) → is_warmed_up s.op ≡ true →
    Sends (warm_up cold warm exptime) s c o l ↔
    (Sends cold (under 0 s) c o l
    ⊎ (IsMissed (replied cold (under 0 s) o) × (Sends warm (under 1 s) c o l ⊎ ((replied warm (under 1 s) o ≡ Some Good) × Sends cold (under 2 (adding s)) c o l))))

-- for the rest what cold sends
abbrev pub WarmUpWrites : Type 0
WarmUpWrites = (cold warm : Tree) (exptime : ℕ) (s : Situation) (c : Choice) (o : Outcomes) (l : Launch) → is_warmed_up s.op ≡ false →
    Sends (warm_up cold warm exptime) s c o l ↔ Sends cold (under 0 s) c o l

-- before its start a migration sends to the old place
abbrev pub MigrateBefore : Type 0
MigrateBefore = (from to : Tree) (start interval : ℕ) (s : Situation) (c : Choice) (o : Outcomes) (l : Launch) → has_passed s.since start ≡ false →
    Sends (migrate from to start interval) s c o l ↔ Sends from (under 0 s) c o l

-- from then on until two intervals later deletes to both
abbrev pub MigrateDeletes : Type 0
MigrateDeletes = (from to : Tree) (start interval : ℕ) (s : Situation) (c : Choice) (o : Outcomes) (l : Launch) →
    has_passed s.since start ≡ true → has_passed s.since (start + 2 * interval) ≡ false → is_delete s.op ≡ true →
    Sends (migrate from to start interval) s c o l ↔ (Sends from (under 0 s) c o l ⊎ Sends to (under 1 s) c o l)

-- the rest to the old place until one interval later
abbrev pub MigrateFirst : Type 0
MigrateFirst = (from to : Tree) (start interval : ℕ) (s : Situation) (c : Choice) (o : Outcomes) (l : Launch) →
    has_passed s.since (start + interval) ≡ false → is_delete s.op ≡ false →
    Sends (migrate from to start interval) s c o l ↔ Sends from (under 0 s) c o l

-- and to the new place from then on
abbrev pub MigrateSecond : Type 0
MigrateSecond = (from to : Tree) (start interval : ℕ) (s : Situation) (c : Choice) (o : Outcomes) (l : Launch) →
    has_passed s.since (start + interval) ≡ true → is_delete s.op ≡ false →
    Sends (migrate from to start interval) s c o l ↔ Sends to (under 1 s) c o l

-- from two intervals after the start all to the new place
abbrev pub MigrateAfter : Type 0
MigrateAfter = (from to : Tree) (start interval : ℕ) (s : Situation) (c : Choice) (o : Outcomes) (l : Launch) → has_passed s.since (start + 2 * interval) ≡ true →
    Sends (migrate from to start interval) s c o l ↔ Sends to (under 1 s) c o l

-- what the child of the rest's policy sends
abbrev pub PrefixSelectorRow : Type 0
PrefixSelectorRow = (prefixes : List (List ℕ)) (ts : Trees) (s : Situation) (c : Choice) (o : Outcomes) (l : Launch) →
    Sends (prefix_selector prefixes ts) s c o l ↔ ChildSends ts (prefix_policy s.rest prefixes) s c o l

-- that is the policy of a prefix with which the rest begins and than which none such is longer, or the wildcard, where the rest begins with none
abbrev pub LongestPrefixCounts : Type 0
LongestPrefixCounts = (rest : List ℕ) (prefixes : List (List ℕ)) →
    ((p : List ℕ) × (slice_get prefixes (prefix_policy rest prefixes) ≡ Some p) × (begins_with rest p ≡ true)
    × ((k : ℕ) (q : List ℕ) → slice_get prefixes k ≡ Some q → begins_with rest q ≡ true → length q ≤ length p))
    ⊎ ((prefix_policy rest prefixes ≡ length prefixes) × ((k : ℕ) (q : List ℕ) → slice_get prefixes k ≡ Some q → begins_with rest q ≡ false))

-- what the child of the operation's policy sends
abbrev pub OperationSelectorRow : Type 0
OperationSelectorRow = (ops : List (Option Op)) (ts : Trees) (s : Situation) (c : Choice) (o : Outcomes) (l : Launch) →
    Sends (operation_selector ops ts) s c o l ↔ ChildSends ts (policy_of s.op ops) s c o l

-- that is the first policy of the operation, or the default, where there is none
abbrev pub FirstPolicyCounts : Type 0
FirstPolicyCounts = (op : Op) (ops : List (Option Op)) →
    ((j : ℕ) (p : Option Op) → j < policy_of op ops → slice_get ops j ≡ Some p → is_policy_for op p ≡ false)
    × (((p : Option Op) × (slice_get ops (policy_of op ops) ≡ Some p) × (is_policy_for op p ≡ true)) ⊎ (policy_of op ops ≡ length ops))

-- ---- where a search stops

-- a child that hasn't replied, or not with an error, and all before it have, or the last one: its replies are those of the handle
abbrev pub FailoverReplies : Type 0
FailoverReplies = (ts : Trees) (s : Situation) (o : Outcomes) (k : ℕ) (t : Tree) → child_at ts k ≡ Some t → ((j : ℕ) → j < k → child_replied ts j s o ≡ Some Error)
    → (replied t (under k s) o ≢ Some Error) ⊎ (child_at ts (suc k) ≡ None) → replies (many Failover ts) s o ≡ replies t (under k s) o

-- a child that hasn't replied, or with a hit, and all before it have and without one, or the last one
abbrev pub MissFailoverReplies : Type 0
MissFailoverReplies = (ts : Trees) (s : Situation) (o : Outcomes) (k : ℕ) (t : Tree) → fails_over_on_miss s.op ≡ true → child_at ts k ≡ Some t → ((j : ℕ) → j < k → IsMissed (child_replied ts j s o))
    → (IsMissed (replied t (under k s) o) → ⊥) ⊎ (child_at ts (suc k) ≡ None) → replies (many MissFailover ts) s o ≡ replies t (under k s) o
