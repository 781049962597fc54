-- How the code goes through a route and the outcomes of its legs side by side. Nothing but private contracts cites this.
use Rattle.std.specs.Prelude.{ℕ, suc, Bool, true, false, ◌&&◌, ◌||◌, ◌==◌, if◌then◌else◌, List, [], ◌∷◌, Option, Some, None, length, nat_lt, option_and_then, slice_get, slice_index}
use Rattle.std.specs.Str.{bytes_eq}
use Rattle.mcv_base.specs.declared.reply.Outcome.{Outcome}
use Rattle.mcv_base.specs.declared.reply.Outcome.TheVariants.{Soft, Error}
use Rattle.mcv_base.specs.Operation.{is_counting}
use Rattle.mcv_route.specs.Misses.{fails_over_on_miss, is_warmed_up}
use Rattle.mcv_base.specs.Reply.{is_error, is_good, is_missed, badness}
use Rattle.mcv_route.specs.Children.{child_or, is_within, policy_of, prefix_policy, rest_of, way_of, by_way}
use Rattle.mcv_route.specs.Outcomes.{Choice, History}
use Rattle.mcv_route.specs.Situation.{Situation, asynchronous, shadowed, adding}
use Rattle.mcv_route.specs.Tree.{Range, Tree, Trees, pool, null, error, many, AllSync, AllInitial, AllAsync, Failover, MissFailover, warm_up, migrate, prefix_selector, operation_selector, none, child}
use Rattle.mcv_witness.specs.Finding.{outcomes_of}
use Rattle.mcv_witness.specs.declared.seen.Join.{Join}
use Rattle.mcv_witness.specs.declared.seen.Join.TheVariants.{Both, Beside, OnError, OnMiss}
use Rattle.mcv_witness.specs.declared.seen.Seen.{Seen}
use Rattle.mcv_witness.specs.declared.seen.SeenReply.{SeenReply}
use Rattle.mcv_witness.specs.declared.known.Known as kept
use Rattle.mcv_witness.specs.declared.walk.Sought.{Sought}

-- ---- outcomes below a handle

-- outcomes, and how many steps lead to the handle; where there are none, it doesn't matter
pub record Known : Type 0 where
  pub legs : History
  pub depth : ℕ

abbrev pub known_of : kept.Known → Known
known_of k = record { legs = outcomes_of k.legs.now; depth = k.depth }

abbrev pub is_number : ℕ → Option ℕ → Bool
is_number n None = false
is_number n (Some i) = i == n

-- the position is that of child n of a handle so deep, or below it
abbrev pub is_below : ℕ → ℕ → List ℕ → Bool
is_below d n p = is_number n (slice_get p d)

-- the outcomes at the front that are below child n, and those behind them
abbrev pub front : ℕ → ℕ → History → History
front d n [] = []
front d n (e ∷ es) = if is_below d n e.0 then e ∷ front d n es else []

abbrev pub behind : ℕ → ℕ → History → History
behind d n [] = []
behind d n (e ∷ es) = if is_below d n e.0 then behind d n es else e ∷ es

abbrev pub depth_of : ℕ → History → ℕ
depth_of d [] = 0
depth_of d (e ∷ es) = suc d

abbrev pub below : Known → ℕ → Known
below k n = record { legs = front k.depth n k.legs; depth = depth_of k.depth (front k.depth n k.legs) }

abbrev pub past : Known → ℕ → Known
past k n = record { legs = behind k.depth n k.legs; depth = k.depth }

-- the outcome at the handle itself, if it comes first
abbrev pub own_reply : List ℕ → Known → Option SeenReply
own_reply leaf k = at_front k.legs
  where
    at_front : History → Option SeenReply
    at_front [] = None
    at_front (e ∷ es) = if length e.0 == k.depth then Some (record { outcome = e.1; is_hit = is_good e.1 && bytes_eq e.0 leaf }) else None

abbrev pub past_own : Known → Known
past_own k = record { legs = others k.legs; depth = k.depth }
  where
    others : History → History
    others [] = []
    others (e ∷ es) = if length e.0 == k.depth then es else e ∷ es

-- ---- what is seen

abbrev pub at_once : Outcome → Seen
at_once x = record { reply = Some (record { outcome = x; is_hit = false }); sent = false }

-- no outcome is left over
abbrev pub finish : Seen → History → Option Seen
finish x [] = Some x
finish x (e ∷ es) = None

-- the worse reply, once both are there
abbrev pub worse_reply : Option SeenReply → Option SeenReply → Option SeenReply
worse_reply None y = None
worse_reply (Some a) None = None
worse_reply (Some a) (Some b) = by_badness (badness a.outcome) (badness b.outcome)
  where
    by_badness : ℕ → ℕ → Option SeenReply
    by_badness m n = if nat_lt m n then Some b else (if nat_lt n m then Some a else Some (record { outcome = a.outcome; is_hit = a.is_hit || b.is_hit }))

abbrev pub reply_passes : (Outcome → Bool) → Option SeenReply → Bool
reply_passes test None = false
reply_passes test (Some a) = test a.outcome

-- whether the next child is asked
abbrev pub goes_on : Join → Option SeenReply → Bool
goes_on Both r = true
goes_on Beside r = true
goes_on OnError r = reply_passes is_error r
goes_on OnMiss r = reply_passes is_missed r

-- the reply once the next child has been asked
abbrev pub joined_reply : Join → Option SeenReply → Option SeenReply → Option SeenReply
joined_reply Both x y = worse_reply x y
joined_reply Beside x y = x
joined_reply OnError x y = y
joined_reply OnMiss x y = y

abbrev pub joined_seen : Join → Seen → Seen → Seen
joined_seen how x y = record { reply = joined_reply how x.reply y.reply; sent = x.sent || y.sent }

-- ---- the walk over children

abbrev pub Pass : Type 0
Pass = Known → Option Seen

-- the children from number n on, after what was seen before them
abbrev pub gather : Join → ℕ → List Pass → Seen → Known → Option Seen
gather how n [] x k = finish x k.legs
gather how n (f ∷ fs) x k = if goes_on how x.reply then option_and_then (λ y. gather how (suc n) fs (joined_seen how x y) (past k n)) (f (below k n)) else finish x k.legs

-- all of them, the first one by its own walk
abbrev pub gather_all : Join → List Pass → List Pass → Known → Option Seen
gather_all how [] later k = finish (at_once Error) k.legs
gather_all how (f ∷ fs) later k = option_and_then (λ x. gather how 1 later x (past k 0)) (f (below k 0))

abbrev pub if_empty : History → Option Seen → Option Seen
if_empty [] x = x
if_empty (e ∷ es) x = None

-- child n alone
abbrev pub only : Pass → ℕ → Known → Option Seen
only f n k = if_empty (past k n).legs (f (below k n))

-- the targets from number n on whose ranges hold the index
abbrev pub shade : ℕ → ℕ → List Range → List Pass → Seen → Known → Option Seen
shade i n [] fs x k = finish x k.legs
shade i n (r ∷ rs) [] x k = finish x k.legs
shade i n (r ∷ rs) (f ∷ fs) x k =
    if is_within r i then option_and_then (λ y. shade i (suc n) rs fs (joined_seen Beside x y) (past k n)) (f (below k n)) else shade i (suc n) rs fs x k

-- child n after what was seen before it, and no other
abbrev pub one_more : Join → ℕ → Pass → Seen → Known → Option Seen
one_more how n f x k = option_and_then (λ y. finish (joined_seen how x y) (past k n).legs) (f (below k n))

-- after a hit of the warm side the add
abbrev pub filled : Pass → Option SeenReply → Seen → Known → Option Seen
filled h r x k = if reply_passes is_good r then one_more Beside 2 h x k else finish x k.legs

-- the cold side, after a miss the warm one, and after its hit the add
abbrev pub warmed : Pass → Pass → Pass → Known → Option Seen
warmed f g h k =
    option_and_then (λ x.
    if goes_on OnMiss x.reply
    then option_and_then (λ y. filled h y.reply (joined_seen OnMiss x y) (past (past k 0) 1)) (g (below (past k 0) 1))
    else finish x (past k 0).legs)
    (f (below k 0))

-- ---- the walk

-- the child that is chosen by number, or the reply of ErrorRoute
abbrev pub only_nth : ℕ → List Pass → ℕ → Known → Option Seen
only_nth n fs m k = child_or (finish (at_once Error) k.legs) m (map_only fs)
  where
    map_only : List Pass → List (Option Seen)
    map_only [] = []
    map_only (f ∷ more) = only f n k ∷ map_only more

module _ (leaf : List ℕ) (server : ℕ) (c : Choice) where
  abbrev mutual
    pub pass : Tree → Situation → Known → Option Seen
    pass (pool p ranges targets) s k =
        shade (c p.symbol) 0 ranges (pass_each targets (shadowed s))
        (record { reply = own_reply leaf k; sent = (slice_index p.servers (c p.symbol) == server) && is_counting s.mark })
        (past_own k)
    pass null s k = finish (at_once Soft) k.legs
    pass error s k = finish (at_once Error) k.legs
    pass (many AllSync ts) s k = gather_all Both (pass_each ts s) (rest_of (pass_each ts s)) k
    pass (many AllInitial ts) s k = gather_all Beside (pass_each ts s) (rest_of (pass_each ts (asynchronous s))) k
    pass (many AllAsync ts) s k = gather Beside 0 (pass_each ts (asynchronous s)) (at_once Soft) k
    pass (many Failover ts) s k = gather_all OnError (pass_each ts s) (rest_of (pass_each ts s)) k
    pass (many MissFailover ts) s k =
        if fails_over_on_miss s.op then gather_all OnMiss (pass_each ts s) (rest_of (pass_each ts s)) k else only_nth 0 (pass_each ts s) 0 k
    pass (warm_up cold warm exptime) s k =
        if is_warmed_up s.op then warmed (pass cold s) (pass warm s) (pass cold (adding s)) k else only (pass cold s) 0 k
    pass (migrate from to start interval) s k =
        by_way (way_of s start interval) (only (pass from s) 0 k) (only (pass to s) 1 k)
        (gather_all Both (pass from s ∷ pass to s ∷ []) (pass to s ∷ []) k)
    pass (prefix_selector prefixes ts) s k = only_nth (prefix_policy s.rest prefixes) (pass_each ts s) (prefix_policy s.rest prefixes) k
    pass (operation_selector ops ts) s k = only_nth (policy_of s.op ops) (pass_each ts s) (policy_of s.op ops) k

    pub pass_each : Trees → Situation → List Pass
    pass_each none s = []
    pass_each (child t ts) s = pass t s ∷ pass_each ts s

abbrev pub walked : Sought → Tree → Situation → Known → Option Seen
walked q = pass q.leaf.now q.server.0 (slice_index q.choice.now)

abbrev pub walked_each : Sought → Trees → Situation → List Pass
walked_each q = pass_each q.leaf.now q.server.0 (slice_index q.choice.now)
