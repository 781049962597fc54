-- What the `warm` of a WarmUpRoute replied: the value that its add stores (mcrouter wiki, List of Route Handles, WarmUpRoute; own).
use Rattle.std.specs.Prelude.{ℕ, suc, List, [], ◌∷◌, ◌++◌, Option, Some, None, fold, is_none, map, nat_eq, option_and_then, option_map, take, if◌then◌else◌}
use Rattle.std.specs.List.{filter_map}
use Rattle.mcv_base.specs.declared.operation.Op.{Op}
use Rattle.mcv_base.specs.declared.reply.FixedReply.TheVariants.{ErrorRoute}
use Rattle.mcv_base.specs.Reply.{ReplyValue, fixed_value, outcome_of, part_value}
use Rattle.mcv_route.specs.declared.launch.Answered.{Answered}
use Rattle.mcv_route.specs.Outcomes.{History, outcomes}
use Rattle.mcv_route.specs.Replies.{Source, fixed, leg, refusal}
use Rattle.mcv_route.specs.Reply.{reply}
use Rattle.mcv_route.specs.Situation.{Situation, asked}
use Rattle.mcv_route.specs.Tree.{Tree}
use Rattle.mcv_rules.specs.Status.{default_reply}
use Rattle.mcv_world.specs.World.{Recorded, reply_at}
use Rattle.mcv_asks.specs.declared.hit.Call.{Call}
use Rattle.mcv_asks.specs.declared.hit.Heard.{Heard}
use Rattle.mcv_asks.specs.WarmUps.{Warming}

-- ---- the legs below a handle

-- what follows in a position behind that of a handle, if it lies below it
abbrev pub behind : List ℕ → List ℕ → Option (List ℕ)
behind [] q = Some q
behind (i ∷ p) [] = None
behind (i ∷ p) (j ∷ q) = if nat_eq i j then behind p q else None

abbrev pub below_one : List ℕ → Recorded → Option Recorded
below_one p h = option_map (λ q. record { position = q; reply = h.reply }) (behind p h.position)

-- the replies of the legs below the handle at a position, by their positions from there
abbrev pub below : List ℕ → List Recorded → List Recorded
below p hs = filter_map (below_one p) hs

-- ---- what a handle replied

-- with one reply more: a leg has one outcome, its first
abbrev pub known_next : History → Recorded → History
known_next es h = if is_none (outcomes es h.position) then (h.position, outcome_of h.reply) ∷ es else es

-- the outcomes of replies, the oldest of which comes first
abbrev pub known : List Recorded → History
known hs = fold known_next [] hs

-- the first reply of the leg at a position, the default reply, or ErrorRoute's
abbrev pub reply_from : Op → List Recorded → Source → Option ReplyValue
reply_from op hs (leg p) = reply_at hs p
reply_from op hs fixed = Some (fixed_value (default_reply op))
reply_from op hs refusal = Some (fixed_value ErrorRoute)

-- what a route replied, once its legs have these replies
abbrev pub replied : Tree → Situation → List Recorded → Option ReplyValue
replied t s hs = option_and_then (λ a. reply_from s.op hs a.source) (reply t s (known hs))

-- the position of `warm`: the second child of the WarmUpRoute
abbrev pub warm_place : List ℕ → Warming → List ℕ
warm_place p w = take w.depth p ++ 1 ∷ []

-- what `warm` replied to a call, for the add at a position: what it replies as a route of its own, by the replies of the legs below it
abbrev pub warm_reply : Situation → List Recorded → List ℕ → Warming → Option ReplyValue
warm_reply s hs p w = replied w.warm s (below (warm_place p w) hs)

-- ---- in memory

abbrev pub heard_of : Heard → Recorded
heard_of h = record { position = h.position.now; reply = part_value h.reply.now }

abbrev pub answered_of : Answered → Recorded
answered_of a = record { position = a.position; reply = part_value a.reply }

-- the whole route is asked
abbrev pub situation_of : Call → Situation
situation_of call = asked call.op call.rest.now (option_map (λ m. m.0) call.since)

abbrev pub replies_of : Call → List Recorded
replies_of call = map heard_of call.heard.now
