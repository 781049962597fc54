-- What changes the calls and legs of a proxy, one move at a time (own).
use Rattle.std.specs.Prelude.{ℕ, suc, ◌+◌, Bool, true, false, not, ◌&&◌, List, [], ◌∷◌, Option, Some, None, cond, if◌then◌else◌, is_none, is_some, length, filter, nat_eq}
use Rattle.std.specs.List.{list_any}
use Rattle.mcv_base.specs.declared.operation.Op.{Op}
use Rattle.mcv_base.specs.declared.reply.FixedReply.TheVariants.{Lost}
use Rattle.mcv_base.specs.Operation.{is_delete}
use Rattle.mcv_base.specs.Reply.{ReplyValue, not_found, outcome_of, fixed_value, is_error, may_answer}
use Rattle.mcv_route.specs.declared.launch.Launch.{Launch}
use Rattle.mcv_route.specs.Outcomes.{is_same, outcomes}
use Rattle.mcv_route.specs.Routes.{RoutesValue}
use Rattle.mcv_world.specs.World.{LegState, Queued, Performed, Spooled, Gone, Call, Leg, World, history_of, launched_by, reply_of, is_counted_delete, is_queued, is_spooled, put}

pub data Move : Type 0 where
  -- a call of this operation on the rest by the route, with the index of each symbol
  Began : Op → (route : ℕ) → (rest choice : List ℕ) → Move
  -- the leg's server replied so; or the leg, no counted delete, was lost
  Answered : (leg : ℕ) → ReplyValue → Move
  -- the spool took the leg's record
  WasSpooled : (leg : ℕ) → Move
  -- the spool refused the leg's record
  WasRefused : (leg : ℕ) → Move
  -- a spooled leg was sent again, and its server performed it
  WasPerformed : (leg : ℕ) → Move
  -- another era than before: the one that began at this break, or the first one
  EraBegan : (since : Option ℕ) → Move
  -- the call's reply was taken by who asked
  Taken : (call : ℕ) → Move

-- ---- replies

-- a reply that no server gives to this operation counts as the loss of the leg (own)
abbrev pub counted_as : Op → ReplyValue → ReplyValue
counted_as op x = if may_answer op x then x else fixed_value Lost

abbrev pub is_error_reply : ReplyValue → Bool
is_error_reply x = is_error (outcome_of x)

-- ---- when there is such a move

-- there is one, and it passes the test
abbrev pub is_one : {A : Type 0} → Option A → (A → Bool) → Bool
is_one None test = false
is_one (Some x) test = test x

-- the call has no outcome for the leg
abbrev pub has_no_outcome : Leg → Call → Bool
has_no_outcome s call = is_none (outcomes (history_of call.recorded) s.launch.position)

-- the leg's call is there and has no outcome for it
abbrev pub is_awaited : World → Leg → Option ℕ → Bool
is_awaited w s None = false
is_awaited w s (Some k) = is_one (w.calls k) (has_no_outcome s)

-- a queued leg without an outcome; an error, or the loss of the leg, is no answer to a counted delete leg, which stays queued
abbrev pub can_be_answered : World → ReplyValue → Leg → Bool
can_be_answered w x s = is_queued s.state && (is_awaited w s s.call && not (is_counted_delete s && is_error_reply (counted_as s.launch.op x)))

-- with an outcome or without one, and also once its call has ended
abbrev pub can_be_spooled : Leg → Bool
can_be_spooled s = is_queued s.state && is_counted_delete s

-- one that has an outcome stays as it is
abbrev pub can_be_refused : World → Leg → Bool
can_be_refused w s = is_queued s.state && (is_awaited w s s.call && is_counted_delete s)

-- once
abbrev pub can_be_taken : RoutesValue → Call → Bool
can_be_taken r call = not call.taken && is_some (reply_of r call)

-- the second break didn't open the era that the first one did
abbrev pub is_other_era : Option ℕ → Option ℕ → Bool
is_other_era None None = false
is_other_era None (Some b) = true
is_other_era (Some a) None = true
is_other_era (Some a) (Some b) = not (nat_eq a b)

abbrev pub is_move : RoutesValue → World → Move → Bool
is_move r w (Began op route rest choice) = true
is_move r w (Answered n x) = is_one (w.legs n) (can_be_answered w x)
is_move r w (WasSpooled n) = is_one (w.legs n) can_be_spooled
is_move r w (WasRefused n) = is_one (w.legs n) (can_be_refused w)
is_move r w (WasPerformed n) = is_one (w.legs n) (λ s. is_spooled s.state)
is_move r w (EraBegan since) = is_other_era w.since since
is_move r w (Taken k) = is_one (w.calls k) (can_be_taken r)

-- ---- legs that are launched

abbrev pub queued : ℕ → List ℕ → Launch → Leg
queued k rest l = record { call = Some k; launch = l; rest = rest; state = Queued }

-- the legs of the call take the numbers from n on
abbrev pub queue : (ℕ → Option Leg) → ℕ → ℕ → List ℕ → List Launch → ℕ → Option Leg
queue legs n k rest [] = legs
queue legs n k rest (l ∷ ls) = queue (put legs n (Some (queued k rest l))) (suc n) k rest ls

-- at a position that none of the legs has
abbrev pub is_new : List Launch → Launch → Bool
is_new ks l = not (list_any (λ k. is_same k.position l.position) ks)

-- those of the second list that are new, in their order
abbrev pub fresh : List Launch → List Launch → List Launch
fresh ks ls = filter (is_new ks) ls

-- the call with one reply more recorded
abbrev pub with_reply : Call → List ℕ → ReplyValue → Call
with_reply call p x = record call { recorded = record { position = p; reply = x } ∷ call.recorded }

-- what that launches
abbrev pub launched_since : RoutesValue → Call → List ℕ → ReplyValue → List Launch
launched_since r call p x = fresh (launched_by r call) (launched_by r (with_reply call p x))

-- ---- what a move changes

abbrev pub new_call : World → Op → ℕ → List ℕ → List ℕ → Call
new_call w op route rest choice = record { op = op; route = route; rest = rest; since = w.since; choice = choice; recorded = []; taken = false }

-- the call is added, and what it launches is queued
abbrev pub began : RoutesValue → World → Call → World
began r w call = record {
  calls = put w.calls w.next_call (Some call);
  legs = queue w.legs w.next_leg w.next_call call.rest (launched_by r call);
  since = w.since;
  next_call = suc w.next_call;
  next_leg = w.next_leg + length (launched_by r call);
}

-- the call records this reply at the position, and what that launches is queued
abbrev pub recorded_by : RoutesValue → World → ℕ → Call → List ℕ → ReplyValue → World
recorded_by r w k call p x = record w {
  calls = put w.calls k (Some (with_reply call p x));
  legs = queue w.legs w.next_leg k call.rest (launched_since r call p x);
  next_leg = w.next_leg + length (launched_since r call p x);
}

-- where the call is there and has no outcome for the leg
abbrev pub recorded_if : RoutesValue → World → Leg → ReplyValue → ℕ → Option Call → World
recorded_if r w s x k None = w
recorded_if r w s x k (Some call) = cond (has_no_outcome s call) (recorded_by r w k call s.launch.position x) w

-- the leg's call records this reply of it
abbrev pub recorded_for : RoutesValue → World → Leg → ReplyValue → Option ℕ → World
recorded_for r w s x None = w
recorded_for r w s x (Some k) = recorded_if r w s x k (w.calls k)

abbrev pub with_leg_state : World → ℕ → Leg → LegState → World
with_leg_state w n s state = record w { legs = put w.legs n (Some (record s { state = state })) }

-- a delete is performed by any answer but an error; no other leg has to be performed
abbrev pub answered_state : Op → ReplyValue → LegState
answered_state op x = if is_delete op && not (is_error_reply x) then Performed else Gone

abbrev pub with_taken : Call → Call
with_taken call = record call { taken = true }

-- what becomes of the world by what becomes of the leg, where it is there
abbrev pub with_leg : World → Option Leg → (Leg → World) → World
with_leg w None f = w
with_leg w (Some s) f = f s

abbrev pub with_call : World → Option Call → (Call → World) → World
with_call w None f = w
with_call w (Some call) f = f call

abbrev pub changed : RoutesValue → World → Move → World
changed r w (Began op route rest choice) = began r w (new_call w op route rest choice)
changed r w (Answered n x) = with_leg w (w.legs n) (λ s. recorded_for r (with_leg_state w n s (answered_state s.launch.op (counted_as s.launch.op x))) s (counted_as s.launch.op x) s.call)
changed r w (WasSpooled n) = with_leg w (w.legs n) (λ s. recorded_for r (with_leg_state w n s Spooled) s not_found s.call)
changed r w (WasRefused n) = with_leg w (w.legs n) (λ s. recorded_for r w s (fixed_value Lost) s.call)
changed r w (WasPerformed n) = with_leg w (w.legs n) (λ s. with_leg_state w n s Performed)
changed r w (EraBegan since) = record w { since = since }
changed r w (Taken k) = with_call w (w.calls k) (λ call. record w { calls = put w.calls k (Some (with_taken call)) })

-- the world after a move; where there is no such move, the same world
abbrev pub after : RoutesValue → World → Move → World
after r w m = cond (is_move r w m) (changed r w m) w

-- the world after these moves
abbrev pub run : RoutesValue → World → List Move → World
run r w [] = w
run r w (m ∷ ms) = run r (after r w m) ms
