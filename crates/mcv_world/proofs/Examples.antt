-- Small worlds. Each is what a few moves make of the empty world, and shows what one line of the definitions refuses.
use Rattle.std.proofs.Common.{◌≡◌, ◌≢◌, ◌⊎◌, inl, inr, ℕ, Bool, true, false, List, [], ◌∷◌, Option, Some, None, option_map, refl, sym, ap, ◌∙◌, arith, true≢false}
use Rattle.std.specs.Prelude.{option_and_then}
use Rattle.mcv_base.specs.declared.operation.Mark.{Mark}
use Rattle.mcv_base.specs.declared.operation.Mark.TheVariants.{Plain, Async, Shadow}
use Rattle.mcv_base.specs.declared.operation.Op.{Op}
use Rattle.mcv_base.specs.declared.operation.Op.TheVariants.{Get, Delete}
use Rattle.mcv_base.specs.declared.reply.Outcome.TheVariants.{Good, Error}
use Rattle.mcv_base.specs.Operation.{is_counting}
use Rattle.mcv_base.specs.Reply.{ReplyValue, hit, not_found, deleted, fault, lost_line, outcome_of}
use Rattle.mcv_pools.specs.declared.symbol.HashFunc.TheVariants.{Ch3}
use Rattle.mcv_route.specs.Outcomes.{outcomes}
use Rattle.mcv_route.specs.Routes.{RoutesValue}
use Rattle.mcv_route.specs.Tree.{Tree, Trees, pool, many, AllInitial, Failover, migrate, operation_selector, none, child}
use Rattle.mcv_route.specs.Verdict.{IsReadable}
use Rattle.mcv_world.specs.World.{LegState, Queued, Performed, Spooled, Gone, Call, Leg, World, choice_of, reply_of, is_counted_delete, put}
use Rattle.mcv_world.specs.Moves.{Move, Began, Answered, WasSpooled, WasRefused, WasPerformed, EraBegan, Taken, is_move, run}
use Rattle.mcv_world.specs.PossibleMoves.{IsPossible, IsOpening}
use Rattle.mcv_world.specs.LiveWorld.{live_of}
use Rattle.mcv_world.specs.KeptLegs.{KeepsLeg, Kept}
use Rattle.mcv_world.proofs.Numbers.{same_some, no_some, put_cases}

-- ---- routes of one tree, over pools of one server

abbrev server : ℕ → Tree
server x = pool (record { symbol = 0; servers = x ∷ [] }) [] none

abbrev of_tree : Tree → RoutesValue
of_tree t = record { servers = [] ∷ [] ∷ []; symbols = record { func = Ch3; salt = []; n = 1 } ∷ []; entries = record { aliases = []; tree = t } ∷ []; window = 0 }

abbrev two : Tree → Tree → Trees
two t u = child t (child u none)

-- a server with a shadow of all its requests
abbrev with_shadow : ℕ → ℕ → Tree
with_shadow x y = pool (record { symbol = 0; servers = x ∷ [] }) (record { first = 0; last = 0 } ∷ []) (child (server y) none)

-- deletes go to one server, all else to another one
abbrev apart : ℕ → ℕ → Tree
apart x y = operation_selector (Some Delete ∷ []) (two (server x) (server y))

-- ---- what moves make of the empty world

abbrev empty : World
empty = record { calls = λ k. None; legs = λ n. None; since = None; next_call = 0; next_leg = 0 }

abbrev begins : Op → Move
begins op = Began op 0 (97 ∷ []) (0 ∷ [])

abbrev world : Tree → List Move → World
world t ms = run (of_tree t) empty ms

abbrev state_in : Tree → List Move → ℕ → Option LegState
state_in t ms n = option_map (λ s. s.state) ((world t ms).legs n)

abbrev server_in : Tree → List Move → ℕ → Option ℕ
server_in t ms n = option_map (λ s. s.launch.server.0) ((world t ms).legs n)

abbrev counted_in : Tree → List Move → ℕ → Option Bool
counted_in t ms n = option_map is_counted_delete ((world t ms).legs n)

abbrev reply_in : Tree → List Move → ℕ → Option ReplyValue
reply_in t ms k = option_and_then (reply_of (of_tree t)) ((world t ms).calls k)

abbrev runs_in : Tree → List Move → ℕ → Option Call
runs_in t ms k = (live_of (of_tree t) (world t ms)).calls k

abbrev live_state_in : Tree → List Move → ℕ → Option LegState
live_state_in t ms n = option_map (λ s. s.state) ((live_of (of_tree t) (world t ms)).legs n)

abbrev is_next : Tree → List Move → Move → Bool
is_next t ms m = is_move (of_tree t) (world t ms) m

abbrev lost : ReplyValue
lost = fault lost_line

-- ---- answers

performed_by_its_answer : state_in (server 5) (begins Delete ∷ Answered 0 not_found ∷ []) 0 ≡ Some Performed
performed_by_its_answer = refl

-- a delete leg that is lost, or answered with an error, is not Gone: it stays queued, and its call has no reply
lost_delete_stays_queued : state_in (server 5) (begins Delete ∷ Answered 0 lost ∷ []) 0 ≡ Some Queued
lost_delete_stays_queued = refl

lost_delete_has_no_reply : reply_in (server 5) (begins Delete ∷ Answered 0 lost ∷ []) 0 ≡ None
lost_delete_has_no_reply = refl

error_is_no_answer_to_a_delete : is_next (server 5) (begins Delete ∷ []) (Answered 0 lost) ≡ false
error_is_no_answer_to_a_delete = refl

-- nor is a reply that no server gives to a delete
hit_is_no_answer_to_a_delete : is_next (server 5) (begins Delete ∷ []) (Answered 0 (hit 0 None [])) ≡ false
hit_is_no_answer_to_a_delete = refl

lost_get_is_gone : state_in (server 5) (begins Get ∷ Answered 0 lost ∷ []) 0 ≡ Some Gone
lost_get_is_gone = refl

get_replies_what_it_read : reply_in (server 5) (begins Get ∷ Answered 0 (hit 0 None (120 ∷ [])) ∷ []) 0 ≡ Some (hit 0 None (120 ∷ []))
get_replies_what_it_read = refl

-- ---- the spool

spooled_delete_is_not_found : reply_in (server 5) (begins Delete ∷ WasSpooled 0 ∷ []) 0 ≡ Some not_found
spooled_delete_is_not_found = refl

spooled_delete_is_performed_later : state_in (server 5) (begins Delete ∷ WasSpooled 0 ∷ Taken 0 ∷ WasPerformed 0 ∷ []) 0 ≡ Some Performed
spooled_delete_is_performed_later = refl

get_is_never_spooled : is_next (server 5) (begins Get ∷ []) (WasSpooled 0) ≡ false
get_is_never_spooled = refl

-- a leg that the spool refuses is answered with an error, and stays queued; it can be spooled later
refused_delete_is_an_error : reply_in (server 5) (begins Delete ∷ WasRefused 0 ∷ []) 0 ≡ Some lost
refused_delete_is_an_error = refl

refused_delete_stays_queued : state_in (server 5) (begins Delete ∷ WasRefused 0 ∷ Taken 0 ∷ []) 0 ≡ Some Queued
refused_delete_stays_queued = refl

refused_delete_is_spooled_later : state_in (server 5) (begins Delete ∷ WasRefused 0 ∷ Taken 0 ∷ WasSpooled 0 ∷ []) 0 ≡ Some Spooled
refused_delete_is_spooled_later = refl

-- but it has no second outcome
refused_delete_stays_an_error : reply_in (server 5) (begins Delete ∷ WasRefused 0 ∷ WasSpooled 0 ∷ []) 0 ≡ Some lost
refused_delete_stays_an_error = refl

refused_delete_is_not_answered : is_next (server 5) (begins Delete ∷ WasRefused 0 ∷ []) (Answered 0 deleted) ≡ false
refused_delete_is_not_answered = refl

refused_delete_is_not_refused_again : is_next (server 5) (begins Delete ∷ WasRefused 0 ∷ []) (WasRefused 0) ≡ false
refused_delete_is_not_refused_again = refl

-- ---- several legs

-- both legs are queued when the call begins, before either is answered
both_legs_are_queued_at_once : state_in (many AllInitial (two (server 5) (server 7))) (begins Delete ∷ []) 1 ≡ Some Queued
both_legs_are_queued_at_once = refl

second_leg_has_its_own_server : server_in (many AllInitial (two (server 5) (server 7))) (begins Delete ∷ []) 1 ≡ Some 7
second_leg_has_its_own_server = refl

first_reply_is_the_reply : reply_in (many AllInitial (two (server 5) (server 7))) (begins Delete ∷ Answered 0 deleted ∷ []) 0 ≡ Some deleted
first_reply_is_the_reply = refl

-- an error launches a further leg, under the next number
error_launches_the_second_leg : server_in (many Failover (two (server 5) (server 7))) (begins Delete ∷ begins Get ∷ WasRefused 0 ∷ []) 2 ≡ Some 7
error_launches_the_second_leg = refl

further_leg_is_queued : state_in (many Failover (two (server 5) (server 7))) (begins Delete ∷ begins Get ∷ WasRefused 0 ∷ []) 2 ≡ Some Queued
further_leg_is_queued = refl

-- in the era of its call, not in that of the moment
further_leg_goes_by_the_calls_era : server_in (many Failover (two (server 4) (migrate (server 5) (server 7) 10 10))) (begins Delete ∷ EraBegan (Some 30) ∷ WasRefused 0 ∷ []) 1 ≡ Some 5
further_leg_goes_by_the_calls_era = refl

later_call_has_the_later_era : server_in (many Failover (two (server 4) (migrate (server 5) (server 7) 10 10))) (EraBegan (Some 30) ∷ begins Delete ∷ WasRefused 0 ∷ []) 1 ≡ Some 7
later_call_has_the_later_era = refl

-- an era begins only where another one was
era_that_stays_does_not_begin : is_next (server 5) [] (EraBegan None) ≡ false
era_that_stays_does_not_begin = refl

another_era_begins : is_next (server 5) (EraBegan (Some 30) ∷ []) (EraBegan (Some 40)) ≡ true
another_era_begins = refl

-- a shadow's leg counts for nothing: it can be lost
shadow_leg_is_not_counted : counted_in (with_shadow 5 9) (begins Delete ∷ []) 1 ≡ Some false
shadow_leg_is_not_counted = refl

lost_shadow_leg_is_gone : state_in (with_shadow 5 9) (begins Delete ∷ Answered 1 lost ∷ []) 1 ≡ Some Gone
lost_shadow_leg_is_gone = refl

-- ---- replies that are taken

no_reply_is_taken_before_it_is_there : is_next (server 5) (begins Delete ∷ []) (Taken 0) ≡ false
no_reply_is_taken_before_it_is_there = refl

no_reply_is_taken_twice : is_next (server 5) (begins Delete ∷ WasSpooled 0 ∷ Taken 0 ∷ []) (Taken 0) ≡ false
no_reply_is_taken_twice = refl

-- ---- what is left

call_ends_once_its_reply_is_taken : runs_in (server 5) (begins Delete ∷ WasSpooled 0 ∷ Taken 0 ∷ []) 0 ≡ None
call_ends_once_its_reply_is_taken = refl

-- and not before each leg that it launched has an outcome
call_runs_on_for_its_second_leg : option_map (λ c. c.taken) (runs_in (many AllInitial (two (server 5) (server 7))) (begins Delete ∷ Answered 0 deleted ∷ Taken 0 ∷ []) 0) ≡ Some true
call_runs_on_for_its_second_leg = refl

call_ends_with_its_second_leg : runs_in (many AllInitial (two (server 5) (server 7))) (begins Delete ∷ Answered 0 deleted ∷ Taken 0 ∷ WasSpooled 1 ∷ []) 0 ≡ None
call_ends_with_its_second_leg = refl

-- a spooled leg isn't forgotten when its call has ended; a performed one is
spooled_leg_outlives_its_call : live_state_in (server 5) (begins Delete ∷ WasSpooled 0 ∷ Taken 0 ∷ []) 0 ≡ Some Spooled
spooled_leg_outlives_its_call = refl

performed_leg_is_forgotten : live_state_in (server 5) (begins Delete ∷ Answered 0 deleted ∷ []) 0 ≡ None
performed_leg_is_forgotten = refl

-- ---- possible moves

empty_world_opens : (t : Tree) → IsOpening (of_tree t) empty
empty_world_opens t = record { calls = λ k. refl; spooled = λ n s e. no_some e; number = λ n s e. no_some e; owner = λ n s k e f. no_some e; era = tt }

queued_delete_can_be_spooled : IsPossible (of_tree (server 5)) (world (server 5) (begins Delete ∷ [])) (WasSpooled 0)
queued_delete_can_be_spooled = record { allowed = tt; move = refl }

-- ---- deletes that are kept

-- the server needn't have performed it: the leg is queued, or it is spooled
queued_leg_is_kept : KeepsLeg (world (many AllInitial (two (server 5) (server 7))) (begins Delete ∷ Answered 0 deleted ∷ [])) 0 7
queued_leg_is_kept = record {
  number = 1;
  leg = record { call = Some 0; launch = record { position = 1 ∷ []; server = record { 0 = 7 }; op = Delete; mark = Async }; rest = 97 ∷ []; state = Queued };
  there = refl;
  own = refl;
  server = refl;
  deletes = refl;
  counts = refl;
  state = inr (inl refl);
}

spooled_leg_is_kept : KeepsLeg (world (server 5) (begins Delete ∷ WasSpooled 0 ∷ Taken 0 ∷ [])) 0 5
spooled_leg_is_kept = record {
  number = 0;
  leg = record { call = Some 0; launch = record { position = []; server = record { 0 = 5 }; op = Delete; mark = Plain }; rest = 97 ∷ []; state = Spooled };
  there = refl;
  own = refl;
  server = refl;
  deletes = refl;
  counts = refl;
  state = inr (inr refl);
}

-- legs that were put at two numbers, or at one
one_of_two : (s t leg : Leg) (i j n : ℕ) → put (put (λ m. None) i (Some s)) j (Some t) n ≡ Some leg → (s ≡ leg) ⊎ (t ≡ leg)
one_of_two s t leg i j n e =
    elim (put_cases (put (λ m. None) i (Some s)) j n (Some t) leg e) [
      | inl q ↦ inr (same_some q.1)
      | inr q ↦ elim (put_cases (λ m. None) i n (Some s) leg q.1) [ inl u ↦ inl (same_some u.1) | inr u ↦ no_some u.1 ]
    ]

-- a delete leg that is queued
abbrev delete_leg : (call : ℕ) → (position : List ℕ) → (server : ℕ) → Mark → Leg
delete_leg k p x mark = record { call = Some k; launch = record { position = p; server = record { 0 = x }; op = Delete; mark = mark }; rest = 97 ∷ []; state = Queued }

-- the leg of one delete isn't kept for another delete of the same key, whose own leg went to another server
abbrev two_deletes : World
two_deletes = record { calls = λ k. None; legs = put (put (λ m. None) 0 (Some (delete_leg 0 [] 5 Plain))) 1 (Some (delete_leg 1 [] 7 Plain)); since = None; next_call = 2; next_leg = 2 }

another_calls_leg_is_not_kept : KeepsLeg two_deletes 0 7 → ⊥
another_calls_leg_is_not_kept h =
    elim (one_of_two (delete_leg 0 [] 5 Plain) (delete_leg 1 [] 7 Plain) h.leg 0 1 h.number h.there) [
      | inl e ↦ let x : 5 ≡ 7 = ap (λ l. l.launch.server.0) e ∙ h.server in omega (arith, x)
      | inr e ↦ let k : 1 ≡ 0 = same_some (ap (λ l. l.call) e ∙ h.own) in omega (arith, k)
    ]

-- nor is a shadow's leg kept
shadow_leg_is_not_kept : KeepsLeg (world (with_shadow 5 9) (begins Delete ∷ [])) 0 9 → ⊥
shadow_leg_is_not_kept h =
    elim (one_of_two (delete_leg 0 [] 5 Plain) (delete_leg 0 (0 ∷ []) 9 Shadow) h.leg 0 1 h.number h.there) [
      | inl e ↦ let x : 5 ≡ 9 = ap (λ l. l.launch.server.0) e ∙ h.server in omega (arith, x)
      | inr e ↦ true≢false (sym (ap (λ l. is_counting l.launch.mark) e ∙ h.counts))
    ]

-- a get can be answered by a server to which no delete is sent, and so the delete isn't kept once it is answered
abbrev delete_call : Call
delete_call = record { op = Delete; route = 0; rest = 97 ∷ []; since = None; choice = 0 ∷ []; recorded = record { position = 0 ∷ []; reply = deleted } ∷ []; taken = false }

get_is_answered_elsewhere : IsReadable (apart 5 7) (97 ∷ []) None (choice_of delete_call) 7
get_is_answered_elsewhere = (Get, refl, (outcomes ((1 ∷ [], Good) ∷ []), ((1 ∷ [], Good) ∷ [], (inl refl, refl, tt), λ p. refl), inl (refl, inl refl)))

no_error : outcome_of deleted ≢ Error
no_error e = cc

delete_elsewhere_is_not_kept : Kept (of_tree (apart 5 7)) (world (apart 5 7) (begins Delete ∷ Answered 0 deleted ∷ [])) → ⊥
delete_elsewhere_is_not_kept kept =
    let h = kept 0 delete_call deleted refl refl refl no_error 7 (None, tt, inl refl, get_is_answered_elsewhere) in
    elim (one_of_two (delete_leg 0 (0 ∷ []) 5 Plain) (record (delete_leg 0 (0 ∷ []) 5 Plain) { state = Performed }) h.leg 0 0 h.number h.there) [
      | inl e ↦ let x : 5 ≡ 7 = ap (λ l. l.launch.server.0) e ∙ h.server in omega (arith, x)
      | inr e ↦ let x : 5 ≡ 7 = ap (λ l. l.launch.server.0) e ∙ h.server in omega (arith, x)
    ]
