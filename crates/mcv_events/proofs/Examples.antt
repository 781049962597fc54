-- Small rows. Each is what an event makes of the rows before it.
use Rattle.std.proofs.Common.{◌≡◌, ℕ, true, false, [], ◌∷◌, Option, Some, None, option_map, refl}
use Rattle.std.specs.Prelude.{option_and_then}
use Rattle.mcv_base.specs.declared.request.Request.{Request}
use Rattle.mcv_base.specs.declared.request.Request.TheVariants.{Version}
use Rattle.mcv_base.specs.declared.operation.Mark.TheVariants.{Plain}
use Rattle.mcv_base.specs.declared.operation.Op.TheVariants.{Delete}
use Rattle.mcv_base.specs.Reply.{ReplyValue, deleted, not_found, fault, lost_line}
use Rattle.mcv_pools.specs.declared.symbol.HashFunc.TheVariants.{Ch3}
use Rattle.mcv_route.specs.declared.launch.Answered.{Answered}
use Rattle.mcv_route.specs.declared.launch.Launch.{Launch}
use Rattle.mcv_route.specs.Routes.{RoutesValue}
use Rattle.mcv_route.specs.Tree.{Tree, pool, many, Failover, none, child}
use Rattle.mcv_world.specs.World.{LegState, Queued, Spooled, Call, reply_of}
use Rattle.mcv_world.specs.Moves.{WasPerformed, new_call, with_reply}
use Rattle.mcv_events.specs.Entries.{is_launched, is_due}
use Rattle.mcv_events.specs.Rows.{State, Waiting, Sent, Held, InSpool, InReplay, IsCore, LegRow, Rows, waiting, world_of, with_leg_row}
use Rattle.mcv_events.specs.Events.{answered_rows, spooled_rows, refused_rows, began_rows, in_state}
use Rattle.mcv_events.specs.Runs.{opened, Runs, done, moved}
use Rattle.mcv_events.specs.Reservations.{reserved}
use Rattle.mcv_events.specs.QueuedLegs.{queued_legs}
use Rattle.mcv_events.specs.Status.{recorded_one, recorded_all}
use Rattle.mcv_events.proofs.CoresKeepDeletes.{opened_is_core}
use Rattle.mcv_events.proofs.EventsAreMoves.{performed_moves, states_keep_cores}

abbrev server : ℕ → Tree
server x = pool (record { symbol = 0; servers = x ∷ [] }) [] none

-- servers 5 and 7 by failover
abbrev routes : RoutesValue
routes = record {
  servers = [] ∷ [] ∷ [];
  symbols = record { func = Ch3; salt = []; n = 1 } ∷ [];
  entries = record { aliases = []; tree = many Failover (child (server 5) (child (server 7) none)) } ∷ [];
  window = 0;
}

-- ---- a delete: its entries are both legs, and it launches the first one when it begins

abbrev to_server : (position : ℕ) → (server : ℕ) → Launch
to_server p x = record { position = p ∷ []; server = record { 0 = x }; op = Delete; mark = Plain }

abbrev call : Call
call = new_call (world_of (opened None [])) Delete 0 (97 ∷ []) (0 ∷ [])

abbrev begun : Rows
begun = began_rows routes (opened None []) call (Some Version) (to_server 0 5 ∷ to_server 1 7 ∷ [])

abbrev first : LegRow
first = waiting 0 0 (record { rest = 97 ∷ []; request = Some Version }) (to_server 0 5)

abbrev state_at : Rows → ℕ → Option State
state_at w n = option_map (λ s. s.state) (w.legs n)

abbrev request_at : Rows → ℕ → Option Request
request_at w n = option_and_then (λ s. s.request) (w.legs n)

abbrev world_state_at : Rows → ℕ → Option LegState
world_state_at w n = option_map (λ s. s.state) ((world_of w).legs n)

abbrev reply_at : Rows → ℕ → Option ReplyValue
reply_at w k = option_and_then (λ c. reply_of routes c.call) (w.calls k)

first_entry_is_launched : is_launched routes call (to_server 0 5) ≡ true
first_entry_is_launched = refl

second_entry_is_not_launched : is_launched routes call (to_server 1 7) ≡ false
second_entry_is_not_launched = refl

second_entry_is_due_after_an_error : is_due routes call (with_reply call (0 ∷ []) (fault lost_line)) (to_server 1 7) ≡ true
second_entry_is_due_after_an_error = refl

first_leg_waits : state_at begun 0 ≡ Some Waiting
first_leg_waits = refl

second_leg_is_not_there : state_at begun 1 ≡ None
second_leg_is_not_there = refl

second_leg_is_reserved : reserved routes begun ≡ 1
second_leg_is_reserved = refl

one_leg_is_queued : queued_legs begun ≡ 1
one_leg_is_queued = refl

-- ---- its first leg is sent, and lost, and refused by the spool

abbrev in_first : State → Rows
in_first t = with_leg_row begun 0 (Some (in_state first t))

held_leg_is_queued : world_state_at (in_first Held) 0 ≡ Some Queued
held_leg_is_queued = refl

abbrev refused : Rows
refused = refused_rows routes (in_first Held) (in_state first Held)

refused_leg_stays_held : state_at refused 0 ≡ Some Held
refused_leg_stays_held = refl

second_leg_waits_after_the_refusal : state_at refused 1 ≡ Some Waiting
second_leg_waits_after_the_refusal = refl

nothing_more_is_reserved : reserved routes refused ≡ 0
nothing_more_is_reserved = refl

both_legs_are_queued : queued_legs refused ≡ 2
both_legs_are_queued = refl

first_leg_has_taken_the_request_along : request_at begun 0 ≡ Some Version
first_leg_has_taken_the_request_along = refl

later_leg_has_taken_it_along_too : request_at refused 1 ≡ Some Version
later_leg_has_taken_it_along_too = refl

-- ---- or spooled

abbrev spooled : Rows
spooled = spooled_rows routes (in_first Held) 0 (in_state first Held)

spooled_leg_is_in_the_spool : state_at spooled 0 ≡ Some InSpool
spooled_leg_is_in_the_spool = refl

spooled_delete_is_not_found : reply_at spooled 0 ≡ Some not_found
spooled_delete_is_not_found = refl

-- ---- or answered

abbrev answered : Rows
answered = answered_rows routes (in_first Sent) 0 (in_state first Sent) deleted

answered_leg_goes : state_at answered 0 ≡ None
answered_leg_goes = refl

answered_delete_replies : reply_at answered 0 ≡ Some deleted
answered_delete_replies = refl

-- ---- a record that the spool held

opened_record_is_in_the_spool : state_at (opened None ((5, 97 ∷ []) ∷ [])) 0 ≡ Some InSpool
opened_record_is_in_the_spool = refl

abbrev record_row : LegRow
record_row = record { call = None; entry = 0; launch = record { position = []; server = record { 0 = 5 }; op = Delete; mark = Plain }; rest = 97 ∷ []; request = None; state = InSpool }

-- it is sent again
abbrev replayed : Rows
replayed = with_leg_row (opened None ((5, 97 ∷ []) ∷ [])) 0 (Some (in_state record_row InReplay))

record_in_replay_stays_spooled : world_state_at replayed 0 ≡ Some Spooled
record_in_replay_stays_spooled = refl

record_in_replay_is_not_queued : queued_legs replayed ≡ 0
record_in_replay_is_not_queued = refl

replayed_is_core : IsCore routes replayed
replayed_is_core = states_keep_cores routes (opened None ((5, 97 ∷ []) ∷ [])) 0 record_row InReplay (opened_is_core routes None ((5, 97 ∷ []) ∷ [])) refl (λ e. e) (λ e. refl)

replayed_record_is_performed : Runs routes replayed (WasPerformed 0 ∷ []) (with_leg_row replayed 0 None)
replayed_record_is_performed =
    moved replayed (with_leg_row replayed 0 None) (with_leg_row replayed 0 None) (WasPerformed 0) [] tt (performed_moves routes replayed 0 (in_state record_row InReplay) replayed_is_core refl refl)
    (done (with_leg_row replayed 0 None))

-- ---- what is recorded

newest_is_first : (a b : Answered) → recorded_all (a ∷ b ∷ []) ≡ recorded_one b ∷ recorded_one a ∷ []
newest_is_first a b = refl
