-- What contracts see of a core, and what its events do to that: the rules of the core (own).
use Rattle.std.specs.Prelude.{◌≡◌, ◌<◌, ◌≤◌, ℕ, ◌&&◌, not, Bool, true, false, List, Option, Some, None, Result, Ok, Err, cond, length, nat_eq, option_map, slice_get}
use Rattle.std.specs.Str.{bytes_eq}
use Rattle.mcv_base.specs.declared.reply.FixedReply.TheVariants.{Lost}
use Rattle.mcv_base.specs.Operation.{is_delete}
use Rattle.mcv_base.specs.Reply.{ReplyValue, fixed_value}
use Rattle.mcv_queues.specs.declared.marks.ServerFailures.{ServerFailures}
use Rattle.mcv_queues.specs.Marks.{answered_mark, lost_mark, put_mark}
use Rattle.mcv_route.specs.Routes.{RoutesValue}
use Rattle.mcv_world.specs.World.{is_counted_delete, put}
use Rattle.mcv_world.specs.LiveWorld.{live_of}
use Rattle.mcv_world.specs.Moves.{Move, Answered, WasSpooled, WasRefused, WasPerformed, counted_as, is_error_reply}
use Rattle.mcv_world.specs.PossibleMoves.{IsAllowed, IsOpening}
use Rattle.mcv_events.specs.Rows as rows
use Rattle.mcv_events.specs.Rows.{CallRow, IsCore, LegRow, Rows, awaits, leg_of, with_leg_row, world_of}
use Rattle.mcv_events.specs.Events.{Moves, in_state, recorded_rows_for, refused_rows, spooled_rows, taken_rows}
use Rattle.mcv_core.specs.Flights.{one_less, one_more}
use Rattle.mcv_core.specs.declared.fault.CoreFault.{CoreFault}
use Rattle.mcv_core.specs.declared.fault.CoreFault.TheVariants.{NoSuchLeg}
use Rattle.mcv_core.specs.declared.step.Change.{Change}
use Rattle.mcv_core.specs.declared.step.Change.TheVariants as changes
use Rattle.mcv_core.specs.declared.step.LegState.{LegState}
use Rattle.mcv_core.specs.declared.step.LegState.TheVariants as leg_states
use Rattle.mcv_core.specs.declared.step.Step.{Step}

pub record CoreView : Type 0 where
  pub routes : RoutesValue
  -- the running calls, the legs that are queued or spooled, the era and the next numbers
  pub rows : Rows
  -- of each leg the number of its record in the spool; None until it is stored there
  pub records : ℕ → Option ℕ
  -- how many legs are in flight to each server, sent or in replay, and how many may be
  pub flights : ℕ → ℕ
  pub limit : ℕ
  pub marks : ℕ → ServerFailures
  pub moment : ℕ
  pub chapter : ℕ
  -- how many entries of its history the chapter's calls and spooled legs may write
  pub entries : ℕ

-- ---- what is in flight

-- one more may be sent to the server
abbrev pub IsFree : CoreView → ℕ → Type 0
IsFree v server = v.flights server < v.limit

-- or not, since as many are in flight to it as may be
abbrev pub IsBusy : CoreView → ℕ → Type 0
IsBusy v server = v.limit ≤ v.flights server

-- one more is in flight to the server
abbrev pub with_flight : CoreView → (server : ℕ) → CoreView
with_flight v server = record v { flights = one_more v.flights server }

-- ---- moves

-- an event that is the move
pub record Moved (old new : CoreView) (m : Move) : Type 0 where
  pub allowed : IsAllowed old.routes m
  pub moves : Moves old.routes old.rows new.rows m
  pub routes : new.routes ≡ old.routes

-- an event that is none
pub record Unmoved (old new : CoreView) : Type 0 where
  pub world : world_of new.rows ≡ world_of old.rows
  pub core : IsCore new.routes new.rows
  pub routes : new.routes ≡ old.routes

abbrev pub Does : CoreView → CoreView → Option Move → Type 0
Does old new None = Unmoved old new
Does old new (Some m) = Moved old new m

-- the move that an event on a leg was, where its reply was this
abbrev pub change_move : ℕ → ReplyValue → Change → Option Move
change_move n x changes.Nothing = None
change_move n x changes.Answered = Some (Answered n x)
change_move n x changes.Spooled = Some (WasSpooled n)
change_move n x changes.Refused = Some (WasRefused n)
change_move n x changes.Performed = Some (WasPerformed n)

-- no call runs, and each leg is spooled: what is left of an opening world
abbrev pub IsQuiet : CoreView → Type 0
IsQuiet v = IsOpening v.routes (world_of v.rows) × (live_of v.routes (world_of v.rows) ≡ world_of v.rows)

-- ---- what an event on a leg does

-- it is refused and changes nothing, or answers what it did and leads to this
pub data Effect : Type 0 where
  refuses : CoreFault → Effect
  does : Step → CoreView → Effect

abbrev pub HasEffect : Effect → CoreView → CoreView → Result Step CoreFault → Type 0
HasEffect (refuses fault) old new result = (result ≡ Err fault) × (new ≡ old)
HasEffect (does step v) old new result = (result ≡ Ok step) × (new ≡ v)

-- the same of an event that isn't refused
abbrev pub HasDone : Effect → CoreView → Step → Type 0
HasDone (refuses fault) new step = ⊥
HasDone (does done v) new step = (step ≡ done) × (new ≡ v)

-- the mark of a server changes
abbrev pub with_mark : CoreView → ℕ → (ServerFailures → ServerFailures) → CoreView
with_mark v server g = record v { marks = put_mark (length v.routes.servers) v.marks server g }

-- the leg isn't in flight any more
abbrev pub landed : CoreView → LegRow → CoreView
landed v s = record v { flights = one_less v.flights s.launch.server.0 }

abbrev pub step_to : LegState → Change → Step
step_to state change = record { state = state; change = change }

-- a delete is performed by any answer but an error
abbrev pub state_after : LegRow → ReplyValue → LegState
state_after s y = cond (is_delete s.launch.op && not (is_error_reply y)) leg_states.Performed leg_states.Gone

-- a counted delete leg that its server didn't perform is held, and its call has no outcome of it yet
abbrev pub held : CoreView → ℕ → LegRow → Effect
held v n s = does (step_to leg_states.Held changes.Nothing) (record (landed v s) { rows = with_leg_row v.rows n (Some (in_state s rows.Held)) })

-- any other leg is done with, and its call records the reply
abbrev pub finished : CoreView → ℕ → ReplyValue → LegRow → Effect
finished v n y s = does (step_to (state_after s y) changes.Answered) (record (landed v s) { rows = recorded_rows_for v.routes (with_leg_row v.rows n None) s y s.call; records = put v.records n None })

-- a leg that was sent has this reply
abbrev pub sent_in : CoreView → ℕ → ReplyValue → LegRow → Effect
sent_in v n y s = cond (is_counted_delete (leg_of s) && is_error_reply y) (held v n s) (finished v n y s)

-- a leg in replay is performed, or waits in the spool again
abbrev pub replayed_in : CoreView → ℕ → Bool → LegRow → Effect
replayed_in v n failed s =
    cond failed (does (step_to leg_states.Spooled changes.Nothing) (record (landed v s) { rows = with_leg_row v.rows n (Some (in_state s rows.InSpool)) }))
    (does (step_to leg_states.Performed changes.Performed) (record (landed v s) { rows = with_leg_row v.rows n None; records = put v.records n None }))

-- a held leg is in the spool, as the record of this number, and its call records NOT_FOUND, if it has no outcome
abbrev pub stores : CoreView → (n seq : ℕ) → LegRow → Effect
stores v n seq s = does (step_to leg_states.Spooled changes.Spooled) (record v { rows = spooled_rows v.routes v.rows n s; records = put v.records n (Some seq) })

-- the spool refused a held leg: its call records an error, once
abbrev pub refused : CoreView → LegRow → Effect
refused v s = cond (awaits v.rows.calls s s.call) (does (step_to leg_states.Held changes.Refused) (record v { rows = refused_rows v.routes v.rows s })) (does (step_to leg_states.Held changes.Nothing) v)

abbrev pub is_text : List ℕ → Option (List ℕ) → Bool
is_text text None = false
is_text text (Some t) = bytes_eq text t

abbrev pub at_row : (LegRow → Effect) → Option LegRow → Effect
at_row f None = refuses NoSuchLeg
at_row f (Some s) = f s

module _ (v : CoreView) (n : ℕ) where
  -- a leg in flight has this reply
  abbrev pub landing_in : ReplyValue → LegRow → rows.State → Effect
  landing_in y s rows.Waiting = refuses NoSuchLeg
  landing_in y s rows.Sent = sent_in v n y s
  landing_in y s rows.Held = refuses NoSuchLeg
  landing_in y s rows.InSpool = refuses NoSuchLeg
  landing_in y s rows.InReplay = replayed_in v n (is_error_reply y) s

  abbrev pub landing_at : ReplyValue → Effect
  landing_at y = at_row (λ s. landing_in y s s.state) (v.rows.legs n)

  -- a leg that is sent or in replay was answered
  abbrev pub answer_in : ReplyValue → LegRow → rows.State → Effect
  answer_in x s rows.Waiting = refuses NoSuchLeg
  answer_in x s rows.Sent = sent_in (with_mark v s.launch.server.0 answered_mark) n (counted_as s.launch.op x) s
  answer_in x s rows.Held = refuses NoSuchLeg
  answer_in x s rows.InSpool = refuses NoSuchLeg
  answer_in x s rows.InReplay = replayed_in (with_mark v s.launch.server.0 answered_mark) n (is_error_reply (counted_as s.launch.op x)) s

  -- or was lost, which is a failure of its server
  abbrev pub loss_in : LegRow → rows.State → Effect
  loss_in s rows.Waiting = refuses NoSuchLeg
  loss_in s rows.Sent = sent_in (with_mark v s.launch.server.0 lost_mark) n (fixed_value Lost) s
  loss_in s rows.Held = refuses NoSuchLeg
  loss_in s rows.InSpool = refuses NoSuchLeg
  loss_in s rows.InReplay = replayed_in (with_mark v s.launch.server.0 lost_mark) n true s

  -- a held leg is in the spool, where the record is the leg's
  abbrev pub spooling_in : ℕ → Bool → LegRow → rows.State → Effect
  spooling_in seq its s rows.Waiting = refuses NoSuchLeg
  spooling_in seq its s rows.Sent = refuses NoSuchLeg
  spooling_in seq its s rows.Held = cond its (stores v n seq s) (refuses NoSuchLeg)
  spooling_in seq its s rows.InSpool = refuses NoSuchLeg
  spooling_in seq its s rows.InReplay = refuses NoSuchLeg

  abbrev pub refusing_in : LegRow → rows.State → Effect
  refusing_in s rows.Waiting = refuses NoSuchLeg
  refusing_in s rows.Sent = refuses NoSuchLeg
  refusing_in s rows.Held = refused v s
  refusing_in s rows.InSpool = refuses NoSuchLeg
  refusing_in s rows.InReplay = refuses NoSuchLeg

  abbrev pub answer_at : ReplyValue → Effect
  answer_at x = at_row (λ s. answer_in x s s.state) (v.rows.legs n)

  abbrev pub loss_at : Effect
  loss_at = at_row (λ s. loss_in s s.state) (v.rows.legs n)

  -- it was lost too, with the connection of which another leg's loss has told: no failure more
  abbrev pub lost_too_at : Effect
  lost_too_at = landing_at (fixed_value Lost)

  -- the text of the leg's server, and the leg's rest
  abbrev pub is_record : List ℕ → List ℕ → LegRow → Bool
  is_record text rest s = is_text text (slice_get v.routes.servers s.launch.server.0) && bytes_eq rest s.rest

  -- the record has this number, this server's text and this rest
  abbrev pub spooling_at : ℕ → (text rest : List ℕ) → Effect
  spooling_at seq text rest = at_row (λ s. spooling_in seq (is_record text rest s) s s.state) (v.rows.legs n)

  abbrev pub refusing_at : Effect
  refusing_at = at_row (λ s. refusing_in s s.state) (v.rows.legs n)

-- ---- which leg of a server is the next one

abbrev pub waits_in : rows.State → Bool
waits_in rows.Waiting = true
waits_in rows.Sent = false
waits_in rows.Held = false
waits_in rows.InSpool = false
waits_in rows.InReplay = false

abbrev pub is_waiting : ℕ → Option LegRow → Bool
is_waiting server None = false
is_waiting server (Some s) = nat_eq s.launch.server.0 server && waits_in s.state

-- in the spool, and not in flight
abbrev pub is_in_spool : rows.State → Bool
is_in_spool rows.Waiting = false
is_in_spool rows.Sent = false
is_in_spool rows.Held = false
is_in_spool rows.InSpool = true
is_in_spool rows.InReplay = false

abbrev pub is_spooled : ℕ → Option LegRow → Bool
is_spooled server None = false
is_spooled server (Some s) = nat_eq s.launch.server.0 server && is_in_spool s.state

-- the leg at the number is in this state
abbrev pub in_row_state : Rows → ℕ → rows.State → Rows
in_row_state w n t = record w { legs = put w.legs n (option_map (λ s. in_state s t) (w.legs n)) }

-- ---- a reply is taken

abbrev pub taken_row : CoreView → ℕ → Option CallRow → CoreView
taken_row v k None = v
taken_row v k (Some c) = record v { rows = taken_rows v.routes v.rows k c }

-- the call's reply was taken; it goes if it has ended
abbrev pub taken_view : CoreView → ℕ → CoreView
taken_view v k = taken_row v k (v.rows.calls k)
