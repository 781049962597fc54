-- Each answer is that of the call that takes the event in.
use Rattle.std.proofs.Common.{◌≡◌, ◌∙◌, sym, subst, ℕ, Bool, List, [], ◌∷◌, Option, Some, None, Result, Ok, Err, refl}
use Rattle.std.specs.Prelude.{IfErr, IfOk, OnErr, OnOk, position, slice_get}
use Rattle.std.specs.Arc.{arc_value}
use Rattle.std.specs.declared.alloc.Global.{Global}
use Rattle.std.specs.declared.sync.Arc.{Arc}
use Rattle.std.proofs.lemmas.List.Quantifiers.{position-Some}
use Rattle.std.proofs.lemmas.Option.{slice_get-get_or}
use Rattle.mcv_base.specs.declared.reply.Part.{Part}
use Rattle.mcv_base.specs.declared.request.CallId.{CallId}
use Rattle.mcv_base.specs.declared.request.LegId.{LegId}
use Rattle.mcv_base.specs.declared.request.Moment.{Moment}
use Rattle.mcv_base.specs.declared.request.Request.{Request}
use Rattle.mcv_base.specs.declared.request.ServerId.{ServerId}
use Rattle.mcv_base.specs.Reply.{ReplyValue}
use Rattle.mcv_pools.specs.Symbol.{SymbolValue}
use Rattle.mcv_route.specs.Places.{is_alias}
use Rattle.mcv_spool.specs.declared.record.Stored.{Stored}
use Rattle.mcv_world.proofs.Numbers.{no_some}
use Rattle.mcv_core.specs.Answers.{call_answer, done_answer, leg_answer, state_answer, reply_answer}
use Rattle.mcv_core.specs.Asking.{IsAsked, IsUnbegun}
use Rattle.mcv_core.specs.Beginning.{HasBegun, IsUnstarted, asked_call, began_for}
use Rattle.mcv_core.specs.CoreView.{CoreView, Moved}
use Rattle.mcv_core.specs.Events.{IsAnsweredLeg, IsBegun, IsClocked, IsEvent, IsLostLeg, IsLostTooLeg, IsMarked, IsNext, IsRefusedLeg, IsReplay, IsSpooledLeg, IsTaken, IsTurned, IsUnmarked}
use Rattle.mcv_core.specs.Steps.{IsAnswered, begun, sent, replayed, answered, lost, lost_too, spooled, refused, marked, unmarked, clocked, turned, taken}
use Rattle.mcv_core.proofs.DeletesStayKept.{answered_by}
use Rattle.mcv_core.specs.declared.begin.Asked.{Asked}
use Rattle.mcv_core.specs.declared.fault.CoreFault.{CoreFault}
use Rattle.mcv_core.specs.declared.fault.CoreFault.TheVariants.{UnknownPrefix, BadKey, LegsFull, ChapterFull, NothingWaiting, NoSuchLeg, Busy, ClockBack, Memory, NoSuchCall}
use Rattle.mcv_core.specs.declared.run.Answer.TheVariants as answer
use Rattle.mcv_core.specs.declared.run.Event.TheVariants as event
use Rattle.mcv_core.specs.declared.step.Step.{Step as Done}
use Rattle.mcv_core.specs.declared.turn.Era.{Era}

no_place : {X : Type 0} (p : X → Bool) (xs : List X) (i : ℕ) → position p xs ≡ Some i → slice_get xs i ≡ None → ⊥
no_place p [] i e n = no_some e
no_place p (x ∷ xs) i e n = no_some (sym n ∙ slice_get-get_or (x ∷ xs) i x (position-Some p (x ∷ xs) i x e).0)

-- ---- a call begins

module _ (v : CoreView) (chosen : SymbolValue → List ℕ → ℕ) (request : Request) (key : ℕ) (asks : Asked) (a : IsAsked v.routes chosen request key asks.op asks.route (arc_value asks.rest) asks.choice) (its : arc_value asks.request ≡ request) where
  unbegun_by : (fault : CoreFault) → IsUnstarted v asks fault → IsUnbegun v chosen request key fault
  unbegun_by UnknownPrefix f = absurd (no_place (is_alias a.prefix) v.routes.entries asks.route a.routed f)
  unbegun_by BadKey f = absurd f
  unbegun_by LegsFull f = record { op = asks.op; route = asks.route; rest = arc_value asks.rest; choice = asks.choice; asked = a; full = f }
  unbegun_by ChapterFull f = record { op = asks.op; route = asks.route; rest = arc_value asks.rest; choice = asks.choice; asked = a; full = f }
  unbegun_by NothingWaiting f = absurd f
  unbegun_by NoSuchLeg f = absurd f
  unbegun_by Busy f = absurd f
  unbegun_by ClockBack f = absurd f
  unbegun_by Memory f = tt
  unbegun_by NoSuchCall f = absurd f

  -- the call that is asked for begins, or is refused
  pub begun_for : (w : CoreView) (r : Result CallId CoreFault) → OnOk r (Moved v w (began_for asks)) → IfOk r (λ call. call.0 ≡ v.rows.next_call) → OnOk r (HasBegun v w (asked_call v asks) (Some (arc_value asks.request))) → IfErr r (IsUnstarted v asks) → OnErr r (w ≡ v) → IsEvent (IsBegun v chosen request key r) w
  begun_for w (Ok call) moved number has unstarted same = record {
    move = Some (began_for asks);
    event = record { op = asks.op; route = asks.route; rest = arc_value asks.rest; choice = asks.choice; asked = a; begun = subst (λ q. HasBegun v w (asked_call v asks) (Some q)) its has; number = number; move = refl; does = moved };
  }
  begun_for w (Err fault) moved number has unstarted same = record { move = None; event = record { cause = unbegun_by fault unstarted; none = refl; same = same } }

-- or nothing is asked for
pub unasked_for : (v : CoreView) (chosen : SymbolValue → List ℕ → ℕ) (request : Request) (key : ℕ) (fault : CoreFault) → IsUnbegun v chosen request key fault → IsEvent (IsBegun v chosen request key (Err fault)) v
unasked_for v chosen request key fault f = record { move = None; event = record { cause = f; none = refl; same = refl } }

-- ---- each event

module _ (chosen : SymbolValue → List ℕ → ℕ) (v w : CoreView) where
  pub begins : (request : Arc Request Global) (key : ℕ) (r : Result CallId CoreFault) → IsEvent (IsBegun v chosen (arc_value request) key r) w → IsAnswered chosen v (event.Begin request key) (call_answer r) w
  begins request key r h = answered_by chosen v w _ _ h.move (begun request key r h.move w h.event)

  pub sends : (server : ServerId) (r : Result LegId CoreFault) → IsEvent (IsNext v server r) w → IsAnswered chosen v (event.Next server) (leg_answer r) w
  sends server r h = answered_by chosen v w _ _ h.move (sent server r h.move w h.event)

  pub replays : (server : ServerId) (r : Result LegId CoreFault) → IsEvent (IsReplay v server r) w → IsAnswered chosen v (event.Replay server) (leg_answer r) w
  replays server r h = answered_by chosen v w _ _ h.move (replayed server r h.move w h.event)

  pub answers : (leg : LegId) (reply : ReplyValue) (r : Result Done CoreFault) → IsEvent (IsAnsweredLeg v leg reply r) w → IsAnswered chosen v (event.Answered leg reply) (state_answer r) w
  answers leg reply r h = answered_by chosen v w _ _ h.move (answered leg reply r h.move w h.event)

  pub loses : (leg : LegId) (r : Result Done CoreFault) → IsEvent (IsLostLeg v leg r) w → IsAnswered chosen v (event.Lost leg) (state_answer r) w
  loses leg r h = answered_by chosen v w _ _ h.move (lost leg r h.move w h.event)

  pub loses_too : (leg : LegId) (r : Result Done CoreFault) → IsEvent (IsLostTooLeg v leg r) w → IsAnswered chosen v (event.LostToo leg) (state_answer r) w
  loses_too leg r h = answered_by chosen v w _ _ h.move (lost_too leg r h.move w h.event)

  pub stores : (leg : LegId) (stored : Stored) (r : Result Done CoreFault) → IsEvent (IsSpooledLeg v leg stored r) w → IsAnswered chosen v (event.Spooled leg stored) (state_answer r) w
  stores leg stored r h = answered_by chosen v w _ _ h.move (spooled leg stored r h.move w h.event)

  pub refuses : (leg : LegId) (r : Result Done CoreFault) → IsEvent (IsRefusedLeg v leg r) w → IsAnswered chosen v (event.SpoolRefused leg) (state_answer r) w
  refuses leg r h = answered_by chosen v w _ _ h.move (refused leg r h.move w h.event)

  pub marks : (server : ServerId) → IsEvent (IsMarked v server) w → IsAnswered chosen v (event.Mark server) answer.Done w
  marks server h = answered_by chosen v w _ _ h.move (marked server h.move w h.event)

  pub unmarks : (server : ServerId) → IsEvent (IsUnmarked v server) w → IsAnswered chosen v (event.Unmark server) answer.Done w
  unmarks server h = answered_by chosen v w _ _ h.move (unmarked server h.move w h.event)

  pub clocks : (moment : Moment) (r : Result (Option Era) CoreFault) → IsEvent (IsClocked v moment r) w → IsAnswered chosen v (event.Clock moment) (done_answer r) w
  clocks moment r h = answered_by chosen v w _ _ h.move (clocked moment r h.move w h.event)

  pub turns : (r : Result (Unit {0}) CoreFault) → IsEvent (IsTurned v r) w → IsAnswered chosen v event.Turn (done_answer r) w
  turns r h = answered_by chosen v w _ _ h.move (turned r h.move w h.event)

  pub takes : (call : CallId) (r : Result (Option Part) CoreFault) → IsEvent (IsTaken v call r) w → IsAnswered chosen v (event.Take call) (reply_answer r) w
  takes call r h = answered_by chosen v w _ _ h.move (taken call r h.move w h.event)
