-- Legs in flight that are answered or lost, and held legs that the spool stores or refuses.
use Rattle.std.proofs.Common.{◌≡◌, ◌⊎◌, inl, inr, cond, ℕ, Bool, true, false, length, List, Option, Some, None, Ok, Err, option_map, refl, sym, ap, ◌∙◌, subst, true≢false}
use Rattle.std.specs.Arc.{arc_value}
use Rattle.std.proofs.Math.Path.{fun_ext}
use Rattle.mcv_base.specs.declared.reply.FixedReply.TheVariants.{Lost}
use Rattle.mcv_base.specs.Reply.{ReplyValue, fixed_value, not_found}
use Rattle.mcv_queues.specs.declared.leg.Leg.{Leg}
use Rattle.mcv_queues.specs.declared.leg.State.{State}
use Rattle.mcv_queues.specs.declared.leg.State.TheVariants as states
use Rattle.mcv_queues.specs.declared.marks.ServerFailures.{ServerFailures}
use Rattle.mcv_queues.specs.declared.marks.Marks.{Marks}
use Rattle.mcv_queues.specs.Legs.{IsSentTo, is_flight, is_in_flight, with_stored}
use Rattle.mcv_queues.specs.Marks.{answered_mark, lost_mark, marks, put_mark, servers as marked_servers}
use Rattle.mcv_queues.specs.declared.queues.Queues.{Queues}
use Rattle.mcv_queues.specs.Queues.{in_flight, legs}
use Rattle.mcv_world.specs.World.{is_counted_delete, put}
use Rattle.mcv_world.specs.Moves.{counted_as, has_no_outcome, is_error_reply, is_one}
use Rattle.mcv_world.proofs.Numbers.{no_some, same_some}
use Rattle.mcv_events.specs.Rows as rows
use Rattle.mcv_events.specs.Rows.{CallRow, LegRow, Rows, awaits, is_unanswered, leg_of, recorded_rows, with_leg_row}
use Rattle.mcv_events.specs.Events.{in_state, recorded_rows_for, recorded_rows_if, refused_rows, spooled_rows}
use Rattle.mcv_events.specs.QueuedLegs.{count_in}
use Rattle.mcv_core.specs.declared.call.Call.{Call}
use Rattle.mcv_core.specs.declared.dispatcher.Dispatcher.{Dispatcher}
use Rattle.mcv_core.specs.declared.errand.Errand.{Errand}
use Rattle.mcv_core.specs.declared.facts.LegFacts.{LegFacts}
use Rattle.mcv_core.specs.declared.fault.CoreFault.{CoreFault}
use Rattle.mcv_core.specs.declared.fault.CoreFault.TheVariants.{NoSuchLeg}
use Rattle.mcv_core.specs.declared.settle.Settling.{Settling}
use Rattle.mcv_core.specs.declared.settle.Settling.TheVariants as kinds
use Rattle.mcv_core.specs.declared.step.Change.TheVariants as changes
use Rattle.mcv_core.specs.declared.step.LegState.TheVariants as leg_states
use Rattle.mcv_core.specs.declared.step.Step.{Step}
use Rattle.mcv_core.specs.Calls.{calls_at}
use Rattle.mcv_core.specs.CoreView.{CoreView, Effect, HasDone, HasEffect, answer_at, answer_in, at_row, does, is_record, landing_at, landing_in, loss_at, loss_in, lost_too_at, refused, refuses, refusing_at, refusing_in, replayed_in, sent_in, spooling_at, spooling_in, step_to, stores, with_mark}
use Rattle.mcv_core.specs.Errands.{launch_of}
use Rattle.mcv_core.specs.Facts.{counts_in, facts_of, records_in, state_in}
use Rattle.mcv_core.specs.Rows.{awaiting_state, call_of, call_row, call_rows, row_by, state_of}
use Rattle.mcv_core.specs.Settling.{is_gone, settled_row}
use Rattle.mcv_core.specs.View.{CanSettle, core_view, has_settled}
use Rattle.mcv_core.proofs.SpoolNumbers
use Rattle.mcv_core.proofs.LegViews.{row_stays, stored_rows, there, view_with}

-- ---- the leg of these facts

pub record IsSeen (o : Option (Leg Errand)) (facts : LegFacts) : Type 0 where
  pub leg : Leg Errand
  pub at : o ≡ Some leg
  pub is : facts_of leg ≡ facts

pub seen : (o : Option (Leg Errand)) (facts : LegFacts) → option_map facts_of o ≡ Some facts → IsSeen o facts
seen None facts e = no_some e
seen (Some l) facts e = record { leg = l; at = refl; is = same_some e }

pub unseen : (o : Option (Leg Errand)) → option_map facts_of o ≡ None → o ≡ None
unseen None e = refl
unseen (Some l) e = no_some (sym e)

-- the leg in this state
pub record IsStated (o : Option (Leg Errand)) (t : State) : Type 0 where
  pub leg : Leg Errand
  pub at : o ≡ Some leg
  pub is : leg.state ≡ t

pub stated : (o : Option (Leg Errand)) (t : State) → state_in o ≡ Some t → IsStated o t
stated None t e = no_some e
stated (Some l) t e = record { leg = l; at = refl; is = same_some e }

pub state_of_seen : (o : Option (Leg Errand)) (facts : LegFacts) → option_map facts_of o ≡ Some facts → state_in o ≡ Some facts.state
state_of_seen None facts e = no_some e
state_of_seen (Some l) facts e = ap (λ f. Some f.state) (same_some e)

abbrev at_server : ℕ → State → Option (ℕ × State)
at_server s t = Some (s, t)

pub sent_of_seen : (o : Option (Leg Errand)) (facts : LegFacts) → option_map facts_of o ≡ Some facts → facts.state ≡ states.Sent → IsSentTo facts.server.0 o
sent_of_seen None facts e sent = no_some e
sent_of_seen (Some l) facts e sent = ap (λ (f : LegFacts). at_server f.server.0 f.state) (same_some e) ∙ ap (at_server facts.server.0) sent

pub counts_of_seen : (o : Option (Leg Errand)) (facts : LegFacts) → option_map facts_of o ≡ Some facts → counts_in o ≡ facts.counted_delete
counts_of_seen None facts e = no_some e
counts_of_seen (Some l) facts e = ap (λ f. f.counted_delete) (same_some e)

-- ---- effects

pub effect_of : (e : Effect) (v new : CoreView) (step : Step) → HasDone e new step → HasEffect e v new (Ok step)
effect_of (refuses fault) v new step h = absurd h
effect_of (does done u) v new step h = (ap (λ s. Ok s) h.0, h.1)

refusal : (e : Effect) (v : CoreView) (fault : CoreFault) → e ≡ refuses NoSuchLeg → fault ≡ NoSuchLeg → HasEffect e v v (Err fault)
refusal e v fault is f = subst (λ x. HasEffect x v v (Err fault)) (sym is) (ap (λ x. Err x) f, refl)

-- the view of a dispatcher whose marks have changed
pub marked_view : (d : Dispatcher) (m : Marks) (server : ℕ) (server2 : ℕ) (g : ServerFailures → ServerFailures) → marks m ≡ put_mark (marked_servers d.marks) (marks d.marks) server g → server ≡ server2
    → record (core_view d) { marks = marks m } ≡ with_mark (core_view d) server2 g
marked_view d m server server2 g is same = λ j. record (core_view d) { marks = (is ∙ ap (λ n. put_mark n (marks d.marks) server g) d.table ∙ ap (λ s. put_mark (length (arc_value d.accepted).servers) (marks d.marks) s g) same) j }

module _ (d : Dispatcher) (n : ℕ) (l : Leg Errand) (at : legs d.queues n ≡ Some l) where
  -- ---- a leg in flight has a reply

  pub landing_sent : l.state ≡ states.Sent → (y : ReplyValue) (new : CoreView) (step : Step) → HasDone (at_row (sent_in (core_view d) n y) ((core_view d).rows.legs n)) new step → HasDone (landing_at (core_view d) n y) new step
  landing_sent sent y new step h =
      subst (λ o. HasDone (at_row (λ z. landing_in (core_view d) n y z z.state) o) new step) (sym (there d n l at))
      (subst (λ t. HasDone (landing_in (core_view d) n y (row_by state_of l) t) new step) (sym (ap state_of sent)) (subst (λ o. HasDone (at_row (sent_in (core_view d) n y) o) new step) (there d n l at) h))

  pub landing_replayed : l.state ≡ states.InReplay → (y : ReplyValue) (failed : Bool) → failed ≡ is_error_reply y → (new : CoreView) (step : Step)
      → HasDone (at_row (replayed_in (core_view d) n failed) ((core_view d).rows.legs n)) new step → HasDone (landing_at (core_view d) n y) new step
  landing_replayed replayed y failed is new step h =
      subst (λ o. HasDone (at_row (λ z. landing_in (core_view d) n y z z.state) o) new step) (sym (there d n l at))
      (subst (λ t. HasDone (landing_in (core_view d) n y (row_by state_of l) t) new step) (sym (ap state_of replayed))
      (subst (λ b. HasDone (replayed_in (core_view d) n b (row_by state_of l)) new step) is (subst (λ o. HasDone (at_row (replayed_in (core_view d) n failed) o) new step) (there d n l at) h)))

  -- the row by which an effect goes
  pub at_its_row : (f : LegRow → Effect) → at_row f ((core_view d).rows.legs n) ≡ f (row_by state_of l)
  at_its_row f = ap (at_row f) (there d n l at)

  answers_as : (t : State) → l.state ≡ t → is_flight t ≡ true → (x : ReplyValue) → answer_in (core_view d) n x (row_by state_of l) (state_of t)
      ≡ landing_in (with_mark (core_view d) (launch_of l.content).server.0 answered_mark) n (counted_as (launch_of l.content).op x) (row_by state_of l) (state_of t)
  answers_as states.Waiting is f x = absurd (true≢false (sym f))
  answers_as states.Sent is f x = refl
  answers_as states.Held is f x = absurd (true≢false (sym f))
  answers_as states.Refused is f x = absurd (true≢false (sym f))
  answers_as states.InSpool is f x = absurd (true≢false (sym f))
  answers_as states.InReplay is f x = refl

  loses_as : (t : State) → l.state ≡ t → is_flight t ≡ true → loss_in (core_view d) n (row_by state_of l) (state_of t)
      ≡ landing_in (with_mark (core_view d) (launch_of l.content).server.0 lost_mark) n (fixed_value Lost) (row_by state_of l) (state_of t)
  loses_as states.Waiting is f = absurd (true≢false (sym f))
  loses_as states.Sent is f = refl
  loses_as states.Held is f = absurd (true≢false (sym f))
  loses_as states.Refused is f = absurd (true≢false (sym f))
  loses_as states.InSpool is f = absurd (true≢false (sym f))
  loses_as states.InReplay is f = refl

  pub answered_effect : is_flight l.state ≡ true → (x y : ReplyValue) → y ≡ counted_as (launch_of l.content).op x → (mid new : CoreView) (step : Step) → mid ≡ with_mark (core_view d) (launch_of l.content).server.0 answered_mark
      → HasDone (landing_at mid n y) new step → HasEffect (answer_at (core_view d) n x) (core_view d) new (Ok step)
  answered_effect f x y y_is mid new step mid_is h =
      let here : HasDone (landing_at (with_mark (core_view d) (launch_of l.content).server.0 answered_mark) n (counted_as (launch_of l.content).op x)) new step =
      subst (λ u. HasDone (landing_at u n (counted_as (launch_of l.content).op x)) new step) mid_is (subst (λ z. HasDone (landing_at mid n z) new step) y_is h) in
      let same : answer_at (core_view d) n x ≡ landing_at (with_mark (core_view d) (launch_of l.content).server.0 answered_mark) n (counted_as (launch_of l.content).op x) =
      at_its_row (λ z. answer_in (core_view d) n x z z.state) ∙ answers_as l.state refl f x
      ∙ sym (at_its_row (λ z. landing_in (with_mark (core_view d) (launch_of l.content).server.0 answered_mark) n (counted_as (launch_of l.content).op x) z z.state)) in
      subst (λ e. HasEffect e (core_view d) new (Ok step)) (sym same) (effect_of (landing_at (with_mark (core_view d) (launch_of l.content).server.0 answered_mark) n (counted_as (launch_of l.content).op x)) (core_view d) new step here)

  pub loss_effect : is_flight l.state ≡ true → (mid new : CoreView) (step : Step) → mid ≡ with_mark (core_view d) (launch_of l.content).server.0 lost_mark → HasDone (lost_too_at mid n) new step
      → HasEffect (loss_at (core_view d) n) (core_view d) new (Ok step)
  loss_effect f mid new step mid_is h =
      let here : HasDone (lost_too_at (with_mark (core_view d) (launch_of l.content).server.0 lost_mark) n) new step = subst (λ u. HasDone (lost_too_at u n) new step) mid_is h in
      let same : loss_at (core_view d) n ≡ lost_too_at (with_mark (core_view d) (launch_of l.content).server.0 lost_mark) n =
      at_its_row (λ z. loss_in (core_view d) n z z.state) ∙ loses_as l.state refl f ∙ sym (at_its_row (λ z. landing_in (with_mark (core_view d) (launch_of l.content).server.0 lost_mark) n (fixed_value Lost) z z.state)) in
      subst (λ e. HasEffect e (core_view d) new (Ok step)) (sym same) (effect_of (lost_too_at (with_mark (core_view d) (launch_of l.content).server.0 lost_mark) n) (core_view d) new step here)

  -- ---- a leg that isn't in flight

  answer_grounded : (t : State) → l.state ≡ t → is_flight t ≡ false → (x : ReplyValue) → answer_in (core_view d) n x (row_by state_of l) (state_of t) ≡ refuses NoSuchLeg
  answer_grounded states.Waiting is f x = refl
  answer_grounded states.Sent is f x = absurd (true≢false f)
  answer_grounded states.Held is f x = refl
  answer_grounded states.Refused is f x = refl
  answer_grounded states.InSpool is f x = refl
  answer_grounded states.InReplay is f x = absurd (true≢false f)

  loss_grounded : (t : State) → l.state ≡ t → is_flight t ≡ false → loss_in (core_view d) n (row_by state_of l) (state_of t) ≡ refuses NoSuchLeg
  loss_grounded states.Waiting is f = refl
  loss_grounded states.Sent is f = absurd (true≢false f)
  loss_grounded states.Held is f = refl
  loss_grounded states.Refused is f = refl
  loss_grounded states.InSpool is f = refl
  loss_grounded states.InReplay is f = absurd (true≢false f)

  landing_grounded : (t : State) → l.state ≡ t → is_flight t ≡ false → (y : ReplyValue) → landing_in (core_view d) n y (row_by state_of l) (state_of t) ≡ refuses NoSuchLeg
  landing_grounded states.Waiting is f y = refl
  landing_grounded states.Sent is f y = absurd (true≢false f)
  landing_grounded states.Held is f y = refl
  landing_grounded states.Refused is f y = refl
  landing_grounded states.InSpool is f y = refl
  landing_grounded states.InReplay is f y = absurd (true≢false f)

  -- ---- its call awaits it

  awaited_by : (o : Option ℕ) → l.content.call ≡ o → awaits (call_rows (calls_at d.calls)) (row_by awaiting_state l) o ≡ true
      → (k : ℕ) × (c : Call) × (l.content.call ≡ Some k) × (calls_at d.calls k ≡ Some c) × (has_no_outcome (leg_of (row_by state_of l)) (call_of c) ≡ true)
  awaited_by None own e = absurd (true≢false (sym e))
  awaited_by (Some k) own e = by_call (calls_at d.calls k) refl e
    where
      by_call : (o : Option Call) → calls_at d.calls k ≡ o → is_one (option_map call_row o) (λ c. has_no_outcome (leg_of (row_by awaiting_state l)) c.call) ≡ true
          → (j : ℕ) × (c : Call) × (l.content.call ≡ Some j) × (calls_at d.calls j ≡ Some c) × (has_no_outcome (leg_of (row_by state_of l)) (call_of c) ≡ true)
      by_call None is t = absurd (true≢false (sym t))
      by_call (Some c) is t = (k, c, own, is, t)

  pub can_settle : (to : Settling) → is_unanswered (awaiting_state l.state) ≡ true → is_flight l.state ≡ is_gone to → count_in (state_of l.state) ≡ 1 → (is_gone to ≡ false → is_counted_delete (leg_of (row_by state_of l)) ≡ true)
      → CanSettle d n to
  can_settle to unanswered flies_is counts counted =
      let a = awaited_by l.content.call refl (d.sound.awaiting.awaited n (row_by awaiting_state l) (ap (option_map (row_by awaiting_state)) at) unanswered) in
      record { leg = l; call = a.0; running = a.1; at = at; own = a.2; there = a.3; awaited = a.4; flies = flies_is; queued = counts; counted = counted }

  pub counted_held : is_unanswered (state_of l.state) ≡ false → is_counted_delete (leg_of (row_by state_of l)) ≡ true
  counted_held e = d.sound.core.counted n (row_by state_of l) (there d n l at) e

  same_awaits : (o : Option ℕ) → awaits (call_rows (calls_at d.calls)) (row_by state_of l) o ≡ awaits (call_rows (calls_at d.calls)) (row_by awaiting_state l) o
  same_awaits None = refl
  same_awaits (Some k) = refl

  -- its call awaits a held leg exactly where the spool hasn't refused it
  pub awaits_held : l.state ≡ states.Held → awaits (core_view d).rows.calls (row_by state_of l) (row_by state_of l).call ≡ true
  awaits_held held = same_awaits l.content.call ∙ d.sound.awaiting.awaited n (row_by awaiting_state l) (ap (option_map (row_by awaiting_state)) at) (ap (λ t. is_unanswered (awaiting_state t)) held)

  pub awaits_refused : l.state ≡ states.Refused → awaits (core_view d).rows.calls (row_by state_of l) (row_by state_of l).call ≡ false
  awaits_refused is = same_awaits l.content.call ∙ d.sound.refused n (row_by awaiting_state l) (ap (option_map (row_by awaiting_state)) at) (ap awaiting_state is)

  -- a leg that the spool had refused is stored: its call has its outcome, or has ended
  pub stored_view : l.state ≡ states.Refused → (seq : ℕ) (q : Queues Errand) → legs q ≡ with_stored (legs d.queues) n seq → ((m : ℕ) → in_flight q m ≡ in_flight d.queues m)
      → view_with d q ≡ record (core_view d) { rows = spooled_rows (arc_value d.accepted) (core_view d).rows n (row_by state_of l); records = put (core_view d).records n (Some seq) }
  stored_view is seq q legs_are flights_are =
      let w1 : Rows = with_leg_row (core_view d).rows n (Some (in_state (row_by state_of l) rows.InSpool)) in
      let rows_are : (view_with d q).rows ≡ recorded_rows_for (arc_value d.accepted) w1 (row_by state_of l) not_found l.content.call =
      stored_rows d n l at seq q legs_are ∙ sym (none_recorded w1 l.content.call (awaits_refused is)) in
      let records_are = ap records_in legs_are ∙ SpoolNumbers.records_stored (legs d.queues) n seq l at in
      λ j. record (core_view d) { rows = rows_are j; records = records_are j; flights = fun_ext flights_are j }
    where
      by_call : (w1 : Rows) (k : ℕ) (o : Option CallRow) → is_one o (λ c. has_no_outcome (leg_of (row_by state_of l)) c.call) ≡ false → recorded_rows_if (arc_value d.accepted) w1 (row_by state_of l) not_found k o ≡ w1
      by_call w1 k None t = refl
      by_call w1 k (Some c) t = ap (λ b. cond b (recorded_rows (arc_value d.accepted) w1 k c (launch_of l.content).position not_found) w1) t

      none_recorded : (w1 : Rows) (o : Option ℕ) → awaits w1.calls (row_by state_of l) o ≡ false → recorded_rows_for (arc_value d.accepted) w1 (row_by state_of l) not_found o ≡ w1
      none_recorded w1 None e = refl
      none_recorded w1 (Some k) e = by_call w1 k (w1.calls k) e

  -- a held leg that the spool refuses stays, and its call records an error
  pub refused_done : l.state ≡ states.Held → (x : ReplyValue) → x ≡ fixed_value Lost → (new : CoreView) → new ≡ has_settled d n kinds.Refused x → HasDone (at_row (refused (core_view d)) ((core_view d).rows.legs n)) new (step_to leg_states.Held changes.Refused)
  refused_done held x x_is new is =
      let stays : with_leg_row (core_view d).rows n (Some (in_state (row_by state_of l) rows.Held)) ≡ (core_view d).rows =
      ap (λ t. with_leg_row (core_view d).rows n (Some (in_state (row_by state_of l) t))) (sym (ap state_of held)) ∙ row_stays d n l at (row_by state_of l) (there d n l at) in
      let settled : new ≡ record (core_view d) { rows = refused_rows (arc_value d.accepted) (core_view d).rows (row_by state_of l) } =
      is ∙ ap (settled_row (core_view d) n kinds.Refused x) (there d n l at) ∙ ap (λ y. settled_row (core_view d) n kinds.Refused y (Some (row_by state_of l))) x_is
      ∙ ap (λ w. record (core_view d) { rows = recorded_rows_for (arc_value d.accepted) w (row_by state_of l) (fixed_value Lost) l.content.call }) stays in
      subst (λ o. HasDone (at_row (refused (core_view d)) o) new (step_to leg_states.Held changes.Refused)) (sym (there d n l at))
      (subst (λ b. HasDone (cond b (does (step_to leg_states.Held changes.Refused) (record (core_view d) { rows = refused_rows (arc_value d.accepted) (core_view d).rows (row_by state_of l) })) (does (step_to leg_states.Held changes.Nothing) (core_view d)))
      new (step_to leg_states.Held changes.Refused)) (sym (awaits_held held)) (refl, settled))

-- ---- refusals

pub answer_refused : (d : Dispatcher) (n : ℕ) (x : ReplyValue) (fault : CoreFault) → is_in_flight (legs d.queues n) ≡ false → fault ≡ NoSuchLeg → HasEffect (answer_at (core_view d) n x) (core_view d) (core_view d) (Err fault)
answer_refused d n x fault f is = refusal (answer_at (core_view d) n x) (core_view d) fault (by_leg (legs d.queues n) refl f) is
  where
    by_leg : (o : Option (Leg Errand)) → legs d.queues n ≡ o → is_in_flight o ≡ false → answer_at (core_view d) n x ≡ refuses NoSuchLeg
    by_leg None at g = ap (at_row (λ z. answer_in (core_view d) n x z z.state)) (ap (option_map (row_by state_of)) at)
    by_leg (Some l) at g = at_its_row d n l at (λ z. answer_in (core_view d) n x z z.state) ∙ answer_grounded d n l at l.state refl g x

pub loss_refused : (d : Dispatcher) (n : ℕ) (fault : CoreFault) → is_in_flight (legs d.queues n) ≡ false → fault ≡ NoSuchLeg → HasEffect (loss_at (core_view d) n) (core_view d) (core_view d) (Err fault)
loss_refused d n fault f is = refusal (loss_at (core_view d) n) (core_view d) fault (by_leg (legs d.queues n) refl f) is
  where
    by_leg : (o : Option (Leg Errand)) → legs d.queues n ≡ o → is_in_flight o ≡ false → loss_at (core_view d) n ≡ refuses NoSuchLeg
    by_leg None at g = ap (at_row (λ z. loss_in (core_view d) n z z.state)) (ap (option_map (row_by state_of)) at)
    by_leg (Some l) at g = at_its_row d n l at (λ z. loss_in (core_view d) n z z.state) ∙ loss_grounded d n l at l.state refl g

pub lost_too_refused : (d : Dispatcher) (n : ℕ) (fault : CoreFault) → is_in_flight (legs d.queues n) ≡ false → fault ≡ NoSuchLeg → HasEffect (lost_too_at (core_view d) n) (core_view d) (core_view d) (Err fault)
lost_too_refused d n fault f is = refusal (lost_too_at (core_view d) n) (core_view d) fault (by_leg (legs d.queues n) refl f) is
  where
    by_leg : (o : Option (Leg Errand)) → legs d.queues n ≡ o → is_in_flight o ≡ false → lost_too_at (core_view d) n ≡ refuses NoSuchLeg
    by_leg None at g = ap (at_row (λ z. landing_in (core_view d) n (fixed_value Lost) z z.state)) (ap (option_map (row_by state_of)) at)
    by_leg (Some l) at g = at_its_row d n l at (λ z. landing_in (core_view d) n (fixed_value Lost) z z.state) ∙ landing_grounded d n l at l.state refl g (fixed_value Lost)

-- whether it is held, refused or not
abbrev pub holds : State → Bool
holds states.Waiting = false
holds states.Sent = false
holds states.Held = true
holds states.Refused = true
holds states.InSpool = false
holds states.InReplay = false

pub unheld : (t : State) → holds t ≡ false → state_of t ≡ rows.Held → ⊥
unheld states.Waiting f e = cc
unheld states.Sent f e = cc
unheld states.Held f e = true≢false f
unheld states.Refused f e = true≢false f
unheld states.InSpool f e = cc
unheld states.InReplay f e = cc

-- none of these four is
pub not_holding : (t : State) → (t ≡ states.Waiting) ⊎ ((t ≡ states.Sent) ⊎ ((t ≡ states.InSpool) ⊎ (t ≡ states.InReplay))) → holds t ≡ false
not_holding t (inl e) = ap holds e
not_holding t (inr (inl e)) = ap holds e
not_holding t (inr (inr (inl e))) = ap holds e
not_holding t (inr (inr (inr e))) = ap holds e

-- the spool's events on a leg that is there
module _ (d : Dispatcher) (n : ℕ) (l : Leg Errand) (at : legs d.queues n ≡ Some l) where
  spooling_row : (seq : ℕ) (text rest : List ℕ) → spooling_at (core_view d) n seq text rest ≡ spooling_in (core_view d) n seq (is_record (core_view d) n text rest (row_by state_of l)) (row_by state_of l) (state_of l.state)
  spooling_row seq text rest = at_its_row d n l at (λ z. spooling_in (core_view d) n seq (is_record (core_view d) n text rest z) z z.state)

  its_record : (text rest : List ℕ) → is_one ((core_view d).rows.legs n) (is_record (core_view d) n text rest) ≡ is_record (core_view d) n text rest (row_by state_of l)
  its_record text rest = ap (λ o. is_one o (is_record (core_view d) n text rest)) (there d n l at)

  -- a held leg is stored, where the record is its own
  pub storing_effect : state_of l.state ≡ rows.Held → (seq : ℕ) (text rest : List ℕ) → is_one ((core_view d).rows.legs n) (is_record (core_view d) n text rest) ≡ true → (new : CoreView) (step : Step)
      → HasDone (at_row (stores (core_view d) n seq) ((core_view d).rows.legs n)) new step → HasEffect (spooling_at (core_view d) n seq text rest) (core_view d) new (Ok step)
  storing_effect held seq text rest its new step h =
      let same : spooling_at (core_view d) n seq text rest ≡ stores (core_view d) n seq (row_by state_of l) =
      spooling_row seq text rest ∙ ap (spooling_in (core_view d) n seq (is_record (core_view d) n text rest (row_by state_of l)) (row_by state_of l)) held
      ∙ ap (λ b. cond b (stores (core_view d) n seq (row_by state_of l)) (refuses NoSuchLeg)) (sym (its_record text rest) ∙ its) in
      subst (λ e. HasEffect e (core_view d) new (Ok step)) (sym same) (effect_of (stores (core_view d) n seq (row_by state_of l)) (core_view d) new step (subst (λ o. HasDone (at_row (stores (core_view d) n seq) o) new step) (there d n l at) h))

  not_spooled : (seq : ℕ) (its : Bool) (t : rows.State) → (t ≡ rows.Held → ⊥) → spooling_in (core_view d) n seq its (row_by state_of l) t ≡ refuses NoSuchLeg
  not_spooled seq its rows.Waiting no_hold = refl
  not_spooled seq its rows.Sent no_hold = refl
  not_spooled seq its rows.Held no_hold = absurd (no_hold refl)
  not_spooled seq its rows.InSpool no_hold = refl
  not_spooled seq its rows.InReplay no_hold = refl

  pub spooling_not_held : (state_of l.state ≡ rows.Held → ⊥) → (seq : ℕ) (text rest : List ℕ) (fault : CoreFault) → fault ≡ NoSuchLeg → HasEffect (spooling_at (core_view d) n seq text rest) (core_view d) (core_view d) (Err fault)
  spooling_not_held no_hold seq text rest fault is =
      refusal (spooling_at (core_view d) n seq text rest) (core_view d) fault (spooling_row seq text rest ∙ not_spooled seq (is_record (core_view d) n text rest (row_by state_of l)) (state_of l.state) no_hold) is

  not_its : (seq : ℕ) (t : rows.State) → spooling_in (core_view d) n seq false (row_by state_of l) t ≡ refuses NoSuchLeg
  not_its seq rows.Waiting = refl
  not_its seq rows.Sent = refl
  not_its seq rows.Held = refl
  not_its seq rows.InSpool = refl
  not_its seq rows.InReplay = refl

  spooling_other : (seq : ℕ) (text rest : List ℕ) → is_one ((core_view d).rows.legs n) (is_record (core_view d) n text rest) ≡ false → spooling_at (core_view d) n seq text rest ≡ refuses NoSuchLeg
  spooling_other seq text rest e =
      spooling_row seq text rest ∙ ap (λ b. spooling_in (core_view d) n seq b (row_by state_of l) (state_of l.state)) (sym (its_record text rest) ∙ e) ∙ not_its seq (state_of l.state)

  refusing_row : refusing_at (core_view d) n ≡ refusing_in (core_view d) n (row_by state_of l) (state_of l.state)
  refusing_row = at_its_row d n l at (λ z. refusing_in (core_view d) n z z.state)

  pub refusing_effect : l.state ≡ states.Held → (new : CoreView) (step : Step) → HasDone (at_row (refused (core_view d)) ((core_view d).rows.legs n)) new step → HasEffect (refusing_at (core_view d) n) (core_view d) new (Ok step)
  refusing_effect held new step h =
      let same : refusing_at (core_view d) n ≡ refused (core_view d) (row_by state_of l) = refusing_row ∙ ap (λ t. refusing_in (core_view d) n (row_by state_of l) (state_of t)) held in
      subst (λ e. HasEffect e (core_view d) new (Ok step)) (sym same) (effect_of (refused (core_view d) (row_by state_of l)) (core_view d) new step (subst (λ o. HasDone (at_row (refused (core_view d)) o) new step) (there d n l at) h))

  -- one that the spool had refused stays as it is
  pub refusing_again : l.state ≡ states.Refused → HasEffect (refusing_at (core_view d) n) (core_view d) (core_view d) (Ok (step_to leg_states.Held changes.Nothing))
  refusing_again is =
      let same : refusing_at (core_view d) n ≡ does (step_to leg_states.Held changes.Nothing) (core_view d) =
      refusing_row ∙ ap (λ t. refusing_in (core_view d) n (row_by state_of l) (state_of t)) is
      ∙ ap (λ b. cond b (does (step_to leg_states.Held changes.Refused) (record (core_view d) { rows = refused_rows (arc_value d.accepted) (core_view d).rows (row_by state_of l) })) (does (step_to leg_states.Held changes.Nothing) (core_view d)))
      (awaits_refused d n l at is) in
      subst (λ e. HasEffect e (core_view d) (core_view d) (Ok (step_to leg_states.Held changes.Nothing))) (sym same) (refl, refl)

  not_refused : (t : rows.State) → (t ≡ rows.Held → ⊥) → refusing_in (core_view d) n (row_by state_of l) t ≡ refuses NoSuchLeg
  not_refused rows.Waiting no_hold = refl
  not_refused rows.Sent no_hold = refl
  not_refused rows.Held no_hold = absurd (no_hold refl)
  not_refused rows.InSpool no_hold = refl
  not_refused rows.InReplay no_hold = refl

  pub refusing_not_held : (state_of l.state ≡ rows.Held → ⊥) → (fault : CoreFault) → fault ≡ NoSuchLeg → HasEffect (refusing_at (core_view d) n) (core_view d) (core_view d) (Err fault)
  refusing_not_held no_hold fault is = refusal (refusing_at (core_view d) n) (core_view d) fault (refusing_row ∙ not_refused (state_of l.state) no_hold) is

pub spooling_refused : (d : Dispatcher) (n seq : ℕ) (text rest : List ℕ) (fault : CoreFault) → is_one ((core_view d).rows.legs n) (is_record (core_view d) n text rest) ≡ false → fault ≡ NoSuchLeg
    → HasEffect (spooling_at (core_view d) n seq text rest) (core_view d) (core_view d) (Err fault)
spooling_refused d n seq text rest fault f is = refusal (spooling_at (core_view d) n seq text rest) (core_view d) fault (by_leg (legs d.queues n) refl) is
  where
    by_leg : (o : Option (Leg Errand)) → legs d.queues n ≡ o → spooling_at (core_view d) n seq text rest ≡ refuses NoSuchLeg
    by_leg None at = ap (at_row (λ z. spooling_in (core_view d) n seq (is_record (core_view d) n text rest z) z z.state)) (ap (option_map (row_by state_of)) at)
    by_leg (Some l) at = spooling_other d n l at seq text rest f

pub refusing_absent : (d : Dispatcher) (n : ℕ) (fault : CoreFault) → legs d.queues n ≡ None → fault ≡ NoSuchLeg → HasEffect (refusing_at (core_view d) n) (core_view d) (core_view d) (Err fault)
refusing_absent d n fault at is = refusal (refusing_at (core_view d) n) (core_view d) fault (ap (at_row (λ z. refusing_in (core_view d) n z z.state)) (ap (option_map (row_by state_of)) at)) is

pub spooling_absent : (d : Dispatcher) (n seq : ℕ) (text rest : List ℕ) (fault : CoreFault) → legs d.queues n ≡ None → fault ≡ NoSuchLeg → HasEffect (spooling_at (core_view d) n seq text rest) (core_view d) (core_view d) (Err fault)
spooling_absent d n seq text rest fault at is =
    refusal (spooling_at (core_view d) n seq text rest) (core_view d) fault (ap (at_row (λ z. spooling_in (core_view d) n seq (is_record (core_view d) n text rest z) z z.state)) (ap (option_map (row_by state_of)) at)) is
