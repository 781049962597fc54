-- What a core may still write, after each event.
use Rattle.std.proofs.Common.{◌≡◌, ◌∙◌, ◌&&◌, not, cond, ℕ, zero, suc, ◌+◌, ◌*◌, ◌<◌, ◌≤◌, Bool, true, false, nat_eq, List, length, Option, Some, None, Result, Ok, Err, option_map, refl, sym, ap, subst, arith, true≢false}
use Rattle.std.specs.Prelude.{IfOk, ⊤, slice_get}
use Rattle.std.proofs.lemmas.Bool.{and_parts}
use Rattle.mcv_base.specs.declared.reply.FixedReply.TheVariants.{Lost}
use Rattle.mcv_base.specs.Reply.{ReplyValue, fixed_value, not_found}
use Rattle.mcv_base.specs.declared.reply.Part.{Part}
use Rattle.mcv_base.specs.declared.request.CallId.{CallId}
use Rattle.mcv_base.specs.declared.request.LegId.{LegId}
use Rattle.mcv_base.specs.declared.request.Moment.{Moment}
use Rattle.mcv_base.specs.declared.request.Request.{Request}
use Rattle.mcv_base.specs.declared.request.ServerId.{ServerId}
use Rattle.mcv_pools.specs.Symbol.{SymbolValue}
use Rattle.mcv_queues.specs.declared.marks.ServerFailures.{ServerFailures}
use Rattle.mcv_queues.specs.Marks.{answered_mark, checked_mark, lost_mark, no_mark}
use Rattle.mcv_queues.specs.Numbers.{IsLeast}
use Rattle.mcv_route.specs.Eras.{breaks_of, since_at}
use Rattle.mcv_route.specs.Routes.{RoutesValue}
use Rattle.mcv_spool.specs.declared.record.SpoolRecord.{SpoolRecord}
use Rattle.mcv_spool.specs.declared.record.Stored.{Stored}
use Rattle.mcv_world.specs.World.{Call, Spooled, is_counted_delete}
use Rattle.mcv_world.specs.Moves.{Move, Taken, can_be_taken, counted_as, is_error_reply, is_move, is_one, new_call}
use Rattle.mcv_world.proofs.Numbers.{no_some}
use Rattle.mcv_events.specs.Events.{in_state, refused_rows}
use Rattle.mcv_events.specs.Rows as rows
use Rattle.mcv_events.specs.Rows.{CallRow, IsCore, LegRow, Rows, awaits, leg_of, leg_state, with_leg_row, world_of}
use Rattle.mcv_events.specs.Runs.{OpenedRecord, spooled_row}
use Rattle.mcv_events.specs.Sums.{sum_below}
use Rattle.mcv_core.specs.Beginning.{begun}
use Rattle.mcv_core.specs.PlannedLegs.{legs_of_call}
use Rattle.mcv_core.proofs.Chapters.{answer_chapter, loss_chapter, lost_too_chapter, refusing_chapter, spooling_chapter}
use Rattle.mcv_core.proofs.Dispatchers.{view_has_era, view_is_core}
use Rattle.mcv_core.proofs.EventsLead.{Leads, begun_leads, clock_leads, effect_same, leg_leads, move_leads, next_leads, replay_leads, take_leads}
use Rattle.mcv_core.specs.CoreView.{CoreView, Effect, HasEffect, IsQuiet, answer_at, answer_in, at_row, change_move, does, finished, held, in_row_state, is_in_spool, is_record, is_spooled, is_waiting, landing_in, loss_at, loss_in, lost_too_at, refused, refuses, refusing_at, refusing_in, replayed_in, sent_in, spooling_at, spooling_in, step_to, stores, taken_view, taken_row, waits_in, with_mark}
use Rattle.mcv_core.specs.Events.{Happens, IsAnsweredLeg, IsBegun, IsClocked, IsLostLeg, IsLostTooLeg, IsMarked, IsNext, IsRefusedLeg, IsReplay, IsSpooledLeg, IsTaken, IsUnmarked, SetsClock}
use Rattle.mcv_core.specs.Flights.{one_more}
use Rattle.mcv_core.specs.Opening.{known_records, opened_within}
use Rattle.mcv_core.specs.Soundness.{spooled_in, spooled_one}
use Rattle.mcv_core.specs.Chapters.{era_move, in_era, spooled_legs, turned}
use Rattle.mcv_core.specs.View.{core_view}
use Rattle.mcv_core.specs.declared.dispatcher.Dispatcher.{Dispatcher}
use Rattle.mcv_core.specs.declared.fault.CoreFault.{CoreFault}
use Rattle.mcv_core.specs.declared.step.Change.{Change}
use Rattle.mcv_core.specs.declared.step.Change.TheVariants as changes
use Rattle.mcv_core.specs.declared.step.LegState.TheVariants as leg_states
use Rattle.mcv_core.specs.declared.step.Step.{Step}
use Rattle.mcv_core.specs.declared.turn.Era.{Era}
use Rattle.mcv_hub.specs.History.{written}
use Rattle.mcv_hub.specs.RemainingEntries.{break_count, breaks_left, call_may_write, leg_may_write, leg_may_write_in, may_write, rows_may_write, written_by}
use Rattle.mcv_hub.proofs.BreaksLeft.{all_breaks, no_more_breaks, one_break_less}
use Rattle.mcv_hub.proofs.RowsMayWrite.{beginning_writes, call_below, leg_below, leg_changes, recording_for_writes, refusing_writes, taking_writes}

-- at the same moment the rows decide
by_rows : (v w : CoreView) (d : ℕ) → w.routes ≡ v.routes → w.moment ≡ v.moment → rows_may_write v.routes w.rows + d ≤ rows_may_write v.routes v.rows → may_write w + d ≤ may_write v
unfolding may_write
by_rows v w d routes moment less =
    let same : rows_may_write w.routes w.rows + breaks_left w.routes w.moment ≡ rows_may_write v.routes w.rows + breaks_left v.routes v.moment = λ j. rows_may_write (routes j) w.rows + breaks_left (routes j) (moment j) in
    omega (arith, less, same)

-- ---- marks, and legs that are sent

pub may_write_same : (v w : CoreView) → w ≡ v → may_write w ≤ may_write v
may_write_same v w e = omega (arith, ap may_write e)

pub mark_writes : (v w : CoreView) (server : ℕ) (g : ServerFailures → ServerFailures) → w ≡ with_mark v server g → may_write w ≤ may_write v
mark_writes v w server g e = let o = by_rows v (with_mark v server g) 0 refl refl (omega arith) in omega (arith, o, ap may_write e)

-- a leg is sent to its server, which leaves it as much to write
sending_writes : (r : RoutesValue) (w : Rows) (n : ℕ) (t : rows.State) (chosen : Option LegRow → Bool) → IsCore r w → (chosen None ≡ false) → ((s : LegRow) → chosen (Some s) ≡ true → leg_may_write_in t ≡ leg_may_write_in s.state) → chosen (w.legs n) ≡ true
    → rows_may_write r (in_row_state w n t) ≤ rows_may_write r w
sending_writes r w n t chosen i never same it = by_leg (w.legs n) refl it
  where
    by_leg : (o : Option LegRow) → w.legs n ≡ o → chosen o ≡ true → rows_may_write r (with_leg_row w n (option_map (λ s. in_state s t) (w.legs n))) ≤ rows_may_write r w
    by_leg None at e = absurd (true≢false (sym e ∙ never))
    by_leg (Some s) at e =
        let o = leg_changes r w n s (option_map (λ z. in_state z t) (w.legs n)) (leg_below r w n s i at) at in
        let new : leg_may_write (option_map (λ z. in_state z t) (w.legs n)) ≡ leg_may_write_in t = ap (λ y. leg_may_write (option_map (λ z. in_state z t) y)) at in
        let old : leg_may_write (Some s) ≡ leg_may_write_in t = sym (same s e) in
        omega (arith, o, new, old)

two_of : (t : rows.State) → waits_in t ≡ true → 2 ≡ leg_may_write_in t
two_of rows.Waiting e = refl
two_of rows.Sent e = refl
two_of rows.Held e = refl
two_of rows.InSpool e = absurd (true≢false (sym e))
two_of rows.InReplay e = absurd (true≢false (sym e))

one_of : (t : rows.State) → is_in_spool t ≡ true → 1 ≡ leg_may_write_in t
one_of rows.Waiting e = absurd (true≢false (sym e))
one_of rows.Sent e = absurd (true≢false (sym e))
one_of rows.Held e = absurd (true≢false (sym e))
one_of rows.InSpool e = refl
one_of rows.InReplay e = refl

pub next_writes : (v w : CoreView) (n server : ℕ) (flights : ℕ → ℕ) → IsCore v.routes v.rows → IsLeast (λ m. is_waiting server (v.rows.legs m)) (Some n)
    → w ≡ record v { rows = in_row_state v.rows n rows.Sent; flights = flights } → may_write w ≤ may_write v
next_writes v w n server flights i first e =
    let sent = sending_writes v.routes v.rows n rows.Sent (is_waiting server) i refl (λ s h. two_of s.state (and_parts (nat_eq s.launch.server.0 server) (waits_in s.state) h).1) (first.there n refl) in
    let o = by_rows v (record v { rows = in_row_state v.rows n rows.Sent; flights = flights }) 0 refl refl (omega (arith, sent)) in
    omega (arith, o, ap may_write e)

pub replay_writes : (v w : CoreView) (n server : ℕ) (flights : ℕ → ℕ) → IsCore v.routes v.rows → IsLeast (λ m. is_spooled server (v.rows.legs m)) (Some n)
    → w ≡ record v { rows = in_row_state v.rows n rows.InReplay; flights = flights } → may_write w ≤ may_write v
replay_writes v w n server flights i first e =
    let sent = sending_writes v.routes v.rows n rows.InReplay (is_spooled server) i refl (λ s h. one_of s.state (and_parts (nat_eq s.launch.server.0 server) (is_in_spool s.state) h).1) (first.there n refl) in
    let o = by_rows v (record v { rows = in_row_state v.rows n rows.InReplay; flights = flights }) 0 refl refl (omega (arith, sent)) in
    omega (arith, o, ap may_write e)

-- ---- events on legs

-- as many legs may be in flight as before, and no more is left than what the change writes allows
abbrev Spends : CoreView → CoreView → Change → Type 0
Spends v w change = (w.limit ≡ v.limit) × (may_write w + written_by change ≤ may_write v)

-- where the effect leads
abbrev WritesAfter : CoreView → Effect → Type 0
WritesAfter v (refuses fault) = ⊤
WritesAfter v (does step w) = Spends v w step.change

by_effect : (v w : CoreView) (e : Effect) (result : Result Step CoreFault) → WritesAfter v e → HasEffect e v w result → IfOk result (λ step. Spends v w step.change)
by_effect v w (refuses fault) result good h = subst (λ z. IfOk z (λ step. Spends v w step.change)) (sym h.0) tt
by_effect v w (does done u) result good h = subst (λ z. IfOk z (λ step. Spends v w step.change)) (sym h.0) (subst (λ z. Spends v z done.change) (sym h.1) good)

by_test : (v : CoreView) (b : Bool) (e f : Effect) → WritesAfter v e → WritesAfter v f → WritesAfter v (cond b e f)
by_test v true e f one other = one
by_test v false e f one other = other

module _ (v : CoreView) (i : IsCore v.routes v.rows) (n : ℕ) (s : LegRow) (at : v.rows.legs n ≡ Some s) where
  low : n < v.rows.next_leg
  low = leg_below v.routes v.rows n s i at

  weighs : (t : rows.State) → s.state ≡ t → leg_may_write (Some s) ≡ leg_may_write_in t
  weighs t is = ap leg_may_write_in is

  -- the marks, where the server's is changed
  abbrev marked : (ServerFailures → ServerFailures) → ℕ → ServerFailures
  marked g = (with_mark v s.launch.server.0 g).marks

  -- whatever becomes of the marks
  held_writes : (marks : ℕ → ServerFailures) → s.state ≡ rows.Sent → WritesAfter v (held (record v { marks = marks }) n s)
  held_writes marks is =
      let t = leg_changes v.routes v.rows n s (Some (in_state s rows.Held)) low at in
      (refl, by_rows v _ 0 refl refl (omega (arith, t, weighs rows.Sent is)))

  finished_writes : (marks : ℕ → ServerFailures) (y : ReplyValue) → s.state ≡ rows.Sent → WritesAfter v (finished (record v { marks = marks }) n y s)
  finished_writes marks y is =
      let t = leg_changes v.routes v.rows n s None low at in
      let o = recording_for_writes v.routes (with_leg_row v.rows n None) s y s.call i.calls_below in
      (refl, by_rows v _ 1 refl refl (omega (arith, t, o, weighs rows.Sent is)))

  sent_writes : (marks : ℕ → ServerFailures) (y : ReplyValue) → s.state ≡ rows.Sent → WritesAfter v (sent_in (record v { marks = marks }) n y s)
  sent_writes marks y is = by_test v (is_counted_delete (leg_of s) && is_error_reply y) _ _ (held_writes marks is) (finished_writes marks y is)

  replayed_writes : (marks : ℕ → ServerFailures) (failed : Bool) → s.state ≡ rows.InReplay → WritesAfter v (replayed_in (record v { marks = marks }) n failed s)
  replayed_writes marks failed is =
      let t = leg_changes v.routes v.rows n s None low at in
      let u = leg_changes v.routes v.rows n s (Some (in_state s rows.InSpool)) low at in
      by_test v failed _ _ (refl, by_rows v _ 0 refl refl (omega (arith, u, weighs rows.InReplay is))) (refl, by_rows v _ 1 refl refl (omega (arith, t, weighs rows.InReplay is)))

  stores_writes : (seq : ℕ) → s.state ≡ rows.Held → WritesAfter v (stores v n seq s)
  stores_writes seq is =
      let t = leg_changes v.routes v.rows n s (Some (in_state s rows.InSpool)) low at in
      let o = recording_for_writes v.routes (with_leg_row v.rows n (Some (in_state s rows.InSpool))) s not_found s.call i.calls_below in
      (refl, by_rows v _ 1 refl refl (omega (arith, t, o, weighs rows.Held is)))

  refused_writes : WritesAfter v (refused v s)
  refused_writes = by (awaits v.rows.calls s s.call) refl
    where
      by : (b : Bool) → awaits v.rows.calls s s.call ≡ b
          → WritesAfter v (cond b (does (step_to leg_states.Held changes.Refused) (record v { rows = refused_rows v.routes v.rows s })) (does (step_to leg_states.Held changes.Nothing) v))
      by true e = (refl, by_rows v _ 1 refl refl (refusing_writes v.routes v.rows n s i at e))
      by false e = (refl, by_rows v v 0 refl refl (omega arith))

  answer_writes_in : (x : ReplyValue) (t : rows.State) → s.state ≡ t → WritesAfter v (answer_in v n x s t)
  answer_writes_in x rows.Waiting is = tt
  answer_writes_in x rows.Sent is = sent_writes (marked answered_mark) (counted_as s.launch.op x) is
  answer_writes_in x rows.Held is = tt
  answer_writes_in x rows.InSpool is = tt
  answer_writes_in x rows.InReplay is = replayed_writes (marked answered_mark) (is_error_reply (counted_as s.launch.op x)) is

  loss_writes_in : (t : rows.State) → s.state ≡ t → WritesAfter v (loss_in v n s t)
  loss_writes_in rows.Waiting is = tt
  loss_writes_in rows.Sent is = sent_writes (marked lost_mark) (fixed_value Lost) is
  loss_writes_in rows.Held is = tt
  loss_writes_in rows.InSpool is = tt
  loss_writes_in rows.InReplay is = replayed_writes (marked lost_mark) true is

  lost_too_writes_in : (t : rows.State) → s.state ≡ t → WritesAfter v (landing_in v n (fixed_value Lost) s t)
  lost_too_writes_in rows.Waiting is = tt
  lost_too_writes_in rows.Sent is = sent_writes v.marks (fixed_value Lost) is
  lost_too_writes_in rows.Held is = tt
  lost_too_writes_in rows.InSpool is = tt
  lost_too_writes_in rows.InReplay is = replayed_writes v.marks true is

  spooling_writes_in : (seq : ℕ) (its : Bool) (t : rows.State) → s.state ≡ t → WritesAfter v (spooling_in v n seq its s t)
  spooling_writes_in seq its rows.Waiting is = tt
  spooling_writes_in seq its rows.Sent is = tt
  spooling_writes_in seq its rows.Held is = by_test v its _ _ (stores_writes seq is) tt
  spooling_writes_in seq its rows.InSpool is = tt
  spooling_writes_in seq its rows.InReplay is = tt

  refusing_writes_in : (t : rows.State) → s.state ≡ t → WritesAfter v (refusing_in v n s t)
  refusing_writes_in rows.Waiting is = tt
  refusing_writes_in rows.Sent is = tt
  refusing_writes_in rows.Held is = refused_writes
  refusing_writes_in rows.InSpool is = tt
  refusing_writes_in rows.InReplay is = tt

by_row : (v : CoreView) (f : LegRow → Effect) (n : ℕ) → ((s : LegRow) → v.rows.legs n ≡ Some s → WritesAfter v (f s)) → WritesAfter v (at_row f (v.rows.legs n))
by_row v f n h = by (v.rows.legs n) refl
  where
    by : (o : Option LegRow) → v.rows.legs n ≡ o → WritesAfter v (at_row f o)
    by None at = tt
    by (Some s) at = h s at

module _ (v w : CoreView) (i : IsCore v.routes v.rows) (n : ℕ) (result : Result Step CoreFault) where
  pub answer_writes : (x : ReplyValue) → HasEffect (answer_at v n x) v w result → IfOk result (λ step. Spends v w step.change)
  answer_writes x h = by_effect v w (answer_at v n x) result (by_row v (λ s. answer_in v n x s s.state) n (λ s at. answer_writes_in v i n s at x s.state refl)) h

  pub loss_writes : HasEffect (loss_at v n) v w result → IfOk result (λ step. Spends v w step.change)
  loss_writes h = by_effect v w (loss_at v n) result (by_row v (λ s. loss_in v n s s.state) n (λ s at. loss_writes_in v i n s at s.state refl)) h

  pub lost_too_writes : HasEffect (lost_too_at v n) v w result → IfOk result (λ step. Spends v w step.change)
  lost_too_writes h = by_effect v w (lost_too_at v n) result (by_row v (λ s. landing_in v n (fixed_value Lost) s s.state) n (λ s at. lost_too_writes_in v i n s at s.state refl)) h

  pub spooling_writes : (seq : ℕ) (text rest : List ℕ) → HasEffect (spooling_at v n seq text rest) v w result → IfOk result (λ step. Spends v w step.change)
  spooling_writes seq text rest h = by_effect v w (spooling_at v n seq text rest) result (by_row v (λ s. spooling_in v n seq (is_record v n text rest s) s s.state) n (λ s at. spooling_writes_in v i n s at seq (is_record v n text rest s) s.state refl)) h

  pub refusal_writes : HasEffect (refusing_at v n) v w result → IfOk result (λ step. Spends v w step.change)
  refusal_writes h = by_effect v w (refusing_at v n) result (by_row v (λ s. refusing_in v n s s.state) n (λ s at. refusing_writes_in v i n s at s.state refl)) h

-- ---- calls

pub begin_writes : (v w : CoreView) (call : Call) (request : Option Request) → call.taken ≡ false → w ≡ begun v call request → may_write w + 1 + v.entries ≤ may_write v + w.entries
unfolding may_write
begin_writes v w call request new is =
    let o = beginning_writes v.routes v.rows call request (legs_of_call v.routes call) new in
    let e : w.entries ≡ v.entries + (2 + 3 * length (legs_of_call v.routes call)) = ap (λ z. z.entries) is in
    omega (arith, o, e, ap may_write is)

not_is_false : (b : Bool) → not b ≡ true → b ≡ false
not_is_false true e = absurd (true≢false (sym e))
not_is_false false e = refl

pub take_writes : (v w : CoreView) (k : ℕ) → IsCore v.routes v.rows → is_move v.routes (world_of v.rows) (Taken k) ≡ true → w ≡ taken_view v k → may_write w + 1 ≤ may_write v
take_writes v w k i may e = let o = by_call (v.rows.calls k) refl may in omega (arith, o, ap may_write e)
  where
    by_call : (o : Option CallRow) → v.rows.calls k ≡ o → is_one (option_map (λ c. c.call) o) (can_be_taken v.routes) ≡ true → may_write (taken_row v k (v.rows.calls k)) + 1 ≤ may_write v
    by_call None at f = absurd (true≢false (sym f))
    by_call (Some c) at f =
        let free : c.call.taken ≡ false = not_is_false c.call.taken (and_parts _ _ f).0 in
        let less = taking_writes v.routes v.rows k c (call_below v.rows i.calls_below k c at) at free in
        subst (λ z. may_write (taken_row v k z) + 1 ≤ may_write v) (sym at) (by_rows v (taken_row v k (Some c)) 1 refl refl less)

-- ---- eras and chapters

pub clock_writes_same : (v w : CoreView) (moment : ℕ) (since : Option ℕ) → v.moment ≤ moment → w ≡ record (in_era v since) { moment = moment } → may_write w ≤ may_write v
unfolding may_write
clock_writes_same v w moment since forward e = let o = no_more_breaks v.routes v.moment moment forward in omega (arith, o, ap may_write e)

pub clock_writes_less : (v w : CoreView) (moment : ℕ) (since : Option ℕ) → v.moment ≤ moment → w ≡ record (in_era v since) { moment = moment } → (since_at (breaks_of v.routes) v.moment ≡ since_at (breaks_of v.routes) moment → ⊥) → may_write w + 1 ≤ may_write v
unfolding may_write
clock_writes_less v w moment since forward e other = let o = one_break_less v.routes v.moment moment forward other in omega (arith, o, ap may_write e)

pub turn_writes : (v w : CoreView) (chapter entries : ℕ) → w ≡ record v { chapter = chapter; entries = entries } → may_write w ≤ may_write v
turn_writes v w chapter entries e = let o = by_rows v (record v { chapter = chapter; entries = entries }) 0 refl refl (omega arith) in omega (arith, o, ap may_write e)

one_each : (t : rows.State) → leg_state t ≡ Spooled → leg_may_write_in t ≡ spooled_in t
one_each rows.Waiting e = absurd cc
one_each rows.Sent e = absurd cc
one_each rows.Held e = absurd cc
one_each rows.InSpool e = refl
one_each rows.InReplay e = refl

-- no call runs and each leg is in the spool
calls_write_nothing : (r : RoutesValue) (calls : ℕ → Option CallRow) (n : ℕ) → ((k : ℕ) → calls k ≡ None) → sum_below (call_may_write r) calls n ≡ 0
calls_write_nothing r calls zero none = refl
calls_write_nothing r calls (suc n) none = let e = calls_write_nothing r calls n none in let z : call_may_write r (calls n) ≡ 0 = ap (call_may_write r) (none n) in omega (arith, e, z)

legs_write_one : (legs : ℕ → Option LegRow) (n : ℕ) → ((m : ℕ) (s : LegRow) → legs m ≡ Some s → leg_state s.state ≡ Spooled) → sum_below leg_may_write legs n ≡ sum_below spooled_one legs n
legs_write_one legs zero all = refl
legs_write_one legs (suc n) all = let e = legs_write_one legs n all in let z = by (legs n) refl in omega (arith, e, z)
  where
    by : (o : Option LegRow) → legs n ≡ o → leg_may_write o ≡ spooled_one o
    by None at = refl
    by (Some s) at = one_each s.state (all n s at)

at_rest : (v : CoreView) → ((k : ℕ) → v.rows.calls k ≡ None) → ((m : ℕ) (s : LegRow) → v.rows.legs m ≡ Some s → leg_state s.state ≡ Spooled) → may_write v ≤ spooled_legs v.rows + break_count v.routes
unfolding may_write
at_rest v calls legs =
    let a = calls_write_nothing v.routes v.rows.calls v.rows.next_call calls in
    let b = legs_write_one v.rows.legs v.rows.next_leg legs in
    let c = all_breaks v.routes v.moment in
    omega (arith, a, b, c)

no_call : (o : Option CallRow) → option_map (λ c. c.call) o ≡ None → o ≡ None
no_call None e = refl
no_call (Some c) e = no_some (sym e)

pub quiet_writes : (v w : CoreView) (chapter : ℕ) → IsQuiet w → w ≡ record v { chapter = chapter; entries = spooled_legs v.rows } → may_write w ≤ w.entries + break_count w.routes
quiet_writes v w chapter q e =
    let o = at_rest w (λ k. no_call (w.rows.calls k) (q.0.calls k)) (λ m s at. q.0.spooled m (leg_of s) (ap (option_map leg_of) at)) in
    let same : spooled_legs w.rows ≡ w.entries = ap (λ z. spooled_legs z.rows) e ∙ sym (ap (λ z. z.entries) e) in
    omega (arith, o, same)

-- a core that was opened
opened_legs_write : (records : List OpenedRecord) (n : ℕ) → sum_below leg_may_write (λ m. option_map spooled_row (slice_get records m)) n ≤ n
opened_legs_write records zero = omega arith
opened_legs_write records (suc n) = let e = opened_legs_write records n in let z = by (slice_get records n) in omega (arith, e, z)
  where
    by : (o : Option OpenedRecord) → leg_may_write (option_map spooled_row o) ≤ 1
    by None = omega arith
    by (Some x) = omega arith

pub open_writes : (w : CoreView) (limit : ℕ) (r : RoutesValue) (records : List (ℕ × SpoolRecord)) → w ≡ opened_within limit r records → may_write w ≤ w.entries + break_count r
unfolding may_write
open_writes w limit r records e =
    let known = known_records r.servers records in
    let o = opened_legs_write known (length known) in
    let b = all_breaks r 0 in
    let n : w.entries ≡ length known = ap (λ z. z.entries) e in
    omega (arith, o, b, n, ap may_write e)

-- ---- each event

pub moved_written : (n : ℕ) (x : ReplyValue) (change : Change) → written (change_move n x change) ≡ written_by change
moved_written n x changes.Nothing = refl
moved_written n x changes.Answered = refl
moved_written n x changes.Spooled = refl
moved_written n x changes.Refused = refl
moved_written n x changes.Performed = refl

-- it is its move, of the same chapter, as many legs may be in flight, and fewer entries may be written by those that it writes
pub record Goes (v w : CoreView) (m : Option Move) : Type 0 where
  pub leads : Leads v w m
  pub chapter : w.chapter ≡ v.chapter
  pub same_limit : w.limit ≡ v.limit
  pub spent : may_write w + written m ≤ may_write v

-- a call begins: its entries were not to be written before
pub record GoesOn (v w : CoreView) (m : Option Move) : Type 0 where
  pub leads : Leads v w m
  pub chapter : w.chapter ≡ v.chapter
  pub same_limit : w.limit ≡ v.limit
  pub within : v.entries ≤ w.entries
  pub limit : w.entries ≤ 1000000
  pub spent : may_write w + written m + v.entries ≤ may_write v + w.entries

none_goes : (v w : CoreView) (m : Option Move) → m ≡ None → Leads v w m → w.chapter ≡ v.chapter → w.limit ≡ v.limit → may_write w ≤ may_write v → Goes v w m
none_goes v w m none leads chapter limit less = record { leads = leads; chapter = chapter; same_limit = limit; spent = subst (λ k. may_write w + written k ≤ may_write v) (sym none) (omega (arith, less)) }

-- it is refused
same_goes : (v w : CoreView) (m : Option Move) → m ≡ None → w ≡ v → Leads v w m → Goes v w m
same_goes v w m none same leads = none_goes v w m none leads (ap (λ z. z.chapter) same) (ap (λ z. z.limit) same) (may_write_same v w same)

pub begun_goes : (d : Dispatcher) (w : CoreView) (chosen : SymbolValue → List ℕ → ℕ) (request : Request) (key : ℕ) (call : CallId) (m : Option Move) → IsBegun (core_view d) chosen request key (Ok call) m w → GoesOn (core_view d) w m
begun_goes d w chosen request key call m h =
    let v : CoreView = core_view d in
    let new : Call = new_call (world_of v.rows) h.op h.route h.rest h.choice in
    let e : w.entries ≡ v.entries + (2 + 3 * length (legs_of_call v.routes new)) = ap (λ z. z.entries) h.begun.view in
    let fits = h.begun.history_fits in
    let less = begin_writes v w new (Some request) refl h.begun.view in
    record {
      leads = begun_leads v chosen request key (Ok call) m w h;
      chapter = ap (λ z. z.chapter) h.begun.view;
      same_limit = ap (λ z. z.limit) h.begun.view;
      within = omega (arith, e);
      limit = omega (arith, e, fits);
      spent = subst (λ k. may_write w + written k + v.entries ≤ may_write v + w.entries) (sym h.move) less;
    }

pub unbegun_goes : (d : Dispatcher) (w : CoreView) (chosen : SymbolValue → List ℕ → ℕ) (request : Request) (key : ℕ) (fault : CoreFault) (m : Option Move) → IsBegun (core_view d) chosen request key (Err fault) m w → Goes (core_view d) w m
unbegun_goes d w chosen request key fault m h = same_goes (core_view d) w m h.none h.same (begun_leads (core_view d) chosen request key (Err fault) m w h)

pub next_goes : (d : Dispatcher) (w : CoreView) (server : ServerId) (r : Result LegId CoreFault) (m : Option Move) → IsNext (core_view d) server r m w → Goes (core_view d) w m
next_goes d w server (Ok leg) m h =
    none_goes (core_view d) w m h.none (next_leads (core_view d) server (Ok leg) m w h) (ap (λ z. z.chapter) h.view) (ap (λ z. z.limit) h.view)
    (next_writes (core_view d) w leg.0 server.0 (one_more (core_view d).flights server.0) (view_is_core d) h.first h.view)
next_goes d w server (Err fault) m h = same_goes (core_view d) w m h.none h.same (next_leads (core_view d) server (Err fault) m w h)

pub replay_goes : (d : Dispatcher) (w : CoreView) (server : ServerId) (r : Result LegId CoreFault) (m : Option Move) → IsReplay (core_view d) server r m w → Goes (core_view d) w m
replay_goes d w server (Ok leg) m h =
    none_goes (core_view d) w m h.none (replay_leads (core_view d) server (Ok leg) m w h) (ap (λ z. z.chapter) h.view) (ap (λ z. z.limit) h.view)
    (replay_writes (core_view d) w leg.0 server.0 (one_more (core_view d).flights server.0) (view_is_core d) h.first h.view)
replay_goes d w server (Err fault) m h = same_goes (core_view d) w m h.none h.same (replay_leads (core_view d) server (Err fault) m w h)

module _ (e : Effect) (leg : LegId) (x : ReplyValue) (v : CoreView) where
  leg_goes : (r : Result Step CoreFault) (m : Option Move) (w : CoreView) → Happens e leg x v r m w → w.chapter ≡ v.chapter → IfOk r (λ step. Spends v w step.change) → Goes v w m
  leg_goes (Ok step) m w h chapter less = record {
    leads = leg_leads e leg x v (Ok step) m w h;
    chapter = chapter;
    same_limit = less.0;
    spent = subst (λ k. may_write w + written k ≤ may_write v) (sym h.move) (subst (λ k. may_write w + k ≤ may_write v) (sym (moved_written leg.0 x step.change)) less.1);
  }
  leg_goes (Err fault) m w h chapter less = same_goes v w m h.move (effect_same e v w fault h.effect) (leg_leads e leg x v (Err fault) m w h)

module _ (d : Dispatcher) (w : CoreView) (leg : LegId) (r : Result Step CoreFault) (m : Option Move) where
  abbrev v : CoreView
  v = core_view d

  pub answer_goes : (x : ReplyValue) → IsAnsweredLeg v leg x r m w → Goes v w m
  answer_goes x h = leg_goes (answer_at v leg.0 x) leg x v r m w h (answer_chapter v w leg.0 r x h.effect) (answer_writes v w (view_is_core d) leg.0 r x h.effect)

  pub loss_goes : IsLostLeg v leg r m w → Goes v w m
  loss_goes h = leg_goes (loss_at v leg.0) leg (fixed_value Lost) v r m w h (loss_chapter v w leg.0 r h.effect) (loss_writes v w (view_is_core d) leg.0 r h.effect)

  pub lost_too_goes : IsLostTooLeg v leg r m w → Goes v w m
  lost_too_goes h = leg_goes (lost_too_at v leg.0) leg (fixed_value Lost) v r m w h (lost_too_chapter v w leg.0 r h.effect) (lost_too_writes v w (view_is_core d) leg.0 r h.effect)

  pub spooling_goes : (stored : Stored) → IsSpooledLeg v leg stored r m w → Goes v w m
  spooling_goes stored h =
      leg_goes (spooling_at v leg.0 stored.seq stored.«record».server stored.«record».rest) leg not_found v r m w h (spooling_chapter v w leg.0 r stored.seq stored.«record».server stored.«record».rest h.effect)
      (spooling_writes v w (view_is_core d) leg.0 r stored.seq stored.«record».server stored.«record».rest h.effect)

  pub refusal_goes : IsRefusedLeg v leg r m w → Goes v w m
  refusal_goes h = leg_goes (refusing_at v leg.0) leg (fixed_value Lost) v r m w h (refusing_chapter v w leg.0 r h.effect) (refusal_writes v w (view_is_core d) leg.0 r h.effect)

pub marked_goes : (d : Dispatcher) (w : CoreView) (server : ServerId) (m : Option Move) → IsMarked (core_view d) server m w → Goes (core_view d) w m
marked_goes d w server m h = none_goes (core_view d) w m h.none (move_leads (core_view d) w m None h.none h.does) (ap (λ z. z.chapter) h.view) (ap (λ z. z.limit) h.view) (mark_writes (core_view d) w server.0 checked_mark h.view)

pub unmarked_goes : (d : Dispatcher) (w : CoreView) (server : ServerId) (m : Option Move) → IsUnmarked (core_view d) server m w → Goes (core_view d) w m
unmarked_goes d w server m h = none_goes (core_view d) w m h.none (move_leads (core_view d) w m None h.none h.does) (ap (λ z. z.chapter) h.view) (ap (λ z. z.limit) h.view) (mark_writes (core_view d) w server.0 (λ mark. no_mark) h.view)

clock_spends : (d : Dispatcher) (w : CoreView) (moment : Moment) (era : Option Era) (m : Option Move) → SetsClock (core_view d) moment era m w → may_write w + written (era_move era) ≤ may_write (core_view d)
clock_spends d w moment None m h = let o = clock_writes_same (core_view d) w moment.0 (since_at (breaks_of (core_view d).routes) moment.0) h.forward h.view in omega (arith, o)
clock_spends d w moment (Some era) m h =
    clock_writes_less (core_view d) w moment.0 (since_at (breaks_of (core_view d).routes) moment.0) h.forward h.view (λ same. h.era_is.1 (ap (λ z. z.rows.since) h.view ∙ sym same ∙ sym (view_has_era d)))

pub clock_goes : (d : Dispatcher) (w : CoreView) (moment : Moment) (r : Result (Option Era) CoreFault) (m : Option Move) → IsClocked (core_view d) moment r m w → Goes (core_view d) w m
clock_goes d w moment (Ok era) m h = record {
  leads = clock_leads (core_view d) moment (Ok era) m w h;
  chapter = ap (λ z. z.chapter) h.view;
  same_limit = ap (λ z. z.limit) h.view;
  spent = subst (λ k. may_write w + written k ≤ may_write (core_view d)) (sym h.move) (clock_spends d w moment era m h);
}
clock_goes d w moment (Err fault) m h = same_goes (core_view d) w m h.none h.same (clock_leads (core_view d) moment (Err fault) m w h)

same_chapter : (v : CoreView) (call : ℕ) (o : Option CallRow) → (taken_row v call o).chapter ≡ v.chapter
same_chapter v call None = refl
same_chapter v call (Some c) = refl

taken_limit : (v : CoreView) (call : ℕ) (o : Option CallRow) → (taken_row v call o).limit ≡ v.limit
taken_limit v call None = refl
taken_limit v call (Some c) = refl

pub take_goes : (d : Dispatcher) (w : CoreView) (call : CallId) (r : Result (Option Part) CoreFault) (m : Option Move) → IsTaken (core_view d) call r m w → Goes (core_view d) w m
take_goes d w call (Ok (Some part)) m h = record {
  leads = take_leads (core_view d) call (Ok (Some part)) m w h;
  chapter = ap (λ z. z.chapter) h.view ∙ same_chapter (core_view d) call.0 ((core_view d).rows.calls call.0);
  same_limit = ap (λ z. z.limit) h.view ∙ taken_limit (core_view d) call.0 ((core_view d).rows.calls call.0);
  spent = subst (λ k. may_write w + written k ≤ may_write (core_view d)) (sym h.move) (take_writes (core_view d) w call.0 (view_is_core d) h.does.moves.is h.view);
}
take_goes d w call (Ok None) m h = same_goes (core_view d) w m h.none h.same (take_leads (core_view d) call (Ok None) m w h)
take_goes d w call (Err fault) m h = same_goes (core_view d) w m h.none h.same (take_leads (core_view d) call (Err fault) m w h)

-- a chapter begins
pub turn_spends : (v w : CoreView) → w ≡ turned v → may_write w ≤ may_write v
turn_spends v w e = turn_writes v w (v.chapter + 1) (spooled_legs v.rows) e

pub turn_opens : (v w : CoreView) → IsQuiet w → w ≡ turned v → may_write w ≤ w.entries + break_count w.routes
turn_opens v w q e = quiet_writes v w (v.chapter + 1) q e
