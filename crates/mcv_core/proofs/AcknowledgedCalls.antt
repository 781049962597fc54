-- Each call that was begun and answered is one of the world to which the moves lead, with that reply, and deletes among them are kept.
use Rattle.std.proofs.Common.{◌≡◌, ◌⊎◌, cond, inl, inr, ℕ, zero, suc, Bool, true, false, List, [], ◌∷◌, ◌++◌, length, Option, Some, None, Ok, Err, refl, sym, ap, ◌∙◌, subst, arith, length-append}
use Rattle.std.proofs.lemmas.Bool.{cases_eq}
use Rattle.std.specs.Prelude.{option_and_then, slice_get}
use Rattle.std.specs.Arc.{arc_value}
use Rattle.mcv_base.specs.Reply.{ReplyValue, not_found, fixed_value}
use Rattle.mcv_base.specs.declared.reply.FixedReply.TheVariants.{Lost}
use Rattle.mcv_base.specs.declared.request.Request.{Request}
use Rattle.mcv_pools.specs.Symbol.{SymbolValue}
use Rattle.mcv_route.specs.Routes.{RoutesValue}
use Rattle.mcv_symbolic.specs.CoveredRoutes.{AreCovered}
use Rattle.mcv_world.specs.Laws.{HasReply, IsWorld}
use Rattle.mcv_world.specs.LiveWorld.{has_ended, live_of, running}
use Rattle.mcv_world.specs.Moves.{Move, Began, Answered, WasSpooled, WasRefused, WasPerformed, EraBegan, Taken, after, answered_state, changed, counted_as, has_no_outcome, is_move, new_call, with_leg_state, recorded_by, recorded_for, recorded_if, run, with_call, with_leg, with_reply, with_taken}
use Rattle.mcv_world.specs.PossibleMoves.{IsPossible}
use Rattle.mcv_world.specs.World.{Spooled, Call, Leg, World, put, reply_of}
use Rattle.mcv_world.proofs.DeletesAreKept.{covered_worlds_are_kept}
use Rattle.mcv_world.proofs.ForgetsSafely.{forgets_safely, moves_are_live}
use Rattle.mcv_world.proofs.MovesKeepWorlds.{moves_keep_worlds}
use Rattle.mcv_world.proofs.Numbers.{no_some, put_other, put_same, same_some}
use Rattle.mcv_world.proofs.WhatIsThereStays.{replies_stay}
use Rattle.mcv_events.specs.Rows.{world_of}
use Rattle.mcv_core.specs.AcknowledgedCalls.{AnsweredCallsAreKept, WasAnswered, WasBegun, beginning_of, taking_of}
use Rattle.mcv_core.specs.Answers.{done_answer, leg_answer, state_answer}
use Rattle.mcv_core.specs.Asking.{IsAsked}
use Rattle.mcv_core.specs.CoreView.{CoreView, Does, Moved}
use Rattle.mcv_core.specs.Events.{Begins}
use Rattle.mcv_core.specs.Steps.{Step, Steps, begun, sent, replayed, answered, lost, lost_too, spooled, refused, marked, unmarked, clocked, turned, taken, none, more, with_move}
use Rattle.mcv_core.proofs.EventsLead.{Leads, begun_leads, clock_leads, goes, leg_leads, next_leads, replay_leads, stays, step_leads, take_leads, turn_leads}
use Rattle.mcv_core.specs.declared.run.Answer.{Answer}
use Rattle.mcv_core.specs.declared.run.Answer.TheVariants as answer
use Rattle.mcv_core.specs.declared.run.Event.TheVariants as event
use Rattle.std.specs.declared.alloc.Global.{Global}
use Rattle.std.specs.declared.sync.Arc.{Arc}
use Rattle.mcv_base.specs.declared.reply.Part.{Part}
use Rattle.mcv_base.specs.declared.request.CallId.{CallId}
use Rattle.mcv_base.specs.Reply.{part_value}
use Rattle.mcv_events.specs.Events.{Moves}
use Rattle.mcv_world.specs.PossibleMoves.{IsAllowed}
use Rattle.mcv_core.specs.declared.run.Event.{Event}

-- ---- a call stays what it is

-- the call is there, and is the same but for what it has recorded
record IsSameCall (there : Option Call) (call : Call) : Type 0 where
  pub now : Call
  pub is : there ≡ Some now
  pub op : now.op ≡ call.op
  pub route : now.route ≡ call.route
  pub rest : now.rest ≡ call.rest
  pub choice : now.choice ≡ call.choice

called_put : (calls : ℕ → Option Call) (j : ℕ) (d next : Call) (k : ℕ) (call : Call) → calls j ≡ Some d → ((c : Call) → IsSameCall (Some d) c → IsSameCall (Some next) c) → IsSameCall (calls k) call → IsSameCall (put calls j (Some next) k) call
called_put calls j d next k call at keeps h =
    elim (cases_eq j k) [
      | inl q ↦
          let g = keeps call (subst (λ o. IsSameCall o call) (sym (ap calls q) ∙ at) h) in
          subst (λ o. IsSameCall o call) (sym (subst (λ i. put calls j (Some next) i ≡ Some next) q (put_same calls j (Some next)))) g
      | inr ne ↦ record { now = h.now; is = put_other calls j k (Some next) ne ∙ h.is; op = h.op; route = h.route; rest = h.rest; choice = h.choice }
    ]

replied_same : (d : Call) (p : List ℕ) (y : ReplyValue) (c : Call) → IsSameCall (Some d) c → IsSameCall (Some (with_reply d p y)) c
replied_same d p y c h =
    let e = same_some h.is in
    record { now = with_reply d p y; is = refl; op = ap (λ v. v.op) e ∙ h.op; route = ap (λ v. v.route) e ∙ h.route; rest = ap (λ v. v.rest) e ∙ h.rest; choice = ap (λ v. v.choice) e ∙ h.choice }

taken_same : (d c : Call) → IsSameCall (Some d) c → IsSameCall (Some (with_taken d)) c
taken_same d c h =
    let e = same_some h.is in
    record { now = with_taken d; is = refl; op = ap (λ v. v.op) e ∙ h.op; route = ap (λ v. v.route) e ∙ h.route; rest = ap (λ v. v.rest) e ∙ h.rest; choice = ap (λ v. v.choice) e ∙ h.choice }

recorded_called : (r : RoutesValue) (w : World) (s : Leg) (y : ReplyValue) (j : Option ℕ) (k : ℕ) (call : Call) → IsSameCall (w.calls k) call → IsSameCall ((recorded_for r w s y j).calls k) call
recorded_called r w s y None k call h = h
recorded_called r w s y (Some j) k call h = by_call (w.calls j) refl
  where
    by_call : (d : Option Call) → w.calls j ≡ d → IsSameCall ((recorded_if r w s y j d).calls k) call
    by_call None at = h
    by_call (Some d) at = by_cases (has_no_outcome s d)
      where
        by_cases : (b : Bool) → IsSameCall ((cond b (recorded_by r w j d s.launch.position y) w).calls k) call
        by_cases true = called_put w.calls j d (with_reply d s.launch.position y) k call at (λ c. replied_same d s.launch.position y c) h
        by_cases false = h

with_leg_called : (w : World) (o : Option Leg) (f : Leg → World) (k : ℕ) (call : Call) → IsSameCall (w.calls k) call → ((z : Leg) → IsSameCall ((f z).calls k) call) → IsSameCall ((with_leg w o f).calls k) call
with_leg_called w None f k call h g = h
with_leg_called w (Some z) f k call h g = g z

changed_called : (r : RoutesValue) (w : World) (m : Move) → IsWorld r w → (k : ℕ) (call : Call) → IsSameCall (w.calls k) call → IsSameCall ((changed r w m).calls k) call
changed_called r w (Began op route rest choice) i k call h =
    let low = (i.calls k h.now h.is).0 in
    let ne : w.next_call ≡ k → ⊥ = λ e. omega (arith, low, e) in
    record { now = h.now; is = put_other w.calls w.next_call k (Some (new_call w op route rest choice)) ne ∙ h.is; op = h.op; route = h.route; rest = h.rest; choice = h.choice }
changed_called r w (Answered n y) i k call h = with_leg_called w (w.legs n) _ k call h (λ z.
    let v = counted_as z.launch.op y in recorded_called r (with_leg_state w n z (answered_state z.launch.op v)) z v z.call k call h)
changed_called r w (WasSpooled n) i k call h = with_leg_called w (w.legs n) _ k call h (λ z. recorded_called r (with_leg_state w n z Spooled) z not_found z.call k call h)
changed_called r w (WasRefused n) i k call h = with_leg_called w (w.legs n) _ k call h (λ z. recorded_called r w z (fixed_value Lost) z.call k call h)
changed_called r w (WasPerformed n) i k call h = with_leg_called w (w.legs n) _ k call h (λ z. h)
changed_called r w (EraBegan since) i k call h = h
changed_called r w (Taken j) i k call h = by_call (w.calls j) refl
  where
    by_call : (d : Option Call) → w.calls j ≡ d → IsSameCall ((with_call w d (λ c. record w { calls = put w.calls j (Some (with_taken c)) })).calls k) call
    by_call None at = h
    by_call (Some d) at = called_put w.calls j d (with_taken d) k call at (λ c. taken_same d c) h

calls_stay : (r : RoutesValue) (w : World) (m : Move) → IsWorld r w → (k : ℕ) (call : Call) → IsSameCall (w.calls k) call → IsSameCall ((after r w m).calls k) call
calls_stay r w m i k call h = by_cases (is_move r w m)
  where
    by_cases : (b : Bool) → IsSameCall ((cond b (changed r w m) w).calls k) call
    by_cases true = changed_called r w m i k call h
    by_cases false = h

-- ---- the last event, or an earlier one

nothing_at : {A : Type 0} (n : ℕ) (x : A) → slice_get {X = A} [] n ≡ Some x → ⊥
nothing_at n x e = no_some e

last_or_earlier : (es : List Event) (xs : List Answer) (e x : Event) (a y : Answer) (n : ℕ) → length es ≡ length xs → slice_get (es ++ e ∷ []) n ≡ Some x → slice_get (xs ++ a ∷ []) n ≡ Some y
    → ((slice_get es n ≡ Some x) × (slice_get xs n ≡ Some y)) ⊎ ((e ≡ x) × (a ≡ y))
last_or_earlier [] [] e x a y zero same p q = inr (same_some p, same_some q)
last_or_earlier [] [] e x a y (suc n) same p q = absurd (nothing_at n x p)
last_or_earlier [] (b ∷ xs) e x a y n same p q = absurd (omega (arith, same))
last_or_earlier (d ∷ es) [] e x a y n same p q = absurd (omega (arith, same))
last_or_earlier (d ∷ es) (b ∷ xs) e x a y zero same p q = inl (p, q)
last_or_earlier (d ∷ es) (b ∷ xs) e x a y (suc n) same p q = last_or_earlier es xs e x a y n (omega (arith, same)) p q

module _ (r : RoutesValue) (chosen : SymbolValue → List ℕ → ℕ) where
  -- ---- what holds of the world after so many events

  record IsAskedCall (w : World) (k : ℕ) (request : Request) (key : ℕ) : Type 0 where
    pub call : Call
    pub there : w.calls k ≡ Some call
    pub asked : IsAsked r chosen request key call.op call.route call.rest call.choice

  record Holds (w : World) (v : CoreView) (events : List Event) (answers : List Answer) : Type 0 where
    pub is : IsWorld r w
    pub live : live_of r w ≡ world_of v.rows
    pub routes : v.routes ≡ r
    pub same : length events ≡ length answers
    pub begun : (k : ℕ) (request : Request) (key : ℕ) → WasBegun events answers k request key → IsAskedCall w k request key
    pub took : (k : ℕ) (x : ReplyValue) → WasAnswered events answers k x → HasReply r (w.calls k) x

  same_asked : (o : World) (w : World) (k : ℕ) (request : Request) (key : ℕ) → ((call : Call) → IsSameCall (o.calls k) call → IsSameCall (w.calls k) call) → IsAskedCall o k request key → IsAskedCall w k request key
  same_asked o w k request key stay h =
      let s = stay h.call (record { now = h.call; is = h.there; op = refl; route = refl; rest = refl; choice = refl }) in
      record {
        call = s.now;
        there = s.is;
        asked =
            subst (λ c. IsAsked r chosen request key s.now.op s.now.route s.now.rest c) (sym s.choice)
            (subst (λ z. IsAsked r chosen request key s.now.op s.now.route z h.call.choice) (sym s.rest)
            (subst (λ n. IsAsked r chosen request key s.now.op n h.call.rest h.call.choice) (sym s.route)
            (subst (λ p. IsAsked r chosen request key p h.call.route h.call.rest h.call.choice) (sym s.op) h.asked)));
      }

  -- one event more, of which it is known what it adds
  one_more : (o w : World) (v u : CoreView) (events : List Event) (answers : List Answer) (e : Event) (a : Answer) → Holds o v events answers → IsWorld r w → live_of r w ≡ world_of u.rows → u.routes ≡ r
      → ((k : ℕ) (call : Call) → IsSameCall (o.calls k) call → IsSameCall (w.calls k) call) → ((k : ℕ) (x : ReplyValue) → HasReply r (o.calls k) x → HasReply r (w.calls k) x)
      → ((k : ℕ) (request : Request) (key : ℕ) → beginning_of e a ≡ Some ((request, key), k) → IsAskedCall w k request key) → ((k : ℕ) (x : ReplyValue) → taking_of e a ≡ Some (k, x) → HasReply r (w.calls k) x)
      → Holds w u (events ++ e ∷ []) (answers ++ a ∷ [])
  one_more o w v u events answers e a h is live routes calls replies begins takes = record {
    is = is;
    live = live;
    routes = routes;
    same = let s = h.same in let m = length-append events (e ∷ []) in let n = length-append answers (a ∷ []) in omega (arith, s, m, n);
    begun = λ k request key g. elim (last_or_earlier events answers e g.event a g.answer g.place h.same g.event_is g.answer_is) [
      | inl old ↦ same_asked o w k request key (calls k) (h.begun k request key (record { place = g.place; event = g.event; answer = g.answer; event_is = old.0; answer_is = old.1; passes = g.passes }))
      | inr last ↦ begins k request key (subst (λ b. beginning_of e b ≡ Some ((request, key), k)) (sym last.1) (subst (λ d. beginning_of d g.answer ≡ Some ((request, key), k)) (sym last.0) g.passes))
    ];
    took = λ k x g. elim (last_or_earlier events answers e g.event a g.answer g.place h.same g.event_is g.answer_is) [
      | inl old ↦ replies k x (h.took k x (record { place = g.place; event = g.event; answer = g.answer; event_is = old.0; answer_is = old.1; passes = g.passes }))
      | inr last ↦ takes k x (subst (λ b. taking_of e b ≡ Some (k, x)) (sym last.1) (subst (λ d. taking_of d g.answer ≡ Some (k, x)) (sym last.0) g.passes))
    ];
  }

  -- ---- each step

  record IsAfter (o : World) (u : CoreView) (m : Move) : Type 0 where
    pub is : IsWorld r (after r o m)
    pub live : live_of r (after r o m) ≡ world_of u.rows
    pub routes : u.routes ≡ r

  after_move : (o : World) (v u : CoreView) (m : Move) → IsWorld r o → live_of r o ≡ world_of v.rows → v.routes ≡ r → Moved v u m → IsAfter o u m
  after_move o v u m is live routes h =
      let moves = subst (λ q. Moves q v.rows u.rows m) routes h.moves in
      let possible : IsPossible r o m = record { allowed = subst (λ q. IsAllowed q m) routes h.allowed; move = moves_are_live r o m is ∙ ap (λ z. is_move r z m) live ∙ moves.is } in
      record {
        is = moves_keep_worlds r o m is possible;
        live = forgets_safely r o m is ∙ ap (λ z. live_of r (after r z m)) live ∙ sym moves.moves;
        routes = h.routes ∙ routes;
      }

  -- an event that neither begins a call nor takes a reply
  other_step : (o : World) (v u : CoreView) (m : Option Move) (events : List Event) (answers : List Answer) (e : Event) (a : Answer) → Holds o v events answers → Does v u m → beginning_of e a ≡ None → taking_of e a ≡ None
      → Holds (run r o (with_move [] m)) u (events ++ e ∷ []) (answers ++ a ∷ [])
  other_step o v u None events answers e a h d no_call no_reply =
      one_more o o v u events answers e a h h.is (h.live ∙ sym d.world) (d.routes ∙ h.routes) (λ k call g. g) (λ k x g. g) (λ k request key g. no_some (sym no_call ∙ g)) (λ k x g. no_some (sym no_reply ∙ g))
  other_step o v u (Some m) events answers e a h d no_call no_reply =
      let n = after_move o v u m h.is h.live h.routes d in
      one_more o (after r o m) v u events answers e a h n.is n.live n.routes (calls_stay r o m h.is) (replies_stay r o m h.is) (λ k request key g. no_some (sym no_call ∙ g)) (λ k x g. no_some (sym no_reply ∙ g))

  same_step : (o : World) (v u : CoreView) (events : List Event) (answers : List Answer) (e : Event) (a : Answer) → Holds o v events answers → u.rows ≡ v.rows → u.routes ≡ v.routes → beginning_of e a ≡ None → taking_of e a ≡ None
      → Holds o u (events ++ e ∷ []) (answers ++ a ∷ [])
  same_step o v u events answers e a h rows routes no_call no_reply =
      one_more o o v u events answers e a h h.is (h.live ∙ ap world_of (sym rows)) (routes ∙ h.routes) (λ k call g. g) (λ k x g. g) (λ k request key g. no_some (sym no_call ∙ g)) (λ k x g. no_some (sym no_reply ∙ g))

  led_step : (o : World) (v u : CoreView) (m : Option Move) (events : List Event) (answers : List Answer) (e : Event) (a : Answer) → Holds o v events answers → Leads v u m → beginning_of e a ≡ None → taking_of e a ≡ None
      → Holds (run r o (with_move [] m)) u (events ++ e ∷ []) (answers ++ a ∷ [])
  led_step o v u m events answers e a h (stays rows routes) no_call no_reply = same_step o v u events answers e a h rows routes no_call no_reply
  led_step o v u m events answers e a h (goes n d) no_call no_reply = other_step o v u n events answers e a h d no_call no_reply

  -- the call that began has the next number
  begin_step : (o : World) (v u : CoreView) (events : List Event) (answers : List Answer) (request : Arc Request Global) (key : ℕ) (call : CallId) (move : Option Move) (b : Begins v chosen (arc_value request) key call move u) → Holds o v events answers
      → Holds (after r o (Began b.op b.route b.rest b.choice)) u (events ++ event.Begin request key ∷ []) (answers ++ answer.Call call ∷ [])
  begin_step o v u events answers request key call move b h =
      let m = Began b.op b.route b.rest b.choice in
      let n = after_move o v u m h.is h.live h.routes b.does in
      let next : call.0 ≡ o.next_call = b.number ∙ ap (λ z. z.next_call) (sym h.live) in
      let c = new_call o b.op b.route b.rest b.choice in
      let there : put o.calls o.next_call (Some c) call.0 ≡ Some c = subst (λ i. put o.calls o.next_call (Some c) i ≡ Some c) (sym next) (put_same o.calls o.next_call (Some c)) in
      one_more o (after r o m) v u events answers (event.Begin request key) (answer.Call call) h n.is n.live n.routes (calls_stay r o m h.is) (replies_stay r o m h.is)
      (λ k asks place g. let e = same_some g in
      let same : call.0 ≡ k = ap (λ z. z.1) e in
      record {
        call = c;
        there = subst (λ i. put o.calls o.next_call (Some c) i ≡ Some c) same there;
        asked = subst (λ q. IsAsked r chosen q place b.op b.route b.rest b.choice) (ap (λ z. z.0.0) e) (subst (λ q. IsAsked r chosen (arc_value request) q b.op b.route b.rest b.choice) (ap (λ z. z.0.1) e)
            (subst (λ q. IsAsked q chosen (arc_value request) key b.op b.route b.rest b.choice) h.routes b.asked));
      })
      (λ k x g. no_some g)

  live_reply : (o : Option Call) (x : ReplyValue) → option_and_then (reply_of r) (running r o) ≡ Some x → HasReply r o x
  live_reply None x e = no_some e
  live_reply (Some c) x e = by_cases (has_ended r c) e
    where
      by_cases : (b : Bool) → option_and_then (reply_of r) (cond b None (Some c)) ≡ Some x → HasReply r (Some c) x
      by_cases true f = no_some f
      by_cases false f = record { call = c; is = refl; reply = f }

  take_step : (o : World) (v u : CoreView) (events : List Event) (answers : List Answer) (call : CallId) (part : Part) → Holds o v events answers → Moved v u (Taken call.0)
      → option_and_then (reply_of v.routes) ((world_of v.rows).calls call.0) ≡ Some (part_value part) → Holds (after r o (Taken call.0)) u (events ++ event.Take call ∷ []) (answers ++ answer.Reply (Some part) ∷ [])
  take_step o v u events answers call part h moves reply =
      let m = Taken call.0 in
      let n = after_move o v u m h.is h.live h.routes moves in
      let mine = subst (λ q. option_and_then (reply_of q) ((world_of v.rows).calls call.0) ≡ Some (part_value part)) h.routes reply in
      let had = live_reply (o.calls call.0) (part_value part) (ap (λ z. option_and_then (reply_of r) (z.calls call.0)) h.live ∙ mine) in
      let has = replies_stay r o m h.is call.0 (part_value part) had in
      one_more o (after r o m) v u events answers (event.Take call) (answer.Reply (Some part)) h n.is n.live n.routes (calls_stay r o m h.is) (replies_stay r o m h.is)
      (λ k request key g. no_some g)
      (λ k x g. let e = same_some g in
      subst (λ i. HasReply r ((after r o m).calls i) x) (ap (λ z. z.0) e) (subst (λ y. HasReply r ((after r o m).calls call.0) y) (ap (λ z. z.1) e) has))

  step_holds : (o : World) (v u : CoreView) (events : List Event) (answers : List Answer) (e : Event) (a : Answer) (m : Option Move) → Holds o v events answers → Step chosen v e a m u
      → Holds (run r o (with_move [] m)) u (events ++ e ∷ []) (answers ++ a ∷ [])
  step_holds o v u events answers e a m h (begun request key (Ok call) n z b) =
      subst (λ k. Holds (run r o (with_move [] k)) z (events ++ event.Begin request key ∷ []) (answers ++ answer.Call call ∷ [])) (sym b.move) (begin_step o v z events answers request key call n b h)
  step_holds o v u events answers e a m h (begun request key (Err fault) n z b) = led_step o v z n events answers (event.Begin request key) (answer.Refused fault) h (begun_leads v chosen (arc_value request) key (Err fault) n z b) refl refl
  step_holds o v u events answers e a m h (sent server x n z d) = led_step o v z n events answers (event.Next server) (leg_answer x) h (next_leads v server x n z d) refl refl
  step_holds o v u events answers e a m h (replayed server x n z d) = led_step o v z n events answers (event.Replay server) (leg_answer x) h (replay_leads v server x n z d) refl refl
  step_holds o v u events answers e a m h (answered leg reply x n z d) = led_step o v z n events answers (event.Answered leg reply) (state_answer x) h (leg_leads _ leg _ v x n z d) refl refl
  step_holds o v u events answers e a m h (lost leg x n z d) = led_step o v z n events answers (event.Lost leg) (state_answer x) h (leg_leads _ leg _ v x n z d) refl refl
  step_holds o v u events answers e a m h (lost_too leg x n z d) = led_step o v z n events answers (event.LostToo leg) (state_answer x) h (leg_leads _ leg _ v x n z d) refl refl
  step_holds o v u events answers e a m h (spooled leg stored x n z d) = led_step o v z n events answers (event.Spooled leg stored) (state_answer x) h (leg_leads _ leg _ v x n z d) refl refl
  step_holds o v u events answers e a m h (refused leg x n z d) = led_step o v z n events answers (event.SpoolRefused leg) (state_answer x) h (leg_leads _ leg _ v x n z d) refl refl
  step_holds o v u events answers e a m h (marked server n z d) = led_step o v z n events answers (event.Mark server) answer.Done h (step_leads chosen v z (event.Mark server) answer.Done n (marked server n z d)) refl refl
  step_holds o v u events answers e a m h (unmarked server n z d) = led_step o v z n events answers (event.Unmark server) answer.Done h (step_leads chosen v z (event.Unmark server) answer.Done n (unmarked server n z d)) refl refl
  step_holds o v u events answers e a m h (clocked moment x n z d) = led_step o v z n events answers (event.Clock moment) (done_answer x) h (clock_leads v moment x n z d) refl refl
  step_holds o v u events answers e a m h (turned x n z d) = led_step o v z n events answers event.Turn (done_answer x) h (turn_leads v x n z d) refl refl
  step_holds o v u events answers e a m h (taken call (Ok (Some part)) n z d) =
      subst (λ k. Holds (run r o (with_move [] k)) z (events ++ event.Take call ∷ []) (answers ++ answer.Reply (Some part) ∷ [])) (sym d.move) (take_step o v z events answers call part h d.does d.reply)
  step_holds o v u events answers e a m h (taken call (Ok None) n z d) = led_step o v z n events answers (event.Take call) (answer.Reply None) h (take_leads v call (Ok None) n z d) refl refl
  step_holds o v u events answers e a m h (taken call (Err fault) n z d) = led_step o v z n events answers (event.Take call) (answer.Refused fault) h (take_leads v call (Err fault) n z d) refl refl

  -- ---- all steps

  run_append : (w : World) (ms ns : List Move) → run r (run r w ms) ns ≡ run r w (ms ++ ns)
  run_append w [] ns = refl
  run_append w (m ∷ ms) ns = run_append (after r w m) ms ns

  run_more : (w : World) (ms : List Move) (m : Option Move) → run r (run r w ms) (with_move [] m) ≡ run r w (with_move ms m)
  run_more w ms None = refl
  run_more w ms (Some m) = run_append w ms (m ∷ [])

  steps_hold : (start u : CoreView) (o : World) (events : List Event) (answers : List Answer) (ms : List Move) → Holds o start [] [] → Steps chosen start events answers ms u → Holds (run r o ms) u events answers
  steps_hold start u o events answers ms h none = h
  steps_hold start u o events answers ms h (more es xs ns v e a m z before step) =
      subst (λ w. Holds w u events answers) (run_more o ns m) (step_holds (run r o ns) v u es xs e a m (steps_hold start v o es xs ns h before) step)

  opened_holds : (start : CoreView) (o : World) → IsWorld r o → live_of r o ≡ world_of start.rows → start.routes ≡ r → Holds o start [] []
  opened_holds start o is live routes = record {
    is = is;
    live = live;
    routes = routes;
    same = refl;
    begun = λ k request key g. absurd (nothing_at g.place g.event g.event_is);
    took = λ k x g. absurd (nothing_at g.place g.event g.event_is);
  }

  pub answered_calls_are_kept : (start u : CoreView) (o : World) (events : List Event) (answers : List Answer) (ms : List Move) → AreCovered r → IsWorld r o → live_of r o ≡ world_of start.rows → start.routes ≡ r → Steps chosen start events answers ms u
      → AnsweredCallsAreKept r chosen events answers (run r o ms)
  answered_calls_are_kept start u o events answers ms covered is live routes steps k request key x began took =
      let h = steps_hold start u o events answers ms (opened_holds start o is live routes) steps in
      let b = h.begun k request key began in
      let t = h.took k x took in
      let same : t.call ≡ b.call = same_some (sym t.is ∙ b.there) in
      let reply : reply_of r b.call ≡ Some x = ap (reply_of r) (sym same) ∙ t.reply in
      let kept = covered_worlds_are_kept r (run r o ms) covered h.is in
      record { call = b.call; there = b.there; asked = b.asked; reply = reply; kept = λ delete fine server readable. kept k b.call x b.there delete reply fine server readable }
