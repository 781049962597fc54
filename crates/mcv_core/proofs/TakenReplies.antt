-- A call's reply is taken.
use Rattle.std.proofs.Common.{◌≡◌, ◌&&◌, ◌||◌, not, cond, inl, inr, ℕ, suc, ◌+◌, ◌-◌, ◌<◌, ◌≤◌, Bool, true, false, nat_eq, List, [], ◌∷◌, fold, length, map, Option, Some, None, Ok, Err, option_map, refl, sym, ap, ◌∙◌, subst, arith, true≢false}
use Rattle.std.specs.Arc.{arc_value}
use Rattle.std.specs.Prelude.{IsSome, filter, is_some, option_and_then}
use Rattle.std.proofs.Math.Logic.{∥∥₁_elim}
use Rattle.std.proofs.Math.Path.{fun_ext}
use Rattle.std.proofs.Props.{props}
use Rattle.std.proofs.lemmas.Bool.{cases_Bool, cases_eq, cases_lt}
use Rattle.mcv_base.specs.declared.operation.Op.{Op}
use Rattle.mcv_base.specs.declared.reply.Part.{Part}
use Rattle.mcv_base.specs.declared.request.CallId.{CallId}
use Rattle.mcv_base.specs.Reply.{fixed_value, outcome_of, part_value}
use Rattle.mcv_plan.specs.declared.answer.Answer.{Answer}
use Rattle.mcv_plan.specs.declared.answer.Source.{Source}
use Rattle.mcv_plan.specs.declared.answer.Source.TheVariants.{Entry, Fixed}
use Rattle.mcv_plan.specs.Evaluation.{shape}
use Rattle.mcv_plan.specs.Laws.{IsReply, IsSource}
use Rattle.mcv_plan.specs.PastOutcomes.{own_of}
use Rattle.mcv_plan.specs.ReachedAnswers.{answer_of}
use Rattle.mcv_plan.specs.State.{answered}
use Rattle.mcv_queues.specs.declared.leg.Leg.{Leg}
use Rattle.mcv_queues.specs.declared.leg.State.{State}
use Rattle.mcv_queues.specs.Queues.{legs, room, servers}
use Rattle.mcv_route.specs.declared.launch.Launch.{Launch}
use Rattle.mcv_route.specs.Outcomes.{outcomes}
use Rattle.mcv_route.specs.Replies as definition
use Rattle.mcv_route.specs.Reply as one_reply
use Rattle.mcv_route.specs.Routes.{RoutesValue}
use Rattle.mcv_route.specs.Verdict.{Has}
use Rattle.mcv_rules.specs.Laws.{IsOneOf, outcome_at}
use Rattle.mcv_rules.specs.Status.{default_reply}
use Rattle.mcv_rules.proofs.OneReply.{reply_is_one_of}
use Rattle.mcv_rules.proofs.AnswersAreTrue.{answers_are_true}
use Rattle.mcv_world.specs.World as world
use Rattle.mcv_world.specs.World.{put, tree_of, situation_of, choice_of, history_of, is_settled, reply_at, reply_from, reply_of}
use Rattle.mcv_world.specs.LiveWorld.{has_ended}
use Rattle.mcv_world.specs.Moves.{Taken, can_be_taken, has_no_outcome, is_move, is_one, with_taken}
use Rattle.mcv_world.proofs.Numbers.{no_some, put_cases, put_other, put_same, same_some}
use Rattle.mcv_events.specs.Entries.{is_launched}
use Rattle.mcv_events.specs.Rows as rows
use Rattle.mcv_events.specs.Rows.{CallRow, IsCallRow, IsCore, LegRow, Rows, awaits, leg_of, world_of}
use Rattle.mcv_events.specs.Events.{Moves, taken_rows}
use Rattle.mcv_events.specs.Reservations.{unlaunched_of}
use Rattle.mcv_events.specs.Sums.{sum_below}
use Rattle.mcv_events.proofs.Entries.{settled_by_entries}
use Rattle.mcv_events.proofs.EventsAreMoves.{taken_moves}
use Rattle.mcv_events.proofs.Sums.{sum_put}
use Rattle.mcv_core.specs.declared.call.Call.{Call}
use Rattle.mcv_core.specs.declared.call.Recorded.{Recorded}
use Rattle.mcv_core.specs.declared.calls.Calls.{Calls}
use Rattle.mcv_core.specs.declared.counts.Counts.{Counts}
use Rattle.mcv_core.specs.declared.dispatcher.Dispatcher.{Dispatcher}
use Rattle.mcv_core.specs.declared.errand.Errand.{Errand}
use Rattle.mcv_core.specs.declared.fault.CoreFault.TheVariants.{NoSuchCall}
use Rattle.mcv_core.specs.declared.take.Taking.{Taking}
use Rattle.mcv_core.specs.Calls.{calls_at}
use Rattle.mcv_core.specs.CoreView.{Moved, taken_row as taken_row_of, taken_view}
use Rattle.mcv_core.specs.Events.{IsEvent, IsTaken}
use Rattle.mcv_core.specs.Launching.{places_of}
use Rattle.mcv_core.specs.Recordings.{has_ended_by}
use Rattle.mcv_core.specs.Rows.{all_rows, awaiting_state, call_of, call_row, call_rows, entries_of, has_outcome, past_next, past_of, recorded_next, rows_by, rows_of, state_of, taken_at, IsRunning}
use Rattle.mcv_core.specs.Soundness.{one, IsSound}
use Rattle.mcv_core.specs.Taking.{HasTaken, IsTakenAt, kept_of, source_reply}
use Rattle.mcv_core.specs.CallProgress.{IsTracked, Past, history_by, launch_at}
use Rattle.mcv_core.specs.View.{core_view, since_of}
use Rattle.mcv_core.proofs.EntryCounts.{all_by_count, count, count_both}
use Rattle.mcv_core.proofs.Recordings.{history_is}
use Rattle.mcv_core.proofs.SettledLegs.{removed}
use Rattle.mcv_core.proofs.Settlements.{call_put, cond_some}
use Rattle.mcv_core.proofs.StateFollowsOutcomes.{there_at}

-- ---- what is recorded depends on what is kept

recorded_kept : (es : List Launch) (xs ys : List Recorded) (all : List world.Recorded) → map kept_of xs ≡ map kept_of ys → fold (recorded_next es) all xs ≡ fold (recorded_next es) all ys
recorded_kept es xs ys all e = by_kept xs all ∙ ap (fold (λ a k. record { position = (launch_at es k.0).position; reply = part_value k.1 } ∷ a) all) e ∙ sym (by_kept ys all)
  where
    by_kept : (zs : List Recorded) (a : List world.Recorded) → fold (recorded_next es) a zs ≡ fold (λ b k. record { position = (launch_at es k.0).position; reply = part_value k.1 } ∷ b) a (map kept_of zs)
    by_kept [] a = refl
    by_kept (z ∷ zs) a = by_kept zs (recorded_next es a z)

past_kept : (xs ys : List Recorded) (past : Past) → map kept_of xs ≡ map kept_of ys → fold past_next past xs ≡ fold past_next past ys
past_kept xs ys past e = by_kept xs past ∙ ap (fold (λ a k. (k.0, outcome_of (part_value k.1)) ∷ a) past) e ∙ sym (by_kept ys past)
  where
    by_kept : (zs : List Recorded) (a : Past) → fold past_next a zs ≡ fold (λ b k. (k.0, outcome_of (part_value k.1)) ∷ b) a (map kept_of zs)
    by_kept [] a = refl
    by_kept (z ∷ zs) a = by_kept zs (past_next a z)

map_length : (xs : List Recorded) → length (map kept_of xs) ≡ length xs
map_length [] = refl
map_length (x ∷ xs) = ap suc (map_length xs)

-- ---- the reply of a running call

module _ (r : RoutesValue) (k : ℕ) (c : Call) (run : IsRunning r k c) (untaken : c.taken ≡ false) where
  abbrev es : List Launch
  es = entries_of c

  some_place : (e : ℕ) (o : Option ℕ) → places_of c.entries.items e ≡ o → is_some o ≡ true → e < length (entries_of c)
      → option_and_then (taken_at c.recorded.items) o ≡ reply_at (call_of c).recorded (launch_at (entries_of c) e).position
  some_place e None at h low = absurd (true≢false (sym h))
  some_place e (Some j) at h low = run.replies e j at untaken

  has_place : (e : ℕ) → e < length (entries_of c) → is_some (outcomes (history_of (call_of c).recorded) (launch_at (entries_of c) e).position) ≡ true
      → source_reply c (Entry e) ≡ reply_at (call_of c).recorded (launch_at (entries_of c) e).position
  has_place e low h = some_place e (places_of c.entries.items e) refl (run.placed e (launch_at (entries_of c) e) (there_at (entries_of c) e low) ∙ h) low

  by_source : (op : Op) → op ≡ c.op → (a : Source) (b : definition.Source) → IsSource (entries_of c) op a b → ((p : List ℕ) → b ≡ definition.leg p → is_some (outcomes (history_of (call_of c).recorded) p) ≡ true)
      → source_reply c a ≡ reply_from (call_of c) b
  by_source op op_is (Entry e) (definition.leg p) h heard =
      has_place e h.0 (ap (λ v. is_some (outcomes (history_of (call_of c).recorded) v)) h.1 ∙ heard p refl) ∙ ap (reply_at (call_of c).recorded) h.1
  by_source op op_is (Entry e) definition.fixed h heard = absurd h
  by_source op op_is (Entry e) definition.refusal h heard = absurd h
  by_source op op_is (Fixed f) (definition.leg p) h heard = absurd h
  by_source op op_is (Fixed f) definition.fixed h heard = ap (λ v. Some (fixed_value v)) (h ∙ ap default_reply op_is)
  by_source op op_is (Fixed f) definition.refusal h heard = ap (λ v. Some (fixed_value v)) h

  by_answer : (a : Option Answer) (b : Option definition.Answer) → IsReply (entries_of c) c.op a b → ((x : definition.Answer) (p : List ℕ) → b ≡ Some x → x.source ≡ definition.leg p → is_some (outcomes (history_of (call_of c).recorded) p) ≡ true)
      → option_and_then (λ v. source_reply c v.source) a ≡ option_and_then (λ v. reply_from (call_of c) v.source) b
  by_answer None None h heard = refl
  by_answer None (Some b) h heard = absurd h
  by_answer (Some a) None h heard = absurd h
  by_answer (Some a) (Some b) h heard = by_source c.op refl a.source b.source h.1 (λ p e. heard b p refl e)

  -- a leg that replies for the call has its outcome
  leg_heard : (x : definition.Answer) (p : List ℕ) → one_reply.reply (tree_of r c.route) (situation_of (call_of c)) (history_of (call_of c).recorded) ≡ Some x → x.source ≡ definition.leg p
      → is_some (outcomes (history_of (call_of c).recorded) p) ≡ true
  leg_heard x p is from =
      let among : Has (definition.replies (tree_of r c.route) (situation_of (call_of c)) (outcomes (history_of (call_of c).recorded))) (λ b. b ≡ x) =
      subst (λ v. IsOneOf v (definition.replies (tree_of r c.route) (situation_of (call_of c)) (outcomes (history_of (call_of c).recorded)))) is (reply_is_one_of (tree_of r c.route) (situation_of (call_of c)) (history_of (call_of c).recorded)) in
      ap is_some (ap (outcome_at (outcomes (history_of (call_of c).recorded))) (sym from) ∙ answers_are_true (tree_of r c.route) (situation_of (call_of c)) (outcomes (history_of (call_of c).recorded)) x among)

  -- the state names the call's reply
  pub reply_is : option_and_then (λ a. source_reply c a.source) c.state.reply ≡ reply_of r (call_of c)
  reply_is =
      ∥∥₁_elim run.tracked (Prim.hlevel props) (λ at.
      let history : history_by (entries_of c) (past_of c.recorded.items) ≡ history_of (call_of c).recorded = sym (history_is (entries_of c) c.recorded.items) in
      let replies = at.evaluates.replies (past_of c.recorded.items) at.legal in
      by_answer c.state.reply (one_reply.reply (tree_of r c.route) (situation_of (call_of c)) (history_of (call_of c).recorded))
      (subst (λ v. IsReply (entries_of c) c.op v (one_reply.reply (tree_of r c.route) (situation_of (call_of c)) (history_of (call_of c).recorded))) (sym at.after.reply)
      (subst (λ v. IsReply (entries_of c) c.op (answer_of (answered (own_of (past_of c.recorded.items)) (shape c.state))) (one_reply.reply (tree_of r c.route) (situation_of (call_of c)) v)) history replies))
      leg_heard)

-- ---- the call after that

module _ (r : RoutesValue) (k : ℕ) (c : Call) (run : IsRunning r k c) (d : Call) (part : Option Part) (took : HasTaken c d part) where
  abbrev whole : Call
  whole = record c { recorded = d.recorded; taken = d.taken }

  recorded_same : (call_of whole).recorded ≡ (call_of c).recorded
  recorded_same = recorded_kept (entries_of c) d.recorded.items c.recorded.items [] took.kept.items

  pub taken_call : call_of d ≡ record (call_of c) { taken = d.taken }
  taken_call = ap call_of took.same ∙ ap (λ v. record (call_of c) { recorded = v; taken = d.taken }) recorded_same

  pub taken_row : call_row d ≡ record { call = record (call_of c) { taken = d.taken }; request = (call_row c).request; entries = entries_of c; legs = (call_row c).legs }
  taken_row = ap call_row took.same ∙ ap (λ v. record { call = record (call_of c) { recorded = v; taken = d.taken }; request = (call_row c).request; entries = entries_of c; legs = (call_row c).legs }) recorded_same

  pub left_is : d.left ≡ c.left
  left_is = ap (λ v. v.left) took.same

  some_running : (p : Part) → part ≡ Some p → IsRunning r k d
  some_running p is =
      let now : d.taken ≡ true = took.taken_is ∙ ap (λ o. c.taken || is_some o) is ∙ or_true c.taken in
      let longs : length d.recorded.items ≡ length c.recorded.items = sym (map_length d.recorded.items) ∙ ap length took.kept.items ∙ map_length c.recorded.items in
      let history : history_of (call_of whole).recorded ≡ history_of (call_of c).recorded = ap history_of recorded_same in
      subst (IsRunning r k) (sym took.same)
      (record {
        tracked = subst (λ v. IsTracked (tree_of r c.route) (situation_of (call_of c)) (choice_of (call_of c)) (entries_of c) v c.state) (sym (past_kept d.recorded.items c.recorded.items [] took.kept.items)) run.tracked;
        counted = run.counted;
        len = run.len;
        ready = run.ready;
        placed = λ e l at. run.placed e l at ∙ ap (λ h. is_some (outcomes h l.position)) (sym history);
        replies = λ e j at untaken. absurd (true≢false (sym now ∙ untaken));
        within = λ e j at. let low = run.within e j at in omega (arith, low, longs);
        left = run.left ∙ ap (λ v. length (filter (λ l. not (is_launched r (record (call_of c) { recorded = v; taken = d.taken }) l)) (entries_of c))) (sym recorded_same);
        recorded = longs ∙ run.recorded ∙ ap (λ h. length (filter (λ l. is_some (outcomes h l.position)) (entries_of c))) (sym history);
        room = let a = run.room in let b = took.kept.capacity in omega (arith, a, b);
        known = run.known;
      })
    where
      or_true : (b : Bool) → (b || true) ≡ true
      or_true true = refl
      or_true false = refl

  pub taken_running : IsRunning r k d
  taken_running = by_part part refl
    where
      by_part : (o : Option Part) → part ≡ o → IsRunning r k d
      by_part None is = subst (IsRunning r k) (sym (took.none is)) run
      by_part (Some p) is = some_running p is

-- whether a call whose reply was taken has ended, by counts
module _ (r : RoutesValue) (k : ℕ) (c : Call) (run : IsRunning r k c) (row : IsCallRow r (call_row c)) where
  some_value : {A : Type 0} (o : Option A) → is_some o ≡ true → (y : A) × (o ≡ Some y)
  some_value None e = absurd (true≢false (sym e))
  some_value (Some y) e = (y, refl)

  closed : (m : Launch) → has_outcome (call_of c) m ≡ true → is_launched r (call_of c) m ≡ true
  closed m t = let y = some_value (outcomes (history_of (call_of c).recorded) m.position) t in row.closed m.position y.0 y.1

  pub settled_is : is_settled r (call_of c) ≡ nat_eq (length c.recorded.items) (length c.entries.items - c.left)
  settled_is =
      let both = count_both (is_launched r (call_of c)) (entries_of c) in
      let len = run.len in
      let left = run.left in
      let launched : length c.entries.items - c.left ≡ count (is_launched r (call_of c)) (entries_of c) = omega (arith, both, len, left) in
      settled_by_entries r (call_of c) (entries_of c) row.laid
      ∙ all_by_count (has_outcome (call_of c)) (is_launched r (call_of c)) (entries_of c) closed
      ∙ ap (λ n. nat_eq n (count (is_launched r (call_of c)) (entries_of c))) (sym run.recorded) ∙ ap (nat_eq (length c.recorded.items)) (sym launched)

  pub ended_is : (d : Call) (part : Option Part) → HasTaken c d part → has_ended_by d ≡ has_ended r (call_of d)
  ended_is d part took =
      let longs : length d.recorded.items ≡ length c.recorded.items = sym (map_length d.recorded.items) ∙ ap length took.kept.items ∙ map_length c.recorded.items in
      ap has_ended_by took.same ∙ ap (λ n. d.taken && nat_eq n (length c.entries.items - c.left)) longs ∙ ap (λ b. d.taken && b) (sym settled_is) ∙ sym (ap (has_ended r) (taken_call r k c run d part took))

-- ---- the dispatcher after that

module _ (d : Dispatcher) (k : ℕ) (c : Call) (there : calls_at d.calls k ≡ Some c) where
  abbrev r : RoutesValue
  r = arc_value d.accepted

  row_there : call_rows (calls_at d.calls) k ≡ Some (call_row c)
  row_there = ap (option_map call_row) there

  run : IsRunning r k c
  run = d.sound.calls_run k c there

  row : IsCallRow r (call_row c)
  row = d.sound.core.call k (call_row c) row_there

  k_below : k < d.next_call
  k_below = elim (cases_lt k d.next_call) [ inl low ↦ low | inr high ↦ no_some (sym (d.sound.core.calls_below k high) ∙ row_there) ]

  pub left_reserved : c.left ≤ d.counts.reserved
  left_reserved =
      let p = sum_put (unlaunched_of r) (call_rows (calls_at d.calls)) k None d.next_call k_below in
      let old : unlaunched_of r (call_rows (calls_at d.calls) k) ≡ c.left = ap (unlaunched_of r) row_there ∙ sym run.left in
      let a = d.sound.reserved_is in
      omega (arith, p, old, a)

  pub one_runs : 1 ≤ d.counts.running
  one_runs =
      let p = sum_put one (call_rows (calls_at d.calls)) k None d.next_call k_below in
      let old : one (call_rows (calls_at d.calls) k) ≡ 1 = ap one row_there in
      let a = d.sound.running_is in
      omega (arith, p, old, a)

  module _ (c2 : Call) (part : Option Part) (took : HasTaken c c2 part) where
    pub reply : option_map part_value part ≡ cond c.taken None (reply_of r (call_of c))
    reply =
        took.value ∙ elim (cases_Bool c.taken) [
          | inl t ↦ ap (λ b. cond b None (option_and_then (λ a. source_reply c a.source) c.state.reply)) t ∙ sym (ap (λ b. cond b None (reply_of r (call_of c))) t)
          | inr f ↦ ap (λ b. cond b None (option_and_then (λ a. source_reply c a.source) c.state.reply)) f ∙ reply_is r k c run f ∙ sym (ap (λ b. cond b None (reply_of r (call_of c))) f)
        ]

    pub untaken : (p : Part) → part ≡ Some p → c.taken ≡ false
    untaken p is = elim (cases_Bool c.taken) [
      | inl t ↦ no_some (sym (sym (ap (option_map part_value) is) ∙ reply ∙ ap (λ b. cond b None (reply_of r (call_of c))) t))
      | inr f ↦ f
    ]

    pub replied : (p : Part) → part ≡ Some p → reply_of r (call_of c) ≡ Some (part_value p)
    replied p is = sym (sym (ap (option_map part_value) is) ∙ reply ∙ ap (λ b. cond b None (reply_of r (call_of c))) (untaken p is))

    ended : has_ended_by c2 ≡ has_ended r (call_of c2)
    ended = ended_is r k c run row c2 part took

    module _ (p : Part) (is : part ≡ Some p) (calls3 : Calls) (calls3_is : calls_at calls3 ≡ put (calls_at d.calls) k (cond (has_ended_by c2) None (Some c2))) where
      now : c2.taken ≡ true
      now = took.taken_is ∙ ap (λ o. c.taken || is_some o) is ∙ or_true c.taken
        where
          or_true : (b : Bool) → (b || true) ≡ true
          or_true true = refl
          or_true false = refl

      call_is : call_of c2 ≡ with_taken (call_of c)
      call_is = taken_call r k c run c2 part took ∙ ap (λ v. record (call_of c) { taken = v }) now

      row_is : call_row c2 ≡ record (call_row c) { call = with_taken (call_of c) }
      row_is = taken_row r k c run c2 part took ∙ ap (λ v. record (call_row c) { call = record (call_of c) { taken = v } }) now

      calls_are : call_rows (calls_at calls3) ≡ put (call_rows (calls_at d.calls)) k (cond (has_ended r (with_taken (call_of c))) None (Some (record (call_row c) { call = with_taken (call_of c) })))
      calls_are =
          ap call_rows calls3_is ∙ call_put (calls_at d.calls) k (cond (has_ended_by c2) None (Some c2))
          ∙ ap (put (call_rows (calls_at d.calls)) k) (cond_some (has_ended_by c2) (has_ended r (with_taken (call_of c))) c2 (record (call_row c) { call = with_taken (call_of c) }) (ended ∙ ap (has_ended r) call_is) row_is)

      pub rows_are : (f : State → rows.State) → all_rows f (calls_at calls3) (legs d.queues) (since_of d) d.next_call d.next_leg ≡ taken_rows r (all_rows f (calls_at d.calls) (legs d.queues) (since_of d) d.next_call d.next_leg) k (call_row c)
      rows_are f = λ j. record { calls = calls_are j; legs = rows_by f (legs d.queues); since = since_of d; next_call = d.next_call; next_leg = d.next_leg }

      some_reply : is_some (reply_of r (call_of c)) ≡ true
      some_reply = ap is_some (replied p is)

      pub is_move_of : (f : State → rows.State) → IsCore r (all_rows f (calls_at d.calls) (legs d.queues) (since_of d) d.next_call d.next_leg)
          → Moves r (all_rows f (calls_at d.calls) (legs d.queues) (since_of d) d.next_call d.next_leg) (all_rows f (calls_at calls3) (legs d.queues) (since_of d) d.next_call d.next_leg) (Taken k)
      is_move_of f core =
          subst (λ v. Moves r (all_rows f (calls_at d.calls) (legs d.queues) (since_of d) d.next_call d.next_leg) v (Taken k)) (sym (rows_are f))
          (taken_moves r (all_rows f (calls_at d.calls) (legs d.queues) (since_of d) d.next_call d.next_leg) k (call_row c) core row_there (untaken p is) some_reply)

      awaited_less : (s : LegRow) (j : Option ℕ) → awaits (call_rows (calls_at d.calls)) s j ≡ false → awaits (call_rows (calls_at calls3)) s j ≡ false
      awaited_less s None e = refl
      awaited_less s (Some j) e =
          elim (cases_eq k j) [
            | inl q ↦
                let was : has_no_outcome (leg_of s) (call_of c) ≡ false = sym (ap (λ v. is_one v (λ z. has_no_outcome (leg_of s) z.call)) (ap (call_rows (calls_at d.calls)) (sym q) ∙ row_there)) ∙ e in
                ap (λ v. is_one (call_rows (calls_at calls3) v) (λ z. has_no_outcome (leg_of s) z.call)) (sym q)
                ∙ ap (λ v. is_one v (λ z. has_no_outcome (leg_of s) z.call)) (ap (λ g. g k) calls_are ∙ put_same (call_rows (calls_at d.calls)) k _) ∙ by_end (has_ended r (with_taken (call_of c))) was
            | inr ne ↦ ap (λ v. is_one v (λ z. has_no_outcome (leg_of s) z.call)) (ap (λ g. g j) calls_are ∙ put_other (call_rows (calls_at d.calls)) k j _ ne) ∙ e
          ]
        where
          by_end : (b : Bool) → has_no_outcome (leg_of s) (call_of c) ≡ false → is_one (cond b None (Some (record (call_row c) { call = with_taken (call_of c) }))) (λ z. has_no_outcome (leg_of s) z.call) ≡ false
          by_end true was = refl
          by_end false was = was

      running_on : (j : ℕ) (z : Call) → calls_at calls3 j ≡ Some z → IsRunning r j z
      running_on j z f =
          elim (put_cases (calls_at d.calls) k j (cond (has_ended_by c2) None (Some c2)) z (sym (ap (λ g. g j) calls3_is) ∙ f)) [
            | inl q ↦ subst (λ v. IsRunning r v z) q.0 (subst (IsRunning r k) (some_of (has_ended_by c2) q.1) (taken_running r k c run c2 part took))
            | inr q ↦ d.sound.calls_run j z q.1
          ]
        where
          some_of : (b : Bool) → cond b None (Some c2) ≡ Some z → c2 ≡ z
          some_of true e = no_some e
          some_of false e = same_some e

      rows3 : call_rows (calls_at calls3) ≡ put (call_rows (calls_at d.calls)) k (option_map call_row (cond (has_ended_by c2) None (Some c2)))
      rows3 = ap call_rows calls3_is ∙ call_put (calls_at d.calls) k (cond (has_ended_by c2) None (Some c2))

      pub sound_taken : (counts : Counts) → counts.queued ≡ d.counts.queued → counts.spooled ≡ d.counts.spooled → counts.reserved + cond (has_ended_by c2) c2.left 0 ≡ d.counts.reserved
          → counts.running + cond (has_ended_by c2) 1 0 ≡ d.counts.running
          → IsSound r (calls_at calls3) (legs d.queues) (since_of d) d.moment.0 d.next_call d.next_leg counts.reserved counts.queued counts.spooled counts.running (room d.queues) (servers d.queues)
      sound_taken counts queued spooled reserved running =
          let weigh = unlaunched_of r in
          let p1 = sum_put weigh (call_rows (calls_at d.calls)) k (option_map call_row (cond (has_ended_by c2) None (Some c2))) d.next_call k_below in
          let old1 : weigh (call_rows (calls_at d.calls) k) ≡ c.left = ap weigh row_there ∙ sym run.left in
          let new1 : weigh (option_map call_row (cond (has_ended_by c2) None (Some c2))) + cond (has_ended_by c2) c2.left 0 ≡ c2.left = by_left (has_ended_by c2) in
          let same1 : sum_below weigh (call_rows (calls_at calls3)) d.next_call ≡ sum_below weigh (put (call_rows (calls_at d.calls)) k (option_map call_row (cond (has_ended_by c2) None (Some c2)))) d.next_call = ap (λ g. sum_below weigh g d.next_call) rows3 in
          let a1 = d.sound.reserved_is in
          let lefts = left_is r k c run c2 part took in
          let p2 = sum_put one (call_rows (calls_at d.calls)) k (option_map call_row (cond (has_ended_by c2) None (Some c2))) d.next_call k_below in
          let old2 : one (call_rows (calls_at d.calls) k) ≡ 1 = ap one row_there in
          let new2 : one (option_map call_row (cond (has_ended_by c2) None (Some c2))) + cond (has_ended_by c2) 1 0 ≡ 1 = by_one (has_ended_by c2) in
          let same2 : sum_below one (call_rows (calls_at calls3)) d.next_call ≡ sum_below one (put (call_rows (calls_at d.calls)) k (option_map call_row (cond (has_ended_by c2) None (Some c2)))) d.next_call = ap (λ g. sum_below one g d.next_call) rows3 in
          let a2 = d.sound.running_is in
          record {
            core = (is_move_of state_of d.sound.core).core;
            awaiting = (is_move_of awaiting_state d.sound.awaiting).core;
            refused = λ m s f held. awaited_less s s.call (d.sound.refused m s f held);
            calls_run = running_on;
            addressed = d.sound.addressed;
            reserved_is = omega (arith, p1, old1, new1, same1, a1, lefts, reserved);
            queued_is = queued ∙ d.sound.queued_is;
            spooled_is = spooled ∙ d.sound.spooled_is;
            running_is = omega (arith, p2, old2, new2, same2, a2, running);
            room_is = let a = d.sound.room_is in omega (arith, a, reserved);
            limit = let a = d.sound.limit in omega (arith, a, reserved, queued);
            numbers = let a = d.sound.numbers in omega (arith, a, reserved);
            known = d.sound.known;
            era = d.sound.era;
          }
        where
          by_left : (b : Bool) → unlaunched_of r (option_map call_row (cond b None (Some c2))) + cond b c2.left 0 ≡ c2.left
          by_left true = omega arith
          by_left false = let e : c2.left ≡ unlaunched_of r (Some (call_row c2)) = (taken_running r k c run c2 part took).left in omega (arith, e)

          by_one : (b : Bool) → one (option_map call_row (cond b None (Some c2))) + cond b 1 0 ≡ 1
          by_one true = refl
          by_one false = refl

    -- where there is no reply to take, nothing changes
    pub nothing_ends : part ≡ None → has_ended_by c2 ≡ false
    nothing_ends none = ended ∙ ap (λ v. has_ended r (call_of v)) (took.none none) ∙ row.runs

    pub nothing_changes : part ≡ None → put (calls_at d.calls) k (Some c2) ≡ calls_at d.calls
    nothing_changes none = fun_ext (λ m. elim (cases_eq k m) [
      | inl q ↦ subst (λ v. put (calls_at d.calls) k (Some c2) v ≡ calls_at d.calls v) q (put_same (calls_at d.calls) k (Some c2) ∙ ap (λ v. Some v) (took.none none) ∙ sym there)
      | inr ne ↦ put_other (calls_at d.calls) k m (Some c2) ne
    ])

    -- there is none to be taken then
    pub not_taken : part ≡ None → is_move r (world_of (core_view d).rows) (Taken k) ≡ false
    not_taken none =
        ap (λ o. is_one o (can_be_taken r)) (ap (option_map (λ z. z.call)) row_there) ∙ by_taken c.taken (sym reply ∙ ap (option_map part_value) none)
      where
        by_taken : (b : Bool) → cond b None (reply_of r (call_of c)) ≡ None → (not b && is_some (reply_of r (call_of c))) ≡ false
        by_taken true e = refl
        by_taken false e = ap is_some e

-- ---- the same of what the code has found

pub found_of : (calls : ℕ → Option Call) (k : ℕ) → is_some (calls k) ≡ true → (c : Call) × (calls k ≡ Some c)
found_of calls k h = by_call (calls k) refl h
  where
    by_call : (o : Option Call) → calls k ≡ o → is_some o ≡ true → (c : Call) × (calls k ≡ Some c)
    by_call None at t = absurd (true≢false (sym t))
    by_call (Some c) at t = (c, at)

pub no_row : (o : Option Call) → is_some o ≡ false → option_map call_row o ≡ None
no_row None e = refl
no_row (Some c) e = absurd (true≢false e)

sound_alike : (r : RoutesValue) (calls calls2 : ℕ → Option Call) (legs2 : ℕ → Option (Leg Errand)) (since : Option ℕ) (moment next_call next_leg : ℕ) (counts counts2 : Counts) (room2 servers2 : ℕ) → calls2 ≡ calls → counts2.reserved ≡ counts.reserved
    → counts2.queued ≡ counts.queued → counts2.spooled ≡ counts.spooled → counts2.running ≡ counts.running
    → IsSound r calls legs2 since moment next_call next_leg counts.reserved counts.queued counts.spooled counts.running room2 servers2
    → IsSound r calls2 legs2 since moment next_call next_leg counts2.reserved counts2.queued counts2.spooled counts2.running room2 servers2
sound_alike r calls calls2 legs2 since moment next_call next_leg counts counts2 room2 servers2 a b c e f h =
    subst (λ v. IsSound r v legs2 since moment next_call next_leg counts2.reserved counts2.queued counts2.spooled counts2.running room2 servers2) (sym a)
    (subst (λ v. IsSound r calls legs2 since moment next_call next_leg v counts2.queued counts2.spooled counts2.running room2 servers2) (sym b)
    (subst (λ v. IsSound r calls legs2 since moment next_call next_leg counts.reserved v counts2.spooled counts2.running room2 servers2) (sym c)
    (subst (λ v. IsSound r calls legs2 since moment next_call next_leg counts.reserved counts.queued v counts2.running room2 servers2) (sym e)
    (subst (λ v. IsSound r calls legs2 since moment next_call next_leg counts.reserved counts.queued counts.spooled v room2 servers2) (sym f) h))))

module _ (d : Dispatcher) (k : ℕ) (calls2 : Calls) (result : Taking) (there : (c : Call) → calls_at d.calls k ≡ Some c → IsTakenAt (calls_at d.calls) (calls_at calls2) k c result) (found : (c : Call) × (calls_at d.calls k ≡ Some c)) where
  abbrev t : Taking
  t = result

  abbrev was : IsTakenAt (calls_at d.calls) (calls_at calls2) k found.0 result
  was = there found.0 found.1

  t_is : t ≡ record { part = was.part; left = was.call.left; ended = has_ended_by was.call }
  t_is = was.is

  pub left_fits : t.left ≤ d.counts.reserved
  left_fits = let low = left_reserved d k found.0 found.1 in let same = left_is (arc_value d.accepted) k found.0 (d.sound.calls_run k found.0 found.1) was.call was.part was.took in let e : t.left ≡ was.call.left = ap (λ v. v.left) t_is in omega (arith, low, same, e)

  pub runs : 1 ≤ d.counts.running
  runs = one_runs d k found.0 found.1

  pub part_of : t.part ≡ was.part
  part_of = ap (λ v. v.part) t_is

  module _ (calls3 : Calls) (calls3_is : calls_at calls3 ≡ cond t.ended (put (calls_at calls2) k None) (calls_at calls2)) where
    calls3_put : calls_at calls3 ≡ put (calls_at d.calls) k (cond (has_ended_by was.call) None (Some was.call))
    calls3_put = removed (calls_at d.calls) (calls_at calls2) (calls_at calls3) k was.call (has_ended_by was.call) was.at (calls3_is ∙ ap (λ b. cond b (put (calls_at calls2) k None) (calls_at calls2)) (ap (λ v. v.ended) t_is))

    unchanged : was.part ≡ None → calls_at calls3 ≡ calls_at d.calls
    unchanged none =
        calls3_put ∙ ap (λ b. put (calls_at d.calls) k (cond b None (Some was.call))) (nothing_ends d k found.0 found.1 was.call was.part was.took none) ∙ nothing_changes d k found.0 found.1 was.call was.part was.took none

    pub sound_then : (counts : Counts) → counts.queued ≡ d.counts.queued → counts.spooled ≡ d.counts.spooled → counts.reserved + cond t.ended t.left 0 ≡ d.counts.reserved → counts.running + cond t.ended 1 0 ≡ d.counts.running
        → IsSound (arc_value d.accepted) (calls_at calls3) (legs d.queues) (since_of d) d.moment.0 d.next_call d.next_leg counts.reserved counts.queued counts.spooled counts.running (room d.queues) (servers d.queues)
    sound_then counts queued spooled reserved running_is = by_part was.part refl
      where
        reserved2 : counts.reserved + cond (has_ended_by was.call) was.call.left 0 ≡ d.counts.reserved
        reserved2 = ap (λ v. counts.reserved + cond v.ended v.left 0) (sym t_is) ∙ reserved

        running2 : counts.running + cond (has_ended_by was.call) 1 0 ≡ d.counts.running
        running2 = ap (λ v. counts.running + cond v.ended 1 0) (sym t_is) ∙ running_is

        by_part : (o : Option Part) → was.part ≡ o
            → IsSound (arc_value d.accepted) (calls_at calls3) (legs d.queues) (since_of d) d.moment.0 d.next_call d.next_leg counts.reserved counts.queued counts.spooled counts.running (room d.queues) (servers d.queues)
        by_part None none =
            let stays = nothing_ends d k found.0 found.1 was.call was.part was.took none in
            let a : counts.reserved + 0 ≡ d.counts.reserved = ap (λ b. counts.reserved + cond b was.call.left 0) (sym stays) ∙ reserved2 in
            let b : counts.running + 0 ≡ d.counts.running = ap (λ b. counts.running + cond b 1 0) (sym stays) ∙ running2 in
            sound_alike (arc_value d.accepted) (calls_at d.calls) (calls_at calls3) (legs d.queues) (since_of d) d.moment.0 d.next_call d.next_leg d.counts counts (room d.queues) (servers d.queues) (unchanged none) (omega (arith, a)) queued spooled
            (omega (arith, b)) d.sound
        by_part (Some p) some = sound_taken d k found.0 found.1 was.call was.part was.took p some calls3 calls3_put counts queued spooled reserved2 running2

    -- ---- what contracts see

    pub view_then : (p : Part) → t.part ≡ Some p → record (core_view d) { rows = rows_of (calls_at calls3) (legs d.queues) (since_of d) d.next_call d.next_leg } ≡ taken_view (core_view d) k
    view_then p some =
        ap (λ v. record (core_view d) { rows = v }) (rows_are d k found.0 found.1 was.call was.part was.took p (sym part_of ∙ some) calls3 calls3_put state_of)
        ∙ sym (ap (taken_row_of (core_view d) k) (row_there d k found.0 found.1))

    pub moves_then : (p : Part) → t.part ≡ Some p → Moved (core_view d) (record (core_view d) { rows = rows_of (calls_at calls3) (legs d.queues) (since_of d) d.next_call d.next_leg }) (Taken k)
    moves_then p some = record { allowed = tt; moves = is_move_of d k found.0 found.1 was.call was.part was.took p (sym part_of ∙ some) calls3 calls3_put state_of d.sound.core; routes = refl }

    pub reply_then : (p : Part) → t.part ≡ Some p → option_and_then (reply_of (arc_value d.accepted)) ((world_of (core_view d).rows).calls k) ≡ Some (part_value p)
    reply_then p some =
        ap (λ o. option_and_then (reply_of (arc_value d.accepted)) (option_map (λ z. z.call) (option_map call_row o))) found.1 ∙ replied d k found.0 found.1 was.call was.part was.took p (sym part_of ∙ some)

    pub none_then : t.part ≡ None
        → (record (core_view d) { rows = rows_of (calls_at calls3) (legs d.queues) (since_of d) d.next_call d.next_leg } ≡ core_view d) × (is_move (arc_value d.accepted) (world_of (core_view d).rows) (Taken k) ≡ false)
    none_then none =
        let stays = unchanged (sym part_of ∙ none) in
        (ap (λ f. record (core_view d) { rows = rows_of f (legs d.queues) (since_of d) d.next_call d.next_leg }) stays, not_taken d k found.0 found.1 was.call was.part was.took (sym part_of ∙ none))

-- the reply that was found is taken, or there is none to take
pub taken_event : (d : Dispatcher) (call : CallId) (calls2 : Calls) (result : Taking) (there : (c : Call) → calls_at d.calls call.0 ≡ Some c → IsTakenAt (calls_at d.calls) (calls_at calls2) call.0 c result) (found : (c : Call) × (calls_at d.calls call.0 ≡ Some c))
    (calls3 : Calls) (calls3_is : calls_at calls3 ≡ cond result.ended (put (calls_at calls2) call.0 None) (calls_at calls2)) (o : Option Part) → result.part ≡ o
    → IsEvent (IsTaken (core_view d) call (Ok o)) (record (core_view d) { rows = rows_of (calls_at calls3) (legs d.queues) (since_of d) d.next_call d.next_leg })
taken_event d call calls2 result there found calls3 calls3_is None none =
    let h = none_then d call.0 calls2 result there found calls3 calls3_is none in
    record { move = None; event = record { runs = subst (λ o. IsSome (option_map call_row o)) (sym found.1) refl; nothing = h.1; none = refl; same = h.0 } }
taken_event d call calls2 result there found calls3 calls3_is (Some p) some = record {
  move = Some (Taken call.0);
  event = record {
    reply = reply_then d call.0 calls2 result there found calls3 calls3_is p some;
    view = view_then d call.0 calls2 result there found calls3 calls3_is p some;
    move = refl;
    does = moves_then d call.0 calls2 result there found calls3 calls3_is p some;
  };
}

idle_row : (o : Option Call) → is_some o ≡ false → option_map call_row o ≡ None
idle_row None e = refl
idle_row (Some c) e = absurd (true≢false e)

-- no such call runs
pub untaken_event : (d : Dispatcher) (call : CallId) (calls2 : Calls) → calls_at calls2 ≡ calls_at d.calls → is_some (calls_at d.calls call.0) ≡ false
    → IsEvent (IsTaken (core_view d) call (Err NoSuchCall)) (record (core_view d) { rows = rows_of (calls_at calls2) (legs d.queues) (since_of d) d.next_call d.next_leg })
untaken_event d call calls2 same idle = record {
  move = None;
  event = record {
    cause = (refl, idle_row (calls_at d.calls call.0) idle);
    none = refl;
    same = ap (λ f. record (core_view d) { rows = rows_of f (legs d.queues) (since_of d) d.next_call d.next_leg }) same;
  };
}

-- ---- whether a reply can be taken

-- what the code looks at says so
pub can_take_is : (d : Dispatcher) (k : ℕ) (c : Call) → calls_at d.calls k ≡ Some c
    → (not c.taken && is_some (option_and_then (λ a. source_reply c a.source) c.state.reply)) ≡ is_move (arc_value d.accepted) (world_of (core_view d).rows) (Taken k)
can_take_is d k c there = by_taken c.taken refl ∙ sym (ap (λ o. is_one o (can_be_taken (arc_value d.accepted))) (ap (option_map (λ (z : CallRow). z.call)) (row_there d k c there)))
  where
    by_taken : (b : Bool) → c.taken ≡ b
        → (not c.taken && is_some (option_and_then (λ a. source_reply c a.source) c.state.reply)) ≡ (not c.taken && is_some (reply_of (arc_value d.accepted) (call_of c)))
    by_taken true e = ap (λ v. not v && is_some (option_and_then (λ a. source_reply c a.source) c.state.reply)) e ∙ sym (ap (λ v. not v && is_some (reply_of (arc_value d.accepted) (call_of c))) e)
    by_taken false e = ap (λ o. not c.taken && is_some o) (reply_is (arc_value d.accepted) k c (d.sound.calls_run k c there) e)

pub cannot_take : (d : Dispatcher) (k : ℕ) → calls_at d.calls k ≡ None → is_move (arc_value d.accepted) (world_of (core_view d).rows) (Taken k) ≡ false
cannot_take d k none = ap (λ o. is_one o (can_be_taken (arc_value d.accepted))) (ap (option_map (λ (z : CallRow). z.call)) (ap (option_map call_row) none))
