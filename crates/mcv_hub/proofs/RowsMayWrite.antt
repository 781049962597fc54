-- What a core's rows may still write, after each change of them.
use Rattle.std.proofs.Common.{◌≡◌, ◌∙◌, cond, is_none, inl, inr, ℕ, zero, suc, ◌+◌, ◌*◌, ◌<◌, ◌≤◌, Bool, true, false, List, [], ◌∷◌, length, Option, Some, None, refl, sym, ap, subst, arith, true≢false}
use Rattle.std.specs.Prelude.{filter, slice_get}
use Rattle.std.proofs.lemmas.Bool.{cases_lt}
use Rattle.mcv_base.specs.declared.reply.FixedReply.TheVariants.{Lost}
use Rattle.mcv_base.specs.declared.request.Request.{Request}
use Rattle.mcv_base.specs.Reply.{ReplyValue, fixed_value, outcome_of}
use Rattle.mcv_route.specs.declared.launch.Launch.{Launch}
use Rattle.mcv_route.specs.Outcomes.{Outcomes, is_same, outcomes}
use Rattle.mcv_route.specs.Routes.{RoutesValue}
use Rattle.mcv_rules.specs.Laws.{Extends}
use Rattle.mcv_rules.proofs.ListMembers.{Among}
use Rattle.mcv_rules.proofs.Orders.{one_more, same_self}
use Rattle.mcv_rules.proofs.Verdicts.{sent_stays}
use Rattle.mcv_world.specs.World.{Call, choice_of, history_of, launched_by, put, situation_of, tree_of}
use Rattle.mcv_world.specs.Moves.{has_no_outcome, with_reply, with_taken}
use Rattle.mcv_world.specs.LiveWorld.{has_ended}
use Rattle.mcv_world.proofs.Numbers.{at_some, no_some, none_when, put_same, same_some}
use Rattle.mcv_events.specs.Entries.{is_due, is_launched}
use Rattle.mcv_events.specs.Events.{began_rows, new_row, recorded_rows_for, recorded_rows_if, refused_rows, taken_rows}
use Rattle.mcv_events.specs.Reservations.{unlaunched}
use Rattle.mcv_events.specs.Rows.{CallRow, IsCore, LegRow, Payload, Rows, awaits, leg_of, payload_of, queued_rows, recorded_row, recorded_rows, waiting, with_leg_row}
use Rattle.mcv_events.specs.Sums.{sum_below}
use Rattle.mcv_events.proofs.Recording.{awaits_call, launched_at}
use Rattle.mcv_events.proofs.Sums.{sum_above, sum_put}
use Rattle.mcv_hub.specs.RemainingEntries.{call_may_write, is_open, leg_may_write, rows_may_write}
use Rattle.mcv_hub.proofs.Counts.{at_most_all, both_counted, divided, fewer_pass, one_fewer}

-- ---- legs

-- each leg that is launched waits, and may be spooled and performed
legs_queued : (due : Launch → Bool) (k : ℕ) (load : Payload) (n e : ℕ) (es : List Launch) (legs : ℕ → Option LegRow)
    → sum_below leg_may_write (queued_rows due k load n e es legs) (n + length (filter due es)) ≡ sum_below leg_may_write legs n + 2 * length (filter due es)
legs_queued due k load n e [] legs = let same : n + 0 ≡ n = omega arith in let t = ap (sum_below leg_may_write legs) same in omega (arith, t)
legs_queued due k load n e (l ∷ es) legs =
    by_cases (due l) (legs_queued due k load (suc n) (suc e) es (put legs n (Some (waiting k e load l)))) (legs_queued due k load n (suc e) es legs)
  where
    by_cases : (b : Bool)
        → sum_below leg_may_write (queued_rows due k load (suc n) (suc e) es (put legs n (Some (waiting k e load l)))) (suc n + length (filter due es)) ≡ sum_below leg_may_write (put legs n (Some (waiting k e load l))) (suc n) + 2 * length (filter due es)
        → sum_below leg_may_write (queued_rows due k load n (suc e) es legs) (n + length (filter due es)) ≡ sum_below leg_may_write legs n + 2 * length (filter due es)
        → sum_below leg_may_write (cond b (queued_rows due k load (suc n) (suc e) es (put legs n (Some (waiting k e load l)))) (queued_rows due k load n (suc e) es legs)) (n + length (cond b (l ∷ filter due es) (filter due es)))
        ≡ sum_below leg_may_write legs n + 2 * length (cond b (l ∷ filter due es) (filter due es))
    by_cases true x y =
        let place : n + suc (length (filter due es)) ≡ suc n + length (filter due es) = omega arith in
        let here : leg_may_write (put legs n (Some (waiting k e load l)) n) ≡ 2 = ap leg_may_write (put_same legs n (Some (waiting k e load l))) in
        let below = sum_above leg_may_write legs n (Some (waiting k e load l)) n (omega arith) in
        let moved = ap (sum_below leg_may_write (queued_rows due k load (suc n) (suc e) es (put legs n (Some (waiting k e load l))))) place in
        omega (arith, x, here, below, moved)
    by_cases false x y = y

-- a leg that is there has a number
pub leg_below : (r : RoutesValue) (w : Rows) (n : ℕ) (s : LegRow) → IsCore r w → w.legs n ≡ Some s → n < w.next_leg
leg_below r w n s i at = elim (cases_lt n w.next_leg) [ inl low ↦ low | inr high ↦ no_some (sym (i.legs_below n high) ∙ at) ]

pub call_below : (w : Rows) → ((k : ℕ) → w.next_call ≤ k → w.calls k ≡ None) → (k : ℕ) (c : CallRow) → w.calls k ≡ Some c → k < w.next_call
call_below w b k c at = elim (cases_lt k w.next_call) [ inl low ↦ low | inr high ↦ no_some (sym (b k high) ∙ at) ]

-- a leg's row changes or goes
pub leg_changes : (r : RoutesValue) (w : Rows) (n : ℕ) (s : LegRow) (t : Option LegRow) → n < w.next_leg → w.legs n ≡ Some s → rows_may_write r (with_leg_row w n t) + leg_may_write (Some s) ≡ rows_may_write r w + leg_may_write t
leg_changes r w n s t low at =
    let e = sum_put leg_may_write w.legs n t w.next_leg low in
    let was : leg_may_write (w.legs n) ≡ leg_may_write (Some s) = ap leg_may_write at in
    omega (arith, e, was)

-- ---- a call records a reply

module _ (r : RoutesValue) (w : Rows) (k : ℕ) (c : CallRow) (p : List ℕ) (x : ReplyValue) (there : w.calls k ≡ Some c) (low : k < w.next_call) (unheard : outcomes (history_of c.call.recorded) p ≡ None) where
  abbrev call2 : Call
  call2 = with_reply c.call p x

  abbrev due : Launch → Bool
  due = is_due r c.call (with_reply c.call p x)

  abbrev o : Outcomes
  o = outcomes (history_of c.call.recorded)

  abbrev o2 : Outcomes
  o2 = outcomes (history_of call2.recorded)

  more : Extends o o2
  more = one_more p (outcome_of x) (history_of c.call.recorded) unheard

  stays : (m : Launch) → is_launched r c.call m ≡ true → is_launched r call2 m ≡ true
  stays m t =
      let q = at_some m.position (launched_by r c.call) t in
      launched_at (launched_by r call2) q.0 m.position (sent_stays (tree_of r c.call.route) (situation_of c.call) (choice_of c.call) o o2 q.0 more q.1) q.2

  was_open : (m : Launch) → is_open call2 m ≡ true → is_open c.call m ≡ true
  was_open m = by (is_same p m.position)
    where
      by : (b : Bool) → is_none (cond b (Some (outcome_of x)) (o m.position)) ≡ true → is_none (o m.position) ≡ true
      by true e = absurd (true≢false (sym e))
      by false e = e

  spends : (d : ℕ) → length (filter (is_open call2) c.entries) + d ≤ length (filter (is_open c.call) c.entries) → rows_may_write r (recorded_rows r w k c p x) + d ≤ rows_may_write r w
  spends d fewer =
      let row2 = recorded_row r w c p x in
      let after = cond (has_ended r call2) None (Some row2) in
      let legs = legs_queued due k (payload_of c) w.next_leg 0 c.entries w.legs in
      let calls = sum_put (call_may_write r) w.calls k after w.next_call low in
      let was : call_may_write r (w.calls k) ≡ call_may_write r (Some c) = ap (call_may_write r) there in
      let later = divided (is_launched r c.call) (is_launched r call2) stays c.entries in
      let most = at_most (has_ended r call2) row2 in
      omega (arith, fewer, legs, calls, was, later, most)
    where
      at_most : (b : Bool) (d : CallRow) → call_may_write r (cond b None (Some d)) ≤ call_may_write r (Some d)
      at_most true d = omega arith
      at_most false d = omega arith

  pub recording_writes : rows_may_write r (recorded_rows r w k c p x) ≤ rows_may_write r w
  recording_writes = let e = spends 0 (let f = fewer_pass (is_open call2) (is_open c.call) was_open c.entries in omega (arith, f)) in omega (arith, e)

  pub recording_writes_less : (l : Launch) → Among c.entries l → l.position ≡ p → rows_may_write r (recorded_rows r w k c p x) + 1 ≤ rows_may_write r w
  recording_writes_less l a same =
      let closed : is_open call2 l ≡ false = ap (λ b. is_none (cond b (Some (outcome_of x)) (o l.position))) (ap (is_same p) same ∙ same_self p) in
      let free : is_open c.call l ≡ true = ap is_none (ap o same ∙ unheard) in
      spends 1 (one_fewer (is_open call2) (is_open c.call) was_open c.entries l a closed free)

-- the leg's call, where it runs and has no outcome for it
pub recording_for_writes : (r : RoutesValue) (w : Rows) (s : LegRow) (x : ReplyValue) (j : Option ℕ) → ((k : ℕ) → w.next_call ≤ k → w.calls k ≡ None) → rows_may_write r (recorded_rows_for r w s x j) ≤ rows_may_write r w
recording_for_writes r w s x None b = omega arith
recording_for_writes r w s x (Some k) b = by_call (w.calls k) refl
  where
    by_outcome : (c : CallRow) → w.calls k ≡ Some c → (f : Bool) → has_no_outcome (leg_of s) c.call ≡ f → rows_may_write r (cond f (recorded_rows r w k c s.launch.position x) w) ≤ rows_may_write r w
    by_outcome c at true e = recording_writes r w k c s.launch.position x at (call_below w b k c at) (none_when (outcomes (history_of c.call.recorded) s.launch.position) e)
    by_outcome c at false e = omega arith

    by_call : (d : Option CallRow) → w.calls k ≡ d → rows_may_write r (recorded_rows_if r w s x k d) ≤ rows_may_write r w
    by_call None at = omega arith
    by_call (Some c) at = by_outcome c at (has_no_outcome (leg_of s) c.call) refl

slice_among : {A : Type 0} (xs : List A) (i : ℕ) (x : A) → slice_get xs i ≡ Some x → Among xs x
slice_among [] i x e = no_some e
slice_among (y ∷ ys) zero x e = inl (same_some e)
slice_among (y ∷ ys) (suc i) x e = inr (slice_among ys i x e)

-- a refusal that is awaited is the outcome of its entry
pub refusing_writes : (r : RoutesValue) (w : Rows) (n : ℕ) (s : LegRow) → IsCore r w → w.legs n ≡ Some s → awaits w.calls s s.call ≡ true → rows_may_write r (refused_rows r w s) + 1 ≤ rows_may_write r w
refusing_writes r w n s i at waits =
    let a = awaits_call w.calls s waits in
    let k = a.0 in
    let c = a.1 in
    let its = i.own n s k c at a.2 a.3 in
    let less = recording_writes_less r w k c s.launch.position (fixed_value Lost) a.3 (call_below w i.calls_below k c a.3) a.4 s.launch (slice_among c.entries s.entry s.launch its.0) refl in
    let is : refused_rows r w s ≡ recorded_rows r w k c s.launch.position (fixed_value Lost) =
    ap (recorded_rows_for r w s (fixed_value Lost)) a.2 ∙ ap (recorded_rows_if r w s (fixed_value Lost) k) a.3
    ∙ ap (λ b. cond b (recorded_rows r w k c s.launch.position (fixed_value Lost)) w) (ap is_none a.4) in
    subst (λ z. rows_may_write r z + 1 ≤ rows_may_write r w) (sym is) less

-- ---- calls begin, and their replies are taken

pub beginning_writes : (r : RoutesValue) (w : Rows) (call : Call) (request : Option Request) (es : List Launch) → call.taken ≡ false → rows_may_write r (began_rows r w call request es) ≤ rows_may_write r w + (1 + 3 * length es)
beginning_writes r w call request es new =
    let row = new_row r w call request es in
    let legs = legs_queued (is_launched r call) w.next_call (record { rest = call.rest; request = request }) w.next_leg 0 es w.legs in
    let calls = sum_above (call_may_write r) w.calls w.next_call (Some row) w.next_call (omega arith) in
    let here : call_may_write r (put w.calls w.next_call (Some row) w.next_call) ≡ call_may_write r (Some row) = ap (call_may_write r) (put_same w.calls w.next_call (Some row)) in
    let unheard = at_most_all (is_open call) es in
    let all = both_counted (is_launched r call) es in
    let one : ◌≡◌ {A = ℕ} (cond call.taken 0 1) 1 = ap (λ b. cond b 0 1) new in
    omega (arith, legs, calls, here, unheard, all, one)

pub taking_writes : (r : RoutesValue) (w : Rows) (k : ℕ) (c : CallRow) → k < w.next_call → w.calls k ≡ Some c → c.call.taken ≡ false → rows_may_write r (taken_rows r w k c) + 1 ≤ rows_may_write r w
taking_writes r w k c low at free =
    let row = record c { call = with_taken c.call } in
    let e = sum_put (call_may_write r) w.calls k (cond (has_ended r (with_taken c.call)) None (Some row)) w.next_call low in
    let was : call_may_write r (w.calls k) ≡ call_may_write r (Some c) = ap (call_may_write r) at in
    let one : ◌≡◌ {A = ℕ} (cond c.call.taken 0 1) 1 = ap (λ b. cond b 0 1) free in
    let most = at_most (has_ended r (with_taken c.call)) in
    omega (arith, e, was, one, most)
  where
    at_most : (b : Bool) → call_may_write r (cond b None (Some (record c { call = with_taken c.call }))) ≤ length (filter (is_open c.call) c.entries) + 2 * unlaunched r c
    at_most true = omega arith
    at_most false = omega arith
