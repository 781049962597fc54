-- A call records a reply, and launches what is due then.
use Rattle.std.proofs.Common.{◌≡◌, ◌&&◌, not, cond, inl, inr, ℕ, zero, suc, ◌+◌, ◌-◌, ◌<◌, ◌≤◌, ◌^◌, Bool, true, false, nat_eq, nat_lt, List, [], ◌∷◌, ◌++◌, length, fold, Vec, Option, Some, None, option_map, refl, sym, ap, ◌∙◌, subst, arith, true≢false, length-append, vec_capacity}
use Rattle.std.specs.Arc.{arc_value}
use Rattle.std.specs.declared.alloc.Global.{Global}
use Rattle.std.specs.Prelude.{filter, is_some, slice_get, option_and_then}
use Rattle.std.proofs.Math.Path.{fun_ext}
use Rattle.std.proofs.lemmas.Bool.{cases_Bool, cases_eq, lt-ltb}
use Rattle.mcv_base.specs.declared.reply.Part.{Part}
use Rattle.mcv_base.specs.Reply.{ReplyValue, outcome_of, part_value}
use Rattle.mcv_core.specs.CallProgress.{CanAdvance, IsTracked, Past, count as entry_count, fresh, history_by, is_sent, launch_at, places_from}
use Rattle.mcv_queues.specs.declared.leg.Leg.{Leg}
use Rattle.mcv_queues.specs.declared.leg.State.{State}
use Rattle.mcv_queues.specs.declared.leg.State.TheVariants.{Waiting}
use Rattle.mcv_route.specs.declared.launch.Launch.{Launch}
use Rattle.mcv_route.specs.Outcomes.{is_same, outcomes}
use Rattle.mcv_route.specs.Routes.{RoutesValue}
use Rattle.mcv_route.specs.Verdict.{Has}
use Rattle.mcv_rules.proofs.Orders.{same_is, same_self}
use Rattle.mcv_world.specs.World as world
use Rattle.mcv_world.specs.World.{tree_of, situation_of, choice_of, history_of, is_settled, launched_by, reply_at, put}
use Rattle.mcv_world.specs.LiveWorld.{has_ended}
use Rattle.mcv_world.specs.Moves.{with_reply}
use Rattle.mcv_world.proofs.Numbers.{same_some, no_some, put_same, put_other}
use Rattle.mcv_events.specs.Entries.{IsLaidOut, is_launched, is_due, has_leg_at, launches_under}
use Rattle.mcv_events.specs.Rows as rows
use Rattle.mcv_events.specs.Rows.{Rows, CallRow, IsCore, IsCallRow, CanRecord, numbered, queued_rows, recorded_row}
use Rattle.mcv_events.proofs.Entries.{not_true, settled_by_entries}
use Rattle.mcv_events.proofs.Recording.{one_entry, launched_stays}
use Rattle.mcv_core.specs.declared.call.Call.{Call}
use Rattle.mcv_core.specs.declared.call.Recorded.{Recorded}
use Rattle.mcv_core.specs.declared.call.Recording.{Recording}
use Rattle.mcv_core.specs.declared.errand.Errand.{Errand}
use Rattle.mcv_core.specs.declared.launch.Entry.{Entry}
use Rattle.mcv_core.specs.Errands.{ErrandView, errand_view, launch_in, laid_request}
use Rattle.mcv_core.specs.Launching.{errand_at, numbers_of, places_of, is_ready, with_legs, with_numbers, CanLaunch, IsLaunched}
use Rattle.mcv_core.specs.Recordings.{has_ended_by, AreAddressed, HasRecorded, IsNoted}
use Rattle.mcv_core.specs.Rows.{call_of, call_row, entries_of, errand_for, has_outcome, rows_by, past_next, past_of, recorded_all, recorded_next, taken_at, IsRunning, load_of}
use Rattle.mcv_core.proofs.EntryCounts.{all_by_count, count, count_below, count_both, count_more, count_one_more, count_up}
use Rattle.mcv_core.proofs.Launches.{get_below, launched_addressed}
use Rattle.mcv_core.proofs.StateFollowsOutcomes.{at_launch, there_at}
use Rattle.mcv_core.proofs.Places.{AreReady, due_at, due_numbers, due_rows, places_apart, places_count}

-- ---- lists

pub fold_last : {A B : Type 0} (f : B → A → B) (b : B) (xs : List A) (x : A) → fold f b (xs ++ x ∷ []) ≡ f (fold f b xs) x
fold_last f b [] x = refl
fold_last f b (y ∷ xs) x = fold_last f (f b y) xs x

get_append : {A : Type 0} (xs : List A) (y : A) (j : ℕ) → j < length xs → slice_get (xs ++ y ∷ []) j ≡ slice_get xs j
get_append [] y j low = absurd (omega (arith, low))
get_append (x ∷ xs) y zero low = refl
get_append (x ∷ xs) y (suc j) low = get_append xs y j (omega (arith, low))

get_last : {A : Type 0} (xs : List A) (y : A) → slice_get (xs ++ y ∷ []) (length xs) ≡ Some y
get_last [] y = refl
get_last (x ∷ xs) y = get_last xs y

pub none_of : {A : Type 0} (o : Option A) → is_some o ≡ false → o ≡ None
none_of None e = refl
none_of (Some x) e = absurd (true≢false e)

none_not : {A : Type 0} (o : Option A) → o ≡ None → is_some o ≡ false
none_not o e = ap is_some e

is_some_of : {A : Type 0} (o : Option A) (x : A) → o ≡ Some x → is_some o ≡ true
is_some_of o x e = ap is_some e

history_from : (es : List Launch) (all : List world.Recorded) (past : Past) (hs : List Recorded) → history_of all ≡ history_by es past → history_of (fold (recorded_next es) all hs) ≡ history_by es (fold past_next past hs)
history_from es all past [] e = e
history_from es all past (h ∷ hs) e = history_from es (recorded_next es all h) (past_next past h) hs (ap (λ v. ((launch_at es h.entry).position, outcome_of (part_value h.outcome)) ∷ v) e)

-- what the rules of routes read of what is recorded is the history of the entries
pub history_is : (es : List Launch) (hs : List Recorded) → history_of (recorded_all es hs) ≡ history_by es (past_of hs)
history_is es hs = history_from es [] [] hs refl

pub entry_at : (xs : List Entry) (j : ℕ) → j < length xs → (y : Entry) × (slice_get xs j ≡ Some y)
entry_at [] j low = absurd (omega (arith, low))
entry_at (z ∷ xs) zero low = (z, refl)
entry_at (z ∷ xs) (suc j) low = entry_at xs j (omega (arith, low))

pub ready_of : (servers : ℕ) (o : Option Errand) (v : ErrandView) → option_map errand_view o ≡ Some v → (launch_in v).server.0 < servers → is_ready servers o ≡ true
ready_of servers None v e low = no_some e
ready_of servers (Some x) v e low = ap (λ u. nat_lt (launch_in u).server.0 servers) (same_some e) ∙ lt-ltb (launch_in v).server.0 servers low

and_first : (b c : Bool) → (b && c) ≡ true → c ≡ true
and_first true c e = e
and_first false c e = absurd (true≢false (sym e))

and_second : (b c : Bool) → (b && c) ≡ true → b ≡ true
and_second true c e = refl
and_second false c e = e

pub filter_has : (test : Launch → Bool) (es : List Launch) (j : ℕ) (l : Launch) → slice_get es j ≡ Some l → test l ≡ true → Has (filter test es) (λ m. m ≡ l)
filter_has test [] j l at t = no_some at
filter_has test (m ∷ es) zero l at t = let q : m ≡ l = same_some at in subst (λ b. Has (cond b (m ∷ filter test es) (filter test es)) (λ k. k ≡ l)) (sym (ap test q ∙ t)) (inl q)
filter_has test (m ∷ es) (suc j) l at t = by_cases (test m) (filter_has test es j l at t)
  where
    by_cases : (b : Bool) → Has (filter test es) (λ k. k ≡ l) → Has (cond b (m ∷ filter test es) (filter test es)) (λ k. k ≡ l)
    by_cases true h = inr h
    by_cases false h = h

not_false : (b : Bool) → not b ≡ true → b ≡ false
not_false true e = absurd (true≢false (sym e))
not_false false e = refl

-- ---- the entry e of call k records the reply

module _ (r : RoutesValue) (w : Rows) (k : ℕ) (c : Call) (e : ℕ) (i : IsCore r w) (h : CanRecord r w k (call_row c) e (launch_at (entries_of c) e)) (run : IsRunning r k c) (outcome taken : Part) where
  abbrev es : List Launch
  es = entries_of c

  abbrev p : List ℕ
  p = (launch_at (entries_of c) e).position

  abbrev x : ReplyValue
  x = part_value outcome

  abbrev due : Launch → Bool
  due = is_due r (call_of c) (with_reply (call_of c) p x)

  row : IsCallRow r (call_row c)
  row = i.call k (call_row c) h.there

  pub low : e < length (entries_of c)
  low = get_below (entries_of c) e (launch_at (entries_of c) e) h.entry

  history : history_of (call_of c).recorded ≡ history_by (entries_of c) (past_of c.recorded.items)
  history = history_is (entries_of c) c.recorded.items

  is_there : is_launched r (call_of c) (launch_at (entries_of c) e) ≡ true
  is_there = sym (row.linked e (launch_at (entries_of c) e) h.entry) ∙ h.launched

  stays : (m : Launch) → is_launched r (call_of c) m ≡ true → is_launched r (with_reply (call_of c) p x) m ≡ true
  stays m t = launched_stays r w k (call_row c) e (launch_at (entries_of c) e) x i h m t

  -- of the entry alone the position is that
  apart : (j : ℕ) (m : Launch) → slice_get (entries_of c) j ≡ Some m → (e ≡ j → ⊥) → is_same p m.position ≡ false
  apart j m at ne = not_true (is_same p m.position) (λ t. ne (one_entry (entries_of c) e j (launch_at (entries_of c) e) m row.laid.rising h.entry at (same_is p m.position t)))

  pub can_advance : CanAdvance (tree_of r c.route) (situation_of (call_of c)) (choice_of (call_of c)) (entries_of c) (past_of c.recorded.items) e
  can_advance =
      record {
        known = low;
        launched = ap (λ v. is_sent (tree_of r c.route) (situation_of (call_of c)) (choice_of (call_of c)) v (launch_at (entries_of c) e)) (sym history) ∙ is_there;
        unheard = ap (λ v. outcomes v p) (sym history) ∙ h.no_outcome;
      }

  pub has_room : length c.recorded.items < vec_capacity c.recorded
  has_room =
      let below = count_below (has_outcome (call_of c)) (entries_of c) e (launch_at (entries_of c) e) h.entry (ap is_some h.no_outcome) in
      let a = run.recorded in
      let b = run.room in
      omega (arith, below, a, b)

  module _ (c1 : Call) (noted : IsNoted e outcome taken c c1)
      (fresh1 : fresh c1.state ≡ places_from 0 (λ l. is_sent (tree_of r c.route) (situation_of (call_of c)) (choice_of (call_of c)) (history_by (entries_of c) ((e, outcome_of x) ∷ past_of c.recorded.items)) l
      && not (is_sent (tree_of r c.route) (situation_of (call_of c)) (choice_of (call_of c)) (history_by (entries_of c) (past_of c.recorded.items)) l)) (entries_of c)) where
    pub fresh_is : fresh c1.state ≡ places_from 0 due (entries_of c)
    fresh_is =
        fresh1
        ∙ ap (λ v. places_from 0 (λ l. is_sent (tree_of r c.route) (situation_of (call_of c)) (choice_of (call_of c)) ((p, outcome_of x) ∷ v) l
        && not (is_sent (tree_of r c.route) (situation_of (call_of c)) (choice_of (call_of c)) v l)) (entries_of c)) (sym history)

    pub fresh_count : length (fresh c1.state) ≡ count due (entries_of c)
    fresh_count = ap length fresh_is ∙ places_count due 0 (entries_of c)

    -- the reservation covers them
    pub within_left : count due (entries_of c) ≤ count (λ l. not (is_launched r (call_of c) l)) (entries_of c)
    within_left = count_up due (λ l. not (is_launched r (call_of c) l)) (entries_of c) (λ l t. and_first _ _ t)

    not_numbered : (j : ℕ) (m : Launch) → slice_get (entries_of c) j ≡ Some m → due m ≡ true → numbers_of c.entries.items j ≡ None
    not_numbered j m at t = none_of (numbers_of c.entries.items j) (row.linked j m at ∙ not_false (is_launched r (call_of c) m) (and_first _ _ t))

    had : (j : ℕ) (m : Launch) → slice_get (entries_of c) j ≡ Some m → due m ≡ true → option_map errand_view (errand_at c1.entries.items j) ≡ Some (errand_for k c j)
    had j m at t = ap (option_map errand_view) (noted.errands j) ∙ run.ready j (get_below (entries_of c) j m at) (not_numbered j m at t)

    -- its server is in the table
    goes_to : (j : ℕ) (m : Launch) → slice_get (entries_of c) j ≡ Some m → due m ≡ true → m.server.0 < length r.servers
    goes_to j m at t =
        let o = outcomes (history_of (with_reply (call_of c) p x).recorded) in
        run.known o m (subst (λ v. Has v (λ k. k ≡ m)) (sym (row.laid.all o)) (filter_has (λ l. has_leg_at (launches_under r (call_of c) o) l.position) (entries_of c) j m at (and_second _ _ t)))

    pub can_launch : (legs : ℕ → Option (Leg Errand)) (room servers next : ℕ) → ((n : ℕ) → next ≤ n → legs n ≡ None) → count (λ l. not (is_launched r (call_of c) l)) (entries_of c) ≤ room
        → next + count (λ l. not (is_launched r (call_of c) l)) (entries_of c) < 2 ^ 64 → length r.servers ≤ servers → CanLaunch (fresh c1.state) c1.entries.items legs room servers next
    can_launch legs room servers next free enough small known =
        let n = fresh_count in
        let m = within_left in
        record {
          fits = omega (arith, n, m, enough);
          numbers = omega (arith, n, m, small);
          free = free;
          ready = λ j f at.
              let d = due_at due 0 (entries_of c) j f (sym (ap (λ v. slice_get v j) fresh_is) ∙ at) in
              let same : d.index ≡ f = let q = d.is in omega (arith, q) in
              let here : slice_get (entries_of c) f ≡ Some d.launch = subst (λ v. slice_get (entries_of c) v ≡ Some d.launch) same d.at in
              let below = goes_to f d.launch here d.is_due in
              let at_it : (launch_in (errand_for k c f)).server.0 ≡ d.launch.server.0 = ap (λ v. v.server.0) (at_launch (entries_of c) f d.launch here) in
              ready_of servers (errand_at c1.entries.items f) (errand_for k c f) (had f d.launch here d.is_due) (omega (arith, below, known, at_it));
          apart = λ a b f ga gb. places_apart due 0 (entries_of c) a b f (sym (ap (λ v. slice_get v a) fresh_is) ∙ ga) (sym (ap (λ v. slice_get v b) fresh_is) ∙ gb);
        }

    are_ready : AreReady k c due 0 (entries_of c) c1.entries.items
    are_ready j m at t =
        let q : j ≡ 0 + j = omega arith in
        subst (λ v. (option_map errand_view (errand_at c1.entries.items v) ≡ Some (errand_for k c v)) × (launch_at (entries_of c) v ≡ m)) q (had j m at t, at_launch (entries_of c) j m at)

    -- ---- and its fresh entries are launched

    module _ (entries2 : Vec Entry Global) (legs legs2 : ℕ → Option (Leg Errand)) (launched2 : IsLaunched w.next_leg (fresh c1.state) c1.entries.items entries2.items legs legs2)
        (tracked1 : IsTracked (tree_of r c.route) (situation_of (call_of c)) (choice_of (call_of c)) (entries_of c) ((e, outcome_of x) ∷ past_of c.recorded.items) c1.state)
        (counted1 : entry_count c1.state ≡ entry_count c.state) where
      abbrev c2 : Call
      c2 = record c { state = c1.state; entries = entries2; recorded = c1.recorded; left = c.left - length (fresh c1.state) }

      recorded_is : recorded_all (entries_of c) c1.recorded.items ≡ record { position = p; reply = x } ∷ (call_of c).recorded
      recorded_is = ap (recorded_all (entries_of c)) noted.recorded ∙ fold_last (recorded_next (entries_of c)) [] c.recorded.items (record { entry = e; outcome = outcome; taken = Some taken })

      pub call_is : call_of c2 ≡ with_reply (call_of c) p x
      call_is = ap (λ v. record (call_of c) { recorded = v }) recorded_is

      numbers_are : numbers_of entries2.items ≡ numbered due w.next_leg 0 (entries_of c) (numbers_of c.entries.items)
      numbers_are =
          launched2.numbers ∙ ap (λ v. with_numbers w.next_leg v (numbers_of c1.entries.items)) fresh_is ∙ due_numbers due w.next_leg 0 (entries_of c) (numbers_of c1.entries.items)
          ∙ ap (numbered due w.next_leg 0 (entries_of c)) (fun_ext noted.numbers)

      pub row_is : call_row c2 ≡ recorded_row r w (call_row c) p x
      row_is = λ j. record { call = call_is j; request = laid_request (arc_value c.laid); entries = entries_of c; legs = numbers_are j }

      pub rows_are : (f : State → rows.State) → f Waiting ≡ rows.Waiting → rows_by f legs2 ≡ queued_rows due k (load_of c) w.next_leg 0 (entries_of c) (rows_by f legs)
      rows_are f waits =
          ap (rows_by f) (launched2.legs_are ∙ ap (λ v. with_legs w.next_leg v c1.entries.items legs) fresh_is)
          ∙ due_rows k c due f waits w.next_leg 0 (entries_of c) c1.entries.items legs are_ready

      -- ---- what holds of a running call holds of it

      same_place : (m : Launch) → has_outcome (call_of c2) m ≡ is_some (outcomes ((p, outcome_of x) ∷ history_of (call_of c).recorded) m.position)
      same_place m = ap (λ v. has_outcome v m) call_is

      has_it : (j : ℕ) (m : Launch) → slice_get (entries_of c) j ≡ Some m → e ≡ j → has_outcome (call_of c2) m ≡ true
      has_it j m at q =
          let its : launch_at (entries_of c) e ≡ m = same_some (sym h.entry ∙ ap (slice_get (entries_of c)) q ∙ at) in
          same_place m ∙ ap (λ b. is_some (cond b (Some (outcome_of x)) (outcomes (history_of (call_of c).recorded) m.position))) (ap (λ v. is_same p v.position) (sym its) ∙ same_self p)

      has_others : (j : ℕ) (m : Launch) → slice_get (entries_of c) j ≡ Some m → (e ≡ j → ⊥) → has_outcome (call_of c2) m ≡ has_outcome (call_of c) m
      has_others j m at ne = same_place m ∙ ap (λ b. is_some (cond b (Some (outcome_of x)) (outcomes (history_of (call_of c).recorded) m.position))) (apart j m at ne)

      places_are : (j : ℕ) → places_of entries2.items j ≡ put (places_of c.entries.items) e (Some (length c.recorded.items)) j
      places_are j = launched2.places j ∙ noted.places j

      place_here : places_of entries2.items e ≡ Some (length c.recorded.items)
      place_here = places_are e ∙ put_same (places_of c.entries.items) e (Some (length c.recorded.items))

      place_other : (j : ℕ) → (e ≡ j → ⊥) → places_of entries2.items j ≡ places_of c.entries.items j
      place_other j ne = places_are j ∙ put_other (places_of c.entries.items) e j (Some (length c.recorded.items)) ne

      len2 : length entries2.items ≡ length (entries_of c)
      len2 = launched2.len ∙ noted.len ∙ run.len

      below_of : (j q : ℕ) → places_of entries2.items j ≡ Some q → j < length (entries_of c)
      below_of j q g =
          let there = some_entry (slice_get entries2.items j) refl g in
          let n = len2 in
          let b = get_below entries2.items j there.0 there.1 in
          omega (arith, n, b)
        where
          some_entry : (o : Option Entry) → slice_get entries2.items j ≡ o → option_and_then (λ y. y.place) o ≡ Some q → (y : Entry) × (slice_get entries2.items j ≡ Some y)
          some_entry None is t = no_some t
          some_entry (Some y) is t = (y, is)

      longer : length c1.recorded.items ≡ suc (length c.recorded.items)
      longer = let a : length (c.recorded.items ++ record { entry = e; outcome = outcome; taken = Some taken } ∷ []) ≡ length c.recorded.items + 1 = length-append c.recorded.items _ in
          let b : length c1.recorded.items ≡ length (c.recorded.items ++ record { entry = e; outcome = outcome; taken = Some taken } ∷ []) = ap length noted.recorded in
          omega (arith, a, b)

      ready2 : (j : ℕ) → j < length (entries_of c) → numbers_of entries2.items j ≡ None → option_map errand_view (errand_at entries2.items j) ≡ Some (errand_for k c j)
      ready2 j below none =
          let n = len2 in
          let y = entry_at entries2.items j (omega (arith, n, below)) in
          let no_leg : y.0.leg ≡ None = sym (ap (option_and_then (λ z. z.leg)) y.1) ∙ none in
          let was = launched2.others j y.0 y.1 no_leg in
          let old_none : numbers_of c.entries.items j ≡ None = sym (noted.numbers j) ∙ ap (option_and_then (λ z. z.leg)) was ∙ no_leg in
          ap (option_map errand_view) (ap (option_and_then (λ z. z.errand)) y.1 ∙ sym (ap (option_and_then (λ z. z.errand)) was) ∙ noted.errands j) ∙ run.ready j below old_none

      replies2 : part_value taken ≡ part_value outcome → (j q : ℕ) → places_of entries2.items j ≡ Some q → c.taken ≡ false → taken_at c1.recorded.items q ≡ reply_at (call_of c2).recorded (launch_at (entries_of c) j).position
      replies2 same j q g untaken =
          elim (cases_eq e j) [
            | inl ej ↦
                let q_is : length c.recorded.items ≡ q = same_some (sym place_here ∙ ap (places_of entries2.items) ej ∙ g) in
                ap (λ v. taken_at v q) noted.recorded ∙ ap (taken_at (c.recorded.items ++ record { entry = e; outcome = outcome; taken = Some taken } ∷ [])) (sym q_is)
                ∙ ap (option_and_then (λ (z : Recorded). option_map part_value z.taken)) (get_last c.recorded.items (record { entry = e; outcome = outcome; taken = Some taken }))
                ∙ ap (λ v. Some v) same
                ∙ sym (ap (λ v. reply_at v (launch_at (entries_of c) j).position) recorded_is ∙ ap (λ b. cond b (Some x) (reply_at (call_of c).recorded (launch_at (entries_of c) j).position)) (ap (λ v. is_same p (launch_at (entries_of c) v).position) (sym ej) ∙ same_self p))
            | inr ne ↦
                let was : places_of c.entries.items j ≡ Some q = sym (place_other j ne) ∙ g in
                ap (λ v. taken_at v q) noted.recorded
                ∙ ap (option_and_then (λ (z : Recorded). option_map part_value z.taken)) (get_append c.recorded.items (record { entry = e; outcome = outcome; taken = Some taken }) q (run.within j q was))
                ∙ run.replies j q was untaken
                ∙ sym (ap (λ v. reply_at v (launch_at (entries_of c) j).position) recorded_is ∙ ap (λ b. cond b (Some x) (reply_at (call_of c).recorded (launch_at (entries_of c) j).position)) (apart j (launch_at (entries_of c) j) (there_at (entries_of c) j (below_of j q g)) ne))
          ]

      within2 : (j q : ℕ) → places_of entries2.items j ≡ Some q → q < length c1.recorded.items
      within2 j q g =
          let n = longer in
          elim (cases_eq e j) [
            | inl ej ↦ let q_is : length c.recorded.items ≡ q = same_some (sym place_here ∙ ap (places_of entries2.items) ej ∙ g) in omega (arith, n, q_is)
            | inr ne ↦ let b = run.within j q (sym (place_other j ne) ∙ g) in omega (arith, n, b)
          ]

      placed2 : (j : ℕ) (m : Launch) → slice_get (entries_of c) j ≡ Some m → is_some (places_of entries2.items j) ≡ has_outcome (call_of c2) m
      placed2 j m at =
          elim (cases_eq e j) [
            | inl ej ↦ ap is_some (ap (places_of entries2.items) (sym ej) ∙ place_here) ∙ sym (has_it j m at ej)
            | inr ne ↦ ap is_some (place_other j ne) ∙ run.placed j m at ∙ sym (has_others j m at ne)
          ]

      left_count : c.left - length (fresh c1.state) ≡ count (λ l. not (is_launched r (call_of c2) l)) (entries_of c)
      left_count =
          let a = run.left in
          let b = fresh_count in
          let more = count_more (is_launched r (call_of c)) (is_launched r (with_reply (call_of c) p x)) (entries_of c) stays in
          let both = count_both (is_launched r (call_of c)) (entries_of c) in
          let both2 = count_both (is_launched r (with_reply (call_of c) p x)) (entries_of c) in
          let same : count (λ l. not (is_launched r (call_of c2) l)) (entries_of c) ≡ count (λ l. not (is_launched r (with_reply (call_of c) p x) l)) (entries_of c) =
          ap (λ v. count (λ l. not (is_launched r v l)) (entries_of c)) call_is in
          omega (arith, a, b, more, both, both2, same)

      launched_count : length entries2.items - (c.left - length (fresh c1.state)) ≡ count (is_launched r (call_of c2)) (entries_of c)
      launched_count =
          let n = left_count in
          let both = count_both (is_launched r (call_of c2)) (entries_of c) in
          let len = len2 in
          omega (arith, n, both, len)

      recorded_count : length c1.recorded.items ≡ count (has_outcome (call_of c2)) (entries_of c)
      recorded_count =
          let a = run.recorded in
          let b = longer in
          let one = count_one_more (has_outcome (call_of c)) (has_outcome (call_of c2)) (entries_of c) e (launch_at (entries_of c) e) h.entry (ap is_some h.no_outcome) (has_it e (launch_at (entries_of c) e) h.entry refl)
          (λ j m at ne. sym (has_others j m at ne)) in
          omega (arith, a, b, one)

      pub running : part_value taken ≡ part_value outcome → IsRunning r k c2
      running same =
          record {
            tracked = subst (λ v. IsTracked (tree_of r c.route) (situation_of (call_of c)) (choice_of (call_of c)) (entries_of c) v c1.state)
                (sym (ap past_of noted.recorded ∙ fold_last past_next [] c.recorded.items (record { entry = e; outcome = outcome; taken = Some taken }))) tracked1;
            counted = counted1 ∙ run.counted;
            len = len2;
            ready = ready2;
            placed = placed2;
            replies = replies2 same;
            within = within2;
            left = left_count;
            recorded = recorded_count;
            room = let a = run.room in let b = noted.capacity in omega (arith, a, b);
            known = run.known;
          }

      -- ---- whether the call has ended, and what it may still launch

      pub laid : IsLaidOut r (call_of c2) (entries_of c)
      laid = record { all = row.laid.all; rising = row.laid.rising }

      closed : (m : Launch) → has_outcome (with_reply (call_of c) p x) m ≡ true → is_launched r (with_reply (call_of c) p x) m ≡ true
      closed m t =
          elim (cases_Bool (is_same p m.position)) [
            | inl same ↦ ap (λ v. has_leg_at (launched_by r (with_reply (call_of c) p x)) v) (sym (same_is p m.position same)) ∙ stays (launch_at (entries_of c) e) is_there
            | inr other ↦
                let was : has_outcome (call_of c) m ≡ true = sym (ap (λ b. is_some (cond b (Some (outcome_of x)) (outcomes (history_of (call_of c).recorded) m.position))) other) ∙ t in
                let y = some_value (outcomes (history_of (call_of c).recorded) m.position) was in
                stays m (row.closed m.position y.0 y.1)
          ]
        where
          some_value : {A : Type 0} (o : Option A) → is_some o ≡ true → (y : A) × (o ≡ Some y)
          some_value None e = absurd (true≢false (sym e))
          some_value (Some y) e = (y, refl)

      pub ended_is : has_ended_by c2 ≡ has_ended r (call_of c2)
      ended_is =
          let settled : is_settled r (call_of c2) ≡ nat_eq (count (has_outcome (call_of c2)) (entries_of c)) (count (is_launched r (call_of c2)) (entries_of c)) =
          settled_by_entries r (call_of c2) (entries_of c) laid
          ∙ all_by_count (has_outcome (call_of c2)) (is_launched r (call_of c2)) (entries_of c) (λ m t. ap (λ v. is_launched r v m) call_is ∙ closed m (ap (λ v. has_outcome v m) (sym call_is) ∙ t)) in
          ap (λ n. c.taken && nat_eq n (length entries2.items - (c.left - length (fresh c1.state)))) recorded_count ∙ ap (λ n. c.taken && nat_eq (count (has_outcome (call_of c2)) (entries_of c)) n) launched_count
          ∙ ap (λ b. c.taken && b) (sym settled)

      pub recorded2 : part_value taken ≡ part_value outcome → (result : Recording) → result.launched ≡ length (fresh c1.state) → result.left ≡ c2.left → result.ended ≡ has_ended_by c2
          → HasRecorded r w k c c2 e x legs legs2 result
      recorded2 same result n left ended =
          record {
            row = row_is;
            rows = rows_are;
            running = running same;
            launched = n ∙ fresh_count;
            left = left ∙ left_count;
            spent = let m = within_left in let f = fresh_count in let a = run.left in omega (arith, n, left, m, f, a);
            ended = ended ∙ ended_is;
            addressed = λ a. subst AreAddressed (sym launched2.legs_are) (launched_addressed w.next_leg (fresh c1.state) c1.entries.items legs a);
          }

    -- the call after both
    pub has_recorded : (d : Call) (legs legs2 : ℕ → Option (Leg Errand)) (next : ℕ) → w.next_leg ≡ next → d ≡ record c1 { entries = d.entries; left = c1.left - length (fresh c1.state) }
        → IsLaunched next (fresh c1.state) c1.entries.items d.entries.items legs legs2
        → IsTracked (tree_of r c.route) (situation_of (call_of c)) (choice_of (call_of c)) (entries_of c) ((e, outcome_of x) ∷ past_of c.recorded.items) c1.state → entry_count c1.state ≡ entry_count c.state
        → part_value taken ≡ part_value outcome → (result : Recording) → result.launched ≡ length (fresh c1.state) → result.left ≡ d.left → result.ended ≡ has_ended_by d
        → HasRecorded r w k c d e x legs legs2 result
    has_recorded d legs legs2 next next_is d_is launched2 tracked1 counted1 same result n left ended =
        let c2 : Call = record c { state = c1.state; entries = d.entries; recorded = c1.recorded; left = c.left - length (fresh c1.state) } in
        let is : d ≡ c2 = d_is ∙ ap (λ (v : Call). record v { entries = d.entries; left = v.left - length (fresh c1.state) }) noted.same in
        subst (λ v. HasRecorded r w k c v e x legs legs2 result) (sym is)
        (recorded2 d.entries legs legs2 (subst (λ m. IsLaunched m (fresh c1.state) c1.entries.items d.entries.items legs legs2) (sym next_is) launched2) tracked1 counted1 same result n
        (left ∙ ap (λ v. v.left) is) (ended ∙ ap has_ended_by is))
