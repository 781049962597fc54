-- The clock, and when no call runs and no leg is queued.
use Rattle.std.proofs.Common.{◌≡◌, inl, inr, ℕ, zero, suc, ◌<◌, true, Option, Some, None, option_map, refl, sym, ap, ◌∙◌, subst, arith, true≢false}
use Rattle.std.specs.Arc.{arc_value}
use Rattle.std.specs.Prelude.{IfSome}
use Rattle.std.proofs.lemmas.Bool.{cases_lt}
use Rattle.mcv_base.specs.declared.request.Moment.{Moment}
use Rattle.mcv_queues.specs.declared.leg.Leg.{Leg}
use Rattle.mcv_queues.specs.declared.leg.State.{State}
use Rattle.mcv_queues.specs.declared.leg.State.TheVariants as states
use Rattle.mcv_queues.specs.declared.roots.Group.TheVariants.{LegsInReplay}
use Rattle.mcv_queues.specs.Groups.{group_at, group_of, is_group, is_in}
use Rattle.mcv_queues.specs.Numbers.{IsLeast}
use Rattle.mcv_queues.specs.Queues.{legs}
use Rattle.mcv_route.specs.Eras.{IsEra, breaks_of, since_at}
use Rattle.mcv_route.specs.Routes.{RoutesValue}
use Rattle.mcv_world.specs.Moves.{EraBegan}
use Rattle.mcv_world.proofs.Choices.{moments_have_eras}
use Rattle.mcv_world.proofs.Numbers.{no_some, other_era, same_some}
use Rattle.mcv_events.specs.Rows as rows
use Rattle.mcv_events.specs.Rows.{CallRow, IsCore, LegRow, Rows, world_of}
use Rattle.mcv_events.specs.QueuedLegs.{count_in, count_of}
use Rattle.mcv_events.specs.Sums.{sum_below}
use Rattle.mcv_events.proofs.EventsAreMoves.{era_keeps_core, era_moves}
use Rattle.mcv_events.proofs.CoresKeepDeletes.{spooled_rows_open}
use Rattle.mcv_core.specs.declared.call.Call.{Call}
use Rattle.mcv_core.specs.declared.dispatcher.Dispatcher.{Dispatcher}
use Rattle.mcv_core.specs.declared.errand.Errand.{Errand}
use Rattle.mcv_core.specs.declared.turn.Era.{Era}
use Rattle.mcv_core.specs.Calls.{calls_at}
use Rattle.mcv_core.specs.CoreView.{Does, IsQuiet}
use Rattle.mcv_core.specs.Rows.{awaiting_rows, call_rows, row_by, rows_of, state_of}
use Rattle.mcv_core.specs.Soundness.{one, IsSound}
use Rattle.mcv_core.specs.Chapters.{IsAtRest, era_move, in_era}
use Rattle.mcv_core.specs.Events.{IsNewEra}
use Rattle.mcv_core.specs.View.{core_view}

-- ---- the clock

pub sound_in_era : (r : RoutesValue) (calls : ℕ → Option Call) (legs2 : ℕ → Option (Leg Errand)) (since : Option ℕ) (moment next_call next_leg reserved queued spooled running room2 servers2 : ℕ)
    → IsSound r calls legs2 since moment next_call next_leg reserved queued spooled running room2 servers2 → (since2 : Option ℕ) (moment2 : ℕ) → since2 ≡ since_at (breaks_of r) moment2
    → IsSound r calls legs2 since2 moment2 next_call next_leg reserved queued spooled running room2 servers2
sound_in_era r calls legs2 since moment next_call next_leg reserved queued spooled running room2 servers2 i since2 moment2 is = record {
  core = era_keeps_core r (rows_of calls legs2 since next_call next_leg) since2 i.core;
  awaiting = era_keeps_core r (awaiting_rows calls legs2 since next_call next_leg) since2 i.awaiting;
  refused = i.refused;
  calls_run = i.calls_run;
  addressed = i.addressed;
  reserved_is = i.reserved_is;
  queued_is = i.queued_is;
  spooled_is = i.spooled_is;
  running_is = i.running_is;
  room_is = i.room_is;
  limit = i.limit;
  numbers = i.numbers;
  known = i.known;
  era = is;
}

same_moment : (a b : Option Moment) → option_map (λ m. m.0) a ≡ option_map (λ m. m.0) b → a ≡ b
same_moment None None e = refl
same_moment None (Some b) e = no_some e
same_moment (Some a) None e = no_some (sym e)
same_moment (Some a) (Some b) e = λ j. Some (record { 0 = same_some e j })

-- the era's move, or none where the era is the same
pub era_does : (d : Dispatcher) (since : Option Moment) (moment : ℕ) → option_map (λ m. m.0) since ≡ since_at (breaks_of (arc_value d.accepted)) moment → (era : Option Era) → IfSome era (λ e. e.since ≡ since)
    → IfSome era (λ e. since ≡ d.since → ⊥) → (era ≡ None → since ≡ d.since) → Does (core_view d) (record (in_era (core_view d) (option_map (λ m. m.0) since)) { moment = moment }) (era_move era)
era_does d since moment is None changed other same = record {
  world = λ j. record (world_of (core_view d).rows) { since = ap (option_map (λ (m : Moment). m.0)) (same refl) j };
  core = era_keeps_core (arc_value d.accepted) (core_view d).rows (option_map (λ m. m.0) since) d.sound.core;
  routes = refl;
}
era_does d since moment is (Some era) changed other same =
    subst (λ v. Does (core_view d) (record (in_era (core_view d) (option_map (λ m. m.0) since)) { moment = moment }) (Some (EraBegan (option_map (λ (m : Moment). m.0) v)))) (sym changed)
    (record {
      allowed = subst (IsEra (arc_value d.accepted)) (sym is) (moments_have_eras (arc_value d.accepted) moment);
      moves = era_moves (arc_value d.accepted) (core_view d).rows (option_map (λ m. m.0) since) d.sound.core (other_era (option_map (λ (m : Moment). m.0) d.since) (option_map (λ (m : Moment). m.0) since) (λ e. other (same_moment since d.since e)));
      routes = refl;
    })

-- the era that is answered is another one than before
pub new_era : (old since : Option Moment) (era : Option Era) → IfSome era (λ e. e.since ≡ since) → IfSome era (λ e. since ≡ old → ⊥) → (era ≡ None → since ≡ old) → IsNewEra (option_map (λ m. m.0) old) (option_map (λ m. m.0) since) era
new_era old since None changed other same = ap (option_map (λ (m : Moment). m.0)) (same refl)
new_era old since (Some era) changed other same = (ap (option_map (λ (m : Moment). m.0)) changed, λ e. other (same_moment since old e))

-- ---- sums that are 0

sum_zero : {X : Type 0} (weigh : Option X → ℕ) (f : ℕ → Option X) (m k : ℕ) → sum_below weigh f m ≡ 0 → k < m → weigh (f k) ≡ 0
sum_zero weigh f zero k e low = absurd (omega (arith, low))
sum_zero weigh f (suc m) k e low =
    elim (cases_lt k m) [
      | inl under ↦ sum_zero weigh f m k (omega (arith, e)) under
      | inr high ↦ let same : m ≡ k = omega (arith, low, high) in ap (λ v. weigh (f v)) (sym same) ∙ omega (arith, e)
    ]

zero_sum : {X : Type 0} (weigh : Option X → ℕ) (f : ℕ → Option X) (m : ℕ) → ((k : ℕ) → weigh (f k) ≡ 0) → sum_below weigh f m ≡ 0
zero_sum weigh f zero h = refl
zero_sum weigh f (suc m) h = let here = h m in let others = zero_sum weigh f m h in omega (arith, here, others)

none_of_one : (o : Option CallRow) → one o ≡ 0 → o ≡ None
none_of_one None e = refl
none_of_one (Some c) e = absurd (omega (arith, e))

-- a leg that isn't queued, and isn't in replay
stored_of : (t : State) → count_in (state_of t) ≡ 0 → (t ≡ states.InReplay → ⊥) → state_of t ≡ rows.InSpool
stored_of states.Waiting e grounded = absurd (omega (arith, e))
stored_of states.Sent e grounded = absurd (omega (arith, e))
stored_of states.Held e grounded = absurd (omega (arith, e))
stored_of states.Refused e grounded = absurd (omega (arith, e))
stored_of states.InSpool e grounded = refl
stored_of states.InReplay e grounded = absurd (grounded refl)

-- ---- at rest

module _ (d : Dispatcher) where
  no_calls : d.counts.running ≡ 0 → (k : ℕ) → (core_view d).rows.calls k ≡ None
  no_calls e k =
      elim (cases_lt k d.next_call) [
        | inl low ↦ none_of_one ((core_view d).rows.calls k) (sum_zero one (call_rows (calls_at d.calls)) d.next_call k (sym d.sound.running_is ∙ e) low)
        | inr high ↦ d.sound.core.calls_below k high
      ]

  -- none is in replay
  grounded : IsLeast (is_in (legs d.queues) LegsInReplay) None → (n : ℕ) (l : Leg Errand) → legs d.queues n ≡ Some l → l.state ≡ states.InReplay → ⊥
  grounded least n l at is = true≢false (sym (least.least n (ap (λ v. is_group (group_of v) LegsInReplay) at ∙ ap (λ t. is_group (group_at l.server.0 t) LegsInReplay) is)))

  all_stored : d.counts.queued ≡ 0 → IsLeast (is_in (legs d.queues) LegsInReplay) None → (n : ℕ) (s : LegRow) → (core_view d).rows.legs n ≡ Some s → s.state ≡ rows.InSpool
  all_stored e least n s at =
      elim (cases_lt n d.next_leg) [
        | inl low ↦ by_leg (legs d.queues n) refl at (sym (ap count_of at) ∙ sum_zero count_of (core_view d).rows.legs d.next_leg n (sym d.sound.queued_is ∙ e) low)
        | inr high ↦ no_some (sym (d.sound.core.legs_below n high) ∙ at)
      ]
    where
      by_leg : (o : Option (Leg Errand)) → legs d.queues n ≡ o → option_map (row_by state_of) o ≡ Some s → count_in s.state ≡ 0 → s.state ≡ rows.InSpool
      by_leg None is there none = no_some there
      by_leg (Some l) is there none =
          let same = ap (λ (z : LegRow). z.state) (same_some there) in
          sym same ∙ stored_of l.state (ap count_in same ∙ none) (grounded least n l is)

  pub at_rest : d.counts.running ≡ 0 → d.counts.queued ≡ 0 → IsLeast (is_in (legs d.queues) LegsInReplay) None → IsAtRest (core_view d)
  at_rest a b least = record { calls = no_calls a; legs = all_stored b least }

  pub rest_runs : IsAtRest (core_view d) → d.counts.running ≡ 0
  rest_runs h = d.sound.running_is ∙ zero_sum one (call_rows (calls_at d.calls)) d.next_call (λ k. ap one (h.calls k))

  pub rest_queues : IsAtRest (core_view d) → d.counts.queued ≡ 0
  rest_queues h = d.sound.queued_is ∙ zero_sum count_of (core_view d).rows.legs d.next_leg (λ n. by_row n ((core_view d).rows.legs n) refl)
    where
      by_row : (n : ℕ) (o : Option LegRow) → (core_view d).rows.legs n ≡ o → count_of o ≡ 0
      by_row n None at = refl
      by_row n (Some s) at = ap count_in (h.legs n s at)

  -- a leg in replay isn't one that is in the spool alone
  replayed_row : (n : ℕ) (o : Option (Leg Errand)) → legs d.queues n ≡ o → is_group (group_of o) LegsInReplay ≡ true → (s : LegRow) × ((core_view d).rows.legs n ≡ Some s) × (s.state ≡ rows.InReplay)
  replayed_row n None at e = absurd (true≢false (sym e))
  replayed_row n (Some l) at e = (row_by state_of l, ap (option_map (row_by state_of)) at, by_state l.state e)
    where
      by_state : (t : State) → is_group (group_at l.server.0 t) LegsInReplay ≡ true → state_of t ≡ rows.InReplay
      by_state states.Waiting e = absurd (true≢false (sym e))
      by_state states.Sent e = absurd (true≢false (sym e))
      by_state states.Held e = absurd (true≢false (sym e))
      by_state states.Refused e = absurd (true≢false (sym e))
      by_state states.InSpool e = absurd (true≢false (sym e))
      by_state states.InReplay e = refl

  pub rest_replays : IsAtRest (core_view d) → (o : Option ℕ) → IsLeast (is_in (legs d.queues) LegsInReplay) o → o ≡ None
  rest_replays h None least = refl
  rest_replays h (Some n) least =
      let f = replayed_row n (legs d.queues n) refl (least.there n refl) in
      let both : rows.InReplay ≡ rows.InSpool = sym f.2 ∙ h.legs n f.0 f.1 in
      absurd cc

  pub rest_is_quiet : IsAtRest (core_view d) → IsQuiet (core_view d)
  rest_is_quiet h =
      spooled_rows_open (arc_value d.accepted) (core_view d).rows d.sound.core h.calls h.legs (subst (IsEra (arc_value d.accepted)) (sym d.sound.era) (moments_have_eras (arc_value d.accepted) d.moment.0))
