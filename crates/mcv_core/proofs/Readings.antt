-- What is read of the legs.
use Rattle.std.proofs.Common.{◌≡◌, ◌&&◌, inl, inr, ℕ, Bool, false, Option, Some, None, option_map, refl, sym, ap, ◌∙◌, subst, true≢false}
use Rattle.std.proofs.Math.Path.{fun_ext}
use Rattle.std.proofs.lemmas.Bool.{cases_Bool}
use Rattle.mcv_queues.specs.declared.leg.Leg.{Leg}
use Rattle.mcv_queues.specs.declared.leg.State.{State}
use Rattle.mcv_queues.specs.declared.leg.State.TheVariants as states
use Rattle.mcv_queues.specs.declared.roots.Group.TheVariants.{HeldLegs, RefusedLegs}
use Rattle.mcv_queues.specs.Groups as groups
use Rattle.mcv_queues.specs.Groups.{group_at, group_of, is_group, is_in}
use Rattle.mcv_queues.specs.Numbers.{IsLeast}
use Rattle.mcv_queues.specs.Queues.{legs}
use Rattle.mcv_events.specs.Rows.{CallRow, awaits, is_unanswered}
use Rattle.mcv_core.specs.declared.dispatcher.Dispatcher.{Dispatcher}
use Rattle.mcv_core.specs.declared.errand.Errand.{Errand}
use Rattle.mcv_core.specs.Readers.{IsFirstHeld, is_held, is_held_in, is_held_unheard}
use Rattle.mcv_core.specs.Rows.{awaiting_state, row_by, state_of}
use Rattle.mcv_core.specs.View.{core_view}

same_awaits : (calls : ℕ → Option CallRow) (l : Leg Errand) (k : Option ℕ) → awaits calls (row_by awaiting_state l) k ≡ awaits calls (row_by state_of l) k
same_awaits calls l None = refl
same_awaits calls l (Some k) = refl

-- where no leg is held without an outcome, the held ones are those that the spool refused
refused_leg : (o : Option (Leg Errand)) → is_group (group_of o) HeldLegs ≡ false → is_group (group_of o) RefusedLegs ≡ is_held (option_map (row_by state_of) o)
refused_leg None e = refl
refused_leg (Some l) e = by_state l.state e
  where
    by_state : (t : State) → is_group (group_at l.server.0 t) HeldLegs ≡ false → is_group (group_at l.server.0 t) RefusedLegs ≡ is_held_in (state_of t)
    by_state states.Waiting e = refl
    by_state states.Sent e = refl
    by_state states.Held e = absurd (true≢false e)
    by_state states.Refused e = refl
    by_state states.InSpool e = refl
    by_state states.InReplay e = refl

none_holds : (w : ℕ → Bool) → IsLeast w None → (n : ℕ) → w n ≡ false
none_holds w i n = elim (cases_Bool (w n)) [ inl t ↦ absurd (true≢false (sym (i.least n t))) | inr f ↦ f ]

module _ (d : Dispatcher) where
  held_leg : (n : ℕ) (o : Option (Leg Errand)) → legs d.queues n ≡ o → is_group (group_of o) HeldLegs ≡ is_held_unheard (core_view d).rows (option_map (row_by state_of) o)
  held_leg n None at = refl
  held_leg n (Some l) at = by_state l.state refl
    where
      here : option_map (row_by awaiting_state) (legs d.queues n) ≡ Some (row_by awaiting_state l)
      here = ap (option_map (row_by awaiting_state)) at

      by_state : (t : State) → l.state ≡ t → is_group (group_at l.server.0 t) HeldLegs ≡ (is_held_in (state_of t) && awaits (core_view d).rows.calls (row_by state_of l) l.content.call)
      by_state states.Waiting is = refl
      by_state states.Sent is = refl
      by_state states.Held is =
          sym (d.sound.awaiting.awaited n (row_by awaiting_state l) here (ap (λ t. is_unanswered (awaiting_state t)) is)) ∙ same_awaits (core_view d).rows.calls l l.content.call
      by_state states.Refused is = sym (d.sound.refused n (row_by awaiting_state l) here (ap awaiting_state is)) ∙ same_awaits (core_view d).rows.calls l l.content.call
      by_state states.InSpool is = refl
      by_state states.InReplay is = refl

  least_held : (b : Option ℕ) → IsLeast (is_in (legs d.queues) HeldLegs) b → IsLeast (λ n. is_held_unheard (core_view d).rows ((core_view d).rows.legs n)) b
  least_held b h = subst (λ w. IsLeast w b) (fun_ext (λ n. held_leg n (legs d.queues n) refl)) h

  least_refused : (b : Option ℕ) → IsLeast (is_in (legs d.queues) HeldLegs) None → IsLeast (is_in (legs d.queues) RefusedLegs) b → IsLeast (λ n. is_held ((core_view d).rows.legs n)) b
  least_refused b none h = subst (λ w. IsLeast w b) (fun_ext (λ n. refused_leg (legs d.queues n) (none_holds (is_in (legs d.queues) HeldLegs) none n))) h

  pub first_held : (n : ℕ) → groups.IsFirstHeld (legs d.queues) n → IsFirstHeld (core_view d).rows (Some n)
  first_held n h = elim h [
    | inl a ↦ inl (cc, least_held (Some n) a)
    | inr b ↦ inr (least_held None b.0, least_refused (Some n) b.0 b.1)
  ]

  pub none_held : IsLeast (is_in (legs d.queues) HeldLegs) None → IsLeast (is_in (legs d.queues) RefusedLegs) None → IsFirstHeld (core_view d).rows None
  none_held a b = inr (least_held None a, least_refused None a b)
