use Rattle.std.proofs.Common.{◌≡◌, ◌∙◌, ◌⊎◌, ◌≤◌, ◌^◌, Ok, Err, inl, inr, ap, refl, subst, sym, arith, vec_len, vec_capacity}
use Rattle.std.proofs.lemmas.Result.{err_from_is_err_and}
use Rattle.mcv_core.specs.Events.{IsEvent, IsTurned}
use Rattle.mcv_core.specs.View.{core_view}
use Rattle.mcv_hub.proofs.EventsMayWrite.{turn_opens, turn_spends}
use Rattle.mcv_hub.proofs.Histories.{chapter_begins, refused_holds, turn_holds}
use Rattle.mcv_hub.specs.State.{HubView}
use Rattle.mcv_hub.specs.RemainingEntries.{break_count, may_write}
use Rattle.mcv_hub.proofs.state.HubState.turn.Goals as goal

-- no chapter has a greater number
pub returns-in_default : goal.returns-in_default
returns-in_default g c =
    let last = c.in_default.ensures in
    let chapter = c.self.invariant.0.0.chapter_is in
    rw (← c.self.view_is)
    (record {
      busy = refl;
      cause = λ can. let number = can.number in absurd (omega (arith, last, chapter, number));
      same = record { core = refl; history = refl; books = record { begun = refl; taken = refl; same = record { hub = refl; chapter = refl; entries_before = refl; begun_before = refl; taken_before = refl } } };
    })

-- a book has counted as many as it may
pub returns-then-begun-gt-MOST_COUNTED : goal.returns-then-begun-gt-MOST_COUNTED
returns-then-begun-gt-MOST_COUNTED g c =
    let begun = c.totals-begun.ensures.begun ∙ sym (ap (λ (z : HubView). z.begun) c.self.view_is) in
    let taken = c.totals-begun.ensures.taken ∙ sym (ap (λ (z : HubView). z.taken) c.self.view_is) in
    let full : (2 ^ 63 ≤ c.self.inside.begun.total) ⊎ (2 ^ 63 ≤ c.self.inside.taken.total) =
    elim c.then-begun-gt-MOST_COUNTED.either [ inl e ↦ inl (omega (arith, e, begun)) | inr e ↦ inr (let k = e.1 in omega (arith, k, taken)) ] in
    rw (← c.self.view_is)
    (record {
      busy = refl;
      cause = λ can. full;
      same = record { core = refl; history = refl; books = record { begun = refl; taken = refl; same = record { hub = refl; chapter = refl; entries_before = refl; begun_before = refl; taken_before = refl } } };
    })

-- the core says so
pub invariant_of-self : goal.invariant_of-self
invariant_of-self g c =
    let s = c.self.inside in
    let v = core_view s.core.dispatcher in
    let w = core_view c.turn.new.self in
    let h : IsEvent (IsTurned v (Err c.in_err-turn.field-0.0)) w = subst (λ d. IsEvent (IsTurned (core_view d) (Err c.in_err-turn.field-0.0)) w) c.events.ensures.value c.in_err-turn.ensures in (
      refused_holds v w s.history.entries.items s.chapter s.begun.total s.taken.total s.begun_before s.taken_before (vec_len s.history.entries) (vec_capacity s.history.entries) s.places s.breaks c.self.invariant.0 h.event.same s.history.entries.items
          (vec_len s.history.entries) (vec_capacity s.history.entries) refl refl (omega arith),
      c.self.invariant.1,
    )

pub returns-in_err-turn : goal.returns-in_err-turn
returns-in_err-turn g c =
    let v = core_view c.self.inside.core.dispatcher in
    let w = core_view c.turn.new.self in
    let h : IsEvent (IsTurned v (Err c.in_err-turn.field-0.0)) w = subst (λ d. IsEvent (IsTurned (core_view d) (Err c.in_err-turn.field-0.0)) w) c.events.ensures.value c.in_err-turn.ensures in
    let p = err_from_is_err_and c.from_residual.result c.from_residual.ensures.1 in
    rw (p.1, p.2)
    (rw (← c.self.view_is)
    (record {
      busy = h.event.cause.0;
      cause = λ can. absurd (h.event.cause.1 can);
      same = record { core = h.event.same; history = refl; books = record { begun = refl; taken = refl; same = record { hub = refl; chapter = refl; entries_before = refl; begun_before = refl; taken_before = refl } } };
    }))

-- the old places were there
pub renew-past-requires : goal.renew-past-requires
renew-past-requires g c =
    let lesser = c.turned_places-self-inside.ensures.lesser in
    let kept = c.self.invariant.0.1.kept in
    omega (arith, lesser, kept)

pub invariant_of-self-2 : goal.invariant_of-self-2
invariant_of-self-2 g c =
    let s = c.self.inside in
    let d = s.core.dispatcher in
    let v = core_view d in
    let w = core_view c.turn.new.self in
    let h : IsEvent (IsTurned v (Ok tt)) w = subst (λ d. IsEvent (IsTurned (core_view d) (Ok tt)) w) c.events.ensures.value c.in_ok-turn.ensures in
    let entries = c.entries-before.ensures ∙ ap (λ d. (core_view d).entries) c.state.ensures in
    let opens = turn_opens v w h.event.quiet h.event.view in
    let breaks = c.self.invariant.0.2 ∙ ap break_count (sym h.event.does.routes) in
    let either : (c.turned_places-self-inside.result ≡ s.places) ⊎ (may_write w ≤ c.turned_places-self-inside.result) =
    elim c.turned_places-self-inside.ensures.either [ inl e ↦ inl e | inr e ↦ inr (omega (arith, e, entries, opens, breaks)) ] in (
      turn_holds v w s.history.entries.items s.chapter s.begun.total s.taken.total s.begun_before s.taken_before (vec_len s.history.entries) (vec_capacity s.history.entries) s.places s.breaks c.self.invariant.0 _ c.in-Some.chapter
          c.turned_places-self-inside.result _ _ _ _ h.event.does.routes (ap (λ z. z.limit) h.event.view) h.event.quiet (omega (arith, c.in-Some.ensures)) (omega (arith, c.in-Some.ensures, c.self.invariant.0.0.chapter_is, ap (λ z. z.chapter) h.event.view))
          (c.totals-begun.ensures.begun ∙ sym (ap (λ (z : HubView). z.begun) c.self.view_is)) (c.totals-begun.ensures.taken ∙ sym (ap (λ (z : HubView). z.taken) c.self.view_is)) (omega (arith, c.if-begun-gt-MOST_COUNTED.false)) (omega (arith, c.if-taken-gt-MOST_COUNTED.false))
          (turn_spends v w h.event.view) c.turned_places-self-inside.ensures.lesser either c.renew-past.ensures.items c.renew-past.ensures.len c.renew-past.ensures.capacity,
      c.self.invariant.1,
    )

pub returns : goal.returns
returns g c =
    let s = c.self.inside in
    let d = s.core.dispatcher in
    let w = core_view c.turn.new.self in
    let h : IsEvent (IsTurned (core_view d) (Ok tt)) w = subst (λ d. IsEvent (IsTurned (core_view d) (Ok tt)) w) c.events.ensures.value c.in_ok-turn.ensures in
    let begun = c.totals-begun.ensures.begun ∙ sym (ap (λ (z : HubView). z.begun) c.self.view_is) in
    let taken = c.totals-begun.ensures.taken ∙ sym (ap (λ (z : HubView). z.taken) c.self.view_is) in
    let entries = c.entries-before.ensures ∙ ap (λ d. (core_view d).entries) c.state.ensures in
    rw (← c.self.view_is) (
      chapter_begins _ _ h.move h.event c.renew-past.ensures.items refl (omega (arith, c.in-Some.ensures)) entries refl refl begun taken (omega (arith, begun, c.if-begun-gt-MOST_COUNTED.false)) (omega (arith, taken, c.if-taken-gt-MOST_COUNTED.false)),
      c.renew-past.ensures.past,
    )
