use Rattle.std.proofs.Common.{rules, ap, drop, suc, get_or, vec_capacity, None, Some, ◌-◌, length-append, ◌≡◌, ◌≤◌, ◌+◌, ◌∙◌, sym, false, arith, refl, length, add-one, map}
use Rattle.std.proofs.lemmas.List.{map-set}
use Rattle.mcv_plan.specs.State.{IsOnlyIn, entries, entries_each, states_of}
use Rattle.std.specs.Prelude.{◌==◌}
use Rattle.mcv_plan.specs.ReachedAnswers.{over}
use Rattle.mcv_plan.specs.View.{seen, view}
use Rattle.mcv_plan.specs.declared.course.Course.{the_lemmas}
use Rattle.mcv_plan.proofs.Views.{in_all, in_beside, in_in_turn, in_on_hit, view-Send}
use Rattle.mcv_plan.proofs.Children.{behind_old, behind_same, from_not, get_at, heard_as, in_first, in_second, only_bound, placed_at, room_of, same_length, within_at, zero_off, zero_on}
use Rattle.mcv_plan.proofs.ChildOfLeg.{only_in, within_not}
use Rattle.mcv_plan.proofs.HeardOutcome.{heard_all_none, heard_all_some, heard_beside, heard_hit_off, heard_hit_on, heard_second, heard_send}
use Rattle.mcv_plan.proofs.OutcomeInSearch.{heard_turn_none, heard_turn_passed, heard_turn_some}
use Rattle.mcv_plan.proofs.hearing.+hearing.Goals as goal

pub advance-returns-in-Send-clause-heard : goal.advance-returns-in-Send-clause-heard
advance-returns-in-Send-clause-heard t c =
    let m = c.in-Send in
    rw (m.is, view-Send m.field-0) (heard_send c.args.entry m.field-0 c.args.outcome c.args.fresh.now.items (rw (m.is, view-Send m.field-0) at c.requires.within))

pub advance-returns-in-All-clause-heard : goal.advance-returns-in-All-clause-heard
advance-returns-in-All-clause-heard t c =
    let m = c.in-All in
    in_all _ _ _ _ _ c.args.course.now m.ends m.children m.waiting m.worst _ _ _ _ _ _ _ _ m.is (c.deref.ensures.value ∙ ap (λ v. v.items) m.ends-is) m.children-is m.waiting-is m.worst-is m.ends-is c.hear_all.ensures.heard

pub advance-returns-in-InTurn-clause-heard : goal.advance-returns-in-InTurn-clause-heard
advance-returns-in-InTurn-clause-heard t c =
    let m = c.in-InTurn in
    in_in_turn _ _ _ _ _ c.args.course.now m.after m.ends m.children m.current _ _ _ _ _ _ _ _ m.is (c.deref-in-InTurn.ensures.value ∙ ap (λ v. v.items) m.ends-is) m.children-is m.after-is m.current-is m.after-is m.ends-is c.hear_in_turn.ensures.heard

pub advance-returns-in-Beside-clause-heard : goal.advance-returns-in-Beside-clause-heard
advance-returns-in-Beside-clause-heard t c =
    let m = c.in-Beside in
    in_beside _ _ _ _ _ c.args.course.now m.ends m.children _ _ _ _ m.is (c.deref-in-Beside.ensures.value ∙ ap (λ v. v.items) m.ends-is) m.children-is m.ends-is c.hear_beside.ensures.heard

pub advance-returns-in-OnHit-clause-heard : goal.advance-returns-in-OnHit-clause-heard
advance-returns-in-OnHit-clause-heard t c =
    let m = c.in-OnHit in
    in_on_hit _ _ _ _ _ c.args.course.now m.first m.end m.second _ _ _ _ _ c.hear_on_hit.new.first c.hear_on_hit.new.second _ m.is (c.deref_mut.ensures.value ∙ ap (λ v. v.value) m.first-is) (c.deref_mut-in-OnHit.ensures.value ∙ ap (λ v. v.value) m.second-is)
    m.end-is m.end-is refl refl c.hear_on_hit.ensures.heard

-- ---- all

pub hear_all-advance_child-requires : goal.hear_all-advance_child-requires
hear_all-advance_child-requires t c =
    (search (rules, the_lemmas), (c.requires.placed, (rw c.child_of-child.ensures (only_in 0 c.args.entry c.args.ends.now (entries_each (seen c.args.children.now.items)) c.requires.ends c.requires.within), c.requires.room)))

pub hear_all-returns-in_err-answer-clause-heard : goal.hear_all-returns-in_err-answer-clause-heard
hear_all-returns-in_err-answer-clause-heard t c =
    let only : IsOnlyIn c.args.entry c.child_of-child.result (entries_each (seen c.args.children.now.items)) = rw c.child_of-child.ensures (only_in 0 c.args.entry c.args.ends.now (entries_each (seen c.args.children.now.items)) c.requires.ends c.requires.within) in
    let silent : c.advance_child.result ≡ None = search rules in
    let gone : c.from_residual.result ≡ None = search rules in
    heard_as _ _ _ None _ _ _ _ gone
    (heard_all_none c.args.ends.now (map view c.args.children.now.items) (map view c.advance_child.new.children.items) c.args.entry c.args.outcome c.child_of-child.result c.args.fresh.now.items c.advance_child.new.fresh.items only c.args.waiting.now c.args.worst.now
    (rw silent at c.advance_child.ensures.heard))

pub hear_all-returns-then-waiting-eq0-clause-heard : goal.hear_all-returns-then-waiting-eq0-clause-heard
hear_all-returns-then-waiting-eq0-clause-heard t c =
    let only : IsOnlyIn c.args.entry c.child_of-child.result (entries_each (seen c.args.children.now.items)) = rw c.child_of-child.ensures (only_in 0 c.args.entry c.args.ends.now (entries_each (seen c.args.children.now.items)) c.requires.ends c.requires.within) in
    let some : c.advance_child.result ≡ Some c.in_ok-answer.answer = search rules in
    let less : c.saturating_sub.result ≡ c.args.waiting.now - 1 = search rules in
    rw c.over.ensures
    (heard_all_some c.args.ends.now (map view c.args.children.now.items) (map view c.advance_child.new.children.items) c.args.entry c.args.outcome c.child_of-child.result c.args.fresh.now.items c.advance_child.new.fresh.items only c.args.waiting.now c.args.worst.now
    c.in_ok-answer.answer c.saturating_sub.result (Some (over c.args.worst.now c.in_ok-answer.answer)) less (zero_on c.saturating_sub.result _ _ c.if-waiting-eq0.true) (rw some at c.advance_child.ensures.heard))

pub hear_all-returns-else-waiting-eq0-clause-heard : goal.hear_all-returns-else-waiting-eq0-clause-heard
hear_all-returns-else-waiting-eq0-clause-heard t c =
    let only : IsOnlyIn c.args.entry c.child_of-child.result (entries_each (seen c.args.children.now.items)) = rw c.child_of-child.ensures (only_in 0 c.args.entry c.args.ends.now (entries_each (seen c.args.children.now.items)) c.requires.ends c.requires.within) in
    let some : c.advance_child.result ≡ Some c.in_ok-answer.answer = search rules in
    let less : c.saturating_sub.result ≡ c.args.waiting.now - 1 = search rules in
    let off : (c.saturating_sub.result == 0) ≡ false = grind (arith, c.if-waiting-eq0.false) in
    rw c.over.ensures
    (heard_all_some c.args.ends.now (map view c.args.children.now.items) (map view c.advance_child.new.children.items) c.args.entry c.args.outcome c.child_of-child.result c.args.fresh.now.items c.advance_child.new.fresh.items only c.args.waiting.now c.args.worst.now
    c.in_ok-answer.answer c.saturating_sub.result None less (zero_off c.saturating_sub.result _ _ off) (rw some at c.advance_child.ensures.heard))

-- ---- the first alone

pub hear_beside-advance_child-answered-requires : goal.hear_beside-advance_child-answered-requires
hear_beside-advance_child-answered-requires t c =
    (search (rules, the_lemmas), (c.requires.placed, (rw c.child_of-child.ensures (only_in 0 c.args.entry c.args.ends.now (entries_each (seen c.args.children.now.items)) c.requires.ends c.requires.within), c.requires.room)))

pub hear_beside-returns-then-child-eq0-clause-heard : goal.hear_beside-returns-then-child-eq0-clause-heard
hear_beside-returns-then-child-eq0-clause-heard t c =
    let only : IsOnlyIn c.args.entry c.child_of-child.result (entries_each (seen c.args.children.now.items)) = rw c.child_of-child.ensures (only_in 0 c.args.entry c.args.ends.now (entries_each (seen c.args.children.now.items)) c.requires.ends c.requires.within) in
    heard_as _ _ _ _ _ _ _ _ (zero_on c.child_of-child.result c.advance_child-answered.result None c.if-child-eq0.true)
    (heard_beside c.args.ends.now (map view c.args.children.now.items) (map view c.advance_child-answered.new.children.items) c.args.entry c.args.outcome c.child_of-child.result c.args.fresh.now.items c.advance_child-answered.new.fresh.items only c.advance_child-answered.result
    c.advance_child-answered.ensures.heard)

pub hear_beside-returns-else-child-eq0-clause-heard : goal.hear_beside-returns-else-child-eq0-clause-heard
hear_beside-returns-else-child-eq0-clause-heard t c =
    let only : IsOnlyIn c.args.entry c.child_of-child.result (entries_each (seen c.args.children.now.items)) = rw c.child_of-child.ensures (only_in 0 c.args.entry c.args.ends.now (entries_each (seen c.args.children.now.items)) c.requires.ends c.requires.within) in
    let off : (c.child_of-child.result == 0) ≡ false = grind (arith, c.if-child-eq0.false) in
    heard_as _ _ _ _ _ _ _ _ (zero_off c.child_of-child.result c.advance_child-answered.result None off)
    (heard_beside c.args.ends.now (map view c.args.children.now.items) (map view c.advance_child-answered.new.children.items) c.args.entry c.args.outcome c.child_of-child.result c.args.fresh.now.items c.advance_child-answered.new.fresh.items only c.advance_child-answered.result
    c.advance_child-answered.ensures.heard)

-- ---- after a hit

pub hear_on_hit-advance-answered-requires : goal.hear_on_hit-advance-answered-requires
hear_on_hit-advance-answered-requires t c =
    let xs = entries (view c.args.first.now) in
    let ys = entries (view c.args.second.now) in
    let room : length c.args.fresh.now.items + length xs ≤ vec_capacity c.args.fresh.now = omega (arith, c.requires.room, length-append xs ys) in
    (search (rules, the_lemmas), (c.requires.first_placed, (in_first c.args.end c.args.entry xs ys c.requires.behind c.if-entry-end.true c.requires.within, room)))

pub hear_on_hit-advance-requires : goal.hear_on_hit-advance-requires
hear_on_hit-advance-requires t c =
    let xs = entries (view c.args.first.now) in
    let ys = entries (view c.args.second.now) in
    let room : length c.args.fresh.now.items + length ys ≤ vec_capacity c.args.fresh.now = omega (arith, c.requires.room, length-append xs ys) in
    (search (rules, the_lemmas), (c.requires.second_placed, (in_second c.args.end c.args.entry xs ys c.requires.ends c.if-entry-end.false c.requires.within, room)))

pub hear_on_hit-returns-then-is_hit-clause-heard : goal.hear_on_hit-returns-then-is_hit-clause-heard
hear_on_hit-returns-then-is_hit-clause-heard t c =
    let off = from_not c.args.end c.args.entry (entries (view c.args.second.now)) c.requires.behind c.if-entry-end.true in
    heard_hit_on c.args.entry c.args.outcome c.advance-answered.result c.args.fresh.now.items c.advance-answered.new.fresh.items c.open.new.fresh.items (view c.args.first.now) (view c.advance-answered.new.course) c.args.end (view c.args.second.now) off
    (sym c.is_hit.ensures ∙ c.if-is_hit.true) c.open.ensures.fresh c.advance-answered.ensures.heard

pub hear_on_hit-returns-else-is_hit-clause-heard : goal.hear_on_hit-returns-else-is_hit-clause-heard
hear_on_hit-returns-else-is_hit-clause-heard t c =
    let off = from_not c.args.end c.args.entry (entries (view c.args.second.now)) c.requires.behind c.if-entry-end.true in
    heard_hit_off c.args.entry c.args.outcome c.advance-answered.result c.args.fresh.now.items c.advance-answered.new.fresh.items (view c.args.first.now) (view c.advance-answered.new.course) c.args.end (view c.args.second.now) off
    (sym c.is_hit.ensures ∙ c.if-is_hit.false) c.advance-answered.ensures.heard

pub hear_on_hit-returns-else-entry-end-clause-heard : goal.hear_on_hit-returns-else-entry-end-clause-heard
hear_on_hit-returns-else-entry-end-clause-heard t c =
    let off = within_not 0 c.args.end c.args.entry (entries (view c.args.first.now)) c.requires.ends c.if-entry-end.false in
    heard_second c.args.entry c.args.outcome c.advance.result c.args.fresh.now.items c.advance.new.fresh.items (view c.args.first.now) c.args.end (view c.args.second.now) (view c.advance.new.course) off c.advance.ensures.heard

-- ---- a search

pub hear_in_turn-advance_child-requires : goal.hear_in_turn-advance_child-requires
hear_in_turn-advance_child-requires t c =
    (search (rules, the_lemmas), (c.requires.placed, (rw c.child_of-child.ensures (only_in 0 c.args.entry c.args.ends.now (entries_each (seen c.args.children.now.items)) c.requires.ends c.requires.within), c.requires.room)))

pub hear_in_turn-returns-in_err-answer-clause-heard : goal.hear_in_turn-returns-in_err-answer-clause-heard
hear_in_turn-returns-in_err-answer-clause-heard t c =
    let only : IsOnlyIn c.args.entry c.child_of-child.result (entries_each (seen c.args.children.now.items)) = rw c.child_of-child.ensures (only_in 0 c.args.entry c.args.ends.now (entries_each (seen c.args.children.now.items)) c.requires.ends c.requires.within) in
    let silent : c.advance_child.result ≡ None = search rules in
    let gone : c.from_residual.result ≡ None = search rules in
    heard_as _ _ _ None _ _ _ _ gone
    (heard_turn_none c.args.after c.args.ends.now (map view c.args.children.now.items) (map view c.advance_child.new.children.items) c.args.current.now c.args.entry c.args.outcome c.child_of-child.result c.args.fresh.now.items c.advance_child.new.fresh.items only
    (rw silent at c.advance_child.ensures.heard))

pub hear_in_turn-returns-then-child-current-clause-heard : goal.hear_in_turn-returns-then-child-current-clause-heard
hear_in_turn-returns-then-child-current-clause-heard t c =
    let only : IsOnlyIn c.args.entry c.child_of-child.result (entries_each (seen c.args.children.now.items)) = rw c.child_of-child.ensures (only_in 0 c.args.entry c.args.ends.now (entries_each (seen c.args.children.now.items)) c.requires.ends c.requires.within) in
    heard_turn_passed c.args.after c.args.ends.now (map view c.args.children.now.items) (map view c.advance_child.new.children.items) c.args.current.now c.args.entry c.args.outcome c.advance_child.result c.child_of-child.result c.args.fresh.now.items c.advance_child.new.fresh.items
    (λ e. omega (arith, e, c.if-child-current.true)) only c.advance_child.ensures.heard

pub hear_in_turn-go_on_behind-answered-requires-clause-child : goal.hear_in_turn-go_on_behind-answered-requires-clause-child
hear_in_turn-go_on_behind-answered-requires-clause-child t c =
    let only : IsOnlyIn c.args.entry c.child_of-child.result (entries_each (seen c.args.children.now.items)) = rw c.child_of-child.ensures (only_in 0 c.args.entry c.args.ends.now (entries_each (seen c.args.children.now.items)) c.requires.ends c.requires.within) in
    let below = only_bound c.args.entry c.args.children.now.items c.child_of-child.result only in
    let h = c.advance_child.ensures.heard in
    let same = same_length c.args.children.now.items c.advance_child.new.children.items c.child_of-child.result h.«is» h.now in
    rw c.deref.ensures.value (omega (arith, below, same))

pub hear_in_turn-go_on_behind-answered-requires-clause-room : goal.hear_in_turn-go_on_behind-answered-requires-clause-room
hear_in_turn-go_on_behind-answered-requires-clause-room t c =
    let i = c.child_of-child.result in
    let cs = c.args.children.now.items in
    let h = c.advance_child.ensures.heard in
    let same : seen (drop (i + 1) c.deref.result.now) ≡ seen (drop (i + 1) cs) = ap (λ ds. seen (drop (i + 1) ds)) c.deref.ensures.value ∙ behind_same cs c.advance_child.new.children.items i h.«is» h.now ∙ sym (behind_old cs i) in
    rw same (omega (arith, c.advance_child.ensures.count, c.advance_child.ensures.capacity, c.requires.room))

pub hear_in_turn-returns-clause-count : goal.hear_in_turn-returns-clause-count
hear_in_turn-returns-clause-count t c =
    let i = c.child_of-child.result in
    let cs = c.args.children.now.items in
    let h = c.advance_child.ensures.heard in
    let same : seen (drop (i + 1) c.deref.result.now) ≡ seen (drop (i + 1) cs) = ap (λ ds. seen (drop (i + 1) ds)) c.deref.ensures.value ∙ behind_same cs c.advance_child.new.children.items i h.«is» h.now ∙ sym (behind_old cs i) in
    let more = (rw same at c.go_on_behind-answered.ensures.count) in
    omega (arith, c.advance_child.ensures.count, more)

pub hear_in_turn-returns-clause-heard : goal.hear_in_turn-returns-clause-heard
hear_in_turn-returns-clause-heard t c =
    let i = c.child_of-child.result in
    let cs = c.args.children.now.items in
    let h = c.advance_child.ensures.heard in
    let only : IsOnlyIn c.args.entry i (entries_each (seen cs)) = rw c.child_of-child.ensures (only_in 0 c.args.entry c.args.ends.now (entries_each (seen cs)) c.requires.ends c.requires.within) in
    let some : c.advance_child.result ≡ Some c.in_ok-answer.answer = search rules in
    let same : seen (drop (i + 1) c.deref.result.now) ≡ states_of (drop (suc i) (map view cs)) = ap (λ ds. seen (drop (i + 1) ds)) c.deref.ensures.value ∙ behind_same cs c.advance_child.new.children.items i h.«is» h.now in
    heard_turn_some c.args.after c.args.ends.now (map view cs) (map view c.advance_child.new.children.items) c.args.current.now c.args.entry c.args.outcome c.in_ok-answer.answer i c.args.fresh.now.items c.advance_child.new.fresh.items c.go_on_behind-answered.new.fresh.items
    c.go_on_behind-answered.result.0 (i + c.go_on_behind-answered.result.1) (omega (arith, c.if-child-current.false)) only
    (rw same at c.go_on_behind-answered.ensures.fresh) (rw same at c.go_on_behind-answered.ensures.reply) (λ s. ap (λ z. i + z) ((rw same at c.go_on_behind-answered.ensures.steps) s)) (rw some at h)

-- ---- a child

-- ---- a child

pub advance_child-index_mut-requires : goal.advance_child-index_mut-requires
advance_child-index_mut-requires t c =
    let below = only_bound c.args.entry c.args.children.now.items c.args.child c.requires.within in
    omega (arith, below, c.args.children.now.ok.0)

pub advance_child-advance-requires : goal.advance_child-advance-requires
advance_child-advance-requires t c =
    let cs = c.args.children.now.items in
    let i = c.args.child in
    let p = c.index_mut.result.now in
    let below = only_bound c.args.entry cs i c.requires.within in
    let is : p ≡ get_or cs i p = c.index_mut.ensures.value in
    let part = room_of cs i p below is in
    let room : length c.args.fresh.now.items + length (entries (view p)) ≤ vec_capacity c.args.fresh.now = omega (arith, part, c.requires.room) in
    (search (rules, the_lemmas), (placed_at cs i p below is c.requires.placed, (within_at c.args.entry cs i p is c.requires.within, room)))

pub advance_child-returns-clause-heard : goal.advance_child-returns-clause-heard
advance_child-returns-clause-heard t c =
    let cs = c.args.children.now.items in
    let i = c.args.child in
    let p = c.index_mut.result.now in
    let below = only_bound c.args.entry cs i c.requires.within in
    let is : p ≡ get_or cs i p = c.index_mut.ensures.value in
    record {
      was = view p;
      «is» = view c.advance.new.course;
      here = get_at cs i p below is;
      now = map-set view cs i c.advance.new.course;
      heard = c.advance.ensures.heard;
    }

pub advance_child-returns-clause-count : goal.advance_child-returns-clause-count
advance_child-returns-clause-count t c =
    let cs = c.args.children.now.items in
    let i = c.args.child in
    let p = c.index_mut.result.now in
    let below = only_bound c.args.entry cs i c.requires.within in
    let is : p ≡ get_or cs i p = c.index_mut.ensures.value in
    let part = room_of cs i p below is in
    rw (add-one i) (omega (arith, part, c.advance.ensures.count))
