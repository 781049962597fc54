-- The state of a call before any outcome.
use Rattle.std.proofs.Common.{◌≡◌, ◌<◌, ◌≤◌, ◌+◌, ℕ, zero, true, List, [], ◌++◌, length, Vec, Global, sym, ap, ◌∙◌, arith}
use Rattle.std.specs.Prelude.{vec_capacity}
use Rattle.mcv_route.specs.declared.launch.Launch.{Launch}
use Rattle.mcv_route.specs.Outcomes.{Choice}
use Rattle.mcv_rules.specs.declared.plan.Plan.{Plan}
use Rattle.mcv_plan.specs.declared.course.Course.{Course}
use Rattle.mcv_plan.specs.declared.state.EvalState.{EvalState}
use Rattle.mcv_plan.specs.CourseOfPlan.{IsBuilt}
use Rattle.mcv_plan.specs.Entries.{legs_of, numbers}
use Rattle.mcv_plan.specs.Evaluation.{IsAfter}
use Rattle.mcv_plan.specs.PastOutcomes.{IsKept}
use Rattle.mcv_plan.specs.ReachedAnswers.{answer_of, nothing}
use Rattle.mcv_plan.specs.State.{Reflects, State, entries, holds, replies_at_once, wave, plan}
use Rattle.mcv_plan.specs.View.{view}
use Rattle.mcv_plan.proofs.CoursesBuilt.{count_entries}
use Rattle.mcv_plan.proofs.EntriesLaidOut.{has_number}
use Rattle.mcv_plan.proofs.PartsAreLocal.{answered_plan, entries_plan, sends_plan}

-- its legs are the first of the list
pub legs_begun : (c : Choice) (p : Plan) (old ls : List Launch) → old ≡ [] → ls ≡ old ++ legs_of c p → ls ≡ legs_of c p
legs_begun c p old ls none is = is ∙ ap (λ xs. xs ++ legs_of c p) none

pub built_begun : (c : Choice) (p : Plan) (old : List Launch) (s : State) → old ≡ [] → IsBuilt c p (length old) s → IsBuilt c p zero s
built_begun c p old s none built = (rw none at built)

module _ (c : Choice) (p : Plan) (course : Course) (ls : List Launch) (built : IsBuilt c p zero (view course)) (is : ls ≡ legs_of c p) where
  -- how many legs it has
  pub first_count : length (entries (view course)) ≡ length ls
  first_count = count_entries (view course) (legs_of c p) zero built.numbered ∙ ap length (sym is)

  pub first_shape : length (entries (plan (view course))) ≡ length ls
  first_shape = ap length (entries_plan (view course)) ∙ first_count

  pub first_room : (fresh : Vec ℕ Global) → fresh.items ≡ [] → length ls ≤ vec_capacity fresh → length fresh.items + length (entries (view course)) ≤ vec_capacity fresh
  first_room fresh none room = let empty = ap length none in omega (arith, empty, room, first_count)

  pub first_kept : (fresh : Vec ℕ Global) → length ls ≤ vec_capacity fresh → IsKept course fresh
  first_kept fresh room = record {
    placed = built.placed;
    numbered = built.numbered ∙ ap (λ n. numbers zero n) (sym (count_entries (view course) (legs_of c p) zero built.numbered));
    room = omega (arith, room, first_count);
  }

-- its reply is there at once, or not
pub first_after : (e : EvalState) → Reflects nothing (view e.course) → e.reply ≡ replies_at_once (view e.course) → IsAfter [] e
first_after e ready reply = record {
  reflects = ready;
  reply = reply ∙ ap answer_of (sym (answered_plan nothing (view e.course)));
}

pub first_fresh : (course : Course) (old new : List ℕ) → old ≡ [] → new ≡ old ++ wave (view course) → new ≡ wave (plan (view course))
first_fresh course old new none is = is ∙ ap (λ ks. ks ++ wave (view course)) none ∙ sym (sends_plan nothing (view course))

-- a number below the count is a leg's
pub within_count : (e : ℕ) (course : Course) (fresh : Vec ℕ Global) → IsKept course fresh → e < length (entries (plan (view course))) → holds e (entries (view course)) ≡ true
within_count e course fresh k h =
    let n = length (entries (view course)) in
    let below : e < zero + n = let same = ap length (entries_plan (view course)) in omega (arith, h, same) in
    ap (holds e) k.numbered ∙ has_number n zero e (omega arith) below
