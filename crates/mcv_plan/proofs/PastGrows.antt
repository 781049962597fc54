-- After one outcome more the state is that of one outcome more.
use Rattle.std.proofs.Common.{◌≡◌, cond, ℕ, zero, suc, Bool, true, false, ◌&&◌, nat_eq, nat_lt, List, [], ◌∷◌, ◌++◌, length, Vec, Global, Option, Some, None, refl, sym, ap, ap₂, ◌∙◌, arith}
use Rattle.mcv_base.specs.declared.reply.Outcome.{Outcome}
use Rattle.mcv_plan.specs.declared.answer.Answer.{Answer}
use Rattle.mcv_plan.specs.ReachedAnswers.{Own, Reached, IsBefore, Changes, answer_of, came_of, put, reached}
use Rattle.std.specs.Prelude.{vec_capacity}
use Rattle.std.specs.Option.{option_or}
use Rattle.mcv_plan.specs.declared.course.Course.{Course}
use Rattle.mcv_plan.specs.View.{view}
use Rattle.mcv_plan.specs.State.{Heard, holds, sends, answered}
use Rattle.mcv_plan.specs.State.{State, States, send, reply, all, in_turn, beside, on_hit, none, more, all_from, are_placed, each_placed, entries, is_placed, plan, plan_each, within}
use Rattle.mcv_plan.specs.PastOutcomes.{IsKept, Past, new_of, own_of}
use Rattle.mcv_plan.specs.Entries.{numbers}
use Rattle.mcv_plan.specs.Evaluation.{IsAfter, IsAwaited, shape}
use Rattle.mcv_plan.specs.declared.state.EvalState.{EvalState}
use Rattle.mcv_plan.proofs.PartsAgree.{fresh_are_new}
use Rattle.mcv_plan.proofs.LaunchedOnce.{launched_once}
use Rattle.mcv_plan.proofs.PartsAreLocal.{entries_plan, entries_plan_each, answered_plan, sends_plan}

before_put : (o : Own) (e : ℕ) (x : Outcome) (n k : ℕ) (b : Bool) → nat_lt (came_of (o k)) (suc n) ≡ true → nat_lt (came_of (cond b (Some (reached e x (suc n))) (o k))) (suc (suc n)) ≡ true
before_put o e x n k true h = grind arith
before_put o e x n k false h = grind (arith, h)

pub before_past : (es : Past) → IsBefore (own_of es) (suc (length es))
before_past [] k = grind arith
before_past (e ∷ es) k = before_put (own_of es) e.0 e.1 (length es) k (nat_eq e.0 k) (before_past es k)

mutual
  placed_plan : (s : State) → is_placed (plan s) ≡ is_placed s
  placed_plan (send e) = refl
  placed_plan (reply f) = refl
  placed_plan (all ends ss waiting worst) = ap₂ (λ xs b. are_placed 0 ends xs && b) (entries_plan_each ss) (placed_plan_each ss)
  placed_plan (in_turn w ends ss current) = ap₂ (λ xs b. are_placed 0 ends xs && b) (entries_plan_each ss) (placed_plan_each ss)
  placed_plan (beside ends ss) = ap₂ (λ xs b. are_placed 0 ends xs && b) (entries_plan_each ss) (placed_plan_each ss)
  placed_plan (on_hit s end u) =
      ap₂ (λ b c. b && c) (ap₂ (λ b c. b && c) (ap₂ (λ xs ys. within 0 end xs && all_from end ys) (entries_plan s) (entries_plan u)) (placed_plan s)) (placed_plan u)

  placed_plan_each : (ss : States) → each_placed (plan_each ss) ≡ each_placed ss
  placed_plan_each none = refl
  placed_plan_each (more s ss) = ap₂ (λ b c. b && c) (placed_plan s) (placed_plan_each ss)

pub placed_same : (s u : State) → plan u ≡ plan s → is_placed u ≡ is_placed s
placed_same s u e = sym (placed_plan u) ∙ ap is_placed e ∙ placed_plan s

pub entries_same : (s u : State) → plan u ≡ plan s → entries u ≡ entries s
entries_same s u e = sym (entries_plan u) ∙ ap entries e ∙ entries_plan s

or_reply : (t : ℕ) (r old : Option Answer) (x y : Option Reached) → Changes t r x y → old ≡ answer_of x → option_or r old ≡ answer_of y
or_reply t None old x y f e = e ∙ sym (ap answer_of f)
or_reply t (Some a) old x y f e = sym (ap answer_of f.1)

at_once_sent : (e : ℕ) (s : EvalState) (es : Past) → IsAwaited es e (shape s) → holds e (sends (own_of es) (view s.course)) ≡ true
at_once_sent e s es w = (rw (sends_plan (own_of es) (view s.course)) at w.launched)

module _ (e : ℕ) (x : Outcome) (r : Option Answer) (b a : List ℕ) (s u : EvalState) (h : Heard e x r b a (view s.course) (view u.course)) where
  pub after_next : u.reply ≡ option_or r s.reply → (es : Past) → IsAfter es s → IsAwaited es e (shape s) → IsAfter ((e, x) ∷ es) u
  after_next is es at w =
      let own = own_of es in
      let t = suc (length es) in
      let q = put own e (reached e x t) in
      let sent = at_once_sent e s es w in
      let was : s.reply ≡ answer_of (answered own (view s.course)) = at.reply ∙ ap answer_of (answered_plan own (view s.course)) in
      record {
        reflects = h.reflects own t w.none (before_past es) sent at.reflects;
        reply = is ∙ or_reply t r s.reply (answered own (view s.course)) (answered q (view s.course)) (h.reply own t w.none (before_past es) sent at.reflects) was ∙ ap answer_of (sym (answered_plan q (view s.course)) ∙ ap (answered q) (sym h.same));
      }

module _ (e : ℕ) (x : Outcome) (r : Option Answer) (b a : List ℕ) (s : EvalState) (d : Course) (h : Heard e x r b a (view s.course) (view d)) where
  pub fresh_next : b ≡ [] → entries (view s.course) ≡ numbers zero (length (entries (view s.course))) → (es : Past) → IsAfter es s → IsAwaited es e (shape s)
      → a ≡ new_of (sends (own_of es) (shape s)) (sends (own_of ((e, x) ∷ es)) (shape s))
  fresh_next empty numbered es at w =
      let own = own_of es in
      let q = own_of ((e, x) ∷ es) in
      let f = h.fresh own (suc (length es)) w.none (before_past es) (at_once_sent e s es w) at.reflects in
      let all : a ≡ f.0 = f.1 ∙ ap (λ k. k ++ f.0) empty in
      all
      ∙ fresh_are_new (sends own (view s.course)) f.0 (sends q (view s.course)) f.2 (launched_once q (view s.course) zero (length (entries (view s.course))) numbered)
      ∙ ap₂ new_of (sym (sends_plan own (view s.course))) (sym (sends_plan q (view s.course)))

pub kept_next : (c d : Course) (v w : Vec ℕ Global) → plan (view d) ≡ plan (view c) → IsKept c v → vec_capacity w ≡ vec_capacity v → IsKept d w
kept_next c d v w same k e = let is = entries_same (view c) (view d) same in record { placed = placed_same (view c) (view d) same ∙ k.placed; numbered = rw is k.numbered; room = rw (e, is) k.room }
