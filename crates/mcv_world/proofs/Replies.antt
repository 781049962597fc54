-- The reply of a call.
use Rattle.std.proofs.Common.{◌≡◌, cond, inl, inr, ℕ, Bool, true, false, List, [], ◌∷◌, Option, Some, None, refl, sym, ap, ◌∙◌}
use Rattle.std.specs.Prelude.{option_and_then}
use Rattle.std.proofs.lemmas.Bool.{cases_Bool}
use Rattle.mcv_base.specs.declared.operation.Op.{Op}
use Rattle.mcv_base.specs.declared.operation.Op.TheVariants.{Get, Gets, Set, Add, Replace, Append, Prepend, Cas, Delete, Touch, Incr, Decr}
use Rattle.mcv_base.specs.declared.reply.Outcome.TheVariants.{Soft}
use Rattle.mcv_base.specs.Reply.{ReplyValue, outcome_of, fixed_value}
use Rattle.mcv_route.specs.Outcomes.{is_same, outcomes}
use Rattle.mcv_route.specs.Replies.{Answer, Source, leg, fixed, refusal, replies}
use Rattle.mcv_route.specs.Routes.{RoutesValue}
use Rattle.mcv_rules.specs.Laws.{IsOneOf, outcome_at}
use Rattle.mcv_rules.specs.Status.{default_reply}
use Rattle.mcv_rules.proofs.ListMembers.{Among}
use Rattle.mcv_rules.proofs.OneReply.{reply_is_one_of, one_reply_stays}
use Rattle.mcv_rules.proofs.Orders.{same_is}
use Rattle.mcv_rules.proofs.AnswersAreTrue.{answers_are_true}
use Rattle.mcv_world.specs.World.{Recorded, Call, tree_of, situation_of, history_of, answer_of, reply_at, reply_from, reply_of}
use Rattle.mcv_world.specs.Moves.{with_reply}
use Rattle.mcv_world.proofs.Numbers.{same_some, no_some}

-- what was recorded has its outcome
pub recorded_outcome : (recorded : List Recorded) (p : List ℕ) (x : ReplyValue) → reply_at recorded p ≡ Some x → outcomes (history_of recorded) p ≡ Some (outcome_of x)
recorded_outcome [] p x e = no_some e
recorded_outcome (h ∷ recorded) p x e = by_cases (is_same h.position p) (recorded_outcome recorded p x) e
  where
    by_cases : (b : Bool) → (reply_at recorded p ≡ Some x → outcomes (history_of recorded) p ≡ Some (outcome_of x)) → cond b (Some h.reply) (reply_at recorded p) ≡ Some x → cond b (Some (outcome_of h.reply)) (outcomes (history_of recorded) p) ≡ Some (outcome_of x)
    by_cases true g f = ap (λ y. Some (outcome_of y)) (same_some f)
    by_cases false g f = g f

default_soft : (op : Op) → outcome_of (fixed_value (default_reply op)) ≡ Soft
default_soft Get = refl
default_soft Gets = refl
default_soft Set = refl
default_soft Add = refl
default_soft Replace = refl
default_soft Append = refl
default_soft Prepend = refl
default_soft Cas = refl
default_soft Delete = refl
default_soft Touch = refl
default_soft Incr = refl
default_soft Decr = refl

source_outcome : (call : Call) (source : Source) (x : ReplyValue) → reply_from call source ≡ Some x → outcome_at (outcomes (history_of call.recorded)) source ≡ Some (outcome_of x)
source_outcome call (leg p) x e = recorded_outcome call.recorded p x e
source_outcome call fixed x e = ap (λ y. Some y) (sym (default_soft call.op)) ∙ ap (λ y. Some (outcome_of y)) (same_some e)
source_outcome call refusal x e = ap (λ y. Some (outcome_of y)) (same_some e)

-- the answer of the route of which it is the reply
pub reply_answer : (r : RoutesValue) (call : Call) (x : ReplyValue) → reply_of r call ≡ Some x
    → (a : Answer) × Among (replies (tree_of r call.route) (situation_of call) (outcomes (history_of call.recorded))) a × (a.outcome ≡ outcome_of x)
reply_answer r call x e = by_cases (answer_of r call) (reply_is_one_of (tree_of r call.route) (situation_of call) (history_of call.recorded)) e
  where
    by_cases : (o : Option Answer) → IsOneOf o (replies (tree_of r call.route) (situation_of call) (outcomes (history_of call.recorded))) → option_and_then (λ a. reply_from call a.source) o ≡ Some x
        → (a : Answer) × Among (replies (tree_of r call.route) (situation_of call) (outcomes (history_of call.recorded))) a × (a.outcome ≡ outcome_of x)
    by_cases None h f = no_some f
    by_cases (Some a) h f =
        let true_of = answers_are_true (tree_of r call.route) (situation_of call) (outcomes (history_of call.recorded)) a h in
        (a, h, same_some (sym true_of ∙ source_outcome call a.source x f))

-- ---- later outcomes

reply_kept : (call : Call) (p : List ℕ) (y x : ReplyValue) (source : Source) → outcomes (history_of call.recorded) p ≡ None → reply_from call source ≡ Some x → reply_from (with_reply call p y) source ≡ Some x
reply_kept call p y x fixed n e = e
reply_kept call p y x refusal n e = e
reply_kept call p y x (leg q) n e =
    elim (cases_Bool (is_same p q)) [
      | inl s ↦ no_some (sym n ∙ ap (outcomes (history_of call.recorded)) (same_is p q s) ∙ recorded_outcome call.recorded q x e)
      | inr s ↦ ap (λ b. cond b (Some y) (reply_at call.recorded q)) s ∙ e
    ]

-- a call that has its reply keeps it
pub reply_stays : (r : RoutesValue) (call : Call) (p : List ℕ) (y x : ReplyValue) → outcomes (history_of call.recorded) p ≡ None → reply_of r call ≡ Some x → reply_of r (with_reply call p y) ≡ Some x
reply_stays r call p y x n e =
    elim (one_reply_stays (tree_of r call.route) (situation_of call) p (outcome_of y) (history_of call.recorded) n) [
      | inl q ↦ no_some (ap (option_and_then (λ a. reply_from call a.source)) (sym q) ∙ e)
      | inr q ↦ ap (option_and_then (λ a. reply_from (with_reply call p y) a.source)) q.0 ∙ by_cases (answer_of r call) e
    ]
  where
    by_cases : (o : Option Answer) → option_and_then (λ a. reply_from call a.source) o ≡ Some x → option_and_then (λ a. reply_from (with_reply call p y) a.source) o ≡ Some x
    by_cases None f = no_some f
    by_cases (Some a) f = reply_kept call p y x a.source n f
