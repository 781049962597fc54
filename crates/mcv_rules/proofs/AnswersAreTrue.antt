-- Each answer has the outcome of whose reply it is.
use Rattle.std.proofs.Common.{◌≡◌, cond, ⊎_elim, ℕ, suc, Bool, true, false, List, [], ◌∷◌, ◌++◌, Option, Some, None, refl, subst, nat_lt}
use Rattle.mcv_base.specs.Operation.{is_reading}
use Rattle.mcv_base.specs.Reply.{is_error, is_good, badness}
use Rattle.mcv_base.specs.declared.reply.Outcome.{Outcome}
use Rattle.mcv_route.specs.Outcomes.{Outcomes}
use Rattle.mcv_route.specs.Tree.{Tree, Trees, pool, null, error, many, warm_up, migrate, prefix_selector, operation_selector, none, child}
use Rattle.mcv_route.specs.Situation.{Situation, under}
use Rattle.mcv_route.specs.Children.{child_or, policy_of, prefix_policy, way_of}
use Rattle.mcv_route.specs.Replies.{Answer, default_answer, refused, own_answers, the_worse, or_after_error, or_after_miss, replies, replies_each}
use Rattle.mcv_rules.specs.Laws.{outcome_at, AnswersAreTrue}
use Rattle.mcv_rules.proofs.ListMembers.{Among, among_either}
use Rattle.mcv_rules.proofs.KindCases.{IsKept, many_related}
use Rattle.mcv_rules.proofs.RelatedLists

abbrev AreTrue : Outcomes → List Answer → Type 0
AreTrue o r = (a : Answer) → Among r a → outcome_at o a.source ≡ Some a.outcome

-- as a relation of a list of answers to itself
abbrev BothTrue : Outcomes → List Answer → List Answer → Type 0
BothTrue o r q = AreTrue o r

one_true : (o : Outcomes) (b : Answer) → outcome_at o b.source ≡ Some b.outcome → AreTrue o (b ∷ [])
one_true o b e a h = ⊎_elim (λ f. subst (λ c. outcome_at o c.source ≡ Some c.outcome) f e) (λ f. absurd f) h

own_true : (o : Outcomes) (p : List ℕ) (x : Option Outcome) → o p ≡ x → AreTrue o (own_answers p x)
own_true o p None e a h = absurd h
own_true o p (Some x) e a h = one_true o _ e a h

if_true : (o : Outcomes) (b : Bool) (r q : List Answer) → AreTrue o r → AreTrue o q → AreTrue o (cond b r q)
if_true o true r q e f = e
if_true o false r q e f = f

both_true : (o : Outcomes) (r q : List Answer) → AreTrue o r → AreTrue o q → AreTrue o (r ++ q)
both_true o r q e f a h = ⊎_elim (λ i. e a i) (λ i. f a i) (among_either r q a h)

worse_true : (o : Outcomes) (r q : List Answer) → AreTrue o r → AreTrue o q → AreTrue o (the_worse r q)
worse_true o [] q e f = λ a h. absurd h
worse_true o (b ∷ r) [] e f = λ a h. absurd h
worse_true o (b ∷ r) (c ∷ q) e f =
    if_true o (nat_lt (badness b.outcome) (badness c.outcome)) (c ∷ q) (cond (nat_lt (badness c.outcome) (badness b.outcome)) (b ∷ r) (b ∷ r ++ c ∷ q)) f
    (if_true o (nat_lt (badness c.outcome) (badness b.outcome)) (b ∷ r) (b ∷ r ++ c ∷ q) e (both_true o (b ∷ r) (c ∷ q) e f))

error_true : (o : Outcomes) (r q : List Answer) → AreTrue o r → AreTrue o q → AreTrue o (or_after_error r q)
error_true o [] q e f = λ a h. absurd h
error_true o (b ∷ r) q e f = if_true o (is_error b.outcome) q (b ∷ r) f e

miss_true : (o : Outcomes) (r q : List Answer) → AreTrue o r → AreTrue o q → AreTrue o (or_after_miss r q)
miss_true o [] q e f = λ a h. absurd h
miss_true o (b ∷ r) q e f = if_true o (is_good b.outcome) (b ∷ r) q e f

child_true : (o : Outcomes) (k : ℕ) (rs : List (List Answer)) → RelatedLists.Related (BothTrue o) rs rs → AreTrue o (child_or (refused ∷ []) k rs)
child_true o k rs r = RelatedLists.child_related (BothTrue o) (refused ∷ []) (refused ∷ []) k rs rs (one_true o refused refl) r

true_kept : (o : Outcomes) → IsKept (BothTrue o)
true_kept o = record {
  refusals = one_true o refused refl;
  defaults = one_true o default_answer refl;
  worse = λ a b x y e f. worse_true o a b e f;
  after_error = λ a b x y e f. error_true o a b e f;
  after_miss = λ a b x y e f. miss_true o a b e f;
}

mutual
  answers_true : (t : Tree) (s : Situation) (o : Outcomes) → AreTrue o (replies t s o)
  answers_true (pool p ranges targets) s o = own_true o s.position (o s.position) refl
  answers_true null s o = one_true o default_answer refl
  answers_true error s o = one_true o refused refl
  answers_true (many kind ts) s o = many_related (BothTrue o) (true_kept o) kind ts s o o (each_true 0 ts s o)
  answers_true (warm_up cold warm exptime) s o =
      if_true o (is_reading s.op) (or_after_miss (replies cold (under 0 s) o) (replies warm (under 1 s) o)) (replies cold (under 0 s) o)
      (miss_true o (replies cold (under 0 s) o) (replies warm (under 1 s) o) (answers_true cold (under 0 s) o) (answers_true warm (under 1 s) o))
      (answers_true cold (under 0 s) o)
  answers_true (migrate from to start interval) s o =
      RelatedLists.way_related (BothTrue o) (way_of s start interval)
      (replies from (under 0 s) o) (replies to (under 1 s) o) (the_worse (replies from (under 0 s) o) (replies to (under 1 s) o))
      (replies from (under 0 s) o) (replies to (under 1 s) o) (the_worse (replies from (under 0 s) o) (replies to (under 1 s) o))
      (answers_true from (under 0 s) o) (answers_true to (under 1 s) o)
      (worse_true o (replies from (under 0 s) o) (replies to (under 1 s) o) (answers_true from (under 0 s) o) (answers_true to (under 1 s) o))
  answers_true (prefix_selector prefixes ts) s o = child_true o (prefix_policy s.rest prefixes) (replies_each 0 ts s o) (each_true 0 ts s o)
  answers_true (operation_selector ops ts) s o = child_true o (policy_of s.op ops) (replies_each 0 ts s o) (each_true 0 ts s o)

  each_true : (k : ℕ) (ts : Trees) (s : Situation) (o : Outcomes) → RelatedLists.Related (BothTrue o) (replies_each k ts s o) (replies_each k ts s o)
  each_true k none s o = tt
  each_true k (child t ts) s o = (answers_true t (under k s) o, each_true (suc k) ts s o)

pub answers_are_true : AnswersAreTrue
answers_are_true t s o a h = answers_true t s o a h
