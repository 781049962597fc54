-- What all legs of a plan have, and so all that a route sends.
use Rattle.std.proofs.Common.{◌≡◌, ℕ, suc, Bool, true, false, List, [], ◌∷◌, ◌++◌, map, inl, inr, Option, Some, None, refl, sym, subst}
use Rattle.std.specs.Prelude.{◌&&◌, nat_le, if◌then◌else◌}
use Rattle.mcv_base.specs.declared.reply.Outcome.{Outcome}
use Rattle.mcv_base.specs.declared.reply.Outcome.TheVariants.{Error}
use Rattle.mcv_base.specs.Operation.{is_reading}
use Rattle.mcv_base.specs.Reply.{is_error, is_missed, is_good}
use Rattle.mcv_route.specs.Children.{child_or, Way, to_from, to_to, to_both, by_way}
use Rattle.mcv_route.specs.Launched as route
use Rattle.mcv_route.specs.Outcomes.{Outcomes, Choice}
use Rattle.mcv_route.specs.Situation.{Situation, asynchronous}
use Rattle.mcv_route.specs.Tree.{Range, Tree, Trees, many, Many}
use Rattle.mcv_route.specs.declared.launch.Launch.{Launch}
use Rattle.mcv_rules.specs.Plan.{Leg, Plan, Send, Reply, Both, Beside, OnError, OnMiss, OnHit, Shadowed, launched, on_reply, reply}
use Rattle.mcv_rules.specs.Plans.{launch_of, plan, plan_each, with_shadows}
use Rattle.mcv_rules.proofs.ListMembers.{Among}
use Rattle.mcv_rules.proofs.KindCases.{AllAt, Grows, chosen, many_grown}
use Rattle.mcv_rules.proofs.LegsOfPlan

-- ---- all members of a list

abbrev pub AllOf : {A : Type 0} → (A → Type 0) → List A → Type 0
AllOf P [] = Unit {0}
AllOf P (x ∷ xs) = P x × AllOf P xs

module _ {A : Type 0} (P : A → Type 0) where
  all_append : (xs ys : List A) → AllOf P xs → AllOf P ys → AllOf P (xs ++ ys)
  all_append [] ys h i = i
  all_append (x ∷ xs) ys h i = (h.0, all_append xs ys h.1 i)

  pub all_among : (xs : List A) (l : A) → AllOf P xs → Among xs l → P l
  all_among [] l h a = absurd a
  all_among (x ∷ xs) l h (inl e) = subst P e h.0
  all_among (x ∷ xs) l h (inr a) = all_among xs l h.1 a

-- ---- all legs of a plan

abbrev pub AllLegs : (Leg → Type 0) → Plan → Type 0
AllLegs P (Send k) = P k
AllLegs P (Reply x) = Unit {0}
AllLegs P (Both t u) = AllLegs P t × AllLegs P u
AllLegs P (Beside t u) = AllLegs P t × AllLegs P u
AllLegs P (OnError t u) = AllLegs P t × AllLegs P u
AllLegs P (OnMiss t u) = AllLegs P t × AllLegs P u
AllLegs P (OnHit t u) = AllLegs P t × AllLegs P u
AllLegs P (Shadowed s a b t u) = AllLegs P t × AllLegs P u

-- those of the children from number k on
abbrev pub AllLegsEach : (Leg → Type 0) → ℕ → List Plan → Type 0
AllLegsEach P k us = AllAt (λ j t. AllLegs P t) k us

pub all_so : (P Q : Leg → Type 0) → ((l : Leg) → P l → Q l) → (t : Plan) → AllLegs P t → AllLegs Q t
all_so P Q f (Send k) h = f k h
all_so P Q f (Reply x) h = tt
all_so P Q f (Both t u) h = (all_so P Q f t h.0, all_so P Q f u h.1)
all_so P Q f (Beside t u) h = (all_so P Q f t h.0, all_so P Q f u h.1)
all_so P Q f (OnError t u) h = (all_so P Q f t h.0, all_so P Q f u h.1)
all_so P Q f (OnMiss t u) h = (all_so P Q f t h.0, all_so P Q f u h.1)
all_so P Q f (OnHit t u) h = (all_so P Q f t h.0, all_so P Q f u h.1)
all_so P Q f (Shadowed s a b t u) h = (all_so P Q f t h.0, all_so P Q f u h.1)

module _ (P : Leg → Type 0) where
  legs_grow : (b : Bool) → Grows b (λ k t. AllLegs P t) (λ k t. AllLegs P t)
  legs_grow b = record {
    reply = λ k x w. tt;
    first = λ k u h. h;
    all = λ k t u h i. (h, i);
    beside = λ k t u h i. (h, i);
    after_error = λ k t u h i. (h, i);
    after_miss = λ e k t u h i. (h, i);
  }

  pub all_many : (kind : Many) (ts : Trees) (s : Situation) → AllLegsEach P 0 (plan_each 0 ts s) → AllLegsEach P 0 (plan_each 0 ts (asynchronous s)) → AllLegs P (plan (many kind ts) s)
  all_many kind ts s h i = (many_grown (λ k t. AllLegs P t) (λ k t. AllLegs P t) kind ts s (legs_grow (is_reading s.op)) h i).1

  pub all_chosen : (k n : ℕ) (us : List Plan) → AllLegsEach P k us → AllLegs P (child_or (Reply Error) n us)
  all_chosen k n us h = (chosen true (λ k t. AllLegs P t) (λ k t. AllLegs P t) (legs_grow true) k n us h).1

  pub all_when : (b : Bool) (t u : Plan) → (b ≡ true → AllLegs P t) → AllLegs P u → AllLegs P (if b then t else u)
  all_when true t u h i = h refl
  all_when false t u h i = i

  pub all_way : (w : Way) (t u v : Plan) → AllLegs P t → AllLegs P u → AllLegs P v → AllLegs P (by_way w t u v)
  all_way to_from t u v h i j = h
  all_way to_to t u v h i j = i
  all_way to_both t u v h i j = j

  pub all_shadows : (symbol k : ℕ) (t : Plan) (rs : List Range) (us : List Plan) → AllLegs P t → AllLegsEach P k us → AllLegs P (with_shadows symbol t rs us)
  all_shadows symbol k t [] us h i = h
  all_shadows symbol k t (r ∷ rs) [] h i = h
  all_shadows symbol k t (r ∷ rs) (u ∷ us) h i = all_shadows symbol (suc k) (Shadowed symbol r.first r.last t u) rs us (h, i.0) i.1

  -- ---- all legs that it sends

  all_if : (b : Bool) (ls : List Leg) → AllOf P ls → AllOf P (if b then ls else [])
  all_if true ls h = h
  all_if false ls h = tt

  all_replied : (test : Outcome → Bool) (r : Option Outcome) (ls : List Leg) → AllOf P ls → AllOf P (on_reply test r ls)
  all_replied test None ls h = tt
  all_replied test (Some x) ls h = all_if (test x) ls h

  all_launched : (t : Plan) (c : Choice) (o : Outcomes) → AllLegs P t → AllOf P (launched t c o)
  all_launched (Send k) c o h = (h, tt)
  all_launched (Reply x) c o h = tt
  all_launched (Both t u) c o h = all_append P (launched t c o) (launched u c o) (all_launched t c o h.0) (all_launched u c o h.1)
  all_launched (Beside t u) c o h = all_append P (launched t c o) (launched u c o) (all_launched t c o h.0) (all_launched u c o h.1)
  all_launched (OnError t u) c o h =
      all_append P (launched t c o) (on_reply is_error (reply t o) (launched u c o)) (all_launched t c o h.0) (all_replied is_error (reply t o) (launched u c o) (all_launched u c o h.1))
  all_launched (OnMiss t u) c o h =
      all_append P (launched t c o) (on_reply is_missed (reply t o) (launched u c o)) (all_launched t c o h.0) (all_replied is_missed (reply t o) (launched u c o) (all_launched u c o h.1))
  all_launched (OnHit t u) c o h =
      all_append P (launched t c o) (on_reply is_good (reply t o) (launched u c o)) (all_launched t c o h.0) (all_replied is_good (reply t o) (launched u c o) (all_launched u c o h.1))
  all_launched (Shadowed s a b t u) c o h =
      all_append P (launched t c o) (if nat_le a (c s) && nat_le (c s) b then launched u c o else []) (all_launched t c o h.0)
      (all_if (nat_le a (c s) && nat_le (c s) b) (launched u c o) (all_launched u c o h.1))

all_map : (P : Leg → Type 0) (Q : Launch → Type 0) (c : Choice) → ((k : Leg) → P k → Q (launch_of c k)) → (ls : List Leg) → AllOf P ls → AllOf Q (map (launch_of c) ls)
all_map P Q c f [] h = tt
all_map P Q c f (k ∷ ls) h = (f k h.0, all_map P Q c f ls h.1)

-- what all legs of the route's plan have, all have that it sends
pub launches_have : (P : Leg → Type 0) (Q : Launch → Type 0) (t : Tree) (s : Situation) (c : Choice) (o : Outcomes) → ((k : Leg) → P k → Q (launch_of c k)) → AllLegs P (plan t s) → AllOf Q (route.launched t s c o)
launches_have P Q t s c o f h = subst (λ ls. AllOf Q ls) (sym (LegsOfPlan.sent t s c o)) (all_map P Q c f (launched (plan t s) c o) (all_launched P (plan t s) c o h))
