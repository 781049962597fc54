-- Every plan of a route is sound.
use Rattle.std.proofs.Common.{◌≡◌, ◌≢◌, ◌⊎◌, cond, inl, inr, ⊎_elim, ℕ, zero, suc, ◌+◌, ◌≤◌, ◌<◌, Bool, true, false, List, [], ◌∷◌, ◌++◌, length, refl, sym, ap, ◌∙◌, subst, arith, append_assoc, append-nil, true≢false}
use Rattle.mcv_base.specs.declared.operation.Op.{Op}
use Rattle.mcv_base.specs.declared.operation.Op.TheVariants.{Get, Gets, Set, Add, Replace, Append, Prepend, Cas, Delete, Touch, Incr, Decr}
use Rattle.mcv_base.specs.declared.operation.Mark.{Mark}
use Rattle.mcv_base.specs.declared.operation.Mark.TheVariants.{Plain, Async, Shadow}
use Rattle.mcv_base.specs.declared.operation.Mark.TheVariants.{Add as Added}
use Rattle.mcv_base.specs.declared.reply.Outcome.{Outcome}
use Rattle.mcv_base.specs.declared.reply.Outcome.TheVariants.{Good, Soft, Error}
use Rattle.mcv_base.specs.Operation.{is_counting}
use Rattle.mcv_rules.specs.Plan.{Leg, Plan, Send, Reply, Both, Beside, OnError, OnMiss, OnHit, Shadowed}
use Rattle.mcv_rules.specs.Soundness.{positions}
use Rattle.mcv_rules.specs.Soundness.{In, AreApart, IsApart, IsForDelete, IsMarked, IsHonest}
use Rattle.mcv_rules.specs.Soundness.{IsSized, IsSound}
use Rattle.mcv_route.specs.Tree.{Range, Tree, Trees, pool, null, error, many, warm_up, migrate, prefix_selector, operation_selector, none, child}
use Rattle.mcv_route.specs.Situation.{Situation, under, asked, marked_async, marked_add, asynchronous, shadowed, adding}
use Rattle.mcv_base.specs.Operation.{is_reading, is_delete}
use Rattle.mcv_route.specs.Children.{child_or, Way, to_from, to_to, to_both, policy_of, prefix_policy, way_of, by_way}
use Rattle.mcv_rules.specs.Plans.{leg_of, with_shadows, plan, plan_each}
use Rattle.mcv_route.specs.WellFormedTrees.{IsWellFormed, AreWellFormed}
use Rattle.mcv_rules.proofs.KindCases.{AllAt, Grows, chosen, many_grown}

pub in_either : (ps qs : List (List ℕ)) (p : List ℕ) → In (ps ++ qs) p → In ps p ⊎ In qs p
in_either [] qs p h = inr h
in_either (q ∷ ps) qs p (inl e) = inl (inl e)
in_either (q ∷ ps) qs p (inr h) = ⊎_elim (λ i. inl (inr i)) (λ i. inr i) (in_either ps qs p h)

-- the position, or one under a child whose number is below i
abbrev IsBelow : List ℕ → ℕ → List ℕ → Type 0
IsBelow p i q = (q ≡ p) ⊎ ((j : ℕ) × (r : List ℕ) × (j < i) × (q ≡ p ++ j ∷ r))

-- a position under p
abbrev IsUnder : List ℕ → List ℕ → Type 0
IsUnder p q = (r : List ℕ) × (q ≡ p ++ r)

head_of : List ℕ → ℕ
head_of [] = 0
head_of (i ∷ p) = i

tail_of : List ℕ → List ℕ
tail_of [] = []
tail_of (i ∷ p) = p

same_child : (p : List ℕ) (i j : ℕ) (q r : List ℕ) → p ++ i ∷ q ≡ p ++ j ∷ r → i ≡ j
unfolding head_of tail_of
same_child [] i j q r e = ap head_of e
same_child (k ∷ p) i j q r e = same_child p i j q r (ap tail_of e)

not_child : (p : List ℕ) (i : ℕ) (q : List ℕ) → p ≡ p ++ i ∷ q → ⊥
unfolding tail_of
not_child [] i q e = absurd cc
not_child (k ∷ p) i q e = not_child p i q (ap tail_of e)

-- a part of a route with what every plan has: d says whether a delete is asked, m whether its legs are counted
record Fits (sizes : List ℕ) (d m : Bool) (Here : List ℕ → Type 0) (t : Plan) : Type 0 where
  here : (q : List ℕ) → In (positions t) q → Here q
  is_apart : IsApart t
  is_marked : IsMarked m t
  is_honest : IsHonest t
  is_sized : IsSized sizes t
  for_delete : d ≡ true → IsForDelete t

below_apart : (sizes : List ℕ) (d e : Bool) (p : List ℕ) (i : ℕ) (m n : Bool) (t u : Plan) → Fits sizes d m (IsBelow p i) t → Fits sizes e n (IsUnder (p ++ i ∷ [])) u → AreApart t u
below_apart sizes d e p i m n t u f g q a b =
    let r = g.here q b in
    let flat : q ≡ p ++ i ∷ r.0 = r.1 ∙ append_assoc p (i ∷ []) r.0 in
    elim (f.here q a) [
      | inl e ↦ not_child p i r.0 (sym e ∙ flat)
      | inr h ↦ let same = same_child p h.0 i h.1 r.0 (sym h.3 ∙ flat) in omega (arith, same, h.2)
    ]

more_below : (p : List ℕ) (i : ℕ) (q : List ℕ) → IsBelow p i q → IsBelow p (suc i) q
more_below p i q (inl e) = inl e
more_below p i q (inr h) = inr (h.0, h.1, omega (arith, h.2), h.3)

child_below : (p : List ℕ) (i : ℕ) (q : List ℕ) → IsUnder (p ++ i ∷ []) q → IsBelow p (suc i) q
child_below p i q h = inr (i, h.0, omega arith, h.1 ∙ append_assoc p (i ∷ []) h.0)

child_under : (p : List ℕ) (i : ℕ) (q : List ℕ) → IsUnder (p ++ i ∷ []) q → IsUnder p q
child_under p i q h = (i ∷ h.0, h.1 ∙ append_assoc p (i ∷ []) h.0)

below_under : (p : List ℕ) (i : ℕ) (q : List ℕ) → IsBelow p i q → IsUnder p q
below_under p i q (inl e) = ([], e ∙ sym (append-nil p))
below_under p i q (inr h) = (h.0 ∷ h.1, h.3)

-- two parts that are joined, whichever way
record IsJoin (d : Bool) (join : Plan → Plan → Plan) : Type 0 where
  fits : (sizes : List ℕ) (m : Bool) (p : List ℕ) (i : ℕ) (t u : Plan) → Fits sizes d m (IsBelow p i) t → Fits sizes d m (IsUnder (p ++ i ∷ [])) u → Fits sizes d m (IsBelow p (suc i)) (join t u)

next_here : (sizes : List ℕ) (d e m n : Bool) (p : List ℕ) (i : ℕ) (t u : Plan) → Fits sizes d m (IsBelow p i) t → Fits sizes e n (IsUnder (p ++ i ∷ [])) u → (q : List ℕ) → In (positions t ++ positions u) q → IsBelow p (suc i) q
next_here sizes d e m n p i t u f g q h = ⊎_elim (λ a. more_below p i q (f.here q a)) (λ b. child_below p i q (g.here q b)) (in_either (positions t) (positions u) q h)

both_join : (d : Bool) → IsJoin d Both
both_join d = record {
  fits = λ sizes m p i t u f g. record {
    here = next_here sizes d d m m p i t u f g;
    is_apart = (f.is_apart, g.is_apart, below_apart sizes d d p i m m t u f g);
    is_marked = (f.is_marked, g.is_marked);
    is_honest = (f.is_honest, g.is_honest);
    is_sized = (f.is_sized, g.is_sized);
    for_delete = λ e. (f.for_delete e, g.for_delete e);
  };
}

beside_join : (d : Bool) → IsJoin d Beside
beside_join d = record {
  fits = λ sizes m p i t u f g. record {
    here = next_here sizes d d m m p i t u f g;
    is_apart = (f.is_apart, g.is_apart, below_apart sizes d d p i m m t u f g);
    is_marked = (f.is_marked, g.is_marked);
    is_honest = (f.is_honest, g.is_honest);
    is_sized = (f.is_sized, g.is_sized);
    for_delete = λ e. (f.for_delete e, g.for_delete e);
  };
}

error_join : (d : Bool) → IsJoin d OnError
error_join d = record {
  fits = λ sizes m p i t u f g. record {
    here = next_here sizes d d m m p i t u f g;
    is_apart = (f.is_apart, g.is_apart, below_apart sizes d d p i m m t u f g);
    is_marked = (f.is_marked, g.is_marked);
    is_honest = (f.is_honest, g.is_honest);
    is_sized = (f.is_sized, g.is_sized);
    for_delete = λ e. (f.for_delete e, g.for_delete e);
  };
}

no_delete : (d : Bool) {A : Type 0} → d ≡ false → d ≡ true → A
no_delete d e f = absurd (true≢false (sym f ∙ e))

miss_join : (d : Bool) → d ≡ false → IsJoin d OnMiss
miss_join d off = record {
  fits = λ sizes m p i t u f g. record {
    here = next_here sizes d d m m p i t u f g;
    is_apart = (f.is_apart, g.is_apart, below_apart sizes d d p i m m t u f g);
    is_marked = (f.is_marked, g.is_marked);
    is_honest = (f.is_honest, g.is_honest);
    is_sized = (f.is_sized, g.is_sized);
    for_delete = λ e. no_delete d off e;
  };
}

widen : (sizes : List ℕ) (d m : Bool) (A B : List ℕ → Type 0) (t : Plan) → ((q : List ℕ) → A q → B q) → Fits sizes d m A t → Fits sizes d m B t
widen sizes d m A B t h f = record { here = λ q i. h q (f.here q i); is_apart = f.is_apart; is_marked = f.is_marked; is_honest = f.is_honest; is_sized = f.is_sized; for_delete = f.for_delete }

-- the plan of child k of the handle at p, and that of all children before it
abbrev ChildFits : List ℕ → Bool → Bool → List ℕ → ℕ → Plan → Type 0
ChildFits sizes d m p k t = Fits sizes d m (IsUnder (p ++ k ∷ [])) t

abbrev EarlyFit : List ℕ → Bool → Bool → List ℕ → ℕ → Plan → Type 0
EarlyFit sizes d m p k t = Fits sizes d m (IsBelow p k) t

-- the children of the handle at p, the first of which has number k
abbrev AllFit : List ℕ → Bool → Bool → List ℕ → ℕ → List Plan → Type 0
AllFit sizes d m p k us = AllAt (ChildFits sizes d m p) k us

reply_fits : (sizes : List ℕ) (d m : Bool) (Here : List ℕ → Type 0) (x : Outcome) → x ≢ Good → Fits sizes d m Here (Reply x)
reply_fits sizes d m Here x w = record { here = λ q h. absurd h; is_apart = tt; is_marked = tt; is_honest = w; is_sized = tt; for_delete = λ e. tt }

error_fits : (sizes : List ℕ) (d m : Bool) (Here : List ℕ → Type 0) → Fits sizes d m Here (Reply Error)
error_fits sizes d m Here = reply_fits sizes d m Here Error (λ e. absurd cc)

soft_fits : (sizes : List ℕ) (d m : Bool) (Here : List ℕ → Type 0) → Fits sizes d m Here (Reply Soft)
soft_fits sizes d m Here = reply_fits sizes d m Here Soft (λ e. absurd cc)

fits_grow : (sizes : List ℕ) (d m : Bool) (p : List ℕ) (b : Bool) → (b ≡ true → d ≡ false) → Grows b (ChildFits sizes d m p) (EarlyFit sizes d m p)
fits_grow sizes d m p b off = record {
  reply = λ k x w. reply_fits sizes d m (IsBelow p k) x w;
  first = λ k u f. widen sizes d m (IsUnder (p ++ k ∷ [])) (IsBelow p (suc k)) u (child_below p k) f;
  all = λ k t u f g. (both_join d).fits sizes m p k t u f g;
  beside = λ k t u f g. (beside_join d).fits sizes m p k t u f g;
  after_error = λ k t u f g. (error_join d).fits sizes m p k t u f g;
  after_miss = λ e k t u f g. (miss_join d (off e)).fits sizes m p k t u f g;
}

child_fits : (sizes : List ℕ) (d m : Bool) (p : List ℕ) (n : ℕ) (us : List Plan) → AllFit sizes d m p 0 us → Fits sizes d m (IsUnder p) (child_or (Reply Error) n us)
child_fits sizes d m p n us h =
    let whole = chosen false (ChildFits sizes d m p) (EarlyFit sizes d m p) (fits_grow sizes d m p false (λ e. absurd (true≢false (sym e)))) 0 n us h in
    widen sizes d m (IsBelow p whole.0) (IsUnder p) (child_or (Reply Error) n us) (below_under p whole.0) whole.1

shadow_fits : (sizes : List ℕ) (d m : Bool) (p : List ℕ) (i s low high : ℕ) (t u : Plan) → Fits sizes d m (IsBelow p i) t → Fits sizes d false (IsUnder (p ++ i ∷ [])) u → Fits sizes d m (IsBelow p (suc i)) (Shadowed s low high t u)
shadow_fits sizes d m p i s low high t u f g =
    record {
      here = next_here sizes d d m false p i t u f g;
      is_apart = (f.is_apart, g.is_apart, below_apart sizes d d p i m false t u f g);
      is_marked = (f.is_marked, g.is_marked);
      is_honest = (f.is_honest, g.is_honest);
      is_sized = (f.is_sized, g.is_sized);
      for_delete = λ e. f.for_delete e;
    }

shadows_fit : (sizes : List ℕ) (d m : Bool) (p : List ℕ) (k symbol : ℕ) (t : Plan) (rs : List Range) (us : List Plan) → Fits sizes d m (IsBelow p k) t → AllFit sizes d false p k us → Fits sizes d m (IsUnder p) (with_shadows symbol t rs us)
shadows_fit sizes d m p k symbol t [] us f h = widen sizes d m (IsBelow p k) (IsUnder p) t (below_under p k) f
shadows_fit sizes d m p k symbol t (r ∷ rs) [] f h = widen sizes d m (IsBelow p k) (IsUnder p) t (below_under p k) f
shadows_fit sizes d m p k symbol t (r ∷ rs) (u ∷ us) f h =
    shadows_fit sizes d m p (suc k) symbol (Shadowed symbol r.first r.last t u) rs us (shadow_fits sizes d m p k symbol r.first r.last t u f h.0) h.1

own_fits : (sizes : List ℕ) (d m : Bool) (k : Leg) → k.symbol < length sizes → is_counting k.mark ≡ m → Fits sizes d m (IsBelow k.position 0) (Send k)
own_fits sizes d m k h e = record { here = λ q i. ⊎_elim (λ f. inl (sym f)) (λ f. absurd f) i; is_apart = tt; is_marked = e; is_honest = tt; is_sized = h; for_delete = λ f. tt }

if_fits : (sizes : List ℕ) (d m : Bool) (Here : List ℕ → Type 0) (b : Bool) (t u : Plan) → (b ≡ true → Fits sizes d m Here t) → Fits sizes d m Here u → Fits sizes d m Here (cond b t u)
if_fits sizes d m Here true t u f g = f refl
if_fits sizes d m Here false t u f g = g

way_fits : (sizes : List ℕ) (d m : Bool) (Here : List ℕ → Type 0) (way : Way) (t u v : Plan) → Fits sizes d m Here t → Fits sizes d m Here u → Fits sizes d m Here v → Fits sizes d m Here (by_way way t u v)
way_fits sizes d m Here to_from t u v f g h = f
way_fits sizes d m Here to_to t u v f g h = g
way_fits sizes d m Here to_both t u v f g h = h

reading_is_no_delete : (op : Op) → is_reading op ≡ true → is_delete op ≡ false
reading_is_no_delete Get e = refl
reading_is_no_delete Gets e = refl
reading_is_no_delete Set e = refl
reading_is_no_delete Add e = refl
reading_is_no_delete Replace e = refl
reading_is_no_delete Append e = refl
reading_is_no_delete Prepend e = refl
reading_is_no_delete Cas e = refl
reading_is_no_delete Delete e = absurd (true≢false (sym e))
reading_is_no_delete Touch e = refl
reading_is_no_delete Incr e = refl
reading_is_no_delete Decr e = refl

async_counts : (m : Mark) → is_counting (marked_async m) ≡ is_counting m
async_counts Plain = refl
async_counts Async = refl
async_counts Added = refl
async_counts Shadow = refl

add_counts : (m : Mark) → is_counting (marked_add m) ≡ is_counting m
add_counts Plain = refl
add_counts Async = refl
add_counts Added = refl
add_counts Shadow = refl

-- cold, then warm, then the second reading of cold
warm_up_fits : (sizes : List ℕ) (d m : Bool) (p : List ℕ) (cold warm add : Plan) → d ≡ false → Fits sizes d m (IsUnder (p ++ 0 ∷ [])) cold → Fits sizes d m (IsUnder (p ++ 1 ∷ [])) warm → Fits sizes false m (IsUnder (p ++ 2 ∷ [])) add → Fits sizes d m (IsUnder p) (OnMiss cold (OnHit warm add))
warm_up_fits sizes d m p cold warm add off c w a =
    let first : Fits sizes d m (IsBelow p 1) cold = widen sizes d m (IsUnder (p ++ 0 ∷ [])) (IsBelow p 1) cold (child_below p 0) c in
    let early : Fits sizes d m (IsBelow p 2) cold = widen sizes d m (IsBelow p 1) (IsBelow p 2) cold (more_below p 1) first in
    let second : Fits sizes d m (IsBelow p 2) warm = widen sizes d m (IsUnder (p ++ 1 ∷ [])) (IsBelow p 2) warm (child_below p 1) w in
    record {
      here = λ q h. ⊎_elim (λ x. child_under p 0 q (c.here q x)) (λ y. ⊎_elim (λ v. child_under p 1 q (w.here q v)) (λ v. child_under p 2 q (a.here q v)) (in_either (positions warm) (positions add) q y)) (in_either (positions cold) (positions warm ++ positions add) q h);
      is_apart = (
        c.is_apart,
        (w.is_apart, a.is_apart, below_apart sizes d false p 2 m m warm add second a),
        λ q x y. ⊎_elim (λ v. below_apart sizes d d p 1 m m cold warm first w q x v) (λ v. below_apart sizes d false p 2 m m cold add early a q x v) (in_either (positions warm) (positions add) q y),
      );
      is_marked = (c.is_marked, (w.is_marked, a.is_marked));
      is_honest = (c.is_honest, (w.is_honest, a.is_honest));
      is_sized = (c.is_sized, (w.is_sized, a.is_sized));
      for_delete = λ e. no_delete d off e;
    }

-- a child's plan, as part of its parent
lift : (sizes : List ℕ) (d m : Bool) (p : List ℕ) (k : ℕ) (t : Plan) → Fits sizes d m (IsUnder (p ++ k ∷ [])) t → Fits sizes d m (IsUnder p) t
lift sizes d m p k t f = widen sizes d m (IsUnder (p ++ k ∷ [])) (IsUnder p) t (child_under p k) f

both_fits : (sizes : List ℕ) (d m : Bool) (p : List ℕ) (t u : Plan) → Fits sizes d m (IsUnder (p ++ 0 ∷ [])) t → Fits sizes d m (IsUnder (p ++ 1 ∷ [])) u → Fits sizes d m (IsUnder p) (Both t u)
both_fits sizes d m p t u f g =
    widen sizes d m (IsBelow p 2) (IsUnder p) (Both t u) (below_under p 2) ((both_join d).fits sizes m p 1 t u (widen sizes d m (IsUnder (p ++ 0 ∷ [])) (IsBelow p 1) t (child_below p 0) f) g)

-- what the plan of the tree in the situation has
abbrev PlanFits : List ℕ → Tree → Situation → Type 0
PlanFits sizes t s = Fits sizes (is_delete s.op) (is_counting s.mark) (IsUnder s.position) (plan t s)

async_fits : (sizes : List ℕ) (ts : Trees) (s : Situation) → AllFit sizes (is_delete s.op) (is_counting (marked_async s.mark)) s.position 0 (plan_each 0 ts (asynchronous s)) → AllFit sizes (is_delete s.op) (is_counting s.mark) s.position 0 (plan_each 0 ts (asynchronous s))
async_fits sizes ts s h = subst (λ m. AllFit sizes (is_delete s.op) m s.position 0 (plan_each 0 ts (asynchronous s))) (async_counts s.mark) h

mutual
  plan_fits : (sizes : List ℕ) (t : Tree) (s : Situation) → IsWellFormed sizes t → PlanFits sizes t s
  plan_fits sizes (pool p ranges targets) s w =
      shadows_fit sizes (is_delete s.op) (is_counting s.mark) s.position 0 p.symbol (Send (leg_of p s)) ranges (plan_each 0 targets (shadowed s))
      (own_fits sizes (is_delete s.op) (is_counting s.mark) (leg_of p s) w.0 refl) (each_fits sizes 0 targets (shadowed s) w.1)
  plan_fits sizes null s w = soft_fits sizes (is_delete s.op) (is_counting s.mark) (IsUnder s.position)
  plan_fits sizes error s w = error_fits sizes (is_delete s.op) (is_counting s.mark) (IsUnder s.position)
  plan_fits sizes (many kind ts) s w =
      let p = s.position in
      let d = is_delete s.op in
      let m = is_counting s.mark in
      let whole = many_grown (ChildFits sizes d m p) (EarlyFit sizes d m p) kind ts s (fits_grow sizes d m p (is_reading s.op) (reading_is_no_delete s.op)) (each_fits sizes 0 ts s w) (async_fits sizes ts s (each_fits sizes 0 ts (asynchronous s) w)) in
      widen sizes d m (IsBelow p whole.0) (IsUnder p) (plan (many kind ts) s) (below_under p whole.0) whole.1
  plan_fits sizes (warm_up cold warm exptime) s w =
      if_fits sizes (is_delete s.op) (is_counting s.mark) (IsUnder s.position) (is_reading s.op)
      (OnMiss (plan cold (under 0 s)) (OnHit (plan warm (under 1 s)) (plan cold (under 2 (adding s))))) (plan cold (under 0 s))
      (λ e. warm_up_fits sizes (is_delete s.op) (is_counting s.mark) s.position (plan cold (under 0 s)) (plan warm (under 1 s)) (plan cold (under 2 (adding s))) (reading_is_no_delete s.op e)
      (plan_fits sizes cold (under 0 s) w.0) (plan_fits sizes warm (under 1 s) w.1)
      (subst (λ m. Fits sizes false m (IsUnder (s.position ++ 2 ∷ [])) (plan cold (under 2 (adding s)))) (add_counts s.mark) (plan_fits sizes cold (under 2 (adding s)) w.0)))
      (lift sizes (is_delete s.op) (is_counting s.mark) s.position 0 (plan cold (under 0 s)) (plan_fits sizes cold (under 0 s) w.0))
  plan_fits sizes (migrate from to start interval) s w =
      way_fits sizes (is_delete s.op) (is_counting s.mark) (IsUnder s.position) (way_of s start interval) (plan from (under 0 s)) (plan to (under 1 s)) (Both (plan from (under 0 s)) (plan to (under 1 s)))
      (lift sizes (is_delete s.op) (is_counting s.mark) s.position 0 (plan from (under 0 s)) (plan_fits sizes from (under 0 s) w.0))
      (lift sizes (is_delete s.op) (is_counting s.mark) s.position 1 (plan to (under 1 s)) (plan_fits sizes to (under 1 s) w.1))
      (both_fits sizes (is_delete s.op) (is_counting s.mark) s.position (plan from (under 0 s)) (plan to (under 1 s)) (plan_fits sizes from (under 0 s) w.0) (plan_fits sizes to (under 1 s) w.1))
  plan_fits sizes (prefix_selector prefixes ts) s w = child_fits sizes (is_delete s.op) (is_counting s.mark) s.position (prefix_policy s.rest prefixes) (plan_each 0 ts s) (each_fits sizes 0 ts s w)
  plan_fits sizes (operation_selector ops ts) s w = child_fits sizes (is_delete s.op) (is_counting s.mark) s.position (policy_of s.op ops) (plan_each 0 ts s) (each_fits sizes 0 ts s w)

  each_fits : (sizes : List ℕ) (k : ℕ) (ts : Trees) (s : Situation) → AreWellFormed sizes ts → AllFit sizes (is_delete s.op) (is_counting s.mark) s.position k (plan_each k ts s)
  each_fits sizes k none s w = tt
  each_fits sizes k (child t ts) s w = (plan_fits sizes t (under k s) w.0, each_fits sizes (suc k) ts s w.1)

pub plan_sound : (sizes : List ℕ) (t : Tree) (op : Op) (rest : List ℕ) (since : _) → IsWellFormed sizes t → IsSound sizes (plan t (asked op rest since))
plan_sound sizes t op rest since w = let f = plan_fits sizes t (asked op rest since) w in (f.is_sized, f.is_marked, f.is_apart, f.is_honest)

pub plan_for_delete : (sizes : List ℕ) (t : Tree) (rest : List ℕ) (since : _) → IsWellFormed sizes t → IsForDelete (plan t (asked Delete rest since))
plan_for_delete sizes t rest since w = (plan_fits sizes t (asked Delete rest since) w).for_delete refl

-- ---- of every tree: some list of sizes is long enough

abbrev mutual
  -- a number above all symbols
  pub above : Tree → ℕ
  above (pool p ranges targets) = suc p.symbol + above_each targets
  above null = 0
  above error = 0
  above (many kind ts) = above_each ts
  above (warm_up cold warm exptime) = above cold + above warm
  above (migrate from to start interval) = above from + above to
  above (prefix_selector prefixes ts) = above_each ts
  above (operation_selector ops ts) = above_each ts

  above_each : Trees → ℕ
  above_each none = 0
  above_each (child t ts) = above t + above_each ts

mutual
  pub well : (sizes : List ℕ) (t : Tree) → above t ≤ length sizes → IsWellFormed sizes t
  well sizes (pool p ranges targets) h = (omega (arith, h), well_each sizes targets (omega (arith, h)))
  well sizes null h = tt
  well sizes error h = tt
  well sizes (many kind ts) h = well_each sizes ts h
  well sizes (warm_up cold warm exptime) h = (well sizes cold (omega (arith, h)), well sizes warm (omega (arith, h)))
  well sizes (migrate from to start interval) h = (well sizes from (omega (arith, h)), well sizes to (omega (arith, h)))
  well sizes (prefix_selector prefixes ts) h = well_each sizes ts h
  well sizes (operation_selector ops ts) h = well_each sizes ts h

  well_each : (sizes : List ℕ) (ts : Trees) → above_each ts ≤ length sizes → AreWellFormed sizes ts
  well_each sizes none h = tt
  well_each sizes (child t ts) h = (well sizes t (omega (arith, h)), well_each sizes ts (omega (arith, h)))

-- so many sizes
abbrev sizes_of : ℕ → List ℕ
sizes_of zero = []
sizes_of (suc n) = 1 ∷ sizes_of n

length-sizes : (n : ℕ) → n ≤ length (sizes_of n)
length-sizes zero = omega arith
length-sizes (suc n) = let more : n ≤ length (sizes_of n) = length-sizes n in omega (arith, more)

pub plan_apart : (t : Tree) (s : Situation) → IsApart (plan t s)
plan_apart t s = (plan_fits (sizes_of (above t)) t s (well (sizes_of (above t)) t (length-sizes (above t)))).is_apart

pub plan_marked : (t : Tree) (s : Situation) → IsMarked (is_counting s.mark) (plan t s)
plan_marked t s = (plan_fits (sizes_of (above t)) t s (well (sizes_of (above t)) t (length-sizes (above t)))).is_marked
