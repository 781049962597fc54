-- The legs of a plan, and so those of a route, come in the order of their positions.
use Rattle.std.proofs.Common.{◌≡◌, inl, inr, ⊎_elim, ℕ, suc, ◌<◌, Bool, true, false, cond, ◌==◌, List, [], ◌∷◌, ◌++◌, map, Option, Some, None, refl, sym, ap, ◌∙◌, subst, arith, append_assoc, append-nil}
use Rattle.std.specs.Prelude.{⊤, ◌&&◌, if◌then◌else◌, nat_le}
use Rattle.std.specs.Cmp.Lexicographic.{slice_cmp}
use Rattle.std.specs.List.{All, AllPairs}
use Rattle.std.specs.Ordering.{nat_cmp, ordering_then}
use Rattle.std.specs.declared.cmp.Ordering.TheVariants.{Less, Equal, Greater}
use Rattle.std.proofs.lemmas.Bool.{lt-ltb}
use Rattle.std.proofs.lemmas.List.{map-append}
use Rattle.std.proofs.lemmas.List.Elements.{All-cons, All-nil}
use Rattle.std.proofs.lemmas.List.Kept.{AllPairs-cons}
use Rattle.std.proofs.lemmas.Cmp.{nat_cmp_total, tied_itself}
use Rattle.mcv_base.specs.declared.reply.Outcome.{Outcome}
use Rattle.mcv_base.specs.declared.reply.Outcome.TheVariants.{Error}
use Rattle.mcv_base.specs.Reply.{is_error, is_missed, is_good}
use Rattle.mcv_base.specs.Operation.{is_reading}
use Rattle.mcv_route.specs.Outcomes.{Outcomes, Choice}
use Rattle.mcv_route.specs.Children.{child_or, policy_of, prefix_policy, Way, to_from, to_to, to_both, way_of, by_way}
use Rattle.mcv_route.specs.Situation.{Situation, under, asynchronous, shadowed, adding}
use Rattle.mcv_route.specs.Tree.{Range, Tree, Trees, pool, null, error, many, warm_up, migrate, prefix_selector, operation_selector, none, child}
use Rattle.mcv_rules.specs.Plan.{Leg, Plan, Send, Reply, Both, Beside, OnError, OnMiss, OnHit, Shadowed, reply, on_reply, launched}
use Rattle.mcv_rules.specs.Plans.{leg_of, plan, plan_each, with_shadows, launch_of}
use Rattle.mcv_rules.specs.Rows.{LegsComeInOrder, ComesBefore}
use Rattle.mcv_rules.specs.Soundness.{positions, In}
use Rattle.mcv_rules.proofs.KindCases.{AllAt, Grows, chosen, many_grown}
use Rattle.mcv_rules.proofs.Orders.{in_left, in_right}
use Rattle.mcv_rules.proofs.LegsOfPlan
use Rattle.mcv_rules.proofs.PlansAreSound.{in_either}

-- ---- places in order

less : (i j : ℕ) → i < j → nat_cmp i j ≡ Less
less i j h = ap (λ b. cond b Less (cond (i == j) Equal Greater)) (lt-ltb i j h)

before-child : (base : List ℕ) (i j : ℕ) (xs ys : List ℕ) → i < j → ComesBefore (base ++ i ∷ xs) (base ++ j ∷ ys)
before-child [] i j xs ys h = ap (λ c. ordering_then c (slice_cmp nat_cmp xs ys)) (less i j h)
before-child (b ∷ base) i j xs ys h =
    ap (λ c. ordering_then c (slice_cmp nat_cmp (base ++ i ∷ xs) (base ++ j ∷ ys))) (tied_itself nat_cmp_total b) ∙ before-child base i j xs ys h

before-own : (base : List ℕ) (k : ℕ) (more : List ℕ) → ComesBefore base (base ++ k ∷ more)
before-own [] k more = refl
before-own (b ∷ base) k more = ap (λ c. ordering_then c (slice_cmp nat_cmp base (base ++ k ∷ more))) (tied_itself nat_cmp_total b) ∙ before-own base k more

-- ---- lists in order

abbrev pub IsRising : List (List ℕ) → Type 0
IsRising [] = ⊤
IsRising (p ∷ ps) = ((q : List ℕ) → In ps q → ComesBefore p q) × IsRising ps

pub rising-append : (ps qs : List (List ℕ)) → IsRising ps → IsRising qs → ((p q : List ℕ) → In ps p → In qs q → ComesBefore p q) → IsRising (ps ++ qs)
rising-append [] qs h g f = g
rising-append (p ∷ ps) qs h g f = (λ q i. ⊎_elim (λ j. h.0 q j) (λ j. f p q (inl refl) j) (in_either ps qs q i), rising-append ps qs h.1 g (λ x q i j. f x q (inr i) j))

-- ---- the places of a plan

-- a place at the base or below it, by way of a child with a number below k
abbrev HeadBelow : ℕ → List ℕ → Type 0
HeadBelow k [] = ⊤
HeadBelow k (j ∷ more) = j < k

record IsEarly (base : List ℕ) (k : ℕ) (p : List ℕ) : Type 0 where
  more : List ℕ
  is : p ≡ base ++ more
  early : HeadBelow k more

record IsAt (base p : List ℕ) : Type 0 where
  more : List ℕ
  is : p ≡ base ++ more

record AreOrdered (base : List ℕ) (ps : List (List ℕ)) : Type 0 where
  all : (p : List ℕ) → In ps p → IsAt base p
  rising : IsRising ps

record AreEarly (base : List ℕ) (k : ℕ) (ps : List (List ℕ)) : Type 0 where
  all : (p : List ℕ) → In ps p → IsEarly base k p
  rising : IsRising ps

-- the plan of child k, and that of all children before it
abbrev Child : List ℕ → ℕ → Plan → Type 0
Child base k t = AreOrdered (base ++ k ∷ []) (positions t)

abbrev Early : List ℕ → ℕ → Plan → Type 0
Early base k t = AreEarly base k (positions t)

abbrev AreEach : List ℕ → ℕ → List Plan → Type 0
AreEach base k us = AllAt (Child base) k us

-- what is at child k of the base
at-child : (base p : List ℕ) (k : ℕ) → IsAt (base ++ k ∷ []) p → (more : List ℕ) × (p ≡ base ++ k ∷ more)
at-child base p k h = (h.more, h.is ∙ append_assoc base (k ∷ []) h.more)

early-child : (base p : List ℕ) (k : ℕ) → IsAt (base ++ k ∷ []) p → IsEarly base (suc k) p
early-child base p k h = let m = at-child base p k h in record { more = k ∷ m.0; is = m.1; early = omega arith }

weaker-head : (k : ℕ) (more : List ℕ) → HeadBelow k more → HeadBelow (suc k) more
weaker-head k [] h = h
weaker-head k (j ∷ more) h = omega (arith, h)

later : (base p : List ℕ) (k : ℕ) → IsEarly base k p → IsEarly base (suc k) p
later base p k h = record { more = h.more; is = h.is; early = weaker-head k h.more h.early }

cross-at : (base : List ℕ) (k : ℕ) (more rest : List ℕ) → HeadBelow k more → ComesBefore (base ++ more) (base ++ k ∷ rest)
cross-at base k [] rest h = subst (λ b. ComesBefore b (base ++ k ∷ rest)) (sym (append-nil base)) (before-own base k rest)
cross-at base k (j ∷ more) rest h = before-child base j k more rest h

cross : (base p q : List ℕ) (k : ℕ) → IsEarly base k p → IsAt (base ++ k ∷ []) q → ComesBefore p q
cross base p q k h g =
    let m = at-child base q k g in
    subst (λ x. ComesBefore x q) (sym h.is) (subst (λ y. ComesBefore (base ++ h.more) y) (sym m.1) (cross-at base k h.more m.0 h.early))

-- one child more
with-child : (base : List ℕ) (k : ℕ) (ps qs : List (List ℕ)) → AreEarly base k ps → AreOrdered (base ++ k ∷ []) qs → AreEarly base (suc k) (ps ++ qs)
with-child base k ps qs h g = record {
  all = λ p i. ⊎_elim (λ j. later base p k (h.all p j)) (λ j. early-child base p k (g.all p j)) (in_either ps qs p i);
  rising = rising-append ps qs h.rising g.rising (λ p q i j. cross base p q k (h.all p i) (g.all q j));
}

first-child : (base : List ℕ) (k : ℕ) (ps : List (List ℕ)) → AreOrdered (base ++ k ∷ []) ps → AreEarly base (suc k) ps
first-child base k ps h = record { all = λ p i. early-child base p k (h.all p i); rising = h.rising }

done : (base : List ℕ) (k : ℕ) (ps : List (List ℕ)) → AreEarly base k ps → AreOrdered base ps
done base k ps h = record { all = λ p i. let e = h.all p i in record { more = e.more; is = e.is }; rising = h.rising }

nothing-there : (base : List ℕ) → AreOrdered base []
nothing-there base = record { all = λ p i. absurd i; rising = tt }

nothing-early : (base : List ℕ) (k : ℕ) → AreEarly base k []
nothing-early base k = record { all = λ p i. absurd i; rising = tt }

rising_grows : (base : List ℕ) (b : Bool) → Grows b (Child base) (Early base)
rising_grows base b = record {
  reply = λ k x w. nothing-early base k;
  first = λ k u h. first-child base k (positions u) h;
  all = λ k t u h g. with-child base k (positions t) (positions u) h g;
  beside = λ k t u h g. with-child base k (positions t) (positions u) h g;
  after_error = λ k t u h g. with-child base k (positions t) (positions u) h g;
  after_miss = λ e k t u h g. with-child base k (positions t) (positions u) h g;
}

shaded : (base : List ℕ) (symbol k : ℕ) (t : Plan) (rs : List Range) (us : List Plan) → AreEarly base k (positions t) → AreEach base k us → AreOrdered base (positions (with_shadows symbol t rs us))
shaded base symbol k t [] us h g = done base k (positions t) h
shaded base symbol k t (r ∷ rs) [] h g = done base k (positions t) h
shaded base symbol k t (r ∷ rs) (u ∷ us) h g = shaded base symbol (suc k) (Shadowed symbol r.first r.last t u) rs us (with-child base k (positions t) (positions u) h g.0) g.1

one-of : (base : List ℕ) (n : ℕ) (us : List Plan) → AreEach base 0 us → AreOrdered base (positions (child_or (Reply Error) n us))
one-of base n us g = let whole = chosen true (Child base) (Early base) (rising_grows base true) 0 n us g in done base whole.0 (positions (child_or (Reply Error) n us)) whole.1

by-test : (base : List ℕ) (b : Bool) (t u : Plan) → AreOrdered base (positions t) → AreOrdered base (positions u) → AreOrdered base (positions (if b then t else u))
by-test base true t u h g = h
by-test base false t u h g = g

by-direction : (base : List ℕ) (w : Way) (t u : Plan) → AreOrdered (base ++ 0 ∷ []) (positions t) → AreOrdered (base ++ 1 ∷ []) (positions u) → AreOrdered base (positions (by_way w t u (Both t u)))
by-direction base to_from t u h g = done base 1 (positions t) (first-child base 0 (positions t) h)
by-direction base to_to t u h g = done base 2 (positions u) (first-child base 1 (positions u) g)
by-direction base to_both t u h g = done base 2 (positions t ++ positions u) (with-child base 1 (positions t) (positions u) (first-child base 0 (positions t) h) g)

filled : (base : List ℕ) (c w a : Plan) → AreOrdered (base ++ 0 ∷ []) (positions c) → AreOrdered (base ++ 1 ∷ []) (positions w) → AreOrdered (base ++ 2 ∷ []) (positions a) → AreOrdered base (positions (OnMiss c (OnHit w a)))
filled base c w a h g f =
    let both = with-child base 1 (positions c) (positions w) (first-child base 0 (positions c) h) g in
    subst (AreOrdered base) (append_assoc (positions c) (positions w) (positions a)) (done base 3 ((positions c ++ positions w) ++ positions a) (with-child base 2 (positions c ++ positions w) (positions a) both f))

own : (base : List ℕ) → AreEarly base 0 (base ∷ [])
own base = record { all = λ p i. at-base p i; rising = ((λ q i. absurd i), tt) }
  where
    at-base : (p : List ℕ) → In (base ∷ []) p → IsEarly base 0 p
    at-base p (inl e) = record { more = []; is = sym e ∙ sym (append-nil base); early = tt }
    at-base p (inr i) = absurd i

mutual
  ordered : (t : Tree) (s : Situation) → AreOrdered s.position (positions (plan t s))
  ordered (pool p ranges targets) s = shaded s.position p.symbol 0 (Send (leg_of p s)) ranges (plan_each 0 targets (shadowed s)) (own s.position) (ordered_each 0 targets (shadowed s))
  ordered null s = nothing-there s.position
  ordered error s = nothing-there s.position
  ordered (many kind ts) s =
      let whole = many_grown (Child s.position) (Early s.position) kind ts s (rising_grows s.position (is_reading s.op)) (ordered_each 0 ts s) (ordered_each 0 ts (asynchronous s)) in
      done s.position whole.0 (positions (plan (many kind ts) s)) whole.1
  ordered (warm_up cold warm exptime) s =
      by-test s.position (is_reading s.op) (OnMiss (plan cold (under 0 s)) (OnHit (plan warm (under 1 s)) (plan cold (under 2 (adding s))))) (plan cold (under 0 s))
      (filled s.position (plan cold (under 0 s)) (plan warm (under 1 s)) (plan cold (under 2 (adding s))) (ordered cold (under 0 s)) (ordered warm (under 1 s)) (ordered cold (under 2 (adding s))))
      (done s.position 1 (positions (plan cold (under 0 s))) (first-child s.position 0 (positions (plan cold (under 0 s))) (ordered cold (under 0 s))))
  ordered (migrate from to start interval) s = by-direction s.position (way_of s start interval) (plan from (under 0 s)) (plan to (under 1 s)) (ordered from (under 0 s)) (ordered to (under 1 s))
  ordered (prefix_selector prefixes ts) s = one-of s.position (prefix_policy s.rest prefixes) (plan_each 0 ts s) (ordered_each 0 ts s)
  ordered (operation_selector ops ts) s = one-of s.position (policy_of s.op ops) (plan_each 0 ts s) (ordered_each 0 ts s)

  ordered_each : (k : ℕ) (ts : Trees) (s : Situation) → AreEach s.position k (plan_each k ts s)
  ordered_each k none s = tt
  ordered_each k (child t ts) s = (ordered t (under k s), ordered_each (suc k) ts s)

pub plan_rises : (t : Tree) (s : Situation) → IsRising (positions (plan t s))
plan_rises t s = (ordered t s).rising

-- ---- each place is before all later ones

all-before : (p : List ℕ) (ps : List (List ℕ)) → ((q : List ℕ) → In ps q → ComesBefore p q) → All (ComesBefore p) ps
all-before p [] h = All-nil (ComesBefore p)
all-before p (q ∷ ps) h = All-cons (ComesBefore p) q ps (h q (inl refl)) (all-before p ps (λ r i. h r (inr i)))

pub pairs : (ps : List (List ℕ)) → IsRising ps → AllPairs ComesBefore ps
pairs [] h = λ i j d low high. absurd (omega (arith, high))
pairs (p ∷ ps) h = AllPairs-cons ComesBefore p ps (all-before p ps h.0) (pairs ps h.1)

-- ---- parts of a plan, in its order

-- some of the places, in their order
pub record IsPart (ks ps : List (List ℕ)) : Type 0 where
  pub inside : (p : List ℕ) → In ks p → In ps p
  pub rising : IsRising ps → IsRising ks

rising-left : (ps qs : List (List ℕ)) → IsRising (ps ++ qs) → IsRising ps
rising-left [] qs h = tt
rising-left (p ∷ ps) qs h = (λ q i. h.0 q (in_left ps qs q i), rising-left ps qs h.1)

rising-right : (ps qs : List (List ℕ)) → IsRising (ps ++ qs) → IsRising qs
rising-right [] qs h = h
rising-right (p ∷ ps) qs h = rising-right ps qs h.1

rising-across : (ps qs : List (List ℕ)) (p q : List ℕ) → IsRising (ps ++ qs) → In ps p → In qs q → ComesBefore p q
rising-across [] qs p q h i j = absurd i
rising-across (x ∷ ps) qs p q h (inl e) j = subst (λ y. ComesBefore y q) e (h.0 q (in_right ps qs q j))
rising-across (x ∷ ps) qs p q h (inr i) j = rising-across ps qs p q h.1 i j

pub no-part : (ps : List (List ℕ)) → IsPart [] ps
no-part ps = record { inside = λ p i. absurd i; rising = λ r. tt }

pub whole-part : (ps : List (List ℕ)) → IsPart ps ps
whole-part ps = record { inside = λ p i. i; rising = λ r. r }

pub both-parts : (ks ls ps qs : List (List ℕ)) → IsPart ks ps → IsPart ls qs → IsPart (ks ++ ls) (ps ++ qs)
both-parts ks ls ps qs a b = record {
  inside = λ p i. ⊎_elim (λ j. in_left ps qs p (a.inside p j)) (λ j. in_right ps qs p (b.inside p j)) (in_either ks ls p i);
  rising = λ r. rising-append ks ls (a.rising (rising-left ps qs r)) (b.rising (rising-right ps qs r)) (λ p q i j. rising-across ps qs p q r (a.inside p i) (b.inside q j));
}

pub left-part : (ks ps qs : List (List ℕ)) → IsPart ks ps → IsPart ks (ps ++ qs)
left-part ks ps qs a = record { inside = λ p i. in_left ps qs p (a.inside p i); rising = λ r. a.rising (rising-left ps qs r) }

-- the positions of legs
abbrev pub places : List Leg → List (List ℕ)
places ls = map (λ l. l.position) ls

pub parts-of : (ks ls : List Leg) (ps qs : List (List ℕ)) → IsPart (places ks) ps → IsPart (places ls) qs → IsPart (places (ks ++ ls)) (ps ++ qs)
parts-of ks ls ps qs a b = subst (λ ns. IsPart ns (ps ++ qs)) (sym (map-append (λ l. l.position) ks ls)) (both-parts (places ks) (places ls) ps qs a b)

-- ---- what a plan has sent

part-if : (b : Bool) (ls : List Leg) (qs : List (List ℕ)) → IsPart (places ls) qs → IsPart (places (if b then ls else [])) qs
part-if true ls qs a = a
part-if false ls qs a = no-part qs

part-replied : (test : Outcome → Bool) (r : Option Outcome) (ls : List Leg) (qs : List (List ℕ)) → IsPart (places ls) qs → IsPart (places (on_reply test r ls)) qs
part-replied test None ls qs a = no-part qs
part-replied test (Some x) ls qs a = part-if (test x) ls qs a

launched-part : (t : Plan) (c : Choice) (o : Outcomes) → IsPart (places (launched t c o)) (positions t)
launched-part (Send k) c o = whole-part (k.position ∷ [])
launched-part (Reply x) c o = no-part []
launched-part (Both t u) c o = parts-of (launched t c o) (launched u c o) (positions t) (positions u) (launched-part t c o) (launched-part u c o)
launched-part (Beside t u) c o = parts-of (launched t c o) (launched u c o) (positions t) (positions u) (launched-part t c o) (launched-part u c o)
launched-part (OnError t u) c o =
    parts-of (launched t c o) (on_reply is_error (reply t o) (launched u c o)) (positions t) (positions u) (launched-part t c o) (part-replied is_error (reply t o) (launched u c o) (positions u) (launched-part u c o))
launched-part (OnMiss t u) c o =
    parts-of (launched t c o) (on_reply is_missed (reply t o) (launched u c o)) (positions t) (positions u) (launched-part t c o) (part-replied is_missed (reply t o) (launched u c o) (positions u) (launched-part u c o))
launched-part (OnHit t u) c o =
    parts-of (launched t c o) (on_reply is_good (reply t o) (launched u c o)) (positions t) (positions u) (launched-part t c o) (part-replied is_good (reply t o) (launched u c o) (positions u) (launched-part u c o))
launched-part (Shadowed s a b t u) c o =
    parts-of (launched t c o) (if nat_le a (c s) && nat_le (c s) b then launched u c o else []) (positions t) (positions u) (launched-part t c o)
    (part-if (nat_le a (c s) && nat_le (c s) b) (launched u c o) (positions u) (launched-part u c o))

pub launched_places : (c : Choice) (ls : List Leg) → map (λ l. l.position) (map (launch_of c) ls) ≡ places ls
launched_places c [] = refl
launched_places c (l ∷ ls) = ap (λ ps. l.position ∷ ps) (launched_places c ls)

pub legs_come_in_order : LegsComeInOrder
legs_come_in_order t s c o =
    subst (λ (ps : List (List ℕ)). AllPairs ComesBefore ps) (sym (ap (λ ls. map (λ l. l.position) ls) (LegsOfPlan.sent t s c o) ∙ launched_places c (launched (plan t s) c o)))
    (pairs (places (launched (plan t s) c o)) ((launched-part (plan t s) c o).rising (plan_rises t s)))
