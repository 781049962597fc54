-- No leg is sent twice, and what is sent below a shadow is marked so.
use Rattle.std.proofs.Common.{◌≡◌, inl, inr, cond, ℕ, zero, suc, Bool, true, false, List, [], ◌∷◌, ◌++◌, map, Option, Some, None, refl, sym, ap, ◌∙◌, subst, ⊎_elim}
use Rattle.std.specs.Prelude.{slice_get}
use Rattle.std.proofs.lemmas.List.{map-append}
use Rattle.mcv_base.specs.declared.operation.Mark.{Mark}
use Rattle.mcv_base.specs.declared.operation.Mark.TheVariants.{Plain, Async, Shadow}
use Rattle.mcv_base.specs.declared.operation.Mark.TheVariants.{Add as Added}
use Rattle.mcv_base.specs.declared.reply.Outcome.{Outcome}
use Rattle.mcv_base.specs.Operation.{is_counting}
use Rattle.mcv_base.specs.Reply.{is_error, is_missed, is_good}
use Rattle.mcv_pools.specs.Table.{IsOneToOne}
use Rattle.mcv_route.specs.Outcomes.{Outcomes, Choice}
use Rattle.mcv_route.specs.Children.{is_within}
use Rattle.mcv_rules.specs.Plan.{Leg, Plan, Send, Reply, Both, Beside, OnError, OnMiss, OnHit, Shadowed, reply, on_reply, launched}
use Rattle.mcv_rules.specs.Plans.{plan}
use Rattle.mcv_rules.specs.Rows.{LegsAreSentOnce, ShadowsAreMarked}
use Rattle.mcv_rules.specs.Soundness.{In, IsApart, IsMarked, positions}
use Rattle.mcv_rules.proofs.Sending.{Sends}
use Rattle.mcv_rules.proofs.Orders.{in_left, in_right}
use Rattle.mcv_rules.proofs.LegsRise.{launched_places, places}
use Rattle.mcv_rules.proofs.LegsOfPlan
use Rattle.mcv_rules.proofs.PlansAreSound.{in_either, plan_apart, plan_marked}
use Rattle.mcv_rules.proofs.Verdicts.{has_sends}

-- ---- positions that come once

-- no member comes again behind itself
abbrev IsDistinct : List (List ℕ) → Type 0
IsDistinct [] = Unit {0}
IsDistinct (p ∷ ps) = (In ps p → ⊥) × IsDistinct ps

distinct_append : (ps qs : List (List ℕ)) → IsDistinct ps → IsDistinct qs → ((p : List ℕ) → In ps p → In qs p → ⊥) → IsDistinct (ps ++ qs)
distinct_append [] qs h i apart = i
distinct_append (p ∷ ps) qs h i apart =
    ((λ a. ⊎_elim (λ b. h.0 b) (λ b. apart p (inl refl) b) (in_either ps qs p a)), distinct_append ps qs h.1 i (λ q a b. apart q (inr a) b))

get_in : (ps : List (List ℕ)) (i : ℕ) (p : List ℕ) → slice_get ps i ≡ Some p → In ps p
get_in [] i p e = absurd (let n : None ≡ Some p = e in cc)
get_in (q ∷ ps) zero p e = let same : q ≡ p = let f : Some q ≡ Some p = e in cc in inl same
get_in (q ∷ ps) (suc i) p e = inr (get_in ps i p e)

one_to_one : (ps : List (List ℕ)) → IsDistinct ps → IsOneToOne ps
one_to_one [] h i j p e f = absurd (let n : None ≡ Some p = e in cc)
one_to_one (q ∷ ps) h zero zero p e f = refl
one_to_one (q ∷ ps) h zero (suc j) p e f = let same : p ≡ q = let g : Some q ≡ Some p = e in cc in absurd (h.0 (subst (In ps) same (get_in ps j p f)))
one_to_one (q ∷ ps) h (suc i) zero p e f = let same : p ≡ q = let g : Some q ≡ Some p = f in cc in absurd (h.0 (subst (In ps) same (get_in ps i p e)))
one_to_one (q ∷ ps) h (suc i) (suc j) p e f = ap suc (one_to_one ps h.1 i j p e f)

-- ---- the legs of a plan

-- one list of places within another, and each once
record IsPart (ps qs : List (List ℕ)) : Type 0 where
  inside : (p : List ℕ) → In ps p → In qs p
  once : IsDistinct ps

no_part : (qs : List (List ℕ)) → IsPart [] qs
no_part qs = record { inside = λ p h. absurd h; once = tt }

reply_part : (test : Outcome → Bool) (r : Option Outcome) (ls : List Leg) (qs : List (List ℕ)) → IsPart (places ls) qs → IsPart (places (on_reply test r ls)) qs
reply_part test None ls qs h = no_part qs
reply_part test (Some x) ls qs h = by_test (test x)
  where
    by_test : (b : Bool) → IsPart (places (cond b ls [])) qs
    by_test true = h
    by_test false = no_part qs

if_part : (b : Bool) (ls : List Leg) (qs : List (List ℕ)) → IsPart (places ls) qs → IsPart (places (cond b ls [])) qs
if_part true ls qs h = h
if_part false ls qs h = no_part qs

parts : (ls ms : List Leg) (ps qs : List (List ℕ)) → ((p : List ℕ) → In ps p → In qs p → ⊥) → IsPart (places ls) ps → IsPart (places ms) qs → IsPart (places (ls ++ ms)) (ps ++ qs)
parts ls ms ps qs apart h i =
    rw (map-append (λ l. l.position) ls ms)
    (record {
      inside = λ p a. ⊎_elim (λ b. in_left ps qs p (h.inside p b)) (λ b. in_right ps qs p (i.inside p b)) (in_either (places ls) (places ms) p a);
      once = distinct_append (places ls) (places ms) h.once i.once (λ p a b. apart p (h.inside p a) (i.inside p b));
    })

sent_part : (t : Plan) (c : Choice) (o : Outcomes) → IsApart t → IsPart (places (launched t c o)) (positions t)
sent_part (Send l) c o h = record { inside = λ p a. a; once = ((λ a. a), tt) }
sent_part (Reply x) c o h = no_part []
sent_part (Both t u) c o h = parts (launched t c o) (launched u c o) (positions t) (positions u) h.2 (sent_part t c o h.0) (sent_part u c o h.1)
sent_part (Beside t u) c o h = parts (launched t c o) (launched u c o) (positions t) (positions u) h.2 (sent_part t c o h.0) (sent_part u c o h.1)
sent_part (OnError t u) c o h =
    parts (launched t c o) (on_reply is_error (reply t o) (launched u c o)) (positions t) (positions u) h.2 (sent_part t c o h.0) (reply_part is_error (reply t o) (launched u c o) (positions u) (sent_part u c o h.1))
sent_part (OnMiss t u) c o h =
    parts (launched t c o) (on_reply is_missed (reply t o) (launched u c o)) (positions t) (positions u) h.2 (sent_part t c o h.0) (reply_part is_missed (reply t o) (launched u c o) (positions u) (sent_part u c o h.1))
sent_part (OnHit t u) c o h =
    parts (launched t c o) (on_reply is_good (reply t o) (launched u c o)) (positions t) (positions u) h.2 (sent_part t c o h.0) (reply_part is_good (reply t o) (launched u c o) (positions u) (sent_part u c o h.1))
sent_part (Shadowed s a b t u) c o h =
    parts (launched t c o) (cond (is_within (record { first = a; last = b }) (c s)) (launched u c o) []) (positions t) (positions u) h.2 (sent_part t c o h.0)
    (if_part (is_within (record { first = a; last = b }) (c s)) (launched u c o) (positions u) (sent_part u c o h.1))

pub legs_are_sent_once : LegsAreSentOnce
legs_are_sent_once t s c o =
    subst (λ (ps : List (List ℕ)). IsOneToOne ps) (sym (ap (λ ls. map (λ l. l.position) ls) (LegsOfPlan.sent t s c o) ∙ launched_places c (launched (plan t s) c o)))
    (one_to_one (places (launched (plan t s) c o)) (sent_part (plan t s) c o (plan_apart t s)).once)

-- ---- shadows

sends_marked : (t : Plan) (c : Choice) (o : Outcomes) (l : Leg) → IsMarked false t → Sends t c o l → is_counting l.mark ≡ false
sends_marked (Send k) c o l m e = ap (λ x. is_counting x.mark) (sym e) ∙ m
sends_marked (Reply x) c o l m h = absurd h
sends_marked (Both t u) c o l m (inl h) = sends_marked t c o l m.0 h
sends_marked (Both t u) c o l m (inr h) = sends_marked u c o l m.1 h
sends_marked (Beside t u) c o l m (inl h) = sends_marked t c o l m.0 h
sends_marked (Beside t u) c o l m (inr h) = sends_marked u c o l m.1 h
sends_marked (OnError t u) c o l m (inl h) = sends_marked t c o l m.0 h
sends_marked (OnError t u) c o l m (inr h) = sends_marked u c o l m.1 h.1
sends_marked (OnMiss t u) c o l m (inl h) = sends_marked t c o l m.0 h
sends_marked (OnMiss t u) c o l m (inr h) = sends_marked u c o l m.1 h.1
sends_marked (OnHit t u) c o l m (inl h) = sends_marked t c o l m.0 h
sends_marked (OnHit t u) c o l m (inr h) = sends_marked u c o l m.1 h.1
sends_marked (Shadowed s a b t u) c o l m (inl h) = sends_marked t c o l m.0 h
sends_marked (Shadowed s a b t u) c o l m (inr h) = sends_marked u c o l m.1 h.2

only_shadow : (m : Mark) → is_counting m ≡ false → m ≡ Shadow
only_shadow Plain e = absurd (let n : true ≡ false = e in cc)
only_shadow Async e = absurd (let n : true ≡ false = e in cc)
only_shadow Added e = absurd (let n : true ≡ false = e in cc)
only_shadow Shadow e = refl

pub shadows_are_marked : ShadowsAreMarked
shadows_are_marked t s c o l m h =
    let k = has_sends t s c o (λ n. n ≡ l) h in
    ap (λ n. n.mark) (sym k.2) ∙ only_shadow k.0.mark (sends_marked (plan t s) c o k.0 (subst (λ b. IsMarked b (plan t s)) (ap is_counting m) (plan_marked t s)) k.1)
