-- The walk over a route sees what is to be seen of it.
use Rattle.std.proofs.Common.{◌≡◌, ◌⊎◌, inl, inr, cond, ℕ, zero, suc, ◌+◌, ◌≤◌, ◌&&◌, ◌||◌, ◌==◌, Bool, true, false, List, [], ◌∷◌, ◌++◌, length, Option, Some, None, refl, sym, ap, ap₂, ◌∙◌, subst, arith, append-nil}
use Rattle.std.specs.Prelude.{if◌then◌else◌, fold, option_and_then, slice_index}
use Rattle.std.specs.Str.{bytes_eq}
use Rattle.std.proofs.lemmas.Bool.{cases_lt, eqb-true, eqb-false, false≢true}
use Rattle.std.proofs.lemmas.List.{length-append}
use Rattle.mcv_base.specs.declared.reply.Outcome.{Outcome}
use Rattle.mcv_base.specs.declared.reply.Outcome.TheVariants.{Good, Soft, Error}
use Rattle.mcv_base.specs.Operation.{is_counting, is_reading}
use Rattle.mcv_base.specs.Reply.{is_error, is_good, is_missed}
use Rattle.mcv_classes.specs.Class.{IsBefore}
use Rattle.mcv_route.specs.Children.{child_or, is_within, joined, of_those_holding, policy_of, prefix_policy, rest_of, together, Way, to_from, to_to, to_both, way_of, by_way}
use Rattle.mcv_route.specs.Launched.{in_turn, launched, launched_each, once, own_leg}
use Rattle.mcv_route.specs.Outcomes.{Choice, History, Outcomes, is_same, outcomes}
use Rattle.mcv_route.specs.Replies.{Answer, default_answer, leg, or_after_error, or_after_miss, own_answers, refused, replies, replies_each, the_worse}
use Rattle.mcv_route.specs.Situation.{Situation, adding, asynchronous, shadowed, under}
use Rattle.mcv_route.specs.Tree.{Pool, Range, Tree, Trees, pool, null, error, many, AllSync, AllInitial, AllAsync, Failover, MissFailover, warm_up, migrate, prefix_selector, operation_selector, none, child}
use Rattle.mcv_route.specs.declared.launch.Launch.{Launch}
use Rattle.mcv_rules.proofs.Orders.{same_is, same_self}
use Rattle.mcv_witness.specs.Walk.{Known, Pass, at_once, behind, below, filled, finish, front, gather, gather_all, goes_on, if_empty, is_below, reply_passes, joined_seen, only, only_nth, pass, pass_each, past, shade, warmed}
use Rattle.mcv_witness.specs.declared.seen.Join.{Join}
use Rattle.mcv_witness.specs.declared.seen.Join.TheVariants.{Both, Beside, OnError, OnMiss}
use Rattle.mcv_witness.specs.declared.seen.Seen.{Seen}
use Rattle.mcv_witness.proofs.EachMember.{Each, each_append, each_both, each_map}
use Rattle.mcv_witness.proofs.GatheredChildren.{Agrees, AgreesFrom, AreRight, IsRight, agrees_from, agrees_past, beside_after, beside_replies, both_after, child_after, error_after, gather_right, known_none, legs_after_from, miss_after, moved, others_from}
use Rattle.mcv_witness.proofs.Regions.{At, Below, Fits, From, IsDeep, Rises, after_from, at_below, below_apart, below_from, below_one, below_test, deep_any, fits_below, fits_past, from_at, from_later, numbers_rise, own_apart, own_test, parts, test_below}
use Rattle.mcv_witness.proofs.LegsAreBelow.{AllFrom, below_all, holding_each, joined_each, later_all, once_each, launched_below, launched_from}
use Rattle.mcv_witness.proofs.Tests.{Avoids, after, all_append, all_sent, join_answers, legs_after, not_sent, nothing_after, or_false, reaches, sent_at, step_after, stray_after, seen_reply}

-- ---- an outcome that is no child's

-- the first outcome is at the base itself, or all are at children
clean_or_own : (base : List ℕ) (es : History) → Each (λ e. At base e.0) es → Rises es
    → Each (λ e. From base 0 e.0) es ⊎ ((e : List ℕ × Outcome) × (more : History) × (es ≡ e ∷ more) × (e.0 ≡ base ++ []))
clean_or_own base [] h r = inl tt
clean_or_own base (e ∷ es) h r = by_more h.0.0 h.0.1
  where
    by_more : (more : List ℕ) → e.0 ≡ base ++ more → Each (λ f. From base 0 f.0) (e ∷ es) ⊎ ((d : List ℕ × Outcome) × (later : History) × (e ∷ es ≡ d ∷ later) × (d.0 ≡ base ++ []))
    by_more [] is = inr (e, es, refl, is)
    by_more (i ∷ more) is =
        inl ((i, omega arith, (more, is)), each_both (λ f. IsBefore e.0 f.0) (λ f. At base f.0) (λ f. From base 0 f.0) es (λ f b a. after_from base e.0 f.0 h.0 a b) r.0 h.1)

none_then : (K : Seen → Option Seen) (x : Option Seen) → ((y : Seen) → K y ≡ None) → option_and_then K x ≡ None
none_then K None h = refl
none_then K (Some y) h = h y

-- none of the children from n on has the position
abbrev IsStray : ℕ → ℕ → List ℕ → Type 0
IsStray d n q = (i : ℕ) → n ≤ i → is_below d i q ≡ false

stray_later : (d n : ℕ) (q : List ℕ) → IsStray d n q → IsStray d (suc n) q
stray_later d n q h i l = h i (omega (arith, l))

own_stray : (base : List ℕ) (d n : ℕ) (q : List ℕ) → d ≡ length base → q ≡ base ++ [] → IsStray d n q
own_stray base d n q deep is i l = ap₂ (λ x y. is_below x i y) deep is ∙ own_test base i

gather_stray : (how : Join) (fs : List Pass) (n d : ℕ) (x : Seen) (e : List ℕ × Outcome) (es : History) → IsStray d n e.0 → gather how n fs x (record { legs = e ∷ es; depth = d }) ≡ None
gather_stray how [] n d x e es h = refl
gather_stray how (f ∷ fs) n d x e es h =
    by_test (goes_on how x.reply)
    (none_then (λ y. gather how (suc n) fs (joined_seen how x y) (past (record { legs = e ∷ es; depth = d }) n)) (f (below (record { legs = e ∷ es; depth = d }) n))
    (λ y. ap (λ b. gather how (suc n) fs (joined_seen how x y) (record { legs = cond b (behind d n es) (e ∷ es); depth = d })) (h n (omega arith))
    ∙ gather_stray how fs (suc n) d (joined_seen how x y) e es (stray_later d n e.0 h)))
  where
    by_test : (b : Bool) → option_and_then (λ y. gather how (suc n) fs (joined_seen how x y) (past (record { legs = e ∷ es; depth = d }) n)) (f (below (record { legs = e ∷ es; depth = d }) n)) ≡ None
        → cond b (option_and_then (λ y. gather how (suc n) fs (joined_seen how x y) (past (record { legs = e ∷ es; depth = d }) n)) (f (below (record { legs = e ∷ es; depth = d }) n))) (finish x (e ∷ es)) ≡ None
    by_test true g = g
    by_test false g = refl

shade_stray : (index : ℕ) (rs : List Range) (fs : List Pass) (n d : ℕ) (x : Seen) (e : List ℕ × Outcome) (es : History) → IsStray d n e.0 → shade index n rs fs x (record { legs = e ∷ es; depth = d }) ≡ None
shade_stray index [] fs n d x e es h = refl
shade_stray index (r ∷ rs) [] n d x e es h = refl
shade_stray index (r ∷ rs) (f ∷ fs) n d x e es h =
    by_test (is_within r index)
    (none_then (λ y. shade index (suc n) rs fs (joined_seen Beside x y) (past (record { legs = e ∷ es; depth = d }) n)) (f (below (record { legs = e ∷ es; depth = d }) n))
    (λ y. ap (λ b. shade index (suc n) rs fs (joined_seen Beside x y) (record { legs = cond b (behind d n es) (e ∷ es); depth = d })) (h n (omega arith))
    ∙ shade_stray index rs fs (suc n) d (joined_seen Beside x y) e es (stray_later d n e.0 h)))
    (shade_stray index rs fs (suc n) d x e es (stray_later d n e.0 h))
  where
    by_test : (b : Bool) → option_and_then (λ y. shade index (suc n) rs fs (joined_seen Beside x y) (past (record { legs = e ∷ es; depth = d }) n)) (f (below (record { legs = e ∷ es; depth = d }) n)) ≡ None
        → shade index (suc n) rs fs x (record { legs = e ∷ es; depth = d }) ≡ None
        → cond b (option_and_then (λ y. shade index (suc n) rs fs (joined_seen Beside x y) (past (record { legs = e ∷ es; depth = d }) n)) (f (below (record { legs = e ∷ es; depth = d }) n))) (shade index (suc n) rs fs x (record { legs = e ∷ es; depth = d })) ≡ None
    by_test true g i = g
    by_test false g i = i

-- behind the front of a child is no outcome below it
behind_head : (d n : ℕ) (es : History) (e : List ℕ × Outcome) (more : History) → behind d n es ≡ e ∷ more → is_below d n e.0 ≡ false
behind_head d n [] e more is = absurd (let g : ◌≡◌ {A = History} [] (e ∷ more) = is in cc)
behind_head d n (f ∷ es) e more is = by_test (is_below d n f.0) refl is (λ g. behind_head d n es e more g)
  where
    by_test : (b : Bool) → is_below d n f.0 ≡ b → cond b (behind d n es) (f ∷ es) ≡ e ∷ more → (behind d n es ≡ e ∷ more → is_below d n e.0 ≡ false) → is_below d n e.0 ≡ false
    by_test true t g ih = ih g
    by_test false t g ih = let same : f ≡ e = cc in ap (λ (x : List ℕ × Outcome). is_below d n x.0) (sym same) ∙ t

module _ (leaf : List ℕ) (server : ℕ) (c : Choice) where
  -- ---- all children

  first_right : (how : Join) (t : Tree) (ts : Trees) → IsRight leaf server c t → AreRight leaf server c ts → (base : List ℕ) (d : ℕ) (es : History) (o : Outcomes) (s s2 : Situation) →
      Fits base (record { legs = es; depth = d }) → Agrees base es o →
      option_and_then (λ x. gather how 1 (pass_each leaf server c ts s2) x (past (record { legs = es; depth = d }) 0)) (pass leaf server c t s (below (record { legs = es; depth = d }) 0))
      ≡ after leaf server false es (fold (join_answers how) (replies t (under 0 (moved base s)) o) (replies_each 1 ts (moved base s2) o))
      (launched t (under 0 (moved base s)) c o ++ legs_after leaf how (replies t (under 0 (moved base s)) o) (replies_each 1 ts (moved base s2) o) (launched_each 1 ts (moved base s2) c o))
  first_right how t ts right rights base d es o s s2 fits agrees =
      elim (clean_or_own base es fits.at fits.rises) [
        | inl from ↦
            child_after leaf server c t right base 0 d es o s (λ x. gather how 1 (pass_each leaf server c ts s2) x (past (record { legs = es; depth = d }) 0)) false
            (fold (join_answers how) q rs) ms fits from (agrees_from base 0 es o agrees) spread
            (gather_right leaf server c how ts rights base 1 d (behind d 0 es) o s2 q (reaches server ls) (fits_past base 0 d es fits) (others_from base 0 d es fits from)
            (agrees_past base 0 d es o fits from (agrees_from base 0 es o agrees)))
        | inr own ↦
            let deep : d ≡ length base = subst (IsDeep base d) own.2 fits.deep in
            subst (λ x. option_and_then (λ y. gather how 1 (pass_each leaf server c ts s2) y (past (record { legs = x; depth = d }) 0)) (pass leaf server c t s (below (record { legs = x; depth = d }) 0)) ≡ after leaf server false x (fold (join_answers how) q rs) (ls ++ ms)) (sym own.2)
            (none_then (λ y. gather how 1 (pass_each leaf server c ts s2) y (past (record { legs = own.0 ∷ own.1; depth = d }) 0)) (pass leaf server c t s (below (record { legs = own.0 ∷ own.1; depth = d }) 0))
            (λ y. ap (λ b. gather how 1 (pass_each leaf server c ts s2) y (record { legs = cond b (behind d 0 own.1) (own.0 ∷ own.1); depth = d })) (own_stray base d 0 own.0.0 deep own.3 0 (omega arith))
            ∙ gather_stray how (pass_each leaf server c ts s2) 1 d y own.0 own.1 (own_stray base d 1 own.0.0 deep own.3))
            ∙ stray_after leaf server false own.0 own.1 (fold (join_answers how) q rs) (ls ++ ms)
            (not_sent (From base 0) own.0.0 (ls ++ ms) (λ f. own_apart base 0 (subst (From base 0) own.3 f))
            (each_append (λ l. From base 0 l.position) ls ms (below_all base 0 ls (launched_below c o t 0 (moved base s))) (later_all base 0 ms spread))))
      ]
    where
      q : List Answer
      q = replies t (under 0 (moved base s)) o

      ls : List Launch
      ls = launched t (under 0 (moved base s)) c o

      rs : List (List Answer)
      rs = replies_each 1 ts (moved base s2) o

      ms : List Launch
      ms = legs_after leaf how q rs (launched_each 1 ts (moved base s2) c o)

      spread : AllFrom base 1 ms
      spread = legs_after_from leaf how base 1 q rs (launched_each 1 ts (moved base s2) c o) (launched_from c o 1 ts (moved base s2))

  unheard_right : (ts : Trees) → AreRight leaf server c ts → (base : List ℕ) (d : ℕ) (es : History) (o : Outcomes) (s : Situation) →
      Fits base (record { legs = es; depth = d }) → Agrees base es o →
      gather Beside 0 (pass_each leaf server c ts s) (at_once Soft) (record { legs = es; depth = d }) ≡ after leaf server false es (default_answer ∷ []) (joined (launched_each 0 ts (moved base s) c o))
  unheard_right ts rights base d es o s fits agrees =
      elim (clean_or_own base es fits.at fits.rises) [
        | inl from ↦
            gather_right leaf server c Beside ts rights base 0 d es o s (default_answer ∷ []) false fits from (agrees_from base 0 es o agrees)
            ∙ ap₂ (λ z m. after leaf server false es z m) (beside_replies leaf server c (default_answer ∷ []) (replies_each 0 ts (moved base s) o)) (beside_after leaf server c ts base 0 o s (default_answer ∷ []))
        | inr own ↦
            let deep : d ≡ length base = subst (IsDeep base d) own.2 fits.deep in
            let ms = joined (launched_each 0 ts (moved base s) c o) in
            subst (λ x. gather Beside 0 (pass_each leaf server c ts s) (at_once Soft) (record { legs = x; depth = d }) ≡ after leaf server false x (default_answer ∷ []) ms) (sym own.2)
            (gather_stray Beside (pass_each leaf server c ts s) 0 d (at_once Soft) own.0 own.1 (own_stray base d 0 own.0.0 deep own.3)
            ∙ stray_after leaf server false own.0 own.1 (default_answer ∷ []) ms
            (not_sent (From base 0) own.0.0 ms (λ f. own_apart base 0 (subst (From base 0) own.3 f))
            (joined_each (λ l. From base 0 l.position) (launched_each 0 ts (moved base s) c o) (launched_from c o 0 ts (moved base s)))))
      ]

  -- ---- one child

  only_right : (t : Tree) → IsRight leaf server c t → (base : List ℕ) (n d : ℕ) (es : History) (o : Outcomes) (s : Situation) →
      Fits base (record { legs = es; depth = d }) → Agrees base es o →
      only (pass leaf server c t s) n (record { legs = es; depth = d }) ≡ after leaf server false es (replies t (under n (moved base s)) o) (launched t (under n (moved base s)) c o)
  only_right t right base n d es o s fits agrees = by_rest (behind d n es) refl
    where
      q : List Answer
      q = replies t (under n (moved base s)) o

      ls : List Launch
      ls = launched t (under n (moved base s)) c o

      all_false : (b : Bool) → (b && false) ≡ false
      all_false true = refl
      all_false false = refl

      deep_of : (fs : History) → IsDeep base d fs → (e : List ℕ × Outcome) (more : History) → behind d n fs ≡ e ∷ more → d ≡ length base
      deep_of [] h e more is = absurd (let g : ◌≡◌ {A = History} [] (e ∷ more) = is in cc)
      deep_of (f ∷ fs) h e more is = h

      by_rest : (rest : History) → behind d n es ≡ rest → if_empty rest (pass leaf server c t s (below (record { legs = es; depth = d }) n)) ≡ after leaf server false es q ls
      by_rest [] is =
          let whole : front d n es ≡ es = sym (append-nil (front d n es)) ∙ ap (λ x. front d n es ++ x) (sym is) ∙ parts d n es in
          right (base ++ n ∷ []) s (below (record { legs = es; depth = d }) n) o (fits_below base n d es fits)
          (λ p at. ap (λ x. outcomes x p) whole ∙ agrees p (from_at base n p (below_from base n p (at_below base n p at))))
          ∙ ap (λ x. after leaf server false x q ls) whole
      by_rest (e ∷ more) is =
          let deep = deep_of es fits.deep e more is in
          let apart : sent_at e.0 ls ≡ false =
          not_sent (Below base n) e.0 ls (λ b. false≢true (sym (behind_head d n es e more is) ∙ ap (λ x. is_below x n e.0) deep ∙ below_test base n e.0 b)) (launched_below c o t n (moved base s)) in
          let split : all_sent ls es ≡ false =
          ap (all_sent ls) (sym (parts d n es) ∙ ap (λ x. front d n es ++ x) is)
          ∙ all_append ls (front d n es) (e ∷ more)
          ∙ ap (λ b. all_sent ls (front d n es) && (b && all_sent ls more)) apart
          ∙ all_false (all_sent ls (front d n es)) in
          sym (ap (λ b. cond b (Some (record { reply = seen_reply leaf q; sent = reaches server ls })) None) split)

  nth_right : (ts : Trees) → AreRight leaf server c ts → (n m j : ℕ) → n ≡ m + j → (base : List ℕ) (d : ℕ) (es : History) (o : Outcomes) (s : Situation) →
      Fits base (record { legs = es; depth = d }) → Agrees base es o →
      only_nth n (pass_each leaf server c ts s) j (record { legs = es; depth = d })
      ≡ after leaf server false es (child_or (refused ∷ []) j (replies_each m ts (moved base s) o)) (child_or [] j (launched_each m ts (moved base s) c o))
  nth_right none rights n m j e base d es o s fits agrees = nothing_after leaf server false es (refused ∷ [])
  nth_right (child t ts) rights n m zero e base d es o s fits agrees =
      let same : n ≡ m = omega (arith, e) in
      only_right t rights.0 base n d es o s fits agrees
      ∙ ap (λ i. after leaf server false es (replies t (under i (moved base s)) o) (launched t (under i (moved base s)) c o)) same
  nth_right (child t ts) rights n m (suc j) e base d es o s fits agrees = nth_right ts rights.1 n (suc m) j (omega (arith, e)) base d es o s fits agrees

  -- ---- shadows

  -- the first outcome is below child n, or all are at later children
  later_or_first : (base : List ℕ) (n : ℕ) (es : History) → Each (λ e. From base n e.0) es → Rises es
      → Each (λ e. From base (suc n) e.0) es ⊎ ((e : List ℕ × Outcome) × (more : History) × (es ≡ e ∷ more) × Below base n e.0)
  later_or_first base n [] h r = inl tt
  later_or_first base n (e ∷ es) h r =
      elim (cases_lt n h.0.0) [
        | inl l ↦ inl (
          (h.0.0, omega (arith, l), h.0.2),
          each_both (λ f. IsBefore e.0 f.0) (λ f. From base n f.0) (λ f. From base (suc n) f.0) es
              (λ f b g. let up = numbers_rise base e.0 f.0 h.0.0 g.0 h.0.2 g.2 b in (g.0, omega (arith, l, up), g.2)) r.0 h.1,
        )
        | inr l ↦ let m = h.0.1 in let same : h.0.0 ≡ n = omega (arith, l, m) in inr (e, es, refl, subst (λ i. Below base i e.0) same h.0.2)
      ]

  below_stray : (base : List ℕ) (d n : ℕ) (q : List ℕ) → d ≡ length base → Below base n q → IsStray d (suc n) q
  below_stray base d n q deep b i l = ap (λ x. is_below x i q) deep ∙ by_test (is_below (length base) i q) refl
    where
      by_test : (t : Bool) → is_below (length base) i q ≡ t → t ≡ false
      by_test true e = absurd (let same = below_one base n i q b (test_below base i q (from_at base n q (below_from base n q b)) e) in omega (arith, same, l))
      by_test false e = refl

  shade_right : (index : ℕ) (ranges : List Range) (ts : Trees) → AreRight leaf server c ts → (base : List ℕ) (n d : ℕ) (es : History) (o : Outcomes) (s : Situation) (r : List Answer) (b : Bool) →
      Fits base (record { legs = es; depth = d }) → Each (λ e. From base n e.0) es → AgreesFrom base n es o →
      shade index n ranges (pass_each leaf server c ts s) (record { reply = seen_reply leaf r; sent = b }) (record { legs = es; depth = d })
      ≡ after leaf server b es r (of_those_holding index ranges (launched_each n ts (moved base s) c o))
  shade_right index [] ts rights base n d es o s r b fits from agrees = nothing_after leaf server b es r
  shade_right index (range ∷ ranges) none rights base n d es o s r b fits from agrees = nothing_after leaf server b es r
  shade_right index (range ∷ ranges) (child t ts) rights base n d es o s r b fits from agrees =
      by_test (is_within range index)
      (λ b2. shade_right index ranges ts rights.1 base (suc n) d (behind d n es) o s r b2 (fits_past base n d es fits) (others_from base n d es fits from) (agrees_past base n d es o fits from agrees))
      (λ later. shade_right index ranges ts rights.1 base (suc n) d es o s r b fits later (λ q f. agrees q (from_later base n q f)))
    where
      ls : List Launch
      ls = launched t (under n (moved base s)) c o

      ms : List Launch
      ms = of_those_holding index ranges (launched_each (suc n) ts (moved base s) c o)

      spread : AllFrom base (suc n) ms
      spread = holding_each (λ l. From base (suc n) l.position) index ranges (launched_each (suc n) ts (moved base s) c o) (launched_from c o (suc n) ts (moved base s))

      first : Seen
      first = record { reply = seen_reply leaf r; sent = b }

      K : Seen → Option Seen
      K y = shade index (suc n) ranges (pass_each leaf server c ts s) (joined_seen Beside first y) (past (record { legs = es; depth = d }) n)

      skipped : ((later : Each (λ e. From base (suc n) e.0) es) → shade index (suc n) ranges (pass_each leaf server c ts s) first (record { legs = es; depth = d }) ≡ after leaf server b es r ms)
          → shade index (suc n) ranges (pass_each leaf server c ts s) first (record { legs = es; depth = d }) ≡ after leaf server b es r ms
      skipped skip =
          elim (later_or_first base n es from fits.rises) [
            | inl later ↦ skip later
            | inr own ↦
                let deep : d ≡ length base = subst (IsDeep base d) own.2 fits.deep in
                subst (λ x. shade index (suc n) ranges (pass_each leaf server c ts s) first (record { legs = x; depth = d }) ≡ after leaf server b x r ms) (sym own.2)
                (shade_stray index ranges (pass_each leaf server c ts s) (suc n) d first own.0 own.1 (below_stray base d n own.0.0 deep own.3)
                ∙ stray_after leaf server b own.0 own.1 r ms (not_sent (From base (suc n)) own.0.0 ms (λ f. below_apart base n own.0.0 own.3 f) spread))
          ]

      by_test : (g : Bool) →
          ((b2 : Bool) → shade index (suc n) ranges (pass_each leaf server c ts s) (record { reply = seen_reply leaf r; sent = b2 }) (record { legs = behind d n es; depth = d }) ≡ after leaf server b2 (behind d n es) r ms) →
          ((later : Each (λ e. From base (suc n) e.0) es) → shade index (suc n) ranges (pass_each leaf server c ts s) first (record { legs = es; depth = d }) ≡ after leaf server b es r ms) →
          cond g (option_and_then K (pass leaf server c t s (below (record { legs = es; depth = d }) n))) (shade index (suc n) ranges (pass_each leaf server c ts s) first (record { legs = es; depth = d }))
          ≡ after leaf server b es r (cond g ls [] ++ ms)
      by_test false ih skip = skipped skip
      by_test true ih skip = child_after leaf server c t rights.0 base n d es o s K b r ms fits from agrees spread (ih (b || reaches server ls))

-- ---- a pool

own_only : (base more : List ℕ) → length (base ++ more) ≡ length base → more ≡ []
own_only base [] e = refl
own_only base (i ∷ more) e = absurd (omega (arith, e, length-append base (i ∷ more)))

not_at : (base q : List ℕ) → q ≡ base → From base 0 q → ⊥
not_at base q is f = own_apart base 0 (subst (From base 0) (is ∙ sym (append-nil base)) f)

from_or_own : (base : List ℕ) (e : List ℕ × Outcome) (d : ℕ) → d ≡ length base → At base e.0 → (length e.0 == d) ≡ false → From base 0 e.0
from_or_own base e d deep at t = by_more at.0 at.1
  where
    by_more : (more : List ℕ) → e.0 ≡ base ++ more → From base 0 e.0
    by_more [] is = absurd (eqb-false (length e.0) d t (ap length (is ∙ append-nil base) ∙ sym deep))
    by_more (i ∷ more) is = (i, omega arith, (more, is))

own_of : (base : List ℕ) (e : List ℕ × Outcome) (d : ℕ) → d ≡ length base → At base e.0 → (length e.0 == d) ≡ true → e.0 ≡ base
own_of base e d deep at t =
    at.1 ∙ ap (λ m. base ++ m) (own_only base at.0 (sym (ap length at.1) ∙ eqb-true (length e.0) d t ∙ deep)) ∙ append-nil base

-- the outcomes behind the pool's own one agree with the map below it
past_agrees : (base : List ℕ) (e : List ℕ × Outcome) (es : History) (o : Outcomes) → e.0 ≡ base → Agrees base (e ∷ es) o → AgreesFrom base 0 es o
past_agrees base e es o is a q g = by_same (is_same e.0 q) refl (a q (from_at base 0 q g))
  where
    by_same : (b : Bool) → is_same e.0 q ≡ b → cond b (Some e.1) (outcomes es q) ≡ o q → outcomes es q ≡ o q
    by_same false t h = h
    by_same true t h = absurd (not_at base q (sym (same_is e.0 q t) ∙ is) g)

own_known : (base : List ℕ) (e : List ℕ × Outcome) (es : History) (o : Outcomes) → e.0 ≡ base → Agrees base (e ∷ es) o → Some e.1 ≡ o base
own_known base e es o is a =
    sym (ap (λ q. cond (is_same q base) (Some e.1) (outcomes es base)) is ∙ ap (λ b. cond b (Some e.1) (outcomes es base)) (same_self base))
    ∙ a base ([], sym (append-nil base))

none_known : (base : List ℕ) (es : History) (o : Outcomes) → Each (λ e. From base 0 e.0) es → Agrees base es o → None ≡ o base
none_known base es o from a =
    sym (known_none es base (each_map (λ e. From base 0 e.0) (λ e. e.0 ≡ base → ⊥) es (λ e g is. not_at base e.0 is g) from)) ∙ a base ([], sym (append-nil base))

module _ (leaf : List ℕ) (server : ℕ) (c : Choice) (p : Pool) (ranges : List Range) (targets : Trees) (rights : AreRight leaf server c targets) (base : List ℕ) (s : Situation) (d : ℕ) (o : Outcomes) where
  abbrev shadow_legs : List Launch
  shadow_legs = of_those_holding (c p.symbol) ranges (launched_each 0 targets (shadowed (moved base s)) c o)

  abbrev launch : Launch
  launch = own_leg p (moved base s) c

  abbrev counted : Bool
  counted = (slice_index p.servers (c p.symbol) == server) && is_counting s.mark

  abbrev shades : Seen → History → Option Seen
  shades x es = shade (c p.symbol) 0 ranges (pass_each leaf server c targets (shadowed s)) x (record { legs = es; depth = d })

  shadows_spread : AllFrom base 0 shadow_legs
  shadows_spread = holding_each (λ l. From base 0 l.position) (c p.symbol) ranges (launched_each 0 targets (shadowed (moved base s)) c o) (launched_from c o 0 targets (shadowed (moved base s)))

  own_avoids : (es : History) → Each (λ e. From base 0 e.0) es → Avoids (launch ∷ []) es
  own_avoids es h = each_map (λ e. From base 0 e.0) (λ e. sent_at e.0 (launch ∷ []) ≡ false) es (λ e f. not_sent (λ q. q ≡ base) e.0 (launch ∷ []) (λ is. not_at base e.0 is f) (refl, tt)) h

  -- all outcomes are of shadows
  pool_without : (es : History) → Fits base (record { legs = es; depth = d }) → Agrees base es o → Each (λ e. From base 0 e.0) es →
      shades (record { reply = None; sent = counted }) es ≡ after leaf server false es (own_answers base (o base)) (launch ∷ shadow_legs)
  pool_without es f a from =
      step_after leaf server (λ y. shades (record { reply = None; sent = y.sent }) es) (Some (record { reply = None; sent = counted })) false [] es [] [] (launch ∷ []) shadow_legs
      (ap (λ x. Some (record { reply = None; sent = x })) (sym (or_false counted)))
      (shade_right leaf server c (c p.symbol) ranges targets rights base 0 d es o (shadowed s) [] (counted || false) f from (agrees_from base 0 es o a))
      tt (own_avoids es from)
      ∙ ap (λ x. after leaf server false es (own_answers base x) (launch ∷ shadow_legs)) (none_known base es o from a)

  -- the first outcome is the pool's own
  pool_with : (e : List ℕ × Outcome) (es : History) → Fits base (record { legs = e ∷ es; depth = d }) → Agrees base (e ∷ es) o → Each (λ x. From base 0 x.0) es → e.0 ≡ base →
      shades (record { reply = Some (record { outcome = e.1; is_hit = is_good e.1 && bytes_eq e.0 leaf }); sent = counted }) es
      ≡ after leaf server false (e ∷ es) (own_answers base (o base)) (launch ∷ shadow_legs)
  pool_with e es f a from is =
      let answer : Answer = record { outcome = e.1; source = leg base } in
      let hit : (is_good e.1 && bytes_eq e.0 leaf) ≡ ((is_good e.1 && bytes_eq base leaf) || false) = ap (λ q. is_good e.1 && bytes_eq q leaf) is ∙ sym (or_false (is_good e.1 && bytes_eq base leaf)) in
      let mine : sent_at e.0 (launch ∷ []) ≡ true = or_false (is_same base e.0) ∙ ap (λ q. is_same base q) is ∙ same_self base in
      let past_fits : Fits base (record { legs = es; depth = d }) = record { at = f.at.1; deep = deep_any base d es f.deep; rises = f.rises.1 } in
      step_after leaf server (λ y. shades (record { reply = Some (record { outcome = e.1; is_hit = is_good e.1 && bytes_eq e.0 leaf }); sent = y.sent }) es)
      (Some (record { reply = seen_reply leaf (answer ∷ []); sent = counted })) false (e ∷ []) es (answer ∷ []) (answer ∷ []) (launch ∷ []) shadow_legs
      (ap₂ (λ b x. cond (b && true) (Some (record { reply = seen_reply leaf (answer ∷ []); sent = x })) None) (sym mine) (sym (or_false counted)))
      (ap (λ h. shades (record { reply = Some (record { outcome = e.1; is_hit = h }); sent = counted || false }) es) hit
      ∙ shade_right leaf server c (c p.symbol) ranges targets rights base 0 d es o (shadowed s) (answer ∷ []) (counted || false) past_fits from (past_agrees base e es o is a))
      (not_sent (From base 0) e.0 shadow_legs (λ g. not_at base e.0 is g) shadows_spread, tt) (own_avoids es from)
      ∙ ap (λ x. after leaf server false (e ∷ es) (own_answers base x) (launch ∷ shadow_legs)) (own_known base e es o is a)

  pool_sees : (es : History) → Fits base (record { legs = es; depth = d }) → Agrees base es o →
      pass leaf server c (pool p ranges targets) s (record { legs = es; depth = d }) ≡ after leaf server false es (own_answers base (o base)) (launch ∷ shadow_legs)
  pool_sees [] f a = pool_without [] f a tt
  pool_sees (e ∷ es) f a = by_length (length e.0 == d) refl
    where
      later : Each (λ x. From base 0 x.0) es
      later = each_both (λ x. IsBefore e.0 x.0) (λ x. At base x.0) (λ x. From base 0 x.0) es (λ x b at. after_from base e.0 x.0 f.at.0 at b) f.rises.0 f.at.1

      by_length : (b : Bool) → (length e.0 == d) ≡ b →
          shades (record { reply = cond b (Some (record { outcome = e.1; is_hit = is_good e.1 && bytes_eq e.0 leaf })) None; sent = counted }) (cond b es (e ∷ es))
          ≡ after leaf server false (e ∷ es) (own_answers base (o base)) (launch ∷ shadow_legs)
      by_length false t = pool_without (e ∷ es) f a (from_or_own base e d f.deep f.at.0 t, later)
      by_length true t = pool_with e es f a later (own_of base e d f.deep f.at.0 t)

-- ---- a warm-up

module _ (leaf : List ℕ) (server : ℕ) (c : Choice) (cold warm : Tree) (colds : IsRight leaf server c cold) (warms : IsRight leaf server c warm) (base : List ℕ) (s : Situation) (d : ℕ) (o : Outcomes) where
  abbrev q0 : List Answer
  q0 = replies cold (under 0 (moved base s)) o

  abbrev q1 : List Answer
  q1 = replies warm (under 1 (moved base s)) o

  abbrev l0 : List Launch
  l0 = launched cold (under 0 (moved base s)) c o

  abbrev l1 : List Launch
  l1 = launched warm (under 1 (moved base s)) c o

  abbrev l2 : List Launch
  l2 = launched cold (under 2 (adding (moved base s))) c o

  fill_right : (es : History) (b : Bool) (r : List Answer) → Fits base (record { legs = es; depth = d }) → Each (λ e. From base 2 e.0) es → AgreesFrom base 2 es o →
      filled (pass leaf server c cold (adding s)) (seen_reply leaf r) (record { reply = seen_reply leaf r; sent = b }) (record { legs = es; depth = d }) ≡ after leaf server b es r (once is_good r l2)
  fill_right es b [] f from a = nothing_after leaf server b es []
  fill_right es b (x ∷ r) f from a =
      by_good (is_good x.outcome)
    where
      K : Seen → Option Seen
      K z = finish (joined_seen Beside (record { reply = seen_reply leaf (x ∷ r); sent = b }) z) (behind d 2 es)

      by_good : (g : Bool) →
          cond g (option_and_then K (pass leaf server c cold (adding s) (below (record { legs = es; depth = d }) 2))) (finish (record { reply = seen_reply leaf (x ∷ r); sent = b }) es)
          ≡ after leaf server b es (x ∷ r) (cond g l2 [])
      by_good false = nothing_after leaf server b es (x ∷ r)
      by_good true =
          child_after leaf server c cold colds base 2 d es o (adding s) K b (x ∷ r) [] f from a tt
          (nothing_after leaf server (b || reaches server l2) (behind d 2 es) (x ∷ r))
          ∙ ap (λ ls. after leaf server b es (x ∷ r) ls) (append-nil l2)

  once_from : (test : Outcome → Bool) (n : ℕ) (r : List Answer) (ls : List Launch) → AllFrom base n ls → AllFrom base n (once test r ls)
  once_from test n r ls h = once_each (λ l. From base n l.position) test r ls h

  l2_from : AllFrom base 2 l2
  l2_from = below_all base 2 l2 (launched_below c o cold 2 (adding (moved base s)))

  abbrev later_legs : List Launch
  later_legs = l1 ++ once is_good q1 l2

  later_from : AllFrom base 1 later_legs
  later_from = each_append (λ l. From base 1 l.position) l1 (once is_good q1 l2) (below_all base 1 l1 (launched_below c o warm 1 (moved base s))) (later_all base 1 (once is_good q1 l2) (once_from is_good 2 q1 l2 l2_from))

  -- after a miss of the cold side
  warm_right : (es : History) (b : Bool) → Fits base (record { legs = es; depth = d }) → Each (λ e. From base 1 e.0) es → AgreesFrom base 1 es o →
      option_and_then (λ y. filled (pass leaf server c cold (adding s)) y.reply (record { reply = y.reply; sent = b || y.sent }) (past (record { legs = es; depth = d }) 1)) (pass leaf server c warm s (below (record { legs = es; depth = d }) 1))
      ≡ after leaf server b es q1 later_legs
  warm_right es b f from a =
      child_after leaf server c warm warms base 1 d es o s (λ y. filled (pass leaf server c cold (adding s)) y.reply (record { reply = y.reply; sent = b || y.sent }) (past (record { legs = es; depth = d }) 1)) b q1 (once is_good q1 l2)
      f from a (once_from is_good 2 q1 l2 l2_from)
      (fill_right (behind d 1 es) (b || reaches server l1) q1 (fits_past base 1 d es f) (others_from base 1 d es f from) (agrees_past base 1 d es o f from a))

  abbrev after_cold : Seen → Known → Option Seen
  after_cold x k =
      if goes_on OnMiss x.reply
      then option_and_then (λ y. filled (pass leaf server c cold (adding s)) y.reply (joined_seen OnMiss x y) (past k 1)) (pass leaf server c warm s (below k 1))
      else finish x k.legs

  cold_right : (es : History) (b : Bool) (r : List Answer) → Fits base (record { legs = es; depth = d }) → Each (λ e. From base 1 e.0) es → AgreesFrom base 1 es o →
      after_cold (record { reply = seen_reply leaf r; sent = b }) (record { legs = es; depth = d }) ≡ after leaf server b es (or_after_miss r q1) (once is_missed r later_legs)
  cold_right es b [] f from a = nothing_after leaf server b es []
  cold_right es b (x ∷ r) f from a = by_outcome x.outcome (warm_right es b f from a)
    where
      by_outcome : (y : Outcome) →
          option_and_then (λ z. filled (pass leaf server c cold (adding s)) z.reply (record { reply = z.reply; sent = b || z.sent }) (past (record { legs = es; depth = d }) 1)) (pass leaf server c warm s (below (record { legs = es; depth = d }) 1))
          ≡ after leaf server b es q1 later_legs →
          cond (is_missed y)
          (option_and_then (λ z. filled (pass leaf server c cold (adding s)) z.reply (record { reply = z.reply; sent = b || z.sent }) (past (record { legs = es; depth = d }) 1)) (pass leaf server c warm s (below (record { legs = es; depth = d }) 1)))
          (finish (record { reply = seen_reply leaf (x ∷ r); sent = b }) es)
          ≡ after leaf server b es (cond (is_good y) (x ∷ r) q1) (cond (is_missed y) later_legs [])
      by_outcome Good h = nothing_after leaf server b es (x ∷ r)
      by_outcome Soft h = h
      by_outcome Error h = h

  fill_stray : (x : Seen) (r : _) (e : List ℕ × Outcome) (es : History) → is_below d 2 e.0 ≡ false → filled (pass leaf server c cold (adding s)) r x (record { legs = e ∷ es; depth = d }) ≡ None
  fill_stray x r e es h = by_good (reply_passes is_good r)
    where
      K : Seen → Option Seen
      K z = finish (joined_seen Beside x z) (behind d 2 (e ∷ es))

      by_good : (g : Bool) → cond g (option_and_then K (pass leaf server c cold (adding s) (below (record { legs = e ∷ es; depth = d }) 2))) (finish x (e ∷ es)) ≡ None
      by_good false = refl
      by_good true = none_then K (pass leaf server c cold (adding s) (below (record { legs = e ∷ es; depth = d }) 2)) (λ z. ap (λ b. finish (joined_seen Beside x z) (cond b (behind d 2 es) (e ∷ es))) h)

  cold_stray : (x : Seen) (e : List ℕ × Outcome) (es : History) → is_below d 1 e.0 ≡ false → is_below d 2 e.0 ≡ false → after_cold x (record { legs = e ∷ es; depth = d }) ≡ None
  cold_stray x e es h g = by_test (goes_on OnMiss x.reply)
    where
      K : Seen → Option Seen
      K y = filled (pass leaf server c cold (adding s)) y.reply (joined_seen OnMiss x y) (past (record { legs = e ∷ es; depth = d }) 1)

      by_test : (t : Bool) → cond t (option_and_then K (pass leaf server c warm s (below (record { legs = e ∷ es; depth = d }) 1))) (finish x (e ∷ es)) ≡ None
      by_test false = refl
      by_test true =
          none_then K (pass leaf server c warm s (below (record { legs = e ∷ es; depth = d }) 1))
          (λ y. ap (λ b. filled (pass leaf server c cold (adding s)) y.reply (joined_seen OnMiss x y) (record { legs = cond b (behind d 1 es) (e ∷ es); depth = d })) h ∙ fill_stray (joined_seen OnMiss x y) y.reply e es g)

  warm_up_sees : (es : History) → Fits base (record { legs = es; depth = d }) → Agrees base es o →
      warmed (pass leaf server c cold s) (pass leaf server c warm s) (pass leaf server c cold (adding s)) (record { legs = es; depth = d })
      ≡ after leaf server false es (or_after_miss q0 q1) (l0 ++ once is_missed q0 later_legs)
  warm_up_sees es f a =
      elim (clean_or_own base es f.at f.rises) [
        | inl from ↦
            child_after leaf server c cold colds base 0 d es o s (λ x. after_cold x (past (record { legs = es; depth = d }) 0)) false (or_after_miss q0 q1) (once is_missed q0 later_legs)
            f from (agrees_from base 0 es o a) (once_from is_missed 1 q0 later_legs later_from)
            (cold_right (behind d 0 es) (reaches server l0) q0 (fits_past base 0 d es f) (others_from base 0 d es f from) (agrees_past base 0 d es o f from (agrees_from base 0 es o a)))
        | inr own ↦
            let deep : d ≡ length base = subst (IsDeep base d) own.2 f.deep in
            let stray = own_stray base d 0 own.0.0 deep own.3 in
            let z = or_after_miss q0 q1 in
            let ls = l0 ++ once is_missed q0 later_legs in
            subst (λ x. warmed (pass leaf server c cold s) (pass leaf server c warm s) (pass leaf server c cold (adding s)) (record { legs = x; depth = d }) ≡ after leaf server false x z ls) (sym own.2)
            (none_then (λ x. after_cold x (past (record { legs = own.0 ∷ own.1; depth = d }) 0)) (pass leaf server c cold s (below (record { legs = own.0 ∷ own.1; depth = d }) 0))
            (λ x. ap (λ b. after_cold x (record { legs = cond b (behind d 0 own.1) (own.0 ∷ own.1); depth = d })) (stray 0 (omega arith)) ∙ cold_stray x own.0 own.1 (stray 1 (omega arith)) (stray 2 (omega arith)))
            ∙ stray_after leaf server false own.0 own.1 z ls
            (not_sent (From base 0) own.0.0 ls (λ g. own_apart base 0 (subst (From base 0) own.3 g))
            (each_append (λ l. From base 0 l.position) l0 (once is_missed q0 later_legs) (below_all base 0 l0 (launched_below c o cold 0 (moved base s)))
            (later_all base 0 (once is_missed q0 later_legs) (once_from is_missed 1 q0 later_legs later_from)))))
      ]

-- ---- the whole

module _ (leaf : List ℕ) (server : ℕ) (c : Choice) where
  -- either way of two
  either_right : (b : Bool) (es : History) (x y : Option Seen) (rs qs : List Answer) (ls ms : List Launch) →
      x ≡ after leaf server false es rs ls → y ≡ after leaf server false es qs ms → cond b x y ≡ after leaf server false es (cond b rs qs) (cond b ls ms)
  either_right true es x y rs qs ls ms h g = h
  either_right false es x y rs qs ls ms h g = g

  way_right : (w : Way) (es : History) (x y z : Option Seen) (rs qs ts : List Answer) (ls ms ns : List Launch) →
      x ≡ after leaf server false es rs ls → y ≡ after leaf server false es qs ms → z ≡ after leaf server false es ts ns → by_way w x y z ≡ after leaf server false es (by_way w rs qs ts) (by_way w ls ms ns)
  way_right to_from es x y z rs qs ts ls ms ns h g i = h
  way_right to_to es x y z rs qs ts ls ms ns h g i = g
  way_right to_both es x y z rs qs ts ls ms ns h g i = i

  sync_right : (ts : Trees) → AreRight leaf server c ts → (base : List ℕ) (d : ℕ) (es : History) (o : Outcomes) (s : Situation) → Fits base (record { legs = es; depth = d }) → Agrees base es o →
      gather_all Both (pass_each leaf server c ts s) (rest_of (pass_each leaf server c ts s)) (record { legs = es; depth = d })
      ≡ after leaf server false es (together the_worse (refused ∷ []) (replies_each 0 ts (moved base s) o)) (joined (launched_each 0 ts (moved base s) c o))
  sync_right none rights base d es o s f a = nothing_after leaf server false es (refused ∷ [])
  sync_right (child t ts) rights base d es o s f a =
      first_right leaf server c Both t ts rights.0 rights.1 base d es o s s f a
      ∙ ap (λ ms. after leaf server false es (together the_worse (refused ∷ []) (replies_each 0 (child t ts) (moved base s) o)) (launched t (under 0 (moved base s)) c o ++ ms)) (both_after leaf server c ts base 1 o s (replies t (under 0 (moved base s)) o))

  initial_right : (ts : Trees) → AreRight leaf server c ts → (base : List ℕ) (d : ℕ) (es : History) (o : Outcomes) (s : Situation) → Fits base (record { legs = es; depth = d }) → Agrees base es o →
      gather_all Beside (pass_each leaf server c ts s) (rest_of (pass_each leaf server c ts (asynchronous s))) (record { legs = es; depth = d })
      ≡ after leaf server false es (child_or (refused ∷ []) 0 (replies_each 0 ts (moved base s) o)) (child_or [] 0 (launched_each 0 ts (moved base s) c o) ++ joined (rest_of (launched_each 0 ts (asynchronous (moved base s)) c o)))
  initial_right none rights base d es o s f a = nothing_after leaf server false es (refused ∷ [])
  initial_right (child t ts) rights base d es o s f a =
      first_right leaf server c Beside t ts rights.0 rights.1 base d es o s (asynchronous s) f a
      ∙ ap₂ (λ z ms. after leaf server false es z (launched t (under 0 (moved base s)) c o ++ ms))
      (beside_replies leaf server c (replies t (under 0 (moved base s)) o) (replies_each 1 ts (moved base (asynchronous s)) o))
      (beside_after leaf server c ts base 1 o (asynchronous s) (replies t (under 0 (moved base s)) o))

  error_right : (ts : Trees) → AreRight leaf server c ts → (base : List ℕ) (d : ℕ) (es : History) (o : Outcomes) (s : Situation) → Fits base (record { legs = es; depth = d }) → Agrees base es o →
      gather_all OnError (pass_each leaf server c ts s) (rest_of (pass_each leaf server c ts s)) (record { legs = es; depth = d })
      ≡ after leaf server false es (together or_after_error (refused ∷ []) (replies_each 0 ts (moved base s) o)) (in_turn is_error (replies_each 0 ts (moved base s) o) (launched_each 0 ts (moved base s) c o))
  error_right none rights base d es o s f a = nothing_after leaf server false es (refused ∷ [])
  error_right (child t ts) rights base d es o s f a =
      first_right leaf server c OnError t ts rights.0 rights.1 base d es o s s f a
      ∙ ap (λ ms. after leaf server false es (together or_after_error (refused ∷ []) (replies_each 0 (child t ts) (moved base s) o)) (launched t (under 0 (moved base s)) c o ++ ms)) (error_after leaf server c ts base 1 o s (replies t (under 0 (moved base s)) o))

  miss_right : (ts : Trees) → AreRight leaf server c ts → (base : List ℕ) (d : ℕ) (es : History) (o : Outcomes) (s : Situation) → Fits base (record { legs = es; depth = d }) → Agrees base es o →
      gather_all OnMiss (pass_each leaf server c ts s) (rest_of (pass_each leaf server c ts s)) (record { legs = es; depth = d })
      ≡ after leaf server false es (together or_after_miss (refused ∷ []) (replies_each 0 ts (moved base s) o)) (in_turn is_missed (replies_each 0 ts (moved base s) o) (launched_each 0 ts (moved base s) c o))
  miss_right none rights base d es o s f a = nothing_after leaf server false es (refused ∷ [])
  miss_right (child t ts) rights base d es o s f a =
      first_right leaf server c OnMiss t ts rights.0 rights.1 base d es o s s f a
      ∙ ap (λ ms. after leaf server false es (together or_after_miss (refused ∷ []) (replies_each 0 (child t ts) (moved base s) o)) (launched t (under 0 (moved base s)) c o ++ ms)) (miss_after leaf server c ts base 1 o s (replies t (under 0 (moved base s)) o))

  mutual
    pub pass_right : (t : Tree) → IsRight leaf server c t
    pass_right (pool p ranges targets) base s k o f a = pool_sees leaf server c p ranges targets (each_right targets) base s k.depth o k.legs f a
    pass_right null base s k o f a = nothing_after leaf server false k.legs (default_answer ∷ [])
    pass_right error base s k o f a = nothing_after leaf server false k.legs (refused ∷ [])
    pass_right (many AllSync ts) base s k o f a = sync_right ts (each_right ts) base k.depth k.legs o s f a
    pass_right (many AllInitial ts) base s k o f a = initial_right ts (each_right ts) base k.depth k.legs o s f a
    pass_right (many AllAsync ts) base s k o f a = unheard_right leaf server c ts (each_right ts) base k.depth k.legs o (asynchronous s) f a
    pass_right (many Failover ts) base s k o f a = error_right ts (each_right ts) base k.depth k.legs o s f a
    pass_right (many MissFailover ts) base s k o f a =
        either_right (is_reading s.op) k.legs (gather_all OnMiss (pass_each leaf server c ts s) (rest_of (pass_each leaf server c ts s)) k) (only_nth 0 (pass_each leaf server c ts s) 0 k)
        (together or_after_miss (refused ∷ []) (replies_each 0 ts (moved base s) o)) (child_or (refused ∷ []) 0 (replies_each 0 ts (moved base s) o))
        (in_turn is_missed (replies_each 0 ts (moved base s) o) (launched_each 0 ts (moved base s) c o)) (child_or [] 0 (launched_each 0 ts (moved base s) c o))
        (miss_right ts (each_right ts) base k.depth k.legs o s f a)
        (nth_right leaf server c ts (each_right ts) 0 0 0 (omega arith) base k.depth k.legs o s f a)
    pass_right (warm_up cold warm exptime) base s k o f a =
        let q0 = replies cold (under 0 (moved base s)) o in
        let q1 = replies warm (under 1 (moved base s)) o in
        let l0 = launched cold (under 0 (moved base s)) c o in
        either_right (is_reading s.op) k.legs (warmed (pass leaf server c cold s) (pass leaf server c warm s) (pass leaf server c cold (adding s)) k) (only (pass leaf server c cold s) 0 k)
        (or_after_miss q0 q1) q0
        (l0 ++ once is_missed q0 (launched warm (under 1 (moved base s)) c o ++ once is_good q1 (launched cold (under 2 (adding (moved base s))) c o))) l0
        (warm_up_sees leaf server c cold warm (pass_right cold) (pass_right warm) base s k.depth o k.legs f a)
        (only_right leaf server c cold (pass_right cold) base 0 k.depth k.legs o s f a)
    pass_right (migrate from to start interval) base s k o f a =
        let q0 = replies from (under 0 (moved base s)) o in
        let q1 = replies to (under 1 (moved base s)) o in
        let l0 = launched from (under 0 (moved base s)) c o in
        let l1 = launched to (under 1 (moved base s)) c o in
        way_right (way_of s start interval) k.legs (only (pass leaf server c from s) 0 k) (only (pass leaf server c to s) 1 k)
        (gather_all Both (pass leaf server c from s ∷ pass leaf server c to s ∷ []) (pass leaf server c to s ∷ []) k)
        q0 q1 (the_worse q0 q1) l0 l1 (l0 ++ l1)
        (only_right leaf server c from (pass_right from) base 0 k.depth k.legs o s f a)
        (only_right leaf server c to (pass_right to) base 1 k.depth k.legs o s f a)
        (sync_right (child from (child to none)) (pass_right from, (pass_right to, tt)) base k.depth k.legs o s f a
        ∙ ap (λ ms. after leaf server false k.legs (the_worse q0 q1) (l0 ++ ms)) (append-nil l1))
    pass_right (prefix_selector prefixes ts) base s k o f a =
        nth_right leaf server c ts (each_right ts) (prefix_policy s.rest prefixes) 0 (prefix_policy s.rest prefixes) (omega arith) base k.depth k.legs o s f a
    pass_right (operation_selector ops ts) base s k o f a =
        nth_right leaf server c ts (each_right ts) (policy_of s.op ops) 0 (policy_of s.op ops) (omega arith) base k.depth k.legs o s f a

    each_right : (ts : Trees) → AreRight leaf server c ts
    each_right none = tt
    each_right (child t ts) = (pass_right t, each_right ts)
