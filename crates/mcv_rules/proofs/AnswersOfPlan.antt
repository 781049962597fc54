-- The answers by handle are those of the plan.
use Rattle.std.proofs.Common.{◌≡◌, ◌≢◌, ◌⊎◌, cond, inl, inr, ⊎_elim, ℕ, suc, List, [], ◌∷◌, ◌++◌, Option, Some, None, refl, sym, ap, ap₂, ◌∙◌, subst, nat_lt}
use Rattle.std.specs.Prelude.{fold}
use Rattle.mcv_base.specs.declared.reply.Outcome.{Outcome}
use Rattle.mcv_base.specs.declared.reply.Outcome.TheVariants.{Good, Soft, Error}
use Rattle.mcv_rules.specs.Plan.{Leg, Plan, Send, Reply, Both, Beside, OnError, OnMiss, OnHit, Shadowed, both, on_error, on_miss, reply, IsMissed, HitAt}
use Rattle.mcv_route.specs.Outcomes.{Outcomes}
use Rattle.mcv_base.specs.Reply.{is_error, is_good, badness, worse}
use Rattle.mcv_route.specs.Tree.{Range, Tree, Trees, pool, null, error, many, AllSync, AllInitial, AllAsync, Failover, MissFailover, warm_up, migrate, prefix_selector, operation_selector, none, child}
use Rattle.mcv_route.specs.Situation.{Situation, under, asynchronous, shadowed, adding}
use Rattle.mcv_base.specs.Operation.{is_reading}
use Rattle.mcv_route.specs.Children.{child_or, rest_of, together, policy_of, prefix_policy, way_of}
use Rattle.mcv_route.specs.Replies.{Source, leg, fixed, refusal, Answer, default_answer, refused, own_answers, outcome_of, the_worse, or_after_error, or_after_miss, replies, replies_each}
use Rattle.mcv_rules.specs.Plans.{leg_of, with_shadows, plan, plan_each}
use Rattle.mcv_rules.proofs.Basics
use Rattle.mcv_rules.proofs.RelatedLists
use Rattle.mcv_rules.proofs.ListMembers.{Among, among_left, among_right, among_either}

-- a hit of the leg at the position
abbrev pub hit : List ℕ → Answer
hit p = record { outcome = Good; source = leg p }

-- the answers are those of the plan
pub record Matches (o : Outcomes) (r : List Answer) (t : Plan) : Type 0 where
  pub outcome : outcome_of r ≡ reply t o
  pub same : (a : Answer) → Among r a → reply t o ≡ Some a.outcome
  pub hits : (p : List ℕ) → Among r (hit p) → (l : Leg) × HitAt t o l × (l.position ≡ p)
  pub back : (l : Leg) → HitAt t o l → Among r (hit l.position)

-- a hit of the plan makes its reply good
pub hit_good : (t : Plan) (o : Outcomes) (l : Leg) → HitAt t o l → reply t o ≡ Some Good
hit_good (Send k) o l h = h.1
hit_good (Reply x) o l h = absurd h
hit_good (Both t u) o l h = ap₂ both h.0 h.1
hit_good (Beside t u) o l h = hit_good t o l h
hit_good (OnError t u) o l (inl h) = Basics.on_error_first (reply t o) (reply u o) Good (hit_good t o l h) (λ e. absurd cc)
hit_good (OnError t u) o l (inr h) = Basics.on_error_second (reply t o) (reply u o) h.0 ∙ hit_good u o l h.1
hit_good (OnMiss t u) o l (inl h) = Basics.on_miss_first (reply t o) (reply u o) (hit_good t o l h)
hit_good (OnMiss t u) o l (inr h) = Basics.on_miss_second (reply t o) (reply u o) h.0 ∙ hit_good u o l h.1
hit_good (OnHit t u) o l h = hit_good t o l h
hit_good (Shadowed s a b t u) o l h = hit_good t o l h

none_matches : (o : Outcomes) (t : Plan) → reply t o ≡ None → Matches o [] t
none_matches o t e =
    record {
      outcome = sym e;
      same = λ a h. absurd h;
      hits = λ p h. absurd h;
      back = λ l h. Basics.none_some (sym e ∙ hit_good t o l h);
    }

-- ---- the worse

abbrev chosen : Outcome → Outcome → List Answer → List Answer → List Answer
chosen x y bs cs = cond (nat_lt (badness x) (badness y)) cs (cond (nat_lt (badness y) (badness x)) bs (bs ++ cs))

chosen_cases : (x y : Outcome) (bs cs : List Answer) →
    ((x ≡ y) × (worse x y ≡ x) × (chosen x y bs cs ≡ bs ++ cs)) ⊎ (((worse x y ≢ Good) × (worse x y ≡ y) × (chosen x y bs cs ≡ cs)) ⊎ ((worse x y ≢ Good) × (worse x y ≡ x) × (chosen x y bs cs ≡ bs)))
chosen_cases Good Good bs cs = inl (refl, refl, refl)
chosen_cases Good Soft bs cs = inr (inl (λ e. absurd cc, refl, refl))
chosen_cases Good Error bs cs = inr (inl (λ e. absurd cc, refl, refl))
chosen_cases Soft Good bs cs = inr (inr (λ e. absurd cc, refl, refl))
chosen_cases Soft Soft bs cs = inl (refl, refl, refl)
chosen_cases Soft Error bs cs = inr (inl (λ e. absurd cc, refl, refl))
chosen_cases Error Good bs cs = inr (inr (λ e. absurd cc, refl, refl))
chosen_cases Error Soft bs cs = inr (inr (λ e. absurd cc, refl, refl))
chosen_cases Error Error bs cs = inl (refl, refl, refl)

outcome_first : (bs cs : List Answer) (x : Outcome) → outcome_of bs ≡ Some x → outcome_of (bs ++ cs) ≡ Some x
outcome_first [] cs x e = Basics.none_some e
outcome_first (b ∷ bs) cs x e = e

all_matches : (o : Outcomes) (bs cs : List Answer) (t u : Plan) (x y : Outcome) → reply t o ≡ Some x → reply u o ≡ Some y → x ≡ y → worse x y ≡ x → Matches o bs t → Matches o cs u → Matches o (bs ++ cs) (Both t u)
all_matches o bs cs t u x y e f g w m n =
    let whole : reply (Both t u) o ≡ Some x = ap₂ both e f ∙ ap Some w in
    let alike : reply u o ≡ reply t o = f ∙ ap Some (sym g) ∙ sym e in
    record {
      outcome = outcome_first bs cs x (m.outcome ∙ e) ∙ sym whole;
      same = λ a h. whole ∙ sym e ∙ ⊎_elim (λ i. m.same a i) (λ i. sym alike ∙ n.same a i) (among_either bs cs a h);
      hits = λ p h. elim (among_either bs cs (hit p) h) [
        | inl i ↦ (let k = m.hits p i in (k.0, (m.same (hit p) i, alike ∙ m.same (hit p) i, inl k.1), k.2))
        | inr i ↦ (let k = n.hits p i in (k.0, (sym alike ∙ n.same (hit p) i, n.same (hit p) i, inr k.1), k.2))
      ];
      back = λ l h. ⊎_elim (λ i. among_left bs cs (hit l.position) (m.back l i)) (λ i. among_right bs cs (hit l.position) (n.back l i)) h.2;
    }

second_matches : (o : Outcomes) (cs : List Answer) (t u : Plan) (x y : Outcome) → reply t o ≡ Some x → reply u o ≡ Some y → worse x y ≢ Good → worse x y ≡ y → Matches o cs u → Matches o cs (Both t u)
second_matches o cs t u x y e f g w n =
    let whole : reply (Both t u) o ≡ Some y = ap₂ both e f ∙ ap Some w in
    record {
      outcome = n.outcome ∙ f ∙ sym whole;
      same = λ a h. whole ∙ sym f ∙ n.same a h;
      hits = λ p h. absurd (g (w ∙ Basics.some_same (sym f ∙ n.same (hit p) h)));
      back = λ l h. absurd (g (w ∙ Basics.some_same (sym f ∙ h.1)));
    }

first_matches : (o : Outcomes) (bs : List Answer) (t u : Plan) (x y : Outcome) → reply t o ≡ Some x → reply u o ≡ Some y → worse x y ≢ Good → worse x y ≡ x → Matches o bs t → Matches o bs (Both t u)
first_matches o bs t u x y e f g w m =
    let whole : reply (Both t u) o ≡ Some x = ap₂ both e f ∙ ap Some w in
    record {
      outcome = m.outcome ∙ e ∙ sym whole;
      same = λ a h. whole ∙ sym e ∙ m.same a h;
      hits = λ p h. absurd (g (w ∙ Basics.some_same (sym e ∙ m.same (hit p) h)));
      back = λ l h. absurd (g (w ∙ Basics.some_same (sym e ∙ h.0)));
    }

both_none : (r : Option Outcome) → both r None ≡ None
both_none None = refl
both_none (Some x) = refl

pub both_matches : (o : Outcomes) (bs cs : List Answer) (t u : Plan) → Matches o bs t → Matches o cs u → Matches o (the_worse bs cs) (Both t u)
both_matches o [] cs t u m n = none_matches o (Both t u) (ap (λ r. both r (reply u o)) (sym m.outcome))
both_matches o (b ∷ bs) [] t u m n = none_matches o (Both t u) (ap (both (reply t o)) (sym n.outcome) ∙ both_none (reply t o))
both_matches o (b ∷ bs) (c ∷ cs) t u m n =
    elim (chosen_cases b.outcome c.outcome (b ∷ bs) (c ∷ cs)) [
      | inl i ↦ subst (λ r. Matches o r (Both t u)) (sym i.2) (all_matches o (b ∷ bs) (c ∷ cs) t u b.outcome c.outcome (sym m.outcome) (sym n.outcome) i.0 i.1 m n)
      | inr (inl i) ↦ subst (λ r. Matches o r (Both t u)) (sym i.2) (second_matches o (c ∷ cs) t u b.outcome c.outcome (sym m.outcome) (sym n.outcome) i.0 i.1 n)
      | inr (inr i) ↦ subst (λ r. Matches o r (Both t u)) (sym i.2) (first_matches o (b ∷ bs) t u b.outcome c.outcome (sym m.outcome) (sym n.outcome) i.0 i.1 m)
    ]

-- ---- after an error, after a miss

error_cases : (x : Outcome) (bs cs : List Answer) → ((x ≡ Error) × (cond (is_error x) cs bs ≡ cs)) ⊎ ((x ≢ Error) × (cond (is_error x) cs bs ≡ bs))
error_cases Good bs cs = inr (λ e. absurd cc, refl)
error_cases Soft bs cs = inr (λ e. absurd cc, refl)
error_cases Error bs cs = inl (refl, refl)

pub error_matches : (o : Outcomes) (bs cs : List Answer) (t u : Plan) → Matches o bs t → Matches o cs u → Matches o (or_after_error bs cs) (OnError t u)
error_matches o [] cs t u m n = none_matches o (OnError t u) (ap (λ r. on_error r (reply u o)) (sym m.outcome))
error_matches o (b ∷ bs) cs t u m n =
    elim (error_cases b.outcome (b ∷ bs) cs) [
      | inl i ↦ (
          let failed : reply t o ≡ Some Error = sym m.outcome ∙ ap Some i.0 in
          let whole : reply (OnError t u) o ≡ reply u o = Basics.on_error_second (reply t o) (reply u o) failed in
          subst (λ r. Matches o r (OnError t u)) (sym i.1) (record {
            outcome = n.outcome ∙ sym whole;
            same = λ a h. whole ∙ n.same a h;
            hits = λ p h. let k = n.hits p h in (k.0, inr (failed, k.1), k.2);
            back = λ l h. ⊎_elim (λ j. absurd (Basics.good≢error (Basics.some_same (sym (hit_good t o l j) ∙ failed)))) (λ j. n.back l j.1) h;
          }))
      | inr i ↦ (
          let whole : reply (OnError t u) o ≡ Some b.outcome = Basics.on_error_first (reply t o) (reply u o) b.outcome (sym m.outcome) i.0 in
          subst (λ r. Matches o r (OnError t u)) (sym i.1) (record {
            outcome = sym whole;
            same = λ a h. whole ∙ m.outcome ∙ m.same a h;
            hits = λ p h. let k = m.hits p h in (k.0, inl k.1, k.2);
            back = λ l h. ⊎_elim (λ j. m.back l j) (λ j. absurd (i.0 (Basics.some_same (m.outcome ∙ j.0)))) h;
          }))
    ]

miss_cases : (x : Outcome) (bs cs : List Answer) → (((Some x ≡ Some Soft) ⊎ (Some x ≡ Some Error)) × (cond (is_good x) bs cs ≡ cs)) ⊎ ((x ≡ Good) × (cond (is_good x) bs cs ≡ bs))
miss_cases Good bs cs = inr (refl, refl)
miss_cases Soft bs cs = inl (inl refl, refl)
miss_cases Error bs cs = inl (inr refl, refl)

missed_good : (r : Option Outcome) {A : Type 0} → r ≡ Some Good → IsMissed r → A
missed_good r e (inl f) = absurd (let g : Some Good ≡ Some Soft = sym e ∙ f in cc)
missed_good r e (inr f) = absurd (let g : Some Good ≡ Some Error = sym e ∙ f in cc)

pub miss_matches : (o : Outcomes) (bs cs : List Answer) (t u : Plan) → Matches o bs t → Matches o cs u → Matches o (or_after_miss bs cs) (OnMiss t u)
miss_matches o [] cs t u m n = none_matches o (OnMiss t u) (ap (λ r. on_miss r (reply u o)) (sym m.outcome))
miss_matches o (b ∷ bs) cs t u m n =
    elim (miss_cases b.outcome (b ∷ bs) cs) [
      | inl i ↦ (
          let missed : IsMissed (reply t o) = subst IsMissed m.outcome i.0 in
          let whole : reply (OnMiss t u) o ≡ reply u o = Basics.on_miss_second (reply t o) (reply u o) missed in
          subst (λ r. Matches o r (OnMiss t u)) (sym i.1) (record {
            outcome = n.outcome ∙ sym whole;
            same = λ a h. whole ∙ n.same a h;
            hits = λ p h. let k = n.hits p h in (k.0, inr (missed, k.1), k.2);
            back = λ l h. ⊎_elim (λ j. missed_good (reply t o) (hit_good t o l j) missed) (λ j. n.back l j.1) h;
          }))
      | inr i ↦ (
          let good : reply t o ≡ Some Good = sym m.outcome ∙ ap Some i.0 in
          let whole : reply (OnMiss t u) o ≡ Some Good = Basics.on_miss_first (reply t o) (reply u o) good in
          subst (λ r. Matches o r (OnMiss t u)) (sym i.1) (record {
            outcome = m.outcome ∙ good ∙ sym whole;
            same = λ a h. whole ∙ sym good ∙ m.same a h;
            hits = λ p h. let k = m.hits p h in (k.0, inl k.1, k.2);
            back = λ l h. ⊎_elim (λ j. m.back l j) (λ j. missed_good (reply t o) good j.0) h;
          }))
    ]

-- ---- what is beside

beside_matches : (o : Outcomes) (bs : List Answer) (t u : Plan) → Matches o bs t → Matches o bs (Beside t u)
beside_matches o bs t u m = record { outcome = m.outcome; same = m.same; hits = m.hits; back = m.back }

all_beside : (o : Outcomes) (bs : List Answer) (t : Plan) (us : List Plan) → Matches o bs t → Matches o bs (fold Beside t us)
all_beside o bs t [] m = m
all_beside o bs t (u ∷ us) m = all_beside o bs (Beside t u) us (beside_matches o bs t u m)

hit_matches : (o : Outcomes) (bs : List Answer) (t u : Plan) → Matches o bs t → Matches o bs (OnHit t u)
hit_matches o bs t u m = record { outcome = m.outcome; same = m.same; hits = m.hits; back = m.back }

shadows_match : (o : Outcomes) (bs : List Answer) (symbol : ℕ) (t : Plan) (rs : List Range) (us : List Plan) → Matches o bs t → Matches o bs (with_shadows symbol t rs us)
shadows_match o bs symbol t [] us m = m
shadows_match o bs symbol t (r ∷ rs) [] m = m
shadows_match o bs symbol t (r ∷ rs) (u ∷ us) m =
    shadows_match o bs symbol (Shadowed symbol r.first r.last t u) rs us (record { outcome = m.outcome; same = m.same; hits = m.hits; back = m.back })

-- ---- single answers

fixed_matches : (o : Outcomes) (x : Outcome) (y : Source) → (y ≡ fixed) ⊎ (y ≡ refusal) → Matches o (record { outcome = x; source = y } ∷ []) (Reply x)
fixed_matches o x y w =
    record {
      outcome = refl;
      same = λ a h. ⊎_elim (λ e. ap (λ b. Some b.outcome) e) (λ e. absurd e) h;
      hits = λ p h. absurd (⊎_elim (λ e. no_leg y p w (ap (λ b. b.source) e)) (λ e. e) h);
      back = λ l h. absurd h;
    }
  where
    no_leg : (z : Source) (p : List ℕ) → (z ≡ fixed) ⊎ (z ≡ refusal) → z ≡ leg p → ⊥
    no_leg z p (inl e) f = let g : fixed ≡ leg p = sym e ∙ f in cc
    no_leg z p (inr e) f = let g : refusal ≡ leg p = sym e ∙ f in cc

position_of : Source → List ℕ
position_of (leg p) = p
position_of fixed = []
position_of refusal = []

same_position : (p q : List ℕ) → leg p ≡ leg q → p ≡ q
unfolding position_of
same_position p q e = ap position_of e

own_matches : (o : Outcomes) (k : Leg) (r : Option Outcome) → o k.position ≡ r → Matches o (own_answers k.position r) (Send k)
own_matches o k None e = none_matches o (Send k) e
own_matches o k (Some x) e =
    record {
      outcome = sym e;
      same = λ a h. e ∙ ⊎_elim (λ f. ap (λ b. Some b.outcome) f) (λ f. absurd f) h;
      hits = λ p h. ⊎_elim (λ f. (k, (refl, e ∙ ap (λ b. Some b.outcome) f), same_position k.position p (ap (λ b. b.source) f))) (λ f. absurd f) h;
      back = λ l h. inl (
          let g : x ≡ Good = Basics.some_same (sym e ∙ h.1) in
          ap (λ z. let a : Answer = record { outcome = z; source = leg k.position } in a) g ∙ ap (λ z. hit z.position) h.0);
    }

-- ---- each handle

refused_matches : (o : Outcomes) → Matches o (refused ∷ []) (Reply Error)
refused_matches o = fixed_matches o Error refusal (inr refl)

mutual
  pub replied : (t : Tree) (s : Situation) (o : Outcomes) → Matches o (replies t s o) (plan t s)
  replied (pool p ranges targets) s o = shadows_match o (own_answers s.position (o s.position)) p.symbol (Send (leg_of p s)) ranges (plan_each 0 targets (shadowed s)) (own_matches o (leg_of p s) (o s.position) refl)
  replied null s o = fixed_matches o Soft fixed (inl refl)
  replied error s o = refused_matches o
  replied (many AllSync ts) s o = RelatedLists.together_related (Matches o) the_worse Both (both_matches o) (refused ∷ []) (Reply Error) (replies_each 0 ts s o) (plan_each 0 ts s) (refused_matches o) (replied_each 0 ts s o)
  replied (many AllInitial ts) s o =
      all_beside o (child_or (refused ∷ []) 0 (replies_each 0 ts s o)) (child_or (Reply Error) 0 (plan_each 0 ts s)) (rest_of (plan_each 0 ts (asynchronous s)))
      (RelatedLists.child_related (Matches o) (refused ∷ []) (Reply Error) 0 (replies_each 0 ts s o) (plan_each 0 ts s) (refused_matches o) (replied_each 0 ts s o))
  replied (many AllAsync ts) s o = all_beside o (default_answer ∷ []) (Reply Soft) (plan_each 0 ts (asynchronous s)) (fixed_matches o Soft fixed (inl refl))
  replied (many Failover ts) s o = RelatedLists.together_related (Matches o) or_after_error OnError (error_matches o) (refused ∷ []) (Reply Error) (replies_each 0 ts s o) (plan_each 0 ts s) (refused_matches o) (replied_each 0 ts s o)
  replied (many MissFailover ts) s o =
      RelatedLists.if_related (Matches o) (is_reading s.op)
      (together or_after_miss (refused ∷ []) (replies_each 0 ts s o)) (child_or (refused ∷ []) 0 (replies_each 0 ts s o))
      (together OnMiss (Reply Error) (plan_each 0 ts s)) (child_or (Reply Error) 0 (plan_each 0 ts s))
      (RelatedLists.together_related (Matches o) or_after_miss OnMiss (miss_matches o) (refused ∷ []) (Reply Error) (replies_each 0 ts s o) (plan_each 0 ts s) (refused_matches o) (replied_each 0 ts s o))
      (RelatedLists.child_related (Matches o) (refused ∷ []) (Reply Error) 0 (replies_each 0 ts s o) (plan_each 0 ts s) (refused_matches o) (replied_each 0 ts s o))
  replied (warm_up cold warm exptime) s o =
      RelatedLists.if_related (Matches o) (is_reading s.op)
      (or_after_miss (replies cold (under 0 s) o) (replies warm (under 1 s) o)) (replies cold (under 0 s) o)
      (OnMiss (plan cold (under 0 s)) (OnHit (plan warm (under 1 s)) (plan cold (under 2 (adding s))))) (plan cold (under 0 s))
      (miss_matches o (replies cold (under 0 s) o) (replies warm (under 1 s) o) (plan cold (under 0 s)) (OnHit (plan warm (under 1 s)) (plan cold (under 2 (adding s))))
      (replied cold (under 0 s) o) (hit_matches o (replies warm (under 1 s) o) (plan warm (under 1 s)) (plan cold (under 2 (adding s))) (replied warm (under 1 s) o)))
      (replied cold (under 0 s) o)
  replied (migrate from to start interval) s o =
      RelatedLists.way_related (Matches o) (way_of s start interval)
      (replies from (under 0 s) o) (replies to (under 1 s) o) (the_worse (replies from (under 0 s) o) (replies to (under 1 s) o))
      (plan from (under 0 s)) (plan to (under 1 s)) (Both (plan from (under 0 s)) (plan to (under 1 s)))
      (replied from (under 0 s) o) (replied to (under 1 s) o)
      (both_matches o (replies from (under 0 s) o) (replies to (under 1 s) o) (plan from (under 0 s)) (plan to (under 1 s)) (replied from (under 0 s) o) (replied to (under 1 s) o))
  replied (prefix_selector prefixes ts) s o =
      RelatedLists.child_related (Matches o) (refused ∷ []) (Reply Error) (prefix_policy s.rest prefixes) (replies_each 0 ts s o) (plan_each 0 ts s) (refused_matches o) (replied_each 0 ts s o)
  replied (operation_selector ops ts) s o =
      RelatedLists.child_related (Matches o) (refused ∷ []) (Reply Error) (policy_of s.op ops) (replies_each 0 ts s o) (plan_each 0 ts s) (refused_matches o) (replied_each 0 ts s o)

  pub replied_each : (k : ℕ) (ts : Trees) (s : Situation) (o : Outcomes) → RelatedLists.Related (Matches o) (replies_each k ts s o) (plan_each k ts s)
  replied_each k none s o = tt
  replied_each k (child t ts) s o = (replied t (under k s) o, replied_each (suc k) ts s o)
