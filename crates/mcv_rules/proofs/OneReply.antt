-- The one reply.
use Rattle.std.proofs.Common.{◌≡◌, ◌⊎◌, ◌&&◌, ◌||◌, cond, inl, inr, ⊎_elim, ℕ, suc, Bool, true, false, List, [], ◌∷◌, ◌++◌, length, Option, Some, None, refl, sym, ap, ap₂, ◌∙◌, subst, nat_lt, nat_le}
use Rattle.std.specs.Prelude.{◌==◌}
use Rattle.mcv_base.specs.declared.reply.Outcome.{Outcome}
use Rattle.mcv_base.specs.declared.reply.Outcome.TheVariants.{Good, Soft, Error}
use Rattle.mcv_route.specs.Outcomes.{History, outcomes}
use Rattle.mcv_base.specs.Reply.{is_error, is_good, badness}
use Rattle.mcv_rules.proofs.Basics
use Rattle.mcv_rules.proofs.Orders
use Rattle.mcv_route.specs.Tree.{Tree, Trees, pool, null, error, many, AllSync, AllInitial, AllAsync, Failover, MissFailover, warm_up, migrate, prefix_selector, operation_selector, none, child}
use Rattle.mcv_route.specs.Situation.{Situation, under}
use Rattle.mcv_base.specs.Operation.{is_reading}
use Rattle.mcv_route.specs.Children.{child_or, together, policy_of, prefix_policy, way_of}
use Rattle.mcv_route.specs.Replies.{Answer, leg, default_answer, refused, own_answers, outcome_of, the_worse, or_after_error, or_after_miss, replies, replies_each}
use Rattle.mcv_route.specs.Reply.{is_waiting, came, Arrival, arrival, weight, last_worse, next_after_error, next_after_miss, own_answer, answers_of, reply, arrivals}
use Rattle.mcv_rules.specs.Laws.{IsOneOf, ReplyIsOneOf, OneReplyStays}
use Rattle.mcv_rules.proofs.RelatedLists
use Rattle.mcv_rules.proofs.ListMembers
use Rattle.mcv_rules.proofs.AnswersStay

-- ---- it is one of the replies

-- the answer is one of those in the list, which all have one outcome
record One (x : Option Answer) (r : List Answer) : Type 0 where
  is_one : IsOneOf x r
  alike : (b : Answer) → ListMembers.Among r b → outcome_of r ≡ Some b.outcome

abbrev OneArrives : Arrival → List Answer → Type 0
OneArrives a r = One a.answer r

-- whether the second arrival prevails
abbrev test : Option Answer → ℕ → Option Answer → ℕ → Bool
test x i y j = nat_lt (weight x) (weight y) || ((weight x == weight y) && nat_le i j)

cond_answer : (b : Bool) (x y : Arrival) → (cond b x y).answer ≡ cond b x.answer y.answer
cond_answer true x y = refl
cond_answer false x y = refl

abbrev prevails : Outcome → ℕ → Outcome → ℕ → Bool
prevails x i y j = nat_lt (badness x) (badness y) || ((badness x == badness y) && nat_le i j)

abbrev chosen : Outcome → Outcome → List Answer → List Answer → List Answer
chosen x y bs cs = cond (nat_lt (badness x) (badness y)) cs (cond (nat_lt (badness y) (badness x)) bs (bs ++ cs))

prevails_cases : (x y : Outcome) (i j : ℕ) (bs cs : List Answer) →
    ((x ≡ y) × (chosen x y bs cs ≡ bs ++ cs)) ⊎ (((prevails x i y j ≡ true) × (chosen x y bs cs ≡ cs)) ⊎ ((prevails x i y j ≡ false) × (chosen x y bs cs ≡ bs)))
prevails_cases Good Good i j bs cs = inl (refl, refl)
prevails_cases Good Soft i j bs cs = inr (inl (refl, refl))
prevails_cases Good Error i j bs cs = inr (inl (refl, refl))
prevails_cases Soft Good i j bs cs = inr (inr (refl, refl))
prevails_cases Soft Soft i j bs cs = inl (refl, refl)
prevails_cases Soft Error i j bs cs = inr (inl (refl, refl))
prevails_cases Error Good i j bs cs = inr (inr (refl, refl))
prevails_cases Error Soft i j bs cs = inr (inr (refl, refl))
prevails_cases Error Error i j bs cs = inl (refl, refl)

none_first : (y : Option Answer) (i j : ℕ) → cond (test None i y j) y None ≡ None
none_first None i j = either (test None i None j)
  where
    either : (b : Bool) → cond {A = Option Answer} b None None ≡ None
    either true = refl
    either false = refl
none_first (Some a) i j = by_outcome a.outcome
  where
    by_outcome : (x : Outcome) → cond (nat_lt 3 (badness x) || ((3 == badness x) && nat_le i j)) (Some a) None ≡ None
    by_outcome Good = refl
    by_outcome Soft = refl
    by_outcome Error = refl

none_second : (x : Option Answer) (i j : ℕ) → cond (test x i None j) None x ≡ None
none_second None i j = either (test None i None j)
  where
    either : (b : Bool) → cond {A = Option Answer} b None None ≡ None
    either true = refl
    either false = refl
none_second (Some a) i j = by_outcome a.outcome
  where
    by_outcome : (x : Outcome) → cond (nat_lt (badness x) 3 || ((badness x == 3) && nat_le i j)) None (Some a) ≡ None
    by_outcome Good = refl
    by_outcome Soft = refl
    by_outcome Error = refl

-- both are there
two_prevail : (a b : Answer) (i j : ℕ) (bs cs : List Answer) → One (Some a) bs → One (Some b) cs → One (cond (prevails a.outcome i b.outcome j) (Some b) (Some a)) (the_worse bs cs)
two_prevail a b i j [] cs f g = absurd f.is_one
two_prevail a b i j (u ∷ bs) [] f g = absurd g.is_one
two_prevail a b i j (u ∷ bs) (v ∷ cs) f g =
    let first : u.outcome ≡ a.outcome = Basics.some_same (f.alike a f.is_one) in
    let second : v.outcome ≡ b.outcome = Basics.some_same (g.alike b g.is_one) in
    subst (λ r. One (cond (prevails a.outcome i b.outcome j) (Some b) (Some a)) r) (sym (ap₂ (λ x y. chosen x y (u ∷ bs) (v ∷ cs)) first second)) (
    elim (prevails_cases a.outcome b.outcome i j (u ∷ bs) (v ∷ cs)) [
      | inl e ↦ subst (λ r. One (cond (prevails a.outcome i b.outcome j) (Some b) (Some a)) r) (sym e.1) (record {
        is_one = either (prevails a.outcome i b.outcome j);
        alike = λ c h. ⊎_elim (λ k. f.alike c k) (λ k. ap Some (first ∙ e.0 ∙ sym second) ∙ g.alike c k) (ListMembers.among_either (u ∷ bs) (v ∷ cs) c h);
      })
      | inr (inl e) ↦ subst (λ r. One (cond (prevails a.outcome i b.outcome j) (Some b) (Some a)) r) (sym e.1) (subst (λ t. One (cond t (Some b) (Some a)) (v ∷ cs)) (sym e.0) g)
      | inr (inr e) ↦ subst (λ r. One (cond (prevails a.outcome i b.outcome j) (Some b) (Some a)) r) (sym e.1) (subst (λ t. One (cond t (Some b) (Some a)) (u ∷ bs)) (sym e.0) f)
    ])
  where
    either : (t : Bool) → IsOneOf (cond t (Some b) (Some a)) ((u ∷ bs) ++ (v ∷ cs))
    either true = ListMembers.among_right (u ∷ bs) (v ∷ cs) b g.is_one
    either false = ListMembers.among_left (u ∷ bs) (v ∷ cs) a f.is_one

none_one : (x : Option Answer) (r : List Answer) → x ≡ None → r ≡ [] → One x r
none_one x r e f = subst (λ y. One y r) (sym e) (subst (λ q. One None q) (sym f) (record { is_one = refl; alike = λ b h. absurd h }))

pick : (x : Option Answer) (i : ℕ) (y : Option Answer) (j : ℕ) (bs cs : List Answer) → One x bs → One y cs → One (cond (test x i y j) y x) (the_worse bs cs)
pick None i y j bs cs f g = none_one (cond (test None i y j) y None) (the_worse bs cs) (none_first y i j) (ap (λ r. the_worse r cs) f.is_one)
pick (Some a) i None j bs cs f g = none_one (cond (test (Some a) i None j) None (Some a)) (the_worse bs cs) (none_second (Some a) i j) (ap (the_worse bs) g.is_one ∙ AnswersStay.worse_none bs)
pick (Some a) i (Some b) j bs cs f g = two_prevail a b i j bs cs f g

worse_one : (a b : Arrival) (bs cs : List Answer) → OneArrives a bs → OneArrives b cs → OneArrives (last_worse a b) (the_worse bs cs)
worse_one a b bs cs f g = subst (λ x. One x (the_worse bs cs)) (sym (cond_answer (test a.answer a.came b.answer b.came) b a)) (pick a.answer a.came b.answer b.came bs cs f g)

if_one : (t : Bool) (x y : Option Answer) (bs cs : List Answer) → One x bs → One y cs → One (cond t x y) (cond t bs cs)
if_one true x y bs cs f g = f
if_one false x y bs cs f g = g

error_one : (x y : Option Answer) (bs cs : List Answer) → One x bs → One y cs → One (next_after_error x y) (or_after_error bs cs)
error_one None y bs cs f g = none_one None (or_after_error bs cs) refl (ap (λ r. or_after_error r cs) f.is_one)
error_one (Some a) y [] cs f g = absurd f.is_one
error_one (Some a) y (u ∷ bs) cs f g =
    subst (λ z. One (cond (is_error a.outcome) y (Some a)) (cond (is_error z) cs (u ∷ bs))) (sym (Basics.some_same (f.alike a f.is_one))) (if_one (is_error a.outcome) y (Some a) cs (u ∷ bs) g f)

miss_one : (x y : Option Answer) (bs cs : List Answer) → One x bs → One y cs → One (next_after_miss x y) (or_after_miss bs cs)
miss_one None y bs cs f g = none_one None (or_after_miss bs cs) refl (ap (λ r. or_after_miss r cs) f.is_one)
miss_one (Some a) y [] cs f g = absurd f.is_one
miss_one (Some a) y (u ∷ bs) cs f g =
    subst (λ z. One (cond (is_good a.outcome) (Some a) y) (cond (is_good z) (u ∷ bs) cs)) (sym (Basics.some_same (f.alike a f.is_one))) (if_one (is_good a.outcome) (Some a) y (u ∷ bs) cs f g)

single : (a : Answer) → One (Some a) (a ∷ [])
single a = record { is_one = inl refl; alike = λ b h. ⊎_elim (λ e. ap (λ c. Some c.outcome) e) (λ e. absurd e) h }

own_one : (p : List ℕ) (x : Option Outcome) → One (own_answer p x) (own_answers p x)
own_one p None = none_one None [] refl refl
own_one p (Some x) = single (record { outcome = x; source = leg p })

answers_related : (xs : List Arrival) (rs : List (List Answer)) → RelatedLists.Related OneArrives xs rs → RelatedLists.Related One (answers_of xs) rs
answers_related [] [] h = tt
answers_related [] (r ∷ rs) h = absurd h
answers_related (x ∷ xs) [] h = absurd h
answers_related (x ∷ xs) (r ∷ rs) h = (h.0, answers_related xs rs h.1)

mutual
  reply_one : (t : Tree) (s : Situation) (es : History) → One (reply t s es) (replies t s (outcomes es))
  reply_one (pool p ranges targets) s es = own_one s.position (outcomes es s.position)
  reply_one null s es = single default_answer
  reply_one error s es = single refused
  reply_one (many AllSync ts) s es = RelatedLists.together_related OneArrives last_worse the_worse worse_one (arrival (Some refused) 0) (refused ∷ []) (arrivals 0 ts s es) (replies_each 0 ts s (outcomes es)) (single refused) (arrivals_one 0 ts s es)
  reply_one (many AllInitial ts) s es = RelatedLists.child_related One (Some refused) (refused ∷ []) 0 (answers_of (arrivals 0 ts s es)) (replies_each 0 ts s (outcomes es)) (single refused) (answers_related (arrivals 0 ts s es) (replies_each 0 ts s (outcomes es)) (arrivals_one 0 ts s es))
  reply_one (many AllAsync ts) s es = single default_answer
  reply_one (many Failover ts) s es = RelatedLists.together_related One next_after_error or_after_error error_one (Some refused) (refused ∷ []) (answers_of (arrivals 0 ts s es)) (replies_each 0 ts s (outcomes es)) (single refused) (answers_related (arrivals 0 ts s es) (replies_each 0 ts s (outcomes es)) (arrivals_one 0 ts s es))
  reply_one (many MissFailover ts) s es =
      if_one (is_reading s.op) (together next_after_miss (Some refused) (answers_of (arrivals 0 ts s es))) (child_or (Some refused) 0 (answers_of (arrivals 0 ts s es)))
      (together or_after_miss (refused ∷ []) (replies_each 0 ts s (outcomes es))) (child_or (refused ∷ []) 0 (replies_each 0 ts s (outcomes es)))
      (RelatedLists.together_related One next_after_miss or_after_miss miss_one (Some refused) (refused ∷ []) (answers_of (arrivals 0 ts s es)) (replies_each 0 ts s (outcomes es)) (single refused) (answers_related (arrivals 0 ts s es) (replies_each 0 ts s (outcomes es)) (arrivals_one 0 ts s es)))
      (RelatedLists.child_related One (Some refused) (refused ∷ []) 0 (answers_of (arrivals 0 ts s es)) (replies_each 0 ts s (outcomes es)) (single refused) (answers_related (arrivals 0 ts s es) (replies_each 0 ts s (outcomes es)) (arrivals_one 0 ts s es)))
  reply_one (warm_up cold warm exptime) s es =
      if_one (is_reading s.op) (next_after_miss (reply cold (under 0 s) es) (reply warm (under 1 s) es)) (reply cold (under 0 s) es)
      (or_after_miss (replies cold (under 0 s) (outcomes es)) (replies warm (under 1 s) (outcomes es))) (replies cold (under 0 s) (outcomes es))
      (miss_one (reply cold (under 0 s) es) (reply warm (under 1 s) es) (replies cold (under 0 s) (outcomes es)) (replies warm (under 1 s) (outcomes es)) (reply_one cold (under 0 s) es) (reply_one warm (under 1 s) es))
      (reply_one cold (under 0 s) es)
  reply_one (migrate from to start interval) s es =
      RelatedLists.way_related One (way_of s start interval)
      (reply from (under 0 s) es) (reply to (under 1 s) es) (last_worse (arrival (reply from (under 0 s) es) (came from (under 0 s) es)) (arrival (reply to (under 1 s) es) (came to (under 1 s) es))).answer
      (replies from (under 0 s) (outcomes es)) (replies to (under 1 s) (outcomes es)) (the_worse (replies from (under 0 s) (outcomes es)) (replies to (under 1 s) (outcomes es)))
      (reply_one from (under 0 s) es) (reply_one to (under 1 s) es)
      (worse_one (arrival (reply from (under 0 s) es) (came from (under 0 s) es)) (arrival (reply to (under 1 s) es) (came to (under 1 s) es)) (replies from (under 0 s) (outcomes es)) (replies to (under 1 s) (outcomes es)) (reply_one from (under 0 s) es) (reply_one to (under 1 s) es))
  reply_one (prefix_selector prefixes ts) s es = RelatedLists.child_related One (Some refused) (refused ∷ []) (prefix_policy s.rest prefixes) (answers_of (arrivals 0 ts s es)) (replies_each 0 ts s (outcomes es)) (single refused) (answers_related (arrivals 0 ts s es) (replies_each 0 ts s (outcomes es)) (arrivals_one 0 ts s es))
  reply_one (operation_selector ops ts) s es = RelatedLists.child_related One (Some refused) (refused ∷ []) (policy_of s.op ops) (answers_of (arrivals 0 ts s es)) (replies_each 0 ts s (outcomes es)) (single refused) (answers_related (arrivals 0 ts s es) (replies_each 0 ts s (outcomes es)) (arrivals_one 0 ts s es))

  arrivals_one : (k : ℕ) (ts : Trees) (s : Situation) (es : History) → RelatedLists.Related OneArrives (arrivals k ts s es) (replies_each k ts s (outcomes es))
  arrivals_one k none s es = tt
  arrivals_one k (child t ts) s es = (reply_one t (under k s) es, arrivals_one (suc k) ts s es)

pub reply_is_one_of : ReplyIsOneOf
reply_is_one_of t s es = (reply_one t s es).is_one

-- ---- it stays

-- there was no answer, or the same
abbrev Same : Option Answer → Option Answer → Type 0
Same x y = (x ≡ None) ⊎ (y ≡ x)

-- there was no answer, or the same at the same time
abbrev SameArrival : Arrival → Arrival → Type 0
SameArrival a b = (a.answer ≡ None) ⊎ (b ≡ a)

worse_none_first : (a b : Arrival) → a.answer ≡ None → (last_worse a b).answer ≡ None
worse_none_first a b e = cond_answer (test a.answer a.came b.answer b.came) b a ∙ ap (λ x. cond (test x a.came b.answer b.came) b.answer x) e ∙ none_first b.answer a.came b.came

worse_none_second : (a b : Arrival) → b.answer ≡ None → (last_worse a b).answer ≡ None
worse_none_second a b e = cond_answer (test a.answer a.came b.answer b.came) b a ∙ ap (λ y. cond (test a.answer a.came y b.came) y a.answer) e ∙ none_second a.answer a.came b.came

worse_same : (a b x y : Arrival) → SameArrival a x → SameArrival b y → SameArrival (last_worse a b) (last_worse x y)
worse_same a b x y (inl e) g = inl (worse_none_first a b e)
worse_same a b x y (inr e) (inl g) = inl (worse_none_second a b g)
worse_same a b x y (inr e) (inr g) = inr (ap₂ last_worse e g)

either_error : (x : Option Answer) → ((y z : Option Answer) → next_after_error x y ≡ next_after_error x z) ⊎ ((y : Option Answer) → next_after_error x y ≡ y)
either_error None = inl (λ y z. refl)
either_error (Some a) = by_test (is_error a.outcome)
  where
    by_test : (t : Bool) → ((y z : Option Answer) → cond t y (Some a) ≡ cond t z (Some a)) ⊎ ((y : Option Answer) → cond t y (Some a) ≡ y)
    by_test true = inr (λ y. refl)
    by_test false = inl (λ y z. refl)

either_miss : (x : Option Answer) → ((y z : Option Answer) → next_after_miss x y ≡ next_after_miss x z) ⊎ ((y : Option Answer) → next_after_miss x y ≡ y)
either_miss None = inl (λ y z. refl)
either_miss (Some a) = by_test (is_good a.outcome)
  where
    by_test : (t : Bool) → ((y z : Option Answer) → cond t (Some a) y ≡ cond t (Some a) z) ⊎ ((y : Option Answer) → cond t (Some a) y ≡ y)
    by_test true = inl (λ y z. refl)
    by_test false = inr (λ y. refl)

error_same : (a b x y : Option Answer) → Same a x → Same b y → Same (next_after_error a b) (next_after_error x y)
error_same a b x y (inl e) h = inl (ap (λ z. next_after_error z b) e)
error_same a b x y (inr e) (inr f) = inr (ap₂ next_after_error e f)
error_same a b x y (inr e) (inl f) = ⊎_elim (λ h. inr (ap (λ z. next_after_error z y) e ∙ h y b)) (λ h. inl (h b ∙ f)) (either_error a)

miss_same : (a b x y : Option Answer) → Same a x → Same b y → Same (next_after_miss a b) (next_after_miss x y)
miss_same a b x y (inl e) h = inl (ap (λ z. next_after_miss z b) e)
miss_same a b x y (inr e) (inr f) = inr (ap₂ next_after_miss e f)
miss_same a b x y (inr e) (inl f) = ⊎_elim (λ h. inr (ap (λ z. next_after_miss z y) e ∙ h y b)) (λ h. inl (h b ∙ f)) (either_miss a)

own_same : (p : List ℕ) (x y : Option Outcome) → ((z : Outcome) → x ≡ Some z → y ≡ Some z) → Same (own_answer p x) (own_answer p y)
own_same p None y h = inl refl
own_same p (Some x) y h = inr (ap (own_answer p) (h x refl))

answers_same : (xs ys : List Arrival) → RelatedLists.Related SameArrival xs ys → RelatedLists.Related Same (answers_of xs) (answers_of ys)
answers_same [] [] h = tt
answers_same [] (r ∷ rs) h = absurd h
answers_same (x ∷ xs) [] h = absurd h
answers_same (x ∷ xs) (y ∷ ys) h = (⊎_elim (λ e. inl e) (λ e. inr (ap (λ a. a.answer) e)) h.0, answers_same xs ys h.1)

arrival_same : (a b : Arrival) → SameArrival a b → Same a.answer b.answer
arrival_same a b h = ⊎_elim (λ e. inl e) (λ e. inr (ap (λ c. c.answer) e)) h

-- where there is an answer, the next outcome leaves when it came
not_waiting : (x : Answer) (r : List Answer) → IsOneOf (Some x) r → is_waiting r ≡ false
not_waiting x [] h = absurd h
not_waiting x (a ∷ more) h = refl

came_same : (t : Tree) (s : Situation) (p : List ℕ) (x : Outcome) (es : History) (a : Answer) → reply t s es ≡ Some a → came t s ((p, x) ∷ es) ≡ came t s es
came_same t s p x es a e =
    ap (λ b. cond b (suc (length es)) (came t s es)) (not_waiting a (replies t s (outcomes es)) (subst (λ y. IsOneOf y (replies t s (outcomes es))) e (reply_is_one_of t s es)))

with_time : (t : Tree) (s : Situation) (p : List ℕ) (x : Outcome) (es : History) (r : Option Answer) → reply t s es ≡ r → Same (reply t s es) (reply t s ((p, x) ∷ es))
    → SameArrival (arrival (reply t s es) (came t s es)) (arrival (reply t s ((p, x) ∷ es)) (came t s ((p, x) ∷ es)))
with_time t s p x es None e h = inl e
with_time t s p x es (Some a) e (inl h) = inl h
with_time t s p x es (Some a) e (inr h) = inr (ap₂ arrival h (came_same t s p x es a e))

mutual
  reply_same : (t : Tree) (s : Situation) (p : List ℕ) (x : Outcome) (es : History) → outcomes es p ≡ None → Same (reply t s es) (reply t s ((p, x) ∷ es))
  reply_same (pool q ranges targets) s p x es n = own_same s.position (outcomes es s.position) (outcomes ((p, x) ∷ es) s.position) (Orders.one_more p x es n s.position)
  reply_same null s p x es n = inr refl
  reply_same error s p x es n = inr refl
  reply_same (many AllSync ts) s p x es n =
      arrival_same (together last_worse (arrival (Some refused) 0) (arrivals 0 ts s es)) (together last_worse (arrival (Some refused) 0) (arrivals 0 ts s ((p, x) ∷ es)))
      (RelatedLists.together_related SameArrival last_worse last_worse worse_same (arrival (Some refused) 0) (arrival (Some refused) 0) (arrivals 0 ts s es) (arrivals 0 ts s ((p, x) ∷ es)) (inr refl) (arrivals_same 0 ts s p x es n))
  reply_same (many AllInitial ts) s p x es n = RelatedLists.child_related Same (Some refused) (Some refused) 0 (answers_of (arrivals 0 ts s es)) (answers_of (arrivals 0 ts s ((p, x) ∷ es))) (inr refl) (answers_same (arrivals 0 ts s es) (arrivals 0 ts s ((p, x) ∷ es)) (arrivals_same 0 ts s p x es n))
  reply_same (many AllAsync ts) s p x es n = inr refl
  reply_same (many Failover ts) s p x es n = RelatedLists.together_related Same next_after_error next_after_error error_same (Some refused) (Some refused) (answers_of (arrivals 0 ts s es)) (answers_of (arrivals 0 ts s ((p, x) ∷ es))) (inr refl) (answers_same (arrivals 0 ts s es) (arrivals 0 ts s ((p, x) ∷ es)) (arrivals_same 0 ts s p x es n))
  reply_same (many MissFailover ts) s p x es n =
      RelatedLists.if_related Same (is_reading s.op)
      (together next_after_miss (Some refused) (answers_of (arrivals 0 ts s es))) (child_or (Some refused) 0 (answers_of (arrivals 0 ts s es)))
      (together next_after_miss (Some refused) (answers_of (arrivals 0 ts s ((p, x) ∷ es)))) (child_or (Some refused) 0 (answers_of (arrivals 0 ts s ((p, x) ∷ es))))
      (RelatedLists.together_related Same next_after_miss next_after_miss miss_same (Some refused) (Some refused) (answers_of (arrivals 0 ts s es)) (answers_of (arrivals 0 ts s ((p, x) ∷ es))) (inr refl) (answers_same (arrivals 0 ts s es) (arrivals 0 ts s ((p, x) ∷ es)) (arrivals_same 0 ts s p x es n)))
      (RelatedLists.child_related Same (Some refused) (Some refused) 0 (answers_of (arrivals 0 ts s es)) (answers_of (arrivals 0 ts s ((p, x) ∷ es))) (inr refl) (answers_same (arrivals 0 ts s es) (arrivals 0 ts s ((p, x) ∷ es)) (arrivals_same 0 ts s p x es n)))
  reply_same (warm_up cold warm exptime) s p x es n =
      RelatedLists.if_related Same (is_reading s.op)
      (next_after_miss (reply cold (under 0 s) es) (reply warm (under 1 s) es)) (reply cold (under 0 s) es)
      (next_after_miss (reply cold (under 0 s) ((p, x) ∷ es)) (reply warm (under 1 s) ((p, x) ∷ es))) (reply cold (under 0 s) ((p, x) ∷ es))
      (miss_same (reply cold (under 0 s) es) (reply warm (under 1 s) es) (reply cold (under 0 s) ((p, x) ∷ es)) (reply warm (under 1 s) ((p, x) ∷ es)) (reply_same cold (under 0 s) p x es n) (reply_same warm (under 1 s) p x es n))
      (reply_same cold (under 0 s) p x es n)
  reply_same (migrate from to start interval) s p x es n =
      let first = with_time from (under 0 s) p x es (reply from (under 0 s) es) refl (reply_same from (under 0 s) p x es n) in
      let second = with_time to (under 1 s) p x es (reply to (under 1 s) es) refl (reply_same to (under 1 s) p x es n) in
      let fs = arrival (reply from (under 0 s) es) (came from (under 0 s) es) in
      let ts = arrival (reply to (under 1 s) es) (came to (under 1 s) es) in
      let fs2 = arrival (reply from (under 0 s) ((p, x) ∷ es)) (came from (under 0 s) ((p, x) ∷ es)) in
      let ts2 = arrival (reply to (under 1 s) ((p, x) ∷ es)) (came to (under 1 s) ((p, x) ∷ es)) in
      RelatedLists.way_related Same (way_of s start interval)
      (reply from (under 0 s) es) (reply to (under 1 s) es) (last_worse fs ts).answer
      (reply from (under 0 s) ((p, x) ∷ es)) (reply to (under 1 s) ((p, x) ∷ es)) (last_worse fs2 ts2).answer
      (reply_same from (under 0 s) p x es n) (reply_same to (under 1 s) p x es n)
      (arrival_same (last_worse fs ts) (last_worse fs2 ts2) (worse_same fs ts fs2 ts2 first second))
  reply_same (prefix_selector prefixes ts) s p x es n = RelatedLists.child_related Same (Some refused) (Some refused) (prefix_policy s.rest prefixes) (answers_of (arrivals 0 ts s es)) (answers_of (arrivals 0 ts s ((p, x) ∷ es))) (inr refl) (answers_same (arrivals 0 ts s es) (arrivals 0 ts s ((p, x) ∷ es)) (arrivals_same 0 ts s p x es n))
  reply_same (operation_selector ops ts) s p x es n = RelatedLists.child_related Same (Some refused) (Some refused) (policy_of s.op ops) (answers_of (arrivals 0 ts s es)) (answers_of (arrivals 0 ts s ((p, x) ∷ es))) (inr refl) (answers_same (arrivals 0 ts s es) (arrivals 0 ts s ((p, x) ∷ es)) (arrivals_same 0 ts s p x es n))

  arrivals_same : (k : ℕ) (ts : Trees) (s : Situation) (p : List ℕ) (x : Outcome) (es : History) → outcomes es p ≡ None → RelatedLists.Related SameArrival (arrivals k ts s es) (arrivals k ts s ((p, x) ∷ es))
  arrivals_same k none s p x es n = tt
  arrivals_same k (child t ts) s p x es n = (with_time t (under k s) p x es (reply t (under k s) es) refl (reply_same t (under k s) p x es n), arrivals_same (suc k) ts s p x es n)

reply_and_time : (t : Tree) (s : Situation) (p : List ℕ) (x : Outcome) (es : History) (r : Option Answer) → reply t s es ≡ r → outcomes es p ≡ None →
    (reply t s es ≡ None) ⊎ ((reply t s ((p, x) ∷ es) ≡ reply t s es) × (came t s ((p, x) ∷ es) ≡ came t s es))
reply_and_time t s p x es None e n = inl e
reply_and_time t s p x es (Some a) e n = ⊎_elim (λ h. inl h) (λ h. inr (h, came_same t s p x es a e)) (reply_same t s p x es n)

pub one_reply_stays : OneReplyStays
one_reply_stays t s p x es n = reply_and_time t s p x es (reply t s es) refl n
