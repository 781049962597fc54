-- When a handle first had an answer.
use Rattle.std.proofs.Common.{◌≡◌, ◌≢◌, ◌⊎◌, ◌≤◌, cond, inl, inr, ⊎_elim, ℕ, suc, max, Bool, true, false, List, [], ◌∷◌, ◌++◌, length, refl, sym, ap, ◌∙◌, subst, arith}
use Rattle.std.specs.Prelude.{fold}
use Rattle.mcv_route.specs.Outcomes.{History, outcomes}
use Rattle.mcv_base.specs.Reply.{is_error, is_good}
use Rattle.mcv_route.specs.Tree.{Tree, Trees, many, AllSync, none, child}
use Rattle.mcv_route.specs.Situation.{Situation, under}
use Rattle.mcv_route.specs.Replies.{Answer, the_worse, or_after_error, or_after_miss, replies, replies_each}
use Rattle.mcv_route.specs.Reply.{is_waiting, came}
use Rattle.mcv_rules.specs.Times.{time, came_each, TimeOfAllSync, IsStable, TimeAfterError, TimeAfterMiss, RepliesAreStable}
use Rattle.mcv_rules.proofs.AnswersStay
use Rattle.mcv_rules.proofs.Orders

bound : (b : Bool) (n a : ℕ) → a ≤ n → cond b (suc n) a ≤ suc n
bound true n a h = omega arith
bound false n a h = omega (arith, h)

time_bound : (f : History → List Answer) (es : History) → time f es ≤ length es
time_bound f [] = omega arith
time_bound f (e ∷ es) = bound (is_waiting (f es)) (length es) (time f es) (time_bound f es)

max_left : (n m : ℕ) → m ≤ n → n ≡ max n m
max_left n m h = grind (arith, h)

max_right : (n m : ℕ) → m ≤ n → n ≡ max m n
max_right n m h = grind (arith, h)

pub came_time : (t : Tree) (s : Situation) (es : History) → came t s es ≡ time (λ h. replies t s (outcomes h)) es
came_time t s [] = refl
came_time t s (e ∷ es) = ap (λ n. cond (is_waiting (replies t s (outcomes es))) (suc (length es)) n) (came_time t s es)

-- where both are there, so is the worse
pub either_there : (b c : Bool) (x y z : List Answer) → is_waiting x ≡ false → is_waiting y ≡ false → is_waiting z ≡ false → is_waiting (cond b x (cond c y z)) ≡ false
either_there true c x y z h i j = h
either_there false true x y z h i j = i
either_there false false x y z h i j = j

step : (q r : List Answer) (n a b : ℕ) → a ≤ n → b ≤ n → cond (is_waiting (the_worse q r)) (suc n) (max a b) ≡ max (cond (is_waiting q) (suc n) a) (cond (is_waiting r) (suc n) b)
step [] [] n a b h i = max_left (suc n) (suc n) (omega arith)
step [] (y ∷ r) n a b h i = max_left (suc n) b (omega (arith, i))
step (x ∷ q) [] n a b h i = max_right (suc n) a (omega (arith, h))
step (x ∷ q) (y ∷ r) n a b h i = ap (λ w. cond w (suc n) (max a b)) (either_there _ _ (y ∷ r) (x ∷ q) (x ∷ q ++ y ∷ r) refl refl refl)

time_worse : (f g : History → List Answer) (es : History) → time (λ h. the_worse (f h) (g h)) es ≡ max (time f es) (time g es)
time_worse f g [] = max_left 0 0 (omega arith)
time_worse f g (e ∷ es) =
    ap (λ n. cond (is_waiting (the_worse (f es) (g es))) (suc (length es)) n) (time_worse f g es)
    ∙ step (f es) (g es) (length es) (time f es) (time g es) (time_bound f es) (time_bound g es)

fold_time : (f : History → List Answer) (k : ℕ) (ts : Trees) (s : Situation) (es : History) → time (λ h. fold the_worse (f h) (replies_each k ts s (outcomes h))) es ≡ fold max (time f es) (came_each k ts s es)
fold_time f k none s es = refl
fold_time f k (child t ts) s es =
    fold_time (λ h. the_worse (f h) (replies t (under k s) (outcomes h))) (suc k) ts s es
    ∙ ap (λ n. fold max n (came_each (suc k) ts s es)) (time_worse f (λ h. replies t (under k s) (outcomes h)) es ∙ ap (max (time f es)) (sym (came_time t (under k s) es)))

pub time_of_all_sync : TimeOfAllSync
time_of_all_sync t ts s es =
    came_time (many AllSync (child t ts)) s es
    ∙ fold_time (λ h. replies t (under 0 s) (outcomes h)) 1 ts s es
    ∙ ap (λ n. fold max n (came_each 1 ts s es)) (sym (came_time t (under 0 s) es))

-- ---- searches

-- nothing, or the answers
abbrev Past : List Answer → List Answer → Type 0
Past now r = (r ≡ []) ⊎ (r ≡ now)

pub no_cons : (x : Answer) (q : List Answer) → x ∷ q ≡ [] → ⊥
no_cons x q e = absurd cc

past_back : (f : History → List Answer) (now q r : List Answer) → (q ≢ [] → r ≡ q) → Past now r → Past now q
past_back f now [] r h p = inl refl
past_back f now (x ∷ q) r h (inl e) = inr (absurd (no_cons x q (sym (h (λ w. no_cons x q w)) ∙ e)))
past_back f now (x ∷ q) r h (inr e) = inr (sym (h (λ w. no_cons x q w)) ∙ e)

either_max : (b : Bool) (n i j : ℕ) → i ≤ n → cond b (suc n) (max i j) ≡ max i (cond b (suc n) j)
either_max true n i j h = max_right (suc n) i (omega (arith, h))
either_max false n i j h = refl

none_max : (b : Bool) (n j : ℕ) → j ≤ n → suc n ≡ max (suc n) (cond b (suc n) j)
none_max true n j h = max_left (suc n) (suc n) (omega arith)
none_max false n j h = max_left (suc n) j (omega (arith, h))

-- the second is waited for as well
abbrev GoesOn : (List Answer → List Answer → List Answer) → List Answer → Type 0
GoesOn put now = (r : List Answer) → put now r ≡ r

-- it is as the first
abbrev Stops : (List Answer → List Answer → List Answer) → List Answer → Type 0
Stops put now = (r : List Answer) → put now r ≡ now

step_on : (put : List Answer → List Answer → List Answer) (a : Answer) (more q r : List Answer) (n i j : ℕ) → ((x : List Answer) → put [] x ≡ []) → GoesOn put (a ∷ more) → Past (a ∷ more) q → i ≤ n → j ≤ n
    → cond (is_waiting (put q r)) (suc n) (max i j) ≡ max (cond (is_waiting q) (suc n) i) (cond (is_waiting r) (suc n) j)
step_on put a more q r n i j z g (inl e) h k =
    subst (λ x. cond (is_waiting (put x r)) (suc n) (max i j) ≡ max (cond (is_waiting x) (suc n) i) (cond (is_waiting r) (suc n) j)) (sym e)
    (ap (λ x. cond (is_waiting x) (suc n) (max i j)) (z r) ∙ none_max (is_waiting r) n j k)
step_on put a more q r n i j z g (inr e) h k =
    subst (λ x. cond (is_waiting (put x r)) (suc n) (max i j) ≡ max (cond (is_waiting x) (suc n) i) (cond (is_waiting r) (suc n) j)) (sym e)
    (ap (λ x. cond (is_waiting x) (suc n) (max i j)) (g r) ∙ either_max (is_waiting r) n i j h)

step_stop : (put : List Answer → List Answer → List Answer) (a : Answer) (more q r : List Answer) (n i : ℕ) → ((x : List Answer) → put [] x ≡ []) → Stops put (a ∷ more) → Past (a ∷ more) q
    → cond (is_waiting (put q r)) (suc n) i ≡ cond (is_waiting q) (suc n) i
step_stop put a more q r n i z g (inl e) = ap (λ x. cond (is_waiting x) (suc n) i) (ap (λ x. put x r) e ∙ z r ∙ sym e)
step_stop put a more q r n i z g (inr e) = ap (λ x. cond (is_waiting x) (suc n) i) (ap (λ x. put x r) e ∙ g r ∙ sym e)

time_on : (put : List Answer → List Answer → List Answer) (f g : History → List Answer) (a : Answer) (more : List Answer) (es : History) → ((x : List Answer) → put [] x ≡ []) → GoesOn put (a ∷ more) → IsStable f es → Past (a ∷ more) (f es)
    → time (λ h. put (f h) (g h)) es ≡ max (time f es) (time g es)
time_on put f g a more [] z h i p = max_left 0 0 (omega arith)
time_on put f g a more (e ∷ es) z h i p =
    let q = past_back f (a ∷ more) (f es) (f (e ∷ es)) i.0 p in
    ap (λ n. cond (is_waiting (put (f es) (g es))) (suc (length es)) n) (time_on put f g a more es z h i.1 q)
    ∙ step_on put a more (f es) (g es) (length es) (time f es) (time g es) z h q (time_bound f es) (time_bound g es)

time_stop : (put : List Answer → List Answer → List Answer) (f g : History → List Answer) (a : Answer) (more : List Answer) (es : History) → ((x : List Answer) → put [] x ≡ []) → Stops put (a ∷ more) → IsStable f es → Past (a ∷ more) (f es)
    → time (λ h. put (f h) (g h)) es ≡ time f es
time_stop put f g a more [] z h i p = refl
time_stop put f g a more (e ∷ es) z h i p =
    let q = past_back f (a ∷ more) (f es) (f (e ∷ es)) i.0 p in
    ap (λ n. cond (is_waiting (put (f es) (g es))) (suc (length es)) n) (time_stop put f g a more es z h i.1 q)
    ∙ step_stop put a more (f es) (g es) (length es) (time f es) z h q

pub time_after_error : TimeAfterError
time_after_error f g a more es i e = by_test (is_error a.outcome) refl
  where
    by_test : (b : Bool) → is_error a.outcome ≡ b → time (λ h. or_after_error (f h) (g h)) es ≡ cond b (max (time f es) (time g es)) (time f es)
    by_test true w = time_on or_after_error f g a more es (λ x. refl) (λ r. ap (λ b. cond b r (a ∷ more)) w) i (inr e)
    by_test false w = time_stop or_after_error f g a more es (λ x. refl) (λ r. ap (λ b. cond b r (a ∷ more)) w) i (inr e)

pub time_after_miss : TimeAfterMiss
time_after_miss f g a more es i e = by_test (is_good a.outcome) refl
  where
    by_test : (b : Bool) → is_good a.outcome ≡ b → time (λ h. or_after_miss (f h) (g h)) es ≡ cond b (time f es) (max (time f es) (time g es))
    by_test true w = time_stop or_after_miss f g a more es (λ x. refl) (λ r. ap (λ b. cond b (a ∷ more) r) w) i (inr e)
    by_test false w = time_on or_after_miss f g a more es (λ x. refl) (λ r. ap (λ b. cond b (a ∷ more) r) w) i (inr e)

pub replies_are_stable : RepliesAreStable
replies_are_stable t s c [] h u v = tt
replies_are_stable t s c (e ∷ es) h u v =
    (λ n. ⊎_elim (λ z. absurd (n z)) (λ z. z) (AnswersStay.reply_stays u v (outcomes es) (outcomes (e ∷ es)) (Orders.one_more e.0 e.1 es h.1)), replies_are_stable t s c es h.2 u v)
