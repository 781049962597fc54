-- Where a search stops: its replies are those of that child.
use Rattle.std.proofs.Common.{◌≡◌, ◌≢◌, ◌<◌, ◌⊎◌, inl, inr, cond, ℕ, zero, suc, Bool, true, false, List, [], ◌∷◌, Some, None, option_map, refl, sym, ap, ◌∙◌, subst, arith}
use Rattle.std.specs.Prelude.{fold, slice_get}
use Rattle.mcv_base.specs.declared.reply.Outcome.{Outcome}
use Rattle.mcv_base.specs.declared.reply.Outcome.TheVariants.{Good, Soft, Error}
use Rattle.mcv_base.specs.Reply.{is_error, is_missed, is_good}
use Rattle.mcv_route.specs.Outcomes.{Outcomes}
use Rattle.mcv_route.specs.Tree.{Trees}
use Rattle.mcv_route.specs.Situation.{Situation, under}
use Rattle.mcv_route.specs.Children.{together}
use Rattle.mcv_route.specs.Places.{child_at}
use Rattle.mcv_route.specs.Replies.{Answer, outcome_of, or_after_error, or_after_miss, replies, replies_each}
use Rattle.mcv_rules.specs.Plan.{IsMissed}
use Rattle.mcv_rules.specs.Rows.{FailoverReplies, MissFailoverReplies}
use Rattle.mcv_rules.proofs.Rows.{Passes, PassesAt, error_of, missed_of, missed_passes, passes_child, replies_at}

-- the search goes on after answers that pass the test, and stops at all others
record IsSearch (test : Outcome → Bool) (put : List Answer → List Answer → List Answer) : Type 0 where
  goes : (q r : List Answer) → Passes test q → put q r ≡ r
  stops : (q r : List Answer) → (Passes test q → ⊥) → put q r ≡ q

stays : (test : Outcome → Bool) (put : List Answer → List Answer → List Answer) → IsSearch test put → (q : List Answer) (rs : List (List Answer)) → (Passes test q → ⊥) → fold put q rs ≡ q
stays test put h q [] p = refl
stays test put h q (r ∷ rs) p = ap (λ x. fold put x rs) (h.stops q r p) ∙ stays test put h q rs p

stops_at : (test : Outcome → Bool) (put : List Answer → List Answer → List Answer) → IsSearch test put → (r : List Answer) (rs : List (List Answer)) (k : ℕ) (q : List Answer) → slice_get (r ∷ rs) k ≡ Some q
    → ((j : ℕ) → j < k → PassesAt test (r ∷ rs) j) → (Passes test q → ⊥) ⊎ (slice_get (r ∷ rs) (suc k) ≡ None) → fold put r rs ≡ q
stops_at test put h r rs zero q e p (inl f) =
    let same : r ≡ q = let g : Some r ≡ Some q = e in cc in
    subst (λ x. fold put r rs ≡ x) same (stays test put h r rs (subst (λ x. Passes test x → ⊥) (sym same) f))
stops_at test put h r [] zero q e p (inr f) = let g : Some r ≡ Some q = e in cc
stops_at test put h r (r2 ∷ rs) zero q e p (inr f) = absurd (let n : Some r2 ≡ None = f in cc)
stops_at test put h r [] (suc k) q e p f = absurd (let n : None ≡ Some q = e in cc)
stops_at test put h r (r2 ∷ rs) (suc k) q e p f =
    let first = p zero (omega arith) in
    let same : r ≡ first.0 = let g : Some r ≡ Some first.0 = first.1 in cc in
    let on : put r r2 ≡ r2 = h.goes r r2 (subst (Passes test) (sym same) first.2) in
    ap (λ x. fold put x rs) on ∙ stops_at test put h r2 rs k q e (λ j i. p (suc j) (omega (arith, i))) f

together_at : (test : Outcome → Bool) (put : List Answer → List Answer → List Answer) → IsSearch test put → (d : List Answer) (rs : List (List Answer)) (k : ℕ) (q : List Answer) → slice_get rs k ≡ Some q
    → ((j : ℕ) → j < k → PassesAt test rs j) → (Passes test q → ⊥) ⊎ (slice_get rs (suc k) ≡ None) → together put d rs ≡ q
together_at test put h d [] k q e p f = absurd (let n : None ≡ Some q = e in cc)
together_at test put h d (r ∷ rs) k q e p f = stops_at test put h r rs k q e p f

-- ---- after errors, after misses

error_search : IsSearch is_error or_after_error
error_search = record { goes = goes; stops = stops }
  where
    goes : (q r : List Answer) → Passes is_error q → or_after_error q r ≡ r
    goes [] r p = absurd (let n : None ≡ Some p.0 = p.1 in cc)
    goes (a ∷ q) r p =
        let same : a.outcome ≡ p.0 = let e : Some a.outcome ≡ Some p.0 = p.1 in cc in
        ap (λ b. cond b r (a ∷ q)) (ap is_error same ∙ p.2)

    stops : (q r : List Answer) → (Passes is_error q → ⊥) → or_after_error q r ≡ q
    stops [] r p = refl
    stops (a ∷ q) r p = by_test (is_error a.outcome) refl
      where
        by_test : (b : Bool) → is_error a.outcome ≡ b → cond b r (a ∷ q) ≡ a ∷ q
        by_test true e = absurd (p (a.outcome, refl, e))
        by_test false e = refl

miss_search : IsSearch is_missed or_after_miss
miss_search = record { goes = goes; stops = stops }
  where
    hit_or_not : (x : Outcome) (r q : List Answer) → cond (is_good x) q r ≡ cond (is_missed x) r q
    hit_or_not Good r q = refl
    hit_or_not Soft r q = refl
    hit_or_not Error r q = refl

    goes : (q r : List Answer) → Passes is_missed q → or_after_miss q r ≡ r
    goes [] r p = absurd (let n : None ≡ Some p.0 = p.1 in cc)
    goes (a ∷ q) r p =
        let same : a.outcome ≡ p.0 = let e : Some a.outcome ≡ Some p.0 = p.1 in cc in
        hit_or_not a.outcome r (a ∷ q) ∙ ap (λ b. cond b r (a ∷ q)) (ap is_missed same ∙ p.2)

    stops : (q r : List Answer) → (Passes is_missed q → ⊥) → or_after_miss q r ≡ q
    stops [] r p = refl
    stops (a ∷ q) r p = hit_or_not a.outcome r (a ∷ q) ∙ by_test (is_missed a.outcome) refl
      where
        by_test : (b : Bool) → is_missed a.outcome ≡ b → cond b r (a ∷ q) ≡ a ∷ q
        by_test true e = absurd (p (a.outcome, refl, e))
        by_test false e = refl

-- ---- the rows

last_child : (ts : Trees) (s : Situation) (o : Outcomes) (k : ℕ) → child_at ts k ≡ None → slice_get (replies_each 0 ts s o) k ≡ None
last_child ts s o k e = replies_at ts s o k ∙ ap (option_map (λ t. replies t (under k s) o)) e

pub failover_replies : FailoverReplies
failover_replies ts s o k t e before f =
    together_at is_error or_after_error error_search _ (replies_each 0 ts s o) k (replies t (under k s) o)
    (replies_at ts s o k ∙ ap (option_map (λ u. replies u (under k s) o)) e) (λ j i. passes_child is_error ts s o j Error (before j i) refl) (ends f)
  where
    ends : (outcome_of (replies t (under k s) o) ≢ Some Error) ⊎ (child_at ts (suc k) ≡ None) → (Passes is_error (replies t (under k s) o) → ⊥) ⊎ (slice_get (replies_each 0 ts s o) (suc k) ≡ None)
    ends (inl n) = inl (λ p. n (error_of (outcome_of (replies t (under k s) o)) p.0 p.1 p.2))
    ends (inr n) = inr (last_child ts s o (suc k) n)

pub miss_failover_replies : MissFailoverReplies
miss_failover_replies ts s o k t reads e before f = rw reads (
    together_at is_missed or_after_miss miss_search _ (replies_each 0 ts s o) k (replies t (under k s) o)
    (replies_at ts s o k ∙ ap (option_map (λ u. replies u (under k s) o)) e) (λ j i. missed_passes ts s o j (before j i)) (ends f)
    )
  where
    ends : (IsMissed (outcome_of (replies t (under k s) o)) → ⊥) ⊎ (child_at ts (suc k) ≡ None) → (Passes is_missed (replies t (under k s) o) → ⊥) ⊎ (slice_get (replies_each 0 ts s o) (suc k) ≡ None)
    ends (inl n) = inl (λ p. n (missed_of (outcome_of (replies t (under k s) o)) p.0 p.1 p.2))
    ends (inr n) = inr (last_child ts s o (suc k) n)
