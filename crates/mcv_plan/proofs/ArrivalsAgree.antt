-- The parts of a plan say what the landed definitions say.
use Rattle.std.proofs.Common.{◌≡◌, ◌⊎◌, inl, inr, ◌<◌, ◌≤◌, cond, max, ℕ, suc, Bool, true, false, ◌&&◌, ◌||◌, nat_lt, nat_le, List, [], ◌∷◌, map, Option, Some, None, option_map, refl, sym, ap, ◌∙◌, arith}
use Rattle.std.specs.Prelude.{◌==◌, fold}
use Rattle.mcv_base.specs.Reply.{badness}
use Rattle.mcv_base.specs.declared.reply.Outcome.{Outcome}
use Rattle.mcv_base.specs.declared.reply.Outcome.TheVariants.{Good, Soft, Error}
use Rattle.mcv_rules.specs.Arrivals as arrivals
use Rattle.mcv_rules.specs.declared.arrival.Answer as answers
use Rattle.mcv_rules.specs.declared.arrival.Arrival.{Arrival}
use Rattle.mcv_rules.specs.declared.status.Source as sources
use Rattle.mcv_rules.specs.declared.arrival.After.{After}
use Rattle.mcv_plan.specs.declared.answer.Source.{Source}
use Rattle.mcv_plan.specs.ReachedAnswers.{Reached, all_answered, at, came_of, goes_on, join, last_came, later, next_answered, prevails, search_from, waits, weight}
use Rattle.mcv_plan.specs.Parts.{said, reached_of}

-- ---- one after another

max_assoc : (a b c : ℕ) → max (max a b) c ≡ max a (max b c)
max_assoc a b c = grind arith

next_next : (w : After) (a b : Reached) (s : Option Reached) (p q : Bool) → goes_on w a.answer.outcome ≡ p → goes_on w b.answer.outcome ≡ q
    → next_answered w (next_answered w (Some a) (Some b)) s ≡ next_answered w (Some a) (next_answered w (Some b) s)
next_next w a b s false q e f = rw (e, e) refl
next_next w a b None true true e f = rw (e, f) refl
next_next w a b (Some c) true true e f = rw (e, f) (ap (λ n. Some (at n c)) (max_assoc a.came b.came c.came))
next_next w a b s true false e f = rw (e, f) refl

next_none : (w : After) (a : Reached) (s : Option Reached) (p : Bool) → goes_on w a.answer.outcome ≡ p → next_answered w (next_answered w (Some a) None) s ≡ next_answered w (Some a) None
next_none w a s true e = rw e refl
next_none w a s false e = rw (e, e) refl

next_assoc : (w : After) (x y s : Option Reached) → next_answered w (next_answered w x y) s ≡ next_answered w x (next_answered w y s)
next_assoc w None y s = refl
next_assoc w (Some a) None s = next_none w a s (goes_on w a.answer.outcome) refl
next_assoc w (Some a) (Some b) s = next_next w a b s (goes_on w a.answer.outcome) (goes_on w b.answer.outcome) refl refl

search_next : (w : After) (x y : Option Reached) (zs : List (Option Reached)) → search_from w (next_answered w x y) zs ≡ next_answered w x (search_from w y zs)
search_next w x y [] = refl
search_next w x y (z ∷ zs) = next_assoc w x y (search_from w z zs)

module _ (g : sources.Source → Source) where
  reached_next : (w : After) (a b : Arrival) → reached_of g (arrivals.next_arrived w a b) ≡ next_answered w (reached_of g a) (reached_of g b)
  reached_next w a b = by_answer a.answer b.answer a.came b.came
    where
      of_answer : Option answers.Answer → ℕ → Option Reached
      of_answer x n = option_map (λ y. record { answer = said g y; came = n }) x

      by_answer : (x y : Option answers.Answer) (n m : ℕ) → reached_of g (arrivals.next_arrived w (record { answer = x; came = n }) (record { answer = y; came = m })) ≡ next_answered w (option_map (λ z. record { answer = said g z; came = n }) x) (option_map (λ z. record { answer = said g z; came = m }) y)
      by_answer None y n m = refl
      by_answer (Some x) y n m = choose (goes_on w x.outcome) x y n m
        where
          choose : (b : Bool) (x : answers.Answer) (y : Option answers.Answer) (n m : ℕ) → reached_of g (cond b (record { answer = y; came = max n m }) (record { answer = Some x; came = n })) ≡ cond b (option_map (λ c. at (max n c.came) c) (option_map (λ z. record { answer = said g z; came = m }) y)) (Some (record { answer = said g x; came = n }))
          choose true x None n m = refl
          choose true x (Some y) n m = refl
          choose false x y n m = refl

  search_is : (w : After) (a : Arrival) (more : List Arrival) → reached_of g (fold (arrivals.next_arrived w) a more) ≡ search_from w (reached_of g a) (map (reached_of g) more)
  search_is w a [] = refl
  search_is w a (b ∷ more) =
      search_is w (arrivals.next_arrived w a b) more ∙ ap (λ z. search_from w z (map (reached_of g) more)) (reached_next w a b) ∙ search_next w (reached_of g a) (reached_of g b) (map (reached_of g) more)

-- one after another
pub search_is_answered : (g : sources.Source → Source) (w : After) (a : Arrival) (more : List Arrival) → reached_of g (fold (arrivals.next_arrived w) a more) ≡ search_from w (reached_of g a) (map (reached_of g) more)
search_is_answered g w a more = search_is g w a more

-- ---- all at once

suc_off : (n : ℕ) → (suc n == 0) ≡ false
suc_off n = grind arith

abbrev goes_over : ℕ → ℕ → ℕ → ℕ → Bool
goes_over w v i j = nat_lt w v || ((w == v) && nat_le i j)

over_on : (w v i j : ℕ) → goes_over w v i j ≡ true → (w < v) ⊎ ((w ≡ v) × (i ≤ j))
over_on w v i j e = grind (arith, e)

over_off : (w v i j : ℕ) → goes_over w v i j ≡ false → (v < w) ⊎ ((w ≡ v) × (j < i))
over_off w v i j e = grind (arith, e)

on_over : (w v i j : ℕ) → (w < v) ⊎ ((w ≡ v) × (i ≤ j)) → goes_over w v i j ≡ true
on_over w v i j (inl h) = grind (arith, h)
on_over w v i j (inr h) = grind (arith, h.0, h.1)

off_over : (w v i j : ℕ) → (v < w) ⊎ ((w ≡ v) × (j < i)) → goes_over w v i j ≡ false
off_over w v i j (inl h) = grind (arith, h)
off_over w v i j (inr h) = grind (arith, h.0, h.1)

on_on : (u v w i j k : ℕ) → (u < v) ⊎ ((u ≡ v) × (i ≤ j)) → (v < w) ⊎ ((v ≡ w) × (j ≤ k)) → (u < w) ⊎ ((u ≡ w) × (i ≤ k))
on_on u v w i j k (inl e) (inl f) = inl (omega (arith, e, f))
on_on u v w i j k (inl e) (inr f) = inl (omega (arith, e, f.0))
on_on u v w i j k (inr e) (inl f) = inl (omega (arith, e.0, f))
on_on u v w i j k (inr e) (inr f) = inr (omega (arith, e.0, f.0), omega (arith, e.1, f.1))

off_off : (u v w i j k : ℕ) → (v < u) ⊎ ((u ≡ v) × (j < i)) → (w < v) ⊎ ((v ≡ w) × (k < j)) → (w < u) ⊎ ((u ≡ w) × (k < i))
off_off u v w i j k (inl e) (inl f) = inl (omega (arith, e, f))
off_off u v w i j k (inl e) (inr f) = inl (omega (arith, e, f.0))
off_off u v w i j k (inr e) (inl f) = inl (omega (arith, e.0, f))
off_off u v w i j k (inr e) (inr f) = inr (omega (arith, e.0, f.0), omega (arith, e.1, f.1))

later_by : (a b c : Reached) (p q : Bool) → goes_over (weight a) (weight b) a.came b.came ≡ p → goes_over (weight b) (weight c) b.came c.came ≡ q → later (later a b) c ≡ later a (later b c)
later_by a b c true true e f =
    let g : goes_over (weight a) (weight c) a.came c.came ≡ true = on_over (weight a) (weight c) a.came c.came (on_on (weight a) (weight b) (weight c) a.came b.came c.came (over_on (weight a) (weight b) a.came b.came e) (over_on (weight b) (weight c) b.came c.came f)) in
    rw (e, f, g) refl
later_by a b c true false e f = rw (e, f, e) refl
later_by a b c false true e f = rw (e, f) refl
later_by a b c false false e f =
    let g : goes_over (weight a) (weight c) a.came c.came ≡ false = off_over (weight a) (weight c) a.came c.came (off_off (weight a) (weight b) (weight c) a.came b.came c.came (over_off (weight a) (weight b) a.came b.came e) (over_off (weight b) (weight c) b.came c.came f)) in
    rw (e, f, e, g) refl

later_later : (a b c : Reached) → later (later a b) c ≡ later a (later b c)
later_later a b c = later_by a b c (goes_over (weight a) (weight b) a.came b.came) (goes_over (weight b) (weight c) b.came c.came) refl refl

pub join_assoc : (x y z : Option Reached) → join (join x y) z ≡ join x (join y z)
join_assoc None y z = refl
join_assoc (Some a) None z = refl
join_assoc (Some a) (Some b) None = refl
join_assoc (Some a) (Some b) (Some c) = ap Some (later_later a b c)

module _ (g : sources.Source → Source) where
  arr : Option answers.Answer → ℕ → Arrival
  arr x n = record { answer = x; came = n }

  pub silent_first : (n m : ℕ) (y : Option answers.Answer) → (arrivals.later (record { answer = None; came = n }) (record { answer = y; came = m })).answer ≡ None
  silent_first n m None = elim (nat_lt 3 3 || ((3 == 3) && nat_le n m)) as (λ t. (cond {A = Arrival} t (record { answer = None; came = m }) (record { answer = None; came = n })).answer ≡ None) [
    | true ↦ refl
    | false ↦ refl
  ]
  silent_first n m (Some y) = by_outcome y.outcome
    where
      by_outcome : (x : Outcome) → (cond {A = Arrival} (nat_lt 3 (badness x) || ((3 == badness x) && nat_le n m)) (record { answer = Some y; came = m }) (record { answer = None; came = n })).answer ≡ None
      by_outcome Good = refl
      by_outcome Soft = refl
      by_outcome Error = refl

  pub silent_second : (n m : ℕ) (x : answers.Answer) → (arrivals.later (record { answer = Some x; came = n }) (record { answer = None; came = m })).answer ≡ None
  silent_second n m x = by_outcome x.outcome
    where
      by_outcome : (o : Outcome) → (cond {A = Arrival} (nat_lt (badness o) 3 || ((badness o == 3) && nat_le n m)) (record { answer = None; came = m }) (record { answer = Some x; came = n })).answer ≡ None
      by_outcome Good = refl
      by_outcome Soft = refl
      by_outcome Error = refl

  both_answered : (n m : ℕ) (x y : answers.Answer) → reached_of g (arrivals.later (record { answer = Some x; came = n }) (record { answer = Some y; came = m }))
      ≡ Some (later (record { answer = said g x; came = n }) (record { answer = said g y; came = m }))
  both_answered n m x y = elim (nat_lt (badness x.outcome) (badness y.outcome) || ((badness x.outcome == badness y.outcome) && nat_le n m))
      as (λ t. reached_of g (cond t (record { answer = Some y; came = m }) (record { answer = Some x; came = n })) ≡ Some (cond t (record { answer = said g y; came = m }) (record { answer = said g x; came = n }))) [
        | true ↦ refl
        | false ↦ refl
      ]

  -- what prevails among all, where all are there
  abbrev Prevails : Option Reached → List Arrival → Arrival → Type 0
  Prevails x more p = ((waits (x ∷ map (reached_of g) more) ≡ 0) × (prevails (x ∷ map (reached_of g) more) ≡ reached_of g p)) ⊎ (((n : ℕ) × (waits (x ∷ map (reached_of g) more) ≡ suc n)) × (p.answer ≡ None))

  silent : (a : Arrival) → a.answer ≡ None → reached_of g a ≡ None
  silent a e = rw e refl

  none_waits : (more : List Arrival) (p : Arrival) → Prevails None more p → p.answer ≡ None
  none_waits more p (inl h) = absurd (let e = h.0 in omega (arith, e))
  none_waits more p (inr h) = h.1

  prevail : (a : Arrival) (more : List Arrival) → Prevails (reached_of g a) more (fold arrivals.later a more)
  prevail a [] = alone a.answer a.came
    where
      alone : (x : Option answers.Answer) (n : ℕ) → Prevails (reached_of g (record { answer = x; came = n })) [] (record { answer = x; came = n })
      alone None n = inr ((0, refl), refl)
      alone (Some x) n = inl (refl, refl)
  prevail a (b ∷ more) = step a.answer b.answer a.came b.came (prevail (arrivals.later a b) more)
    where
      step : (x y : Option answers.Answer) (n m : ℕ) → Prevails (reached_of g (arrivals.later (record { answer = x; came = n }) (record { answer = y; came = m }))) more (fold arrivals.later (arrivals.later (record { answer = x; came = n }) (record { answer = y; came = m })) more)
          → Prevails (reached_of g (record { answer = x; came = n })) (record { answer = y; came = m } ∷ more) (fold arrivals.later (arrivals.later (record { answer = x; came = n }) (record { answer = y; came = m })) more)
      step None y n m h =
          let q = arrivals.later (record { answer = None; came = n }) (record { answer = y; came = m }) in
          inr ((_, refl), none_waits more (fold arrivals.later q more) (rw (silent q (silent_first n m y)) at h))
      step (Some x) None n m h =
          let q = arrivals.later (record { answer = Some x; came = n }) (record { answer = None; came = m }) in
          inr ((_, refl), none_waits more (fold arrivals.later q more) (rw (silent q (silent_second n m x)) at h))
      step (Some x) (Some y) n m h =
          let q = arrivals.later (record { answer = Some x; came = n }) (record { answer = Some y; came = m }) in
          both n m x y (fold arrivals.later q more) (rw (both_answered n m x y) at h)
        where
          both : (n m : ℕ) (x y : answers.Answer) (p : Arrival) → Prevails (Some (later (record { answer = said g x; came = n }) (record { answer = said g y; came = m }))) more p
              → Prevails (Some (record { answer = said g x; came = n })) (record { answer = Some y; came = m } ∷ more) p
          both n m x y p (inl h) = inl (h.0, sym (join_assoc (Some (record { answer = said g x; came = n })) (Some (record { answer = said g y; came = m })) (prevails (map (reached_of g) more))) ∙ h.1)
          both n m x y p (inr h) = inr h

  came_all : (n : ℕ) (more : List Arrival) → waits (map (reached_of g) more) ≡ 0 → fold max n (map (λ b. b.came) more) ≡ max n (last_came (map (reached_of g) more))
  came_all n [] h = grind arith
  came_all n (b ∷ more) h = step b.answer b.came h (λ k. came_all k more)
    where
      step : (y : Option answers.Answer) (m : ℕ) → waits (reached_of g (record { answer = y; came = m }) ∷ map (reached_of g) more) ≡ 0 → ((k : ℕ) → waits (map (reached_of g) more) ≡ 0 → fold max k (map (λ b. b.came) more) ≡ max k (last_came (map (reached_of g) more)))
          → fold max (max n m) (map (λ b. b.came) more) ≡ max n (max (came_of (reached_of g (record { answer = y; came = m }))) (last_came (map (reached_of g) more)))
      step None m h ih = absurd (omega (arith, h))
      step (Some y) m h ih = ih (max n m) h ∙ max_assoc n m (last_came (map (reached_of g) more))

  all_is : (a : Arrival) (more : List Arrival) → reached_of g (arrivals.all_arrived (a ∷ more)) ≡ all_answered (reached_of g a ∷ map (reached_of g) more)
  all_is a more = last a.answer a.came (prevail a more)
    where
      last : (x : Option answers.Answer) (n : ℕ) → Prevails (reached_of g (record { answer = x; came = n })) more (fold arrivals.later (record { answer = x; came = n }) more)
          → reached_of g (arrivals.all_arrived (record { answer = x; came = n } ∷ more)) ≡ all_answered (reached_of g (record { answer = x; came = n }) ∷ map (reached_of g) more)
      last x n (inr h) = rw (h.1, h.0.1, suc_off h.0.0) refl
      last None n (inl h) = absurd (let e = h.0 in omega (arith, e))
      last (Some x) n (inl h) = rw (h.0, h.1) (answered (fold arrivals.later (record { answer = Some x; came = n }) more).answer _ _ _ (came_all n more h.0))
        where
          answered : (z : Option answers.Answer) (k m i : ℕ) → k ≡ m → option_map (λ x. record { answer = said g x; came = k }) z ≡ option_map (at m) (option_map (λ x. record { answer = said g x; came = i }) z)
          answered None k m i e = refl
          answered (Some z) k m i e = ap (λ n. Some (record { answer = said g z; came = n })) e

-- all at once
pub all_is_answered : (g : sources.Source → Source) (a : Arrival) (more : List Arrival) → reached_of g (arrivals.all_arrived (a ∷ more)) ≡ all_answered (reached_of g a ∷ map (reached_of g) more)
all_is_answered g a more = all_is g a more
