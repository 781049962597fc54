-- Which arrival prevails.
use Rattle.std.proofs.Common.{◌≡◌, ◌⊎◌, ◌&&◌, ◌||◌, ◌<◌, ◌≤◌, cond, inl, inr, ⊎_elim, ℕ, zero, suc, ◌+◌, Bool, true, false, List, [], ◌∷◌, Some, refl, sym, ap, ◌∙◌, subst, arith, nat_lt, nat_le, nat_eq}
use Rattle.std.specs.Prelude.{fold}
use Rattle.mcv_route.specs.Verdict.{Has}
use Rattle.mcv_route.specs.Outcomes.{History}
use Rattle.mcv_route.specs.Places.{child_at}
use Rattle.mcv_route.specs.Reply.{Arrival, arrivals, weight, last_worse}
use Rattle.mcv_route.specs.Situation.{Situation}
use Rattle.mcv_route.specs.Tree.{Tree, Trees, none, child}
use Rattle.mcv_rules.specs.Laws.{AllSyncReplies, Prevails, TheLastOfTheWorst, arrival_of}

abbrev IsOver : (w v i j : ℕ) → Type 0
IsOver w v i j = (v < w) ⊎ ((v ≡ w) × (j ≤ i))

over : (w v i j : ℕ) → (nat_lt w v || (nat_eq w v && nat_le i j)) ≡ true → IsOver v w j i
over w v i j e = grind (arith, e)

not_over : (w v i j : ℕ) → (nat_lt w v || (nat_eq w v && nat_le i j)) ≡ false → IsOver w v i j
not_over w v i j e = grind (arith, e)

over_self : (a : Arrival) → Prevails a a
over_self a = inr (refl, omega arith)

over_over : (u w v i j k : ℕ) → IsOver u w i j → IsOver w v j k → IsOver u v i k
over_over u w v i j k (inl e) (inl f) = inl (omega (arith, e, f))
over_over u w v i j k (inl e) (inr f) = inl (omega (arith, e, f.0))
over_over u w v i j k (inr e) (inl f) = inl (omega (arith, e.0, f))
over_over u w v i j k (inr e) (inr f) = inr (f.0 ∙ e.0, omega (arith, e.1, f.1))

-- the second prevails over the first, or the first over the second
which : (a b : Arrival) → ((last_worse a b ≡ b) × Prevails b a) ⊎ ((last_worse a b ≡ a) × Prevails a b)
which a b = by_test (nat_lt (weight a.answer) (weight b.answer) || (nat_eq (weight a.answer) (weight b.answer) && nat_le a.came b.came)) refl
  where
    by_test : (t : Bool) → (nat_lt (weight a.answer) (weight b.answer) || (nat_eq (weight a.answer) (weight b.answer) && nat_le a.came b.came)) ≡ t → ((cond t b a ≡ b) × Prevails b a) ⊎ ((cond t b a ≡ a) × Prevails a b)
    by_test true e = inl (refl, over (weight a.answer) (weight b.answer) a.came b.came e)
    by_test false e = inr (refl, not_over (weight a.answer) (weight b.answer) a.came b.came e)

through : (a b c : Arrival) → Prevails a b → Prevails b c → Prevails a c
through a b c e f = over_over (weight a.answer) (weight b.answer) (weight c.answer) a.came b.came c.came e f

first_below : (a b r : Arrival) → Prevails r (last_worse a b) → Prevails r a
first_below a b r h = ⊎_elim (λ e. through r b a (subst (Prevails r) e.0 h) e.1) (λ e. subst (Prevails r) e.0 h) (which a b)

second_below : (a b r : Arrival) → Prevails r (last_worse a b) → Prevails r b
second_below a b r h = ⊎_elim (λ e. subst (Prevails r) e.0 h) (λ e. through r a b (subst (Prevails r) e.0 h) e.1) (which a b)

fold_among : (a : Arrival) (more : List Arrival) → Has (a ∷ more) (λ b. b ≡ fold last_worse a more)
fold_among a [] = inl refl
fold_among a (b ∷ more) =
    ⊎_elim (λ h. ⊎_elim (λ e. inr (inl (sym e.0 ∙ h))) (λ e. inl (sym e.0 ∙ h)) (which a b)) (λ h. inr (inr h)) (fold_among (last_worse a b) more)

fold_over : (a : Arrival) (more : List Arrival) (b : Arrival) → Has (a ∷ more) (λ x. x ≡ b) → Prevails (fold last_worse a more) b
fold_over a [] b (inl e) = subst (Prevails a) e (over_self a)
fold_over a [] b (inr h) = absurd h
fold_over a (c ∷ more) b (inl e) = subst (Prevails (fold last_worse (last_worse a c) more)) e (first_below a c (fold last_worse (last_worse a c) more) (fold_over (last_worse a c) more (last_worse a c) (inl refl)))
fold_over a (c ∷ more) b (inr (inl e)) = subst (Prevails (fold last_worse (last_worse a c) more)) e (second_below a c (fold last_worse (last_worse a c) more) (fold_over (last_worse a c) more (last_worse a c) (inl refl)))
fold_over a (c ∷ more) b (inr (inr h)) = fold_over (last_worse a c) more b (inr h)

pub the_last_of_the_worst : TheLastOfTheWorst
the_last_of_the_worst d a more = (fold_among a more, fold_over a more)

-- ---- an AllSyncRoute

arrived : (n : ℕ) (ts : Trees) (s : Situation) (es : History) (a : Arrival) → Has (arrivals n ts s es) (λ b. b ≡ a)
    → (k : ℕ) × (t : Tree) × (child_at ts k ≡ Some t) × ((m : ℕ) → m ≡ n + k → arrival_of t m s es ≡ a)
arrived n none s es a h = absurd h
arrived n (child t ts) s es a (inl e) = (0, t, refl, λ m is. let same : m ≡ n = omega (arith, is) in ap (λ i. arrival_of t i s es) same ∙ e)
arrived n (child t ts) s es a (inr h) = let r = arrived (suc n) ts s es a h in (suc r.0, r.1, r.2, λ m is. r.3 m (omega (arith, is)))

arrives : (n : ℕ) (ts : Trees) (s : Situation) (es : History) (k m : ℕ) (t : Tree) → child_at ts k ≡ Some t → m ≡ n + k → Has (arrivals n ts s es) (λ b. b ≡ arrival_of t m s es)
arrives n none s es k m t e is = let h : ⊥ = cc in absurd h
arrives n (child u ts) s es zero m t e is =
    let tree : u ≡ t = cc in
    let same : n ≡ m = omega (arith, is) in
    inl (ap (λ v. arrival_of v n s es) tree ∙ ap (λ i. arrival_of t i s es) same)
arrives n (child u ts) s es (suc k) m t e is = inr (arrives (suc n) ts s es k m t e (omega (arith, is)))

pub all_sync_replies : AllSyncReplies
all_sync_replies none s es some = absurd (some refl)
all_sync_replies (child t ts) s es some =
    let first = arrival_of t 0 s es in
    let more = arrivals 1 ts s es in
    let r = arrived 0 (child t ts) s es (fold last_worse first more) (fold_among first more) in
    let is : arrival_of r.1 r.0 s es ≡ fold last_worse first more = r.3 r.0 (omega arith) in (
      r.0,
      r.1,
      r.2,
      ap (λ a. a.answer) (sym is),
      λ j u at. subst (λ a. Prevails a (arrival_of u j s es)) (sym is) (fold_over first more (arrival_of u j s es) (arrives 0 (child t ts) s es j j u at (omega arith))),
    )
