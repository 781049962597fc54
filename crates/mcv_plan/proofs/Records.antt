-- The outcomes of a call, as a list of legs' numbers and as a list of positions.
use Rattle.std.proofs.Common.{◌≡◌, ◌<◌, ◌+◌, ◌⊎◌, inl, inr, cond, ℕ, zero, suc, Bool, true, false, nat_eq, List, [], ◌∷◌, ◌++◌, length, map, take, get_or, Option, Some, None, option_map, refl, sym, ap, ap₂, ◌∙◌, arith, length-append}
use Rattle.std.specs.Prelude.{unwrap_or, is_none, is_some, slice_get}
use Rattle.mcv_base.specs.declared.reply.Outcome.{Outcome}
use Rattle.mcv_base.specs.Reply.{outcome_of, part_value}
use Rattle.mcv_route.specs.declared.launch.Answered.{Answered}
use Rattle.mcv_route.specs.Outcomes.{is_same, outcomes}
use Rattle.mcv_rules.specs.Arrivals as arrivals
use Rattle.mcv_rules.specs.Arrivals.{own_found}
use Rattle.mcv_rules.specs.History.{entry_of, history_of, place_of}
use Rattle.mcv_rules.specs.declared.status.Source.TheVariants.{Outcome as sources_place}
use Rattle.mcv_rules.specs.declared.arrival.Arrival.{Arrival}
use Rattle.mcv_rules.specs.declared.status.Source as sources
use Rattle.mcv_rules.proofs.KnownIsHistory.{own_found-grows, count-grows, history_of-append, next_found, outcome_first, own_outcome, outcome_of_answered, outcome_at_place}
use Rattle.mcv_rules.proofs.Orders.{same_is}
use Rattle.mcv_plan.specs.declared.answer.Source.{Source}
use Rattle.mcv_plan.specs.ReachedAnswers.{Reached, reached}
use Rattle.mcv_plan.specs.State.{holds}
use Rattle.mcv_plan.specs.PastOutcomes.{Past, own_of}
use Rattle.mcv_rules.specs.declared.status.Source.TheVariants as variants
use Rattle.mcv_plan.specs.declared.answer.Source.TheVariants.{Entry, Fixed}
use Rattle.mcv_plan.specs.Parts.{IsOwnOf, reached_of}

-- the list has what the numbers say, oldest first; the n-th outcome is of leg number n
abbrev pub Records : (ℕ → ℕ) → (ℕ → List ℕ) → List ℕ → Past → List Answered → Type 0
Records number position ks [] xs = xs ≡ []
Records number position ks (e ∷ es) xs =
    (ys : List Answered) × (a : Answered) × (xs ≡ ys ++ a ∷ []) × (a.position ≡ position e.0) × (outcome_of (part_value a.reply) ≡ e.1) × (number (length es) ≡ e.0)
    × (own_of es e.0 ≡ None) × (holds e.0 ks ≡ true) × Records number position ks es ys

-- no two legs have one position
abbrev pub ArePlacedApart : (ℕ → List ℕ) → List ℕ → Type 0
ArePlacedApart position ks = (j k : ℕ) → holds j ks ≡ true → holds k ks ≡ true → is_same (position j) (position k) ≡ nat_eq j k

abbrev pub numbered_by : (ℕ → ℕ) → sources.Source → Source
numbered_by number (variants.Outcome n) = Entry (number n)
numbered_by number (variants.Fixed f) = Fixed f

take_front : (ys : List Answered) (a : Answered) → take (length ys) (ys ++ a ∷ []) ≡ ys
take_front [] a = refl
take_front (y ∷ ys) a = ap (λ z. y ∷ z) (take_front ys a)

take_whole : (ys : List Answered) (a : Answered) → take (suc (length ys)) (ys ++ a ∷ []) ≡ ys ++ a ∷ []
take_whole [] a = refl
take_whole (y ∷ ys) a = ap (λ z. y ∷ z) (take_whole ys a)

get_last : (ys : List Answered) (a : Answered) → a ≡ get_or (ys ++ a ∷ []) (length ys) a
get_last [] a = refl
get_last (y ∷ ys) a = get_last ys a

within : (ys : List Answered) (a : Answered) → length ys < length (ys ++ a ∷ [])
within [] a = omega arith
within (y ∷ ys) a = let m = within ys a in omega (arith, m)

plus_one : (n : ℕ) → n + 1 ≡ suc n
plus_one n = omega arith

found_last : (p : List ℕ) (ys : List Answered) (a : Answered)
    → own_found p (ys ++ a ∷ []) ≡ next_found (length ys) (length (history_of ys)) a (own_found a.position ys) (is_same a.position p) (own_found p ys)
found_last p ys a =
    (rw (plus_one (length ys), take_whole ys a, take_front ys a) at (own_found-grows p (ys ++ a ∷ []) (length ys) a (within ys a) (get_last ys a)))

count_last : (ys : List Answered) (a : Answered) → length (history_of (ys ++ a ∷ [])) ≡ cond (is_some (own_found a.position ys)) (length (history_of ys)) (suc (length (history_of ys)))
count_last ys a = (rw (plus_one (length ys), take_whole ys a, take_front ys a) at (count-grows (ys ++ a ∷ []) (length ys) a (within ys a) (get_last ys a)))

module _ (number : ℕ → ℕ) (position : ℕ → List ℕ) (ks : List ℕ) (apart : ArePlacedApart position ks) where
  g : sources.Source → Source
  g = numbered_by number

  abbrev answered_of : Option Arrival → Option Reached
  answered_of None = None
  answered_of (Some a) = reached_of (numbered_by number) a

  none_found : (p : List ℕ) (xs : List Answered) → answered_of (own_found p xs) ≡ None → own_found p xs ≡ None
  none_found p xs h = by_outcome (outcomes (history_of xs) p) h
    where
      by_outcome : (r : Option Outcome)
          → answered_of (option_map {U = Arrival} (λ x. record { answer = Some (record { outcome = x; source = sources_place (place_of xs p) }); came = arrivals.heard_at p (history_of xs) }) r) ≡ None
          → option_map {U = Arrival} (λ x. record { answer = Some (record { outcome = x; source = sources_place (place_of xs p) }); came = arrivals.heard_at p (history_of xs) }) r ≡ None
      by_outcome None h = refl
      by_outcome (Some x) h = absurd (cc)

  same_reached : (u v : Outcome) (i j c d : ℕ) → u ≡ v → i ≡ j → c ≡ d → Some (reached i u (suc c)) ≡ Some (reached j v (suc d))
  same_reached u v i j c d e f h = rw (e, f, h) refl

  one_more : (e : ℕ) (x : Outcome) (n : ℕ) (own : Option Reached) (u : Outcome) (m c : ℕ) (before : Option Arrival) (b : Bool) → own ≡ answered_of before → u ≡ x → number m ≡ e → c ≡ n
      → cond b (Some (reached e x (suc n))) own ≡ answered_of (cond b (Some (record { answer = Some (record { outcome = u; source = sources_place m }); came = suc c })) before)
  one_more e x n own u m c before true f g1 g2 g3 = sym (same_reached u x (number m) e c n g1 g2 g3)
  one_more e x n own u m c before false f g1 g2 g3 = f

  unheard : (p : List ℕ) (xs : List Answered) → own_found p xs ≡ None → outcomes (history_of xs) p ≡ None
  unheard p xs h =
      let outcome : Option Arrival → Option Outcome = λ f. option_map (λ a. a.outcome) (unwrap_or f (record { answer = None; came = length (history_of xs) })).answer in
      sym (own_outcome xs p) ∙ ap outcome h

  pub record Said (es : Past) (xs : List Answered) : Type 0 where
    pub count : length xs ≡ length es
    pub heard : length (history_of xs) ≡ length es
    pub history : history_of xs ≡ map (λ e. (position e.0, e.1)) es
    pub found : (k : ℕ) → holds k ks ≡ true → own_of es k ≡ answered_of (own_found (position k) xs)

  pub said : (es : Past) (xs : List Answered) → Records number position ks es xs → Said es xs
  said [] xs h = record { count = rw h refl; heard = rw h refl; history = rw h refl; found = λ k hk. rw h refl }
  said (e ∷ es) xs h =
      let ys = h.0 in
      let a = h.1 in
      let ih = said es ys h.8 in
      let silent : own_found a.position ys ≡ None = rw (h.3) (none_found (position e.0) ys (sym (ih.found e.0 h.7) ∙ h.6)) in
      record {
        count = rw (h.2) (let m = length-append ys (a ∷ []) in omega (arith, m, ih.count));
        heard = rw (h.2, count_last ys a, silent) (ap suc ih.heard);
        history = rw (h.2) (history_of-append ys a ∙ ap (λ r. cond (is_none r) (entry_of a ∷ history_of ys) (history_of ys)) (unheard a.position ys silent) ∙ ap₂ (λ e more. e ∷ more) (ap₂ (λ p x. (p, x)) h.3 h.4) ih.history);
        found = λ k hk.
            rw (h.2, found_last (position k) ys a, silent, (ap (λ p. is_same p (position k)) h.3 ∙ apart e.0 k h.7 hk))
            (one_more e.0 e.1 (length es) (own_of es k) (outcome_of (part_value a.reply)) (length ys) (length (history_of ys)) (own_found (position k) ys) (nat_eq e.0 k) (ih.found k hk) h.4 (ap number ih.count ∙ h.5) ih.heard);
      }

  answered_arrived : (f : Option Arrival) (n : ℕ) → answered_of f ≡ reached_of (numbered_by number) (unwrap_or f (record { answer = None; came = n }))
  answered_arrived None n = refl
  answered_arrived (Some a) n = refl

pub past_is_recorded : (number : ℕ → ℕ) (position : ℕ → List ℕ) (ks : List ℕ) (es : Past) (xs : List Answered) → ArePlacedApart position ks → Records number position ks es xs
    → IsOwnOf (numbered_by number) (arrivals.own_arrived xs) position (own_of es) ks
past_is_recorded number position ks es xs apart h =
    λ k hk. (said number position ks apart es xs h).found k hk ∙ answered_arrived number position ks apart (own_found (position k) xs) (length (history_of xs))

-- ---- the leg of an outcome, by its place in the list

get_cases : (ys : List Answered) (b a : Answered) (n : ℕ) → slice_get (ys ++ b ∷ []) n ≡ Some a → (slice_get ys n ≡ Some a) ⊎ ((n ≡ length ys) × (b ≡ a))
get_cases [] b a zero e = inr (refl, some_is b a e)
  where
    some_is : (x y : Answered) → Some x ≡ Some y → x ≡ y
    some_is x y e = cc
get_cases [] b a (suc n) e = absurd (let f : None ≡ Some a = e in cc)
get_cases (y ∷ ys) b a zero e = inl e
get_cases (y ∷ ys) b a (suc n) e = elim (get_cases ys b a n e) as (λ _. (slice_get ys n ≡ Some a) ⊎ ((suc n ≡ suc (length ys)) × (b ≡ a))) [
  | inl f ↦ inl f
  | inr f ↦ inr (ap suc f.0, f.1)
]

found_place : (xs : List Answered) (p : List ℕ) (a : Answered) → slice_get xs (place_of xs p) ≡ Some a → a.position ≡ p
found_place [] p a e = absurd (let f : None ≡ Some a = e in cc)
found_place (x ∷ xs) p a e = by_test (is_same x.position p) refl e (found_place xs p a)
  where
    some_is : (x y : Answered) → Some x ≡ Some y → x ≡ y
    some_is x y e = cc

    by_test : (t : Bool) → is_same x.position p ≡ t → slice_get (x ∷ xs) (cond t zero (suc (place_of xs p))) ≡ Some a → (slice_get xs (place_of xs p) ≡ Some a → a.position ≡ p) → a.position ≡ p
    by_test true on f ih = ap (λ z. z.position) (sym (some_is x a f)) ∙ same_is x.position p on
    by_test false on f ih = ih f

-- the leg's number, and that it has one
abbrev pub IsNumbered : (ℕ → ℕ) → (ℕ → List ℕ) → List ℕ → ℕ → List ℕ → Type 0
IsNumbered number position ks n p = (holds (number n) ks ≡ true) × (position (number n) ≡ p)

numbered_at : (number : ℕ → ℕ) (position : ℕ → List ℕ) (ks : List ℕ) (apart : ArePlacedApart position ks) (es : Past) (xs : List Answered) → Records number position ks es xs → (n : ℕ) (a : Answered) → slice_get xs n ≡ Some a → IsNumbered number position ks n a.position
numbered_at number position ks apart [] xs h n a e = absurd (let f : None ≡ Some a = ap (λ z. slice_get z n) (sym h) ∙ e in cc)
numbered_at number position ks apart (e ∷ es) xs h n a g =
    let ys = h.0 in
    let last = h.1 in
    let count = (said number position ks apart es ys h.8).count in
    elim (get_cases ys last a n (ap (λ z. slice_get z n) (sym h.2) ∙ g)) as (λ _. IsNumbered number position ks n a.position) [
      | inl f ↦ numbered_at number position ks apart es ys h.8 n a f
      | inr f ↦ let is : number n ≡ e.0 = ap number (f.0 ∙ count) ∙ h.5 in (ap (λ k. holds k ks) is ∙ h.7, ap position is ∙ sym h.3 ∙ ap (λ z. z.position) f.1)
    ]

-- a position with an outcome is that of the leg with this number
pub numbered_place : (number : ℕ → ℕ) (position : ℕ → List ℕ) (ks : List ℕ) → ArePlacedApart position ks → (es : Past) (xs : List Answered) → Records number position ks es xs
    → (p : List ℕ) (x : Outcome) → outcomes (history_of xs) p ≡ Some x → IsNumbered number position ks (place_of xs p) p
numbered_place number position ks apart es xs h p x e = by_entry (slice_get xs (place_of xs p)) refl
  where
    seen_at : option_map outcome_of_answered (slice_get xs (place_of xs p)) ≡ Some x
    seen_at = outcome_at_place xs p ∙ sym (outcome_first xs p) ∙ e

    by_entry : (r : Option Answered) → slice_get xs (place_of xs p) ≡ r → IsNumbered number position ks (place_of xs p) p
    by_entry None f = absurd (let g : None ≡ Some x = ap (option_map outcome_of_answered) (sym f) ∙ seen_at in cc)
    by_entry (Some a) f = let n = numbered_at number position ks apart es xs h (place_of xs p) a f in (n.0, n.1 ∙ found_place xs p a f)
