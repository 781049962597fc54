-- A call's state follows its outcomes: its launched entries by their numbers.
use Rattle.std.proofs.Common.{◌≡◌, ◌&&◌, ◌||◌, not, cond, inl, inr, ℕ, zero, suc, ◌+◌, ◌<◌, Bool, true, false, nat_eq, List, [], ◌∷◌, map, length, get_or, Option, Some, None, refl, sym, ap, ◌∙◌, subst, arith, true≢false}
use Rattle.std.specs.Prelude.{⊤, filter, slice_get}
use Rattle.std.specs.List.{AllPairs}
use Rattle.std.proofs.Math.Logic.{∥∥₁_elim}
use Rattle.std.proofs.lemmas.Bool.{cases_eq, eq-eqb, ne_eqb}
use Rattle.std.specs.Coded.{Coded-set, coded_list, coded_ℕ}
use mathlib.Core.Logic.{∥∥₁_map}
use Rattle.mcv_base.specs.declared.reply.Outcome.{Outcome}
use Rattle.mcv_route.specs.declared.launch.Launch.{Launch}
use Rattle.mcv_route.specs.Outcomes.{Choice, is_same, outcomes}
use Rattle.mcv_route.specs.Situation.{Situation}
use Rattle.mcv_route.specs.Tree.{Tree}
use Rattle.mcv_rules.specs.Rows.{ComesBefore}
use Rattle.mcv_rules.proofs.Orders.{same_self}
use Rattle.mcv_plan.specs.declared.state.EvalState.{EvalState}
use Rattle.mcv_plan.specs.Evaluation.{IsAfter, IsAwaited, no_leg, shape}
use Rattle.mcv_plan.specs.Laws.{Evaluates}
use Rattle.mcv_plan.specs.Entries.{numbers}
use Rattle.mcv_plan.specs.PastOutcomes.{IsLegal, new_of, own_of}
use Rattle.mcv_plan.specs.ReachedAnswers.{reached}
use Rattle.mcv_plan.specs.State.{State, entries, holds, sends, wave}
use Rattle.mcv_plan.proofs.LaunchedOnce.{first_within, sends_part}
use Rattle.mcv_world.proofs.Numbers.{same_some, no_some}
use Rattle.mcv_events.proofs.Recording.{one_entry}
use Rattle.mcv_core.specs.CallProgress.{CanAdvance, HasOpened, IsAt, IsTracked, Past, count, fresh, history_by, is_sent, launch_at, places_from}
use Rattle.mcv_core.specs.PlannedLegs.{planned_legs}

-- ---- entries by number

pub at_launch : (es : List Launch) (e : ℕ) (l : Launch) → slice_get es e ≡ Some l → launch_at es e ≡ l
at_launch [] e l h = no_some h
at_launch (m ∷ es) zero l h = same_some h
at_launch (m ∷ es) (suc e) l h = at_launch es e l h

pub none_at : (es : List Launch) (e : ℕ) → slice_get es e ≡ None → launch_at es e ≡ no_leg
none_at [] e h = refl
none_at (m ∷ es) zero h = no_some (sym h)
none_at (m ∷ es) (suc e) h = none_at es e h

pub there_at : (es : List Launch) (e : ℕ) → e < length es → slice_get es e ≡ Some (launch_at es e)
there_at [] e low = absurd (omega (arith, low))
there_at (m ∷ es) zero low = refl
there_at (m ∷ es) (suc e) low = there_at es e (omega (arith, low))

pub launch_get : (es : List Launch) (e : ℕ) → launch_at es e ≡ get_or es e no_leg
launch_get [] e = refl
launch_get (m ∷ es) zero = refl
launch_get (m ∷ es) (suc e) = launch_get es e

abbrev AreBelow : ℕ → List ℕ → Type 0
AreBelow n [] = ⊤
AreBelow n (k ∷ ks) = (k < n) × AreBelow n ks

or_second : (b c : Bool) → c ≡ true → (b || c) ≡ true
or_second true c e = refl
or_second false c e = e

are_below : (n : ℕ) (ks : List ℕ) → ((k : ℕ) → holds k ks ≡ true → k < n) → AreBelow n ks
are_below n [] h = tt
are_below n (k ∷ ks) h = (h k (ap (λ b. b || holds k ks) (eq-eqb k k refl)), are_below n ks (λ j t. h j (or_second (nat_eq k j) (holds j ks) t)))

below_numbers : (n from k : ℕ) → holds k (numbers from n) ≡ true → k < from + n
below_numbers zero from k h = absurd (true≢false (sym h))
below_numbers (suc n) from k h =
    elim (cases_eq from k) [
      | inl q ↦ omega (arith, q)
      | inr ne ↦ let m = below_numbers n (suc from) k (sym (ap (λ b. b || holds k (numbers (suc from) n)) (ne_eqb from k ne)) ∙ h) in omega (arith, m)
    ]

-- entries have positions of their own
same_numbers : (es : List Launch) (xs ys : List ℕ) → AllPairs ComesBefore (map (λ l. l.position) es) → AreBelow (length es) xs → AreBelow (length es) ys → map (launch_at es) xs ≡ map (launch_at es) ys → xs ≡ ys
same_numbers es [] [] rising low low2 e = refl
same_numbers es [] (y ∷ ys) rising low low2 e = absurd cc
same_numbers es (x ∷ xs) [] rising low low2 e = absurd cc
same_numbers es (x ∷ xs) (y ∷ ys) rising low low2 e =
    let first : launch_at es x ≡ launch_at es y = cc in
    let others : map (launch_at es) xs ≡ map (launch_at es) ys = cc in
    let same : x ≡ y = one_entry es x y (launch_at es x) (launch_at es y) rising (there_at es x low.0) (there_at es y low2.0) (ap (λ v. v.position) first) in
    ap (λ v. v ∷ xs) same ∙ ap (λ v. y ∷ v) (same_numbers es xs ys rising low.1 low2.1 others)

-- ---- those that pass a test

below_sum : (n m : ℕ) (ks : List ℕ) → n ≡ m → AreBelow n ks → AreBelow m ks
below_sum n m ks e h = subst (λ v. AreBelow v ks) e h

places_below : (test : Launch → Bool) (n : ℕ) (es : List Launch) → AreBelow (n + length es) (places_from n test es)
places_below test n [] = tt
places_below test n (l ∷ es) = by_cases (test l) (below_sum (suc n + length es) (n + suc (length es)) (places_from (suc n) test es) (omega arith) (places_below test (suc n) es))
  where
    by_cases : (b : Bool) → AreBelow (n + suc (length es)) (places_from (suc n) test es) → AreBelow (n + suc (length es)) (cond b (n ∷ places_from (suc n) test es) (places_from (suc n) test es))
    by_cases true others = (omega arith, others)
    by_cases false others = others

map_places : (test : Launch → Bool) (n : ℕ) (es all : List Launch) → ((j : ℕ) (l : Launch) → slice_get es j ≡ Some l → launch_at all (n + j) ≡ l) → map (launch_at all) (places_from n test es) ≡ filter test es
map_places test n [] all h = refl
map_places test n (l ∷ es) all h = by_cases (test l) (map_places test (suc n) es all (λ j m at. let q : suc n + j ≡ n + suc j = omega arith in ap (launch_at all) q ∙ h (suc j) m at))
  where
    here : launch_at all n ≡ l
    here = let z : n + 0 ≡ n = omega arith in ap (launch_at all) (sym z) ∙ h 0 l refl

    by_cases : (b : Bool) → map (launch_at all) (places_from (suc n) test es) ≡ filter test es
        → map (launch_at all) (cond b (n ∷ places_from (suc n) test es) (places_from (suc n) test es)) ≡ cond b (l ∷ filter test es) (filter test es)
    by_cases true others = ap (λ v. v ∷ map (launch_at all) (places_from (suc n) test es)) here ∙ ap (λ v. l ∷ v) others
    by_cases false others = others

not_before : (test : Launch → Bool) (n : ℕ) (es : List Launch) (k : ℕ) → k < n → holds k (places_from n test es) ≡ false
not_before test n [] k low = refl
not_before test n (l ∷ es) k low = by_cases (test l) (not_before test (suc n) es k (omega (arith, low)))
  where
    by_cases : (b : Bool) → holds k (places_from (suc n) test es) ≡ false → holds k (cond b (n ∷ places_from (suc n) test es) (places_from (suc n) test es)) ≡ false
    by_cases true others = ap (λ b. b || holds k (places_from (suc n) test es)) (ne_eqb n k (λ e. omega (arith, low, e))) ∙ others
    by_cases false others = others

pub holds_place : (test : Launch → Bool) (n : ℕ) (es : List Launch) (j : ℕ) (l : Launch) → slice_get es j ≡ Some l → holds (n + j) (places_from n test es) ≡ test l
holds_place test n [] j l at = no_some at
holds_place test n (m ∷ es) zero l at = ap (λ v. holds v (places_from n test (m ∷ es))) z ∙ by_cases (test m) ∙ ap test (same_some at)
  where
    z : n + 0 ≡ n
    z = omega arith

    by_cases : (b : Bool) → holds n (cond b (n ∷ places_from (suc n) test es) (places_from (suc n) test es)) ≡ b
    by_cases true = ap (λ b. b || holds n (places_from (suc n) test es)) (eq-eqb n n refl)
    by_cases false = not_before test (suc n) es n (omega arith)
holds_place test n (m ∷ es) (suc j) l at = ap (λ v. holds v (places_from n test (m ∷ es))) q ∙ by_cases (test m) ∙ holds_place test (suc n) es j l at
  where
    q : n + suc j ≡ suc n + j
    q = omega arith

    by_cases : (b : Bool) → holds (suc n + j) (cond b (n ∷ places_from (suc n) test es) (places_from (suc n) test es)) ≡ holds (suc n + j) (places_from (suc n) test es)
    by_cases true = ap (λ b. b || holds (suc n + j) (places_from (suc n) test es)) (ne_eqb n (suc n + j) (λ e. omega (arith, e)))
    by_cases false = refl

pub holds_first : (test : Launch → Bool) (es : List Launch) (j : ℕ) (l : Launch) → slice_get es j ≡ Some l → holds j (places_from 0 test es) ≡ test l
holds_first test es j l at = let z : 0 + j ≡ j = omega arith in ap (λ v. holds v (places_from 0 test es)) (sym z) ∙ holds_place test 0 es j l at

-- those that pass the second test alone
new_places : (a : List ℕ) (f g : Launch → Bool) (n : ℕ) (es : List Launch) → ((j : ℕ) (l : Launch) → slice_get es j ≡ Some l → holds (n + j) a ≡ f l)
    → new_of a (places_from n g es) ≡ places_from n (λ l. g l && not (f l)) es
new_places a f g n [] h = refl
new_places a f g n (l ∷ es) h = by_cases (g l) (f l) here (new_places a f g (suc n) es (λ j m at. let q : suc n + j ≡ n + suc j = omega arith in ap (λ v. holds v a) q ∙ h (suc j) m at))
  where
    here : holds n a ≡ f l
    here = let z : n + 0 ≡ n = omega arith in ap (λ v. holds v a) (sym z) ∙ h 0 l refl

    by_cases : (b d : Bool) → holds n a ≡ d → new_of a (places_from (suc n) g es) ≡ places_from (suc n) (λ l. g l && not (f l)) es → new_of a (cond b (n ∷ places_from (suc n) g es) (places_from (suc n) g es))
        ≡ cond (b && not d) (n ∷ places_from (suc n) (λ l. g l && not (f l)) es) (places_from (suc n) (λ l. g l && not (f l)) es)
    by_cases true true e others = ap (λ t. cond t (new_of a (places_from (suc n) g es)) (n ∷ new_of a (places_from (suc n) g es))) e ∙ others
    by_cases true false e others = ap (λ t. cond t (new_of a (places_from (suc n) g es)) (n ∷ new_of a (places_from (suc n) g es))) e ∙ ap (λ v. n ∷ v) others
    by_cases false d e others = others

-- ---- what is sent

module _ (t : Tree) (s : Situation) (c : Choice) (es : List Launch) (course : State) (law : Evaluates t s c es course) (past : Past) (legal : IsLegal course past) where
  sends_below : (k : ℕ) → holds k (sends (own_of past) course) ≡ true → k < length es
  sends_below k h =
      let f = sends_part (own_of past) course in
      let among = first_within k (sends (own_of past) course) f.0 (entries course) f.1 h in
      let low = below_numbers (length es) zero k (ap (holds k) (sym law.numbered) ∙ among) in
      omega (arith, low)

  pub sends_are : sends (own_of past) course ≡ places_from 0 (is_sent t s c (history_by es past)) es
  sends_are =
      same_numbers es (sends (own_of past) course) (places_from 0 (is_sent t s c (history_by es past)) es) law.laid.rising (are_below (length es) (sends (own_of past) course) sends_below)
      (below_sum (0 + length es) (length es) (places_from 0 (is_sent t s c (history_by es past)) es) (omega arith) (places_below (is_sent t s c (history_by es past)) 0 es))
      (law.launches past legal ∙ law.laid.all (outcomes (history_by es past)) ∙ sym (map_places (is_sent t s c (history_by es past)) 0 es es (λ j l at. let z : 0 + j ≡ j = omega arith in ap (launch_at es) z ∙ at_launch es j l at)))

-- ---- outcomes

cond_none : {A : Type 0} (b : Bool) (x : A) (o : Option A) → cond b (Some x) o ≡ None → (b ≡ false) × (o ≡ None)
cond_none true x o e = no_some (sym e)
cond_none false x o e = (refl, e)

own_none : (es : List Launch) (past : Past) (e : ℕ) → outcomes (history_by es past) (launch_at es e).position ≡ None → own_of past e ≡ None
own_none es [] e h = refl
own_none es (x ∷ past) e h =
    let parts = cond_none (is_same (launch_at es x.0).position (launch_at es e).position) x.1 (outcomes (history_by es past) (launch_at es e).position) h in
    elim (cases_eq x.0 e) [
      | inl q ↦ absurd (true≢false (sym (ap (λ v. is_same (launch_at es v).position (launch_at es e).position) q ∙ same_self (launch_at es e).position) ∙ parts.0))
      | inr ne ↦ ap (λ b. cond b (Some (reached x.0 x.1 (suc (length past)))) (own_of past e)) (ne_eqb x.0 e ne) ∙ own_none es past e parts.1
    ]

-- ---- one outcome more

module _ (t : Tree) (s : Situation) (c : Choice) (es : List Launch) (past : Past) (old new : EvalState) (e : ℕ) (x : Outcome) (can : CanAdvance t s c es past e) (same : shape new ≡ shape old) where
  awaited : IsAt t s c es past old → IsAwaited past e (shape old)
  awaited at = record {
    launched = ap (holds e) (sends_are t s c es (shape old) at.evaluates past at.legal) ∙ holds_first (is_sent t s c (history_by es past)) es e (launch_at es e) (there_at es e can.known) ∙ can.launched;
    none = own_none es past e can.unheard;
  }

  legal_on : IsAt t s c es past old → IsLegal (shape old) ((e, x) ∷ past)
  legal_on at = let w = awaited at in (w.none, w.launched, at.legal)

  pub tracked_on : (IsAfter past old → IsAwaited past e (shape old) → IsAfter ((e, x) ∷ past) new) → IsTracked t s c es past old → IsTracked t s c es ((e, x) ∷ past) new
  tracked_on heard tracked =
      ∥∥₁_map tracked (λ at. record {
        evaluates = subst (Evaluates t s c es) (sym same) at.evaluates;
        legal = subst (λ v. IsLegal v ((e, x) ∷ past)) (sym same) (legal_on at);
        after = heard at.after (awaited at);
      })

  pub fresh_on : (IsAfter past old → IsAwaited past e (shape old) → fresh new ≡ new_of (sends (own_of past) (shape old)) (sends (own_of ((e, x) ∷ past)) (shape old))) → IsTracked t s c es past old
      → fresh new ≡ places_from 0 (λ l. is_sent t s c (history_by es ((e, x) ∷ past)) l && not (is_sent t s c (history_by es past) l)) es
  fresh_on heard tracked =
      ∥∥₁_elim tracked (Coded-set (coded_list coded_ℕ) _ _) (λ at.
      heard at.after (awaited at)
      ∙ ap (λ v. new_of v (sends (own_of ((e, x) ∷ past)) (shape old))) (sends_are t s c es (shape old) at.evaluates past at.legal)
      ∙ ap (new_of (places_from 0 (is_sent t s c (history_by es past)) es)) (sends_are t s c es (shape old) at.evaluates ((e, x) ∷ past) (legal_on at))
      ∙ new_places (places_from 0 (is_sent t s c (history_by es past)) es) (is_sent t s c (history_by es past)) (is_sent t s c (history_by es ((e, x) ∷ past))) 0 es
      (λ j l there. holds_place (is_sent t s c (history_by es past)) 0 es j l there))

-- ---- before any outcome

pub opened : (t : Tree) (s : Situation) (c : Choice) (es : List Launch) (state : EvalState) → es ≡ planned_legs t s c → Evaluates t s c es (shape state) → count state ≡ length es → IsAfter [] state → fresh state ≡ wave (shape state)
    → HasOpened t s c es state
opened t s c es state planned law counted after wave_is = record {
  planned = planned;
  laid = law.laid;
  counted = counted;
  tracked = ∣ record { evaluates = law; legal = tt; after = after } ∣₁;
  fresh_is = wave_is ∙ sends_are t s c es (shape state) law [] tt;
}
