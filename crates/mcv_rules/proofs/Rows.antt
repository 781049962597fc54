-- What each handle sends, by its children: lists of what each child does, read at the children's numbers.
use Rattle.std.proofs.Common.{◌≡◌, ◌<◌, ◌≤◌, ◌+◌, ◌*◌, ◌⊎◌, inl, inr, cond, ℕ, zero, suc, Bool, true, false, List, [], ◌∷◌, ◌++◌, length, Option, Some, None, option_map, refl, sym, ap, ◌∙◌, subst, arith, add-zero, zero-add}
use Rattle.std.specs.Prelude.{option_and_then, slice_get}
use Rattle.std.proofs.lemmas.Bool.{leb-true, le-leb}
use Rattle.mcv_base.specs.declared.operation.Op.{Op}
use Rattle.mcv_base.specs.declared.reply.Outcome.{Outcome}
use Rattle.mcv_base.specs.declared.reply.Outcome.TheVariants.{Good, Soft, Error}
use Rattle.mcv_base.specs.Reply.{is_error, is_missed, is_good}
use Rattle.mcv_base.specs.Operation.{is_delete}
use Rattle.mcv_route.specs.declared.launch.Launch.{Launch}
use Rattle.mcv_route.specs.Outcomes.{Outcomes, Choice}
use Rattle.mcv_route.specs.Tree.{Range, Tree, Trees, none, child}
use Rattle.mcv_route.specs.Situation.{Situation, under, asynchronous, shadowed, adding, has_passed}
use Rattle.mcv_route.specs.Children.{joined, child_or, rest_of, is_within, of_those_holding, is_policy_for, policy_of, prefix_policy, to_from, to_to, to_both, way_of}
use Rattle.mcv_route.specs.Places.{child_at}
use Rattle.mcv_route.specs.Replies.{Answer, outcome_of, replies, replies_each}
use Rattle.mcv_route.specs.Launched.{launched, launched_each, own_leg, once, in_turn}
use Rattle.mcv_rules.specs.Plan.{IsMissed}
use Rattle.mcv_rules.specs.Rows.{Sends, ChildSends, child_replied, PoolRow, AllSyncRow, AllInitialRow, AllAsyncRow, FailoverRow, MissFailoverReads, MissFailoverWrites, WarmUpReads, WarmUpWrites, MigrateBefore, MigrateDeletes, MigrateFirst, MigrateSecond, MigrateAfter, PrefixSelectorRow, OperationSelectorRow, FirstPolicyCounts}
use Rattle.mcv_rules.proofs.ListMembers.{Among, among_left, among_right, among_either}

-- ---- by a child's number

abbrev each : {A : Type 0} → (ℕ → Tree → A) → ℕ → Trees → List A
each f k none = []
each f k (child t ts) = f k t ∷ each f (suc k) ts

each_at : {A : Type 0} (f : ℕ → Tree → A) (k i : ℕ) (ts : Trees) → slice_get (each f k ts) i ≡ option_map (f (k + i)) (child_at ts i)
each_at f k i none = refl
each_at f k zero (child t ts) = ap (λ n. Some (f n t)) (sym (add-zero k))
each_at f k (suc i) (child t ts) =
    let same : suc k + i ≡ k + suc i = omega arith in
    each_at f (suc k) i ts ∙ ap (λ n. option_map (f n) (child_at ts i)) same

launched_by_each : (k : ℕ) (ts : Trees) (s : Situation) (c : Choice) (o : Outcomes) → launched_each k ts s c o ≡ each (λ n t. launched t (under n s) c o) k ts
launched_by_each k none s c o = refl
launched_by_each k (child t ts) s c o = ap (λ lss. launched t (under k s) c o ∷ lss) (launched_by_each (suc k) ts s c o)

replies_by_each : (k : ℕ) (ts : Trees) (s : Situation) (o : Outcomes) → replies_each k ts s o ≡ each (λ n t. replies t (under n s) o) k ts
replies_by_each k none s o = refl
replies_by_each k (child t ts) s o = ap (λ rs. replies t (under k s) o ∷ rs) (replies_by_each (suc k) ts s o)

pub launched_at : (ts : Trees) (s : Situation) (c : Choice) (o : Outcomes) (i : ℕ) → slice_get (launched_each 0 ts s c o) i ≡ option_map (λ t. launched t (under i s) c o) (child_at ts i)
launched_at ts s c o i =
    ap (λ lss. slice_get lss i) (launched_by_each 0 ts s c o)
    ∙ each_at (λ n t. launched t (under n s) c o) 0 i ts
    ∙ ap (λ n. option_map (λ t. launched t (under n s) c o) (child_at ts i)) (zero-add i)

pub replies_at : (ts : Trees) (s : Situation) (o : Outcomes) (i : ℕ) → slice_get (replies_each 0 ts s o) i ≡ option_map (λ t. replies t (under i s) o) (child_at ts i)
replies_at ts s o i =
    ap (λ rs. slice_get rs i) (replies_by_each 0 ts s o)
    ∙ each_at (λ n t. replies t (under n s) o) 0 i ts
    ∙ ap (λ n. option_map (λ t. replies t (under n s) o) (child_at ts i)) (zero-add i)

from_map : {A B : Type 0} (f : A → B) (r : Option A) (y : B) → option_map f r ≡ Some y → (x : A) × (r ≡ Some x) × (f x ≡ y)
from_map f None y e = absurd (let n : None ≡ Some y = e in cc)
from_map f (Some x) y e = let same : f x ≡ y = cc in (x, refl, same)

from_and_then : {A B : Type 0} (f : A → Option B) (r : Option A) (y : B) → option_and_then f r ≡ Some y → (x : A) × (r ≡ Some x) × (f x ≡ Some y)
from_and_then f None y e = absurd (let n : None ≡ Some y = e in cc)
from_and_then f (Some x) y e = (x, refl, e)

-- ---- members of lists of lists

-- a member of the list at a place
abbrev At : {A : Type 0} → List (List A) → ℕ → A → Type 0
At {A} xss i l = (xs : List A) × (slice_get xss i ≡ Some xs) × Among xs l

there : {A : Type 0} (xs : List A) (xss : List (List A)) (l : A) → At (xs ∷ xss) zero l → Among xs l
there xs xss l h = let same : xs ≡ h.0 = let e : Some xs ≡ Some h.0 = h.1 in cc in subst (λ ys. Among ys l) (sym same) h.2

nowhere : {A : Type 0} {B : Type 0} (i : ℕ) (l : A) → At [] i l → B
nowhere i l h = absurd (let e : None ≡ Some h.0 = h.1 in cc)

joined_at : {A : Type 0} (xss : List (List A)) (l : A) → Among (joined xss) l → (i : ℕ) × At xss i l
joined_at [] l h = absurd h
joined_at (xs ∷ xss) l h = elim (among_either xs (joined xss) l h) [ inl a ↦ (zero, (xs, refl, a)) | inr a ↦ let r = joined_at xss l a in (suc r.0, r.1) ]

in_joined : {A : Type 0} (xss : List (List A)) (i : ℕ) (l : A) → At xss i l → Among (joined xss) l
in_joined [] i l h = nowhere i l h
in_joined (xs ∷ xss) zero l h = among_left xs (joined xss) l (there xs xss l h)
in_joined (xs ∷ xss) (suc i) l h = among_right xs (joined xss) l (in_joined xss i l h)

child_or_at : {A : Type 0} (n : ℕ) (xss : List (List A)) (l : A) → Among (child_or [] n xss) l → At xss n l
child_or_at n [] l h = absurd h
child_or_at zero (xs ∷ xss) l h = (xs, refl, h)
child_or_at (suc n) (xs ∷ xss) l h = child_or_at n xss l h

in_child_or : {A : Type 0} (n : ℕ) (xss : List (List A)) (l : A) → At xss n l → Among (child_or [] n xss) l
in_child_or n [] l h = nowhere n l h
in_child_or zero (xs ∷ xss) l h = there xs xss l h
in_child_or (suc n) (xs ∷ xss) l h = in_child_or n xss l h

rest_at : {A : Type 0} (xss : List (List A)) (i : ℕ) (l : A) → At (rest_of xss) i l → At xss (suc i) l
rest_at [] i l h = h
rest_at (xs ∷ xss) i l h = h

at_rest : {A : Type 0} (xss : List (List A)) (i : ℕ) (l : A) → At xss (suc i) l → At (rest_of xss) i l
at_rest [] i l h = h
at_rest (xs ∷ xss) i l h = h

-- ---- one after another

abbrev pub Passes : (Outcome → Bool) → List Answer → Type 0
Passes test r = (x : Outcome) × (outcome_of r ≡ Some x) × (test x ≡ true)

abbrev pub PassesAt : (Outcome → Bool) → List (List Answer) → ℕ → Type 0
PassesAt test rs j = (r : List Answer) × (slice_get rs j ≡ Some r) × Passes test r

if_among : {A : Type 0} (b : Bool) (ls : List A) (l : A) → Among (cond b ls []) l → (b ≡ true) × Among ls l
if_among true ls l h = (refl, h)
if_among false ls l h = absurd h

once_passes : (test : Outcome → Bool) (r : List Answer) (ls : List Launch) (l : Launch) → Among (once test r ls) l → Passes test r × Among ls l
once_passes test [] ls l h = absurd h
once_passes test (a ∷ r) ls l h = let p = if_among (test a.outcome) ls l h in ((a.outcome, refl, p.0), p.1)

once_in : (test : Outcome → Bool) (r : List Answer) (ls : List Launch) (l : Launch) → Passes test r → Among ls l → Among (once test r ls) l
once_in test [] ls l p h = absurd (let e : None ≡ Some p.0 = p.1 in cc)
once_in test (a ∷ r) ls l p h =
    let same : a.outcome ≡ p.0 = let e : Some a.outcome ≡ Some p.0 = p.1 in cc in
    let passed : test a.outcome ≡ true = ap test same ∙ p.2 in
    rw passed h

pass_more : (test : Outcome → Bool) (r : List Answer) (rs : List (List Answer)) (i : ℕ) → Passes test r → ((j : ℕ) → j < i → PassesAt test rs j) → (j : ℕ) → j < suc i → PassesAt test (r ∷ rs) j
pass_more test r rs i p q zero h = (r, refl, p)
pass_more test r rs i p q (suc j) h = q j (omega (arith, h))

turn_at : (test : Outcome → Bool) (rs : List (List Answer)) (lss : List (List Launch)) (l : Launch) → Among (in_turn test rs lss) l → (i : ℕ) × ((j : ℕ) → j < i → PassesAt test rs j) × At lss i l
turn_at test [] lss l h = absurd h
turn_at test (r ∷ rs) [] l h = absurd h
turn_at test (r ∷ rs) (ls ∷ lss) l h = elim (among_either ls (once test r (in_turn test rs lss)) l h) [
  | inl a ↦ (zero, (λ j e. absurd (omega (arith, e))), (ls, refl, a))
  | inr a ↦ let p = once_passes test r (in_turn test rs lss) l a in let q = turn_at test rs lss l p.1 in (suc q.0, pass_more test r rs q.0 p.0 q.1, q.2)
]

in_turn_at : (test : Outcome → Bool) (rs : List (List Answer)) (lss : List (List Launch)) (i : ℕ) (l : Launch) (r : List Answer) → slice_get rs i ≡ Some r → ((j : ℕ) → j < i → PassesAt test rs j) → At lss i l → Among (in_turn test rs lss) l
in_turn_at test [] lss i l r t p h = absurd (let e : None ≡ Some r = t in cc)
in_turn_at test (q ∷ rs) [] i l r t p h = nowhere i l h
in_turn_at test (q ∷ rs) (ls ∷ lss) zero l r t p h = among_left ls (once test q (in_turn test rs lss)) l (there ls lss l h)
in_turn_at test (q ∷ rs) (ls ∷ lss) (suc i) l r t p h =
    let first = p zero (omega arith) in
    let same : q ≡ first.0 = let e : Some q ≡ Some first.0 = first.1 in cc in
    among_right ls (once test q (in_turn test rs lss)) l
    (once_in test q (in_turn test rs lss) l (subst (Passes test) (sym same) first.2) (in_turn_at test rs lss i l r t (λ j e. p (suc j) (omega (arith, e))) h))

-- ---- by the children

child_sends : (ts : Trees) (s : Situation) (c : Choice) (o : Outcomes) (i : ℕ) (l : Launch) → At (launched_each 0 ts s c o) i l → ChildSends ts i s c o l
child_sends ts s c o i l h =
    let m = from_map (λ t. launched t (under i s) c o) (child_at ts i) h.0 (sym (launched_at ts s c o i) ∙ h.1) in
    (m.0, m.1, subst (λ ls. Among ls l) (sym m.2) h.2)

sends_child : (ts : Trees) (s : Situation) (c : Choice) (o : Outcomes) (i : ℕ) (l : Launch) → ChildSends ts i s c o l → At (launched_each 0 ts s c o) i l
sends_child ts s c o i l h = (launched h.0 (under i s) c o, launched_at ts s c o i ∙ ap (option_map (λ t. launched t (under i s) c o)) h.1, h.2)

child_passes : (test : Outcome → Bool) (ts : Trees) (s : Situation) (o : Outcomes) (j : ℕ) → PassesAt test (replies_each 0 ts s o) j → (x : Outcome) × (child_replied ts j s o ≡ Some x) × (test x ≡ true)
child_passes test ts s o j h =
    let m = from_map (λ t. replies t (under j s) o) (child_at ts j) h.0 (sym (replies_at ts s o j) ∙ h.1) in
    (h.2.0, ap (option_and_then (λ t. outcome_of (replies t (under j s) o))) m.1 ∙ ap outcome_of m.2 ∙ h.2.1, h.2.2)

pub passes_child : (test : Outcome → Bool) (ts : Trees) (s : Situation) (o : Outcomes) (j : ℕ) (x : Outcome) → child_replied ts j s o ≡ Some x → test x ≡ true → PassesAt test (replies_each 0 ts s o) j
passes_child test ts s o j x e h =
    let m = from_and_then (λ t. outcome_of (replies t (under j s) o)) (child_at ts j) x e in
    (replies m.0 (under j s) o, replies_at ts s o j ∙ ap (option_map (λ t. replies t (under j s) o)) m.1, (x, m.2, h))

pub error_of : (r : Option Outcome) (x : Outcome) → r ≡ Some x → is_error x ≡ true → r ≡ Some Error
error_of r Good e h = absurd (let n : false ≡ true = h in cc)
error_of r Soft e h = absurd (let n : false ≡ true = h in cc)
error_of r Error e h = e

pub missed_of : (r : Option Outcome) (x : Outcome) → r ≡ Some x → is_missed x ≡ true → IsMissed r
missed_of r Good e h = absurd (let n : false ≡ true = h in cc)
missed_of r Soft e h = inl e
missed_of r Error e h = inr e

good_of : (r : Option Outcome) (x : Outcome) → r ≡ Some x → is_good x ≡ true → r ≡ Some Good
good_of r Good e h = e
good_of r Soft e h = absurd (let n : false ≡ true = h in cc)
good_of r Error e h = absurd (let n : false ≡ true = h in cc)

pub missed_passes : (ts : Trees) (s : Situation) (o : Outcomes) (j : ℕ) → IsMissed (child_replied ts j s o) → PassesAt is_missed (replies_each 0 ts s o) j
missed_passes ts s o j (inl e) = passes_child is_missed ts s o j Soft e refl
missed_passes ts s o j (inr e) = passes_child is_missed ts s o j Error e refl

-- ---- the rows

pub all_sync_row : AllSyncRow
all_sync_row ts s c o l = (
  λ h. let r = joined_at (launched_each 0 ts s c o) l h in (r.0, child_sends ts s c o r.0 l r.1),
  λ h. in_joined (launched_each 0 ts s c o) h.0 l (sends_child ts s c o h.0 l h.1),
)

pub all_async_row : AllAsyncRow
all_async_row ts s c o l = (
  λ h. let r = joined_at (launched_each 0 ts (asynchronous s) c o) l h in (r.0, child_sends ts (asynchronous s) c o r.0 l r.1),
  λ h. in_joined (launched_each 0 ts (asynchronous s) c o) h.0 l (sends_child ts (asynchronous s) c o h.0 l h.1),
)

pub all_initial_row : AllInitialRow
all_initial_row ts s c o l = (sent, back)
  where
    sent : Among (child_or [] 0 (launched_each 0 ts s c o) ++ joined (rest_of (launched_each 0 ts (asynchronous s) c o))) l → ChildSends ts 0 s c o l ⊎ ((k : ℕ) × ChildSends ts (suc k) (asynchronous s) c o l)
    sent h = elim (among_either (child_or [] 0 (launched_each 0 ts s c o)) (joined (rest_of (launched_each 0 ts (asynchronous s) c o))) l h) [
      | inl a ↦ inl (child_sends ts s c o 0 l (child_or_at 0 (launched_each 0 ts s c o) l a))
      | inr a ↦ let r = joined_at (rest_of (launched_each 0 ts (asynchronous s) c o)) l a in
          inr (r.0, child_sends ts (asynchronous s) c o (suc r.0) l (rest_at (launched_each 0 ts (asynchronous s) c o) r.0 l r.1))
    ]

    back : ChildSends ts 0 s c o l ⊎ ((k : ℕ) × ChildSends ts (suc k) (asynchronous s) c o l) → Among (child_or [] 0 (launched_each 0 ts s c o) ++ joined (rest_of (launched_each 0 ts (asynchronous s) c o))) l
    back (inl h) = among_left (child_or [] 0 (launched_each 0 ts s c o)) (joined (rest_of (launched_each 0 ts (asynchronous s) c o))) l (in_child_or 0 (launched_each 0 ts s c o) l (sends_child ts s c o 0 l h))
    back (inr h) =
        among_right (child_or [] 0 (launched_each 0 ts s c o)) (joined (rest_of (launched_each 0 ts (asynchronous s) c o))) l
        (in_joined (rest_of (launched_each 0 ts (asynchronous s) c o)) h.0 l (at_rest (launched_each 0 ts (asynchronous s) c o) h.0 l (sends_child ts (asynchronous s) c o (suc h.0) l h.1)))

pub failover_row : FailoverRow
failover_row ts s c o l = (
  λ h. let r = turn_at is_error (replies_each 0 ts s o) (launched_each 0 ts s c o) l h in
      (r.0, (λ j e. let p = child_passes is_error ts s o j (r.1 j e) in error_of (child_replied ts j s o) p.0 p.1 p.2), child_sends ts s c o r.0 l r.2),
  λ h. in_turn_at is_error (replies_each 0 ts s o) (launched_each 0 ts s c o) h.0 l (replies h.2.0 (under h.0 s) o)
      (replies_at ts s o h.0 ∙ ap (option_map (λ t. replies t (under h.0 s) o)) h.2.1) (λ j e. passes_child is_error ts s o j Error (h.1 j e) refl) (sends_child ts s c o h.0 l h.2),
)

pub miss_failover_reads : MissFailoverReads
miss_failover_reads ts s c o l reads = rw reads (
  λ h. let r = turn_at is_missed (replies_each 0 ts s o) (launched_each 0 ts s c o) l h in
      (r.0, (λ j e. let p = child_passes is_missed ts s o j (r.1 j e) in missed_of (child_replied ts j s o) p.0 p.1 p.2), child_sends ts s c o r.0 l r.2),
  λ h. in_turn_at is_missed (replies_each 0 ts s o) (launched_each 0 ts s c o) h.0 l (replies h.2.0 (under h.0 s) o)
      (replies_at ts s o h.0 ∙ ap (option_map (λ t. replies t (under h.0 s) o)) h.2.1) (λ j e. missed_passes ts s o j (h.1 j e)) (sends_child ts s c o h.0 l h.2),
)

chosen : (n : ℕ) (ts : Trees) (s : Situation) (c : Choice) (o : Outcomes) (l : Launch) → (Among (child_or [] n (launched_each 0 ts s c o)) l → ChildSends ts n s c o l) × (ChildSends ts n s c o l → Among (child_or [] n (launched_each 0 ts s c o)) l)
chosen n ts s c o l = (λ h. child_sends ts s c o n l (child_or_at n (launched_each 0 ts s c o) l h), λ h. in_child_or n (launched_each 0 ts s c o) l (sends_child ts s c o n l h))

pub miss_failover_writes : MissFailoverWrites
miss_failover_writes ts s c o l writes = rw writes (chosen 0 ts s c o l)

pub prefix_selector_row : PrefixSelectorRow
prefix_selector_row prefixes ts s c o l = chosen (prefix_policy s.rest prefixes) ts s c o l

pub operation_selector_row : OperationSelectorRow
operation_selector_row ops ts s c o l = chosen (policy_of s.op ops) ts s c o l

-- ---- shadows

holding_at : {A : Type 0} (i : ℕ) (rs : List Range) (xss : List (List A)) (l : A) → Among (of_those_holding i rs xss) l → (k : ℕ) × (r : Range) × (slice_get rs k ≡ Some r) × (is_within r i ≡ true) × At xss k l
holding_at i [] xss l h = absurd h
holding_at i (r ∷ rs) [] l h = absurd h
holding_at i (r ∷ rs) (xs ∷ xss) l h = elim (among_either (cond (is_within r i) xs []) (of_those_holding i rs xss) l h) [
  | inl a ↦ let p = if_among (is_within r i) xs l a in (zero, r, refl, p.0, (xs, refl, p.1))
  | inr a ↦ let q = holding_at i rs xss l a in (suc q.0, q.1, q.2, q.3, q.4)
]

in_holding : {A : Type 0} (i : ℕ) (rs : List Range) (xss : List (List A)) (l : A) (k : ℕ) (r : Range) → slice_get rs k ≡ Some r → is_within r i ≡ true → At xss k l → Among (of_those_holding i rs xss) l
in_holding i [] xss l k r e w h = absurd (let n : None ≡ Some r = e in cc)
in_holding i (q ∷ rs) [] l k r e w h = nowhere k l h
in_holding i (q ∷ rs) (xs ∷ xss) l zero r e w h =
    let same : q ≡ r = let f : Some q ≡ Some r = e in cc in
    let inside : is_within q i ≡ true = ap (λ x. is_within x i) same ∙ w in
    among_left (cond (is_within q i) xs []) (of_those_holding i rs xss) l (subst (λ b. Among (cond b xs []) l) (sym inside) (there xs xss l h))
in_holding i (q ∷ rs) (xs ∷ xss) l (suc k) r e w h = among_right (cond (is_within q i) xs []) (of_those_holding i rs xss) l (in_holding i rs xss l k r e w h)

pub pool_row : PoolRow
pool_row p ranges targets s c o l = (sent, back)
  where
    sent : (own_leg p s c ≡ l) ⊎ Among (of_those_holding (c p.symbol) ranges (launched_each 0 targets (shadowed s) c o)) l
        → (own_leg p s c ≡ l) ⊎ ((k : ℕ) × (r : Range) × (slice_get ranges k ≡ Some r) × (is_within r (c p.symbol) ≡ true) × ChildSends targets k (shadowed s) c o l)
    sent (inl e) = inl e
    sent (inr h) =
        let q = holding_at (c p.symbol) ranges (launched_each 0 targets (shadowed s) c o) l h in
        inr (q.0, q.1, q.2, q.3, child_sends targets (shadowed s) c o q.0 l q.4)

    back : (own_leg p s c ≡ l) ⊎ ((k : ℕ) × (r : Range) × (slice_get ranges k ≡ Some r) × (is_within r (c p.symbol) ≡ true) × ChildSends targets k (shadowed s) c o l)
        → (own_leg p s c ≡ l) ⊎ Among (of_those_holding (c p.symbol) ranges (launched_each 0 targets (shadowed s) c o)) l
    back (inl e) = inl e
    back (inr h) = inr (in_holding (c p.symbol) ranges (launched_each 0 targets (shadowed s) c o) l h.0 h.1 h.2 h.3 (sends_child targets (shadowed s) c o h.0 l h.4))

-- ---- warm-ups

missed_once : (r : List Answer) (ls : List Launch) (l : Launch) → IsMissed (outcome_of r) → Among ls l → Among (once is_missed r ls) l
missed_once r ls l (inl e) h = once_in is_missed r ls l (Soft, e, refl) h
missed_once r ls l (inr e) h = once_in is_missed r ls l (Error, e, refl) h

pub warm_up_reads : WarmUpReads
warm_up_reads cold warm exptime s c o l reads = rw reads (sent, back)
  where
    sent : Among (launched cold (under 0 s) c o ++ once is_missed (replies cold (under 0 s) o) (launched warm (under 1 s) c o ++ once is_good (replies warm (under 1 s) o) (launched cold (under 2 (adding s)) c o))) l
        → Sends cold (under 0 s) c o l ⊎ (IsMissed (outcome_of (replies cold (under 0 s) o)) × (Sends warm (under 1 s) c o l ⊎ ((outcome_of (replies warm (under 1 s) o) ≡ Some Good) × Sends cold (under 2 (adding s)) c o l)))
    sent h = elim (among_either (launched cold (under 0 s) c o) (once is_missed (replies cold (under 0 s) o) (launched warm (under 1 s) c o ++ once is_good (replies warm (under 1 s) o) (launched cold (under 2 (adding s)) c o))) l h) [
      | inl a ↦ inl a
      | inr a ↦
          let p = once_passes is_missed (replies cold (under 0 s) o) (launched warm (under 1 s) c o ++ once is_good (replies warm (under 1 s) o) (launched cold (under 2 (adding s)) c o)) l a in
          inr (missed_of (outcome_of (replies cold (under 0 s) o)) p.0.0 p.0.1 p.0.2, behind p.1)
    ]
      where
        behind : Among (launched warm (under 1 s) c o ++ once is_good (replies warm (under 1 s) o) (launched cold (under 2 (adding s)) c o)) l
            → Sends warm (under 1 s) c o l ⊎ ((outcome_of (replies warm (under 1 s) o) ≡ Some Good) × Sends cold (under 2 (adding s)) c o l)
        behind h = elim (among_either (launched warm (under 1 s) c o) (once is_good (replies warm (under 1 s) o) (launched cold (under 2 (adding s)) c o)) l h) [
          | inl a ↦ inl a
          | inr a ↦ let p = once_passes is_good (replies warm (under 1 s) o) (launched cold (under 2 (adding s)) c o) l a in inr (good_of (outcome_of (replies warm (under 1 s) o)) p.0.0 p.0.1 p.0.2, p.1)
        ]

    back : Sends cold (under 0 s) c o l ⊎ (IsMissed (outcome_of (replies cold (under 0 s) o)) × (Sends warm (under 1 s) c o l ⊎ ((outcome_of (replies warm (under 1 s) o) ≡ Some Good) × Sends cold (under 2 (adding s)) c o l)))
        → Among (launched cold (under 0 s) c o ++ once is_missed (replies cold (under 0 s) o) (launched warm (under 1 s) c o ++ once is_good (replies warm (under 1 s) o) (launched cold (under 2 (adding s)) c o))) l
    back (inl h) = among_left (launched cold (under 0 s) c o) _ l h
    back (inr h) = among_right (launched cold (under 0 s) c o) _ l (missed_once (replies cold (under 0 s) o) _ l h.0 (behind h.1))
      where
        behind : Sends warm (under 1 s) c o l ⊎ ((outcome_of (replies warm (under 1 s) o) ≡ Some Good) × Sends cold (under 2 (adding s)) c o l)
            → Among (launched warm (under 1 s) c o ++ once is_good (replies warm (under 1 s) o) (launched cold (under 2 (adding s)) c o)) l
        behind (inl h) = among_left (launched warm (under 1 s) c o) _ l h
        behind (inr h) = among_right (launched warm (under 1 s) c o) _ l (once_in is_good (replies warm (under 1 s) o) (launched cold (under 2 (adding s)) c o) l (Good, h.0, refl) h.1)

pub warm_up_writes : WarmUpWrites
warm_up_writes cold warm exptime s c o l writes = rw writes (λ h. h, λ h. h)

-- ---- migrations

-- an era that began at a moment or after it began after all earlier ones
earlier : (since : Option ℕ) (m n : ℕ) → n ≤ m → has_passed since m ≡ true → has_passed since n ≡ true
earlier None m n h e = absurd (let f : false ≡ true = e in cc)
earlier (Some began) m n h e = let passed : m ≤ began = leb-true m began e in le-leb n began (omega (arith, h, passed))

before : (s : Situation) (start interval : ℕ) → has_passed s.since start ≡ false → way_of s start interval ≡ to_from
before s start interval e = rw e refl

deletes : (s : Situation) (start interval : ℕ) → has_passed s.since start ≡ true → has_passed s.since (start + 2 * interval) ≡ false → is_delete s.op ≡ true → way_of s start interval ≡ to_both
deletes s start interval e f d = rw (e, f, d) refl

after : (s : Situation) (start interval : ℕ) → has_passed s.since (start + 2 * interval) ≡ true → way_of s start interval ≡ to_to
after s start interval f =
    let e : has_passed s.since start ≡ true = earlier s.since (start + 2 * interval) start (omega arith) f in
    rw (e, f) refl

first : (s : Situation) (start interval : ℕ) → has_passed s.since (start + interval) ≡ false → is_delete s.op ≡ false → way_of s start interval ≡ to_from
first s start interval m d = by_tests (has_passed s.since start) (has_passed s.since (start + 2 * interval)) refl refl
  where
    by_tests : (b e : Bool) → has_passed s.since start ≡ b → has_passed s.since (start + 2 * interval) ≡ e → way_of s start interval ≡ to_from
    by_tests false e f g = rw f refl
    by_tests true true f g = absurd (let twice : true ≡ false = sym (earlier s.since (start + 2 * interval) (start + interval) (omega arith) g) ∙ m in cc)
    by_tests true false f g = rw (f, g, d, m) refl

second : (s : Situation) (start interval : ℕ) → has_passed s.since (start + interval) ≡ true → is_delete s.op ≡ false → way_of s start interval ≡ to_to
second s start interval m d = by_test (has_passed s.since (start + 2 * interval)) refl
  where
    by_test : (e : Bool) → has_passed s.since (start + 2 * interval) ≡ e → way_of s start interval ≡ to_to
    by_test true g = after s start interval g
    by_test false g =
        let f : has_passed s.since start ≡ true = earlier s.since (start + interval) start (omega arith) m in
        rw (f, g, d, m) refl

pub migrate_before : MigrateBefore
migrate_before from to start interval s c o l e = rw (before s start interval e) (λ h. h, λ h. h)

pub migrate_deletes : MigrateDeletes
migrate_deletes from to start interval s c o l e f d =
    rw (deletes s start interval e f d)
    (λ h. among_either (launched from (under 0 s) c o) (launched to (under 1 s) c o) l h, back)
  where
    back : Sends from (under 0 s) c o l ⊎ Sends to (under 1 s) c o l → Among (launched from (under 0 s) c o ++ launched to (under 1 s) c o) l
    back (inl h) = among_left (launched from (under 0 s) c o) (launched to (under 1 s) c o) l h
    back (inr h) = among_right (launched from (under 0 s) c o) (launched to (under 1 s) c o) l h

pub migrate_first : MigrateFirst
migrate_first from to start interval s c o l m d = rw (first s start interval m d) (λ h. h, λ h. h)

pub migrate_second : MigrateSecond
migrate_second from to start interval s c o l m d = rw (second s start interval m d) (λ h. h, λ h. h)

pub migrate_after : MigrateAfter
migrate_after from to start interval s c o l f = rw (after s start interval f) (λ h. h, λ h. h)

-- ---- the policy of an operation

-- what the law says with this number
abbrev Counts : Op → List (Option Op) → ℕ → Type 0
Counts op ops n =
    ((j : ℕ) (p : Option Op) → j < n → slice_get ops j ≡ Some p → is_policy_for op p ≡ false)
    × (((p : Option Op) × (slice_get ops n ≡ Some p) × (is_policy_for op p ≡ true)) ⊎ (n ≡ length ops))

passed_over : (op : Op) (q : Option Op) (ops : List (Option Op)) (n : ℕ) → is_policy_for op q ≡ false → ((j : ℕ) (p : Option Op) → j < n → slice_get ops j ≡ Some p → is_policy_for op p ≡ false)
    → (j : ℕ) (p : Option Op) → j < suc n → slice_get (q ∷ ops) j ≡ Some p → is_policy_for op p ≡ false
passed_over op q ops n w f zero p h e = let same : q ≡ p = (let g : Some q ≡ Some p = e in cc) in ap (is_policy_for op) (sym same) ∙ w
passed_over op q ops n w f (suc j) p h e = f j p (omega (arith, h)) e

one_later : (op : Op) (q : Option Op) (ops : List (Option Op)) (n : ℕ) → ((p : Option Op) × (slice_get ops n ≡ Some p) × (is_policy_for op p ≡ true)) ⊎ (n ≡ length ops)
    → ((p : Option Op) × (slice_get (q ∷ ops) (suc n) ≡ Some p) × (is_policy_for op p ≡ true)) ⊎ (suc n ≡ suc (length ops))
one_later op q ops n (inl a) = inl a
one_later op q ops n (inr e) = inr (ap suc e)

counts_by : (op : Op) (q : Option Op) (ops : List (Option Op)) (b : Bool) → is_policy_for op q ≡ b → Counts op ops (policy_of op ops) → Counts op (q ∷ ops) (cond b 0 (suc (policy_of op ops)))
counts_by op q ops true w h = ((λ j p l e. absurd (omega (arith, l))), inl (q, refl, w))
counts_by op q ops false w h = (passed_over op q ops (policy_of op ops) w h.0, one_later op q ops (policy_of op ops) h.1)

pub first_policy_counts : FirstPolicyCounts
first_policy_counts op [] = ((λ j p h e. absurd (omega (arith, h))), inr refl)
first_policy_counts op (q ∷ ops) = counts_by op q ops (is_policy_for op q) refl (first_policy_counts op ops)
