-- The breaks after a moment.
use Rattle.std.proofs.Common.{◌≡◌, ◌∙◌, ◌||◌, cond, inl, inr, ℕ, zero, suc, ◌+◌, ◌<◌, ◌≤◌, Bool, true, false, List, [], ◌∷◌, ◌++◌, length, Option, Some, None, refl, sym, ap, subst, arith, true≢false, get_or, fold, map, take, drop}
use Rattle.std.specs.Prelude.{nat_eq, nat_le, nat_lt, if◌then◌else◌}
use Rattle.std.specs.List.{All, Contains, list_any}
use Rattle.std.proofs.lemmas.Bool.{cases_lt, eqb-true}
use Rattle.std.proofs.lemmas.Grind.{common_steps}
use Rattle.std.proofs.lemmas.List.Elements.{All-contains}
use Rattle.std.proofs.lemmas.List.{get_or-take, length-drop, length-map, length-take}
use Rattle.mcv_base.specs.declared.request.Moment.{Moment}
use Rattle.mcv_pools.specs.Table.{is_in, numbered, with_entry}
use Rattle.mcv_route.specs.Eras.{IsBreakTable, IsSince, breaks_of, passed, since_at}
use Rattle.mcv_route.specs.Routes.{RoutesValue}
use Rattle.mcv_route.proofs.Breaks.{era-is}
use Rattle.mcv_route.proofs.OpeningBreak.{since_is_last}
use Rattle.mcv_rules.proofs.ListMembers.{Among, among_left, among_right}
use Rattle.mcv_hub.specs.RemainingEntries.{break_count, breaks_left, breaks_once}
use Rattle.mcv_hub.proofs.Counts.{at_most_all, fewer_pass, one_fewer}

-- ---- each break is among those that are there once

contains_among : (xs : List ℕ) (x : ℕ) → Contains xs x → Among xs x
contains_among xs x h = by xs h.0 h.1 h.2
  where
    by : (ys : List ℕ) (i : ℕ) → i < length ys → get_or ys i x ≡ x → Among ys x
    by [] i low e = absurd (omega (arith, low))
    by (y ∷ ys) zero low e = inl e
    by (y ∷ ys) (suc i) low e = inr (by ys i (omega (arith, low)) e)

any_among : (y : ℕ) (t : List ℕ) → list_any (nat_eq y) t ≡ true → Among t y
any_among y [] e = absurd (true≢false (sym e))
any_among y (z ∷ t) e = by (nat_eq y z) refl e (any_among y t)
  where
    by : (b : Bool) → nat_eq y z ≡ b → (b || list_any (nat_eq y) t) ≡ true → (list_any (nat_eq y) t ≡ true → Among t y) → Among (z ∷ t) y
    by true q f rest = inl (sym (eqb-true y z q))
    by false q f rest = inr (rest f)

kept_one : (t : List ℕ) (y x : ℕ) → Among t x → Among (with_entry nat_eq t y) x
kept_one t y x h = by (is_in nat_eq t y)
  where
    by : (b : Bool) → Among (if b then t else t ++ y ∷ []) x
    by true = h
    by false = among_left t (y ∷ []) x h

put_one : (t : List ℕ) (y : ℕ) → Among (with_entry nat_eq t y) y
put_one t y = by (is_in nat_eq t y) refl
  where
    by : (b : Bool) → is_in nat_eq t y ≡ b → Among (if b then t else t ++ y ∷ []) y
    by true e = any_among y t e
    by false e = among_right t (y ∷ []) y (inl refl)

kept_each : (t xs : List ℕ) (x : ℕ) → Among t x → Among (fold (with_entry nat_eq) t xs) x
kept_each t [] x h = h
kept_each t (y ∷ xs) x h = kept_each (with_entry nat_eq t y) xs x (kept_one t y x h)

put_each : (t xs : List ℕ) (x : ℕ) → Among xs x → Among (fold (with_entry nat_eq) t xs) x
put_each t [] x h = absurd h
put_each t (y ∷ xs) x (inl e) = kept_each (with_entry nat_eq t y) xs x (subst (Among (with_entry nat_eq t y)) e (put_one t y))
put_each t (y ∷ xs) x (inr h) = put_each (with_entry nat_eq t y) xs x h

-- ---- a later moment

later : (m n : ℕ) → m ≤ n → (b : ℕ) → nat_lt n b ≡ true → nat_lt m b ≡ true
later m n h b e = grind (arith, common_steps)

pub no_more_breaks : (r : RoutesValue) (m n : ℕ) → m ≤ n → breaks_left r n ≤ breaks_left r m
no_more_breaks r m n h = fewer_pass (λ b. nat_lt n b) (λ b. nat_lt m b) (later m n h) (breaks_once r)

-- in another era
break_between : (bs : List ℕ) (m n : ℕ) → m ≤ n → (s t : Option ℕ) → IsSince bs m s → IsSince bs n t → (s ≡ t → ⊥) → (b : ℕ) × Contains bs b × (m < b) × (b ≤ n)
break_between bs m n h None None f g other = absurd (other refl)
break_between bs m n h None (Some t) f g other = (t, g.0, All-contains (λ b. m < b) bs t f g.0, g.1)
break_between bs m n h (Some s) None f g other = let far : n < s = All-contains (λ b. n < b) bs s g f.0 in let low = f.1 in absurd (omega (arith, far, low, h))
break_between bs m n h (Some s) (Some t) f g other =
    elim (cases_lt m t) [
      | inl far ↦ (t, g.0, far, g.1)
      | inr low ↦
          let up : t ≤ s = All-contains (λ b. b ≤ m → b ≤ s) bs t f.2 g.0 low in
          let down : s ≤ t = All-contains (λ b. b ≤ n → b ≤ t) bs s g.2 f.0 (let z = f.1 in omega (arith, z, h)) in
          let same : s ≡ t = omega (arith, up, down) in
          absurd (other (ap (λ z. Some z) same))
    ]

pub one_break_less : (r : RoutesValue) (m n : ℕ) → m ≤ n → (since_at (breaks_of r) m ≡ since_at (breaks_of r) n → ⊥) → breaks_left r n + 1 ≤ breaks_left r m
one_break_less r m n h other =
    let bs = breaks_of r in
    let x = break_between bs m n h (since_at bs m) (since_at bs n) (since_is_last bs m) (since_is_last bs n) other in
    let b = x.0 in
    let after : m < b = x.2 in
    let by_then : b ≤ n = x.3 in
    let here : Among (breaks_once r) b = put_each [] bs b (contains_among bs b x.1) in
    let passes : nat_lt m b ≡ true = grind (arith, common_steps) in
    let fails : nat_lt n b ≡ false = grind (arith, common_steps) in
    one_fewer (λ b. nat_lt n b) (λ b. nat_lt m b) (later m n h) (breaks_once r) b here fails passes

pub all_breaks : (r : RoutesValue) (m : ℕ) → breaks_left r m ≤ break_count r
all_breaks r m = at_most_all (λ b. nat_lt m b) (breaks_once r)

-- ---- a table of breaks has each once

top : List ℕ → ℕ
top [] = 0
top (b ∷ bs) = b + top bs

below_top : (bs : List ℕ) (b : ℕ) → Among bs b → b ≤ top bs
unfolding top
below_top [] b h = absurd h
below_top (c ∷ bs) b (inl e) = omega (arith, e)
below_top (c ∷ bs) b (inr h) = let e = below_top bs b h in omega (arith, e)

all_passed : (bs : List ℕ) (m : ℕ) → top bs ≤ m → passed bs m ≡ bs
unfolding top
all_passed [] m h = refl
all_passed (b ∷ bs) m h =
    let low : b ≤ m = omega (arith, h) in
    let e : nat_le b m ≡ true = grind (arith, common_steps) in
    ap (λ c. cond c (b ∷ passed bs m) (passed bs m)) e ∙ ap (λ xs. b ∷ xs) (all_passed bs m (omega (arith, h)))

table_count : (bs ns : List ℕ) → IsBreakTable bs ns → length ns ≡ length (numbered nat_eq bs)
table_count bs ns t =
    let m = top bs in
    let n = length ns in
    let first : All (λ b. b ≤ m) (take n ns) =
    λ k d h.
    let low : k < n = omega (arith, h, length-take n ns) in
    let e = below_top bs (get_or ns k d) (contains_among bs (get_or ns k d) (t.only k d low)) in
    omega (arith, e, get_or-take n ns k d low) in
    let rest : All (λ b. m < b) (drop n ns) = λ k d h. absurd (omega (arith, h, length-drop n ns)) in
    era-is bs ns m n t (omega arith) first rest ∙ ap (λ xs. length (numbered nat_eq xs)) (all_passed bs m (omega arith))

pub table_breaks : (r : RoutesValue) (table : List Moment) → IsBreakTable (breaks_of r) (map (λ m. m.0) table) → length table ≡ break_count r
table_breaks r table t = sym (length-map table (λ (m : Moment). m.0)) ∙ table_count (breaks_of r) (map (λ m. m.0) table) t
