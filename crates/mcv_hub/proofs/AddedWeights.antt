-- Sums of weights, as `u64`s.
use mir.Val.{bool_byte}
use Rattle.std.proofs.Common.{◌≡◌, ◌∙◌, cond, true, false, ℕ, zero, suc, ◌+◌, ◌-◌, ◌^◌, ◌<◌, ◌≤◌, Bool, List, [], ◌∷◌, ◌++◌, ap, arith, count_by, get_or, length, refl, sym, take, take_all}
use Rattle.std.specs.Prelude.{min, sum_by}
use Rattle.std.proofs.lemmas.List.Sums.{sum_by_more, sum_by_push}
use Rattle.mcv_hub.specs.History.{is_began, is_taken}
use Rattle.mcv_base.specs.declared.request.Request.{Request}
use Rattle.mcv_plan.specs.Counts.{capped}
use Rattle.mcv_hub.specs.Weights.{began_bytes, bytes_of, request_bytes, weight}
use Rattle.mcv_hub.specs.declared.entry.Entry.{Entry}

-- ---- sums of two

-- whether the first was cut or not
pub capped_more : (m n had sum : ℕ) → had ≡ capped m → sum ≡ min (had + n) (2 ^ 64 - 1) → sum ≡ capped (m + n)
capped_more m n had sum is total = omega (arith, is, total)

-- or both
capped_both : (m n : ℕ) → min (capped m + capped n) (2 ^ 64 - 1) ≡ capped (m + n)
capped_both m n = omega arith

-- an entry by itself, and what it holds
pub entry_weighs : (n got sum : ℕ) → got ≡ capped n → sum ≡ min (128 + got) (2 ^ 64 - 1) → sum ≡ capped (128 + n)
entry_weighs n got sum is all = omega (arith, is, all)

-- ---- the request of a call for the first key, and for a later one

pub first_began : (r : Request) (k : ℕ) → k ≡ 0 → capped (request_bytes r) ≡ capped (began_bytes r k)
first_began r k e = sym (ap (λ n. capped (began_bytes r n)) e)

pub later_began : (r : Request) (k : ℕ) → (k ≡ 0 → ⊥) → 0 ≡ capped (began_bytes r k)
later_began r zero h = absurd (h refl)
later_began r (suc k) h = refl

-- ---- over the members of a list, one after the other

pub none_summed : {X : Type 0} (f : X → ℕ) (xs : List X) → 0 ≡ capped (sum_by f (take 0 xs))
none_summed f [] = refl
none_summed f (x ∷ xs) = refl

pub one_more_summed : {X : Type 0} (f : X → ℕ) (xs : List X) (i total n sum : ℕ) (d : X) → i < length xs → total ≡ capped (sum_by f (take i xs)) → n ≡ f (get_or xs i d) → sum ≡ min (total + n) (2 ^ 64 - 1) → sum ≡ capped (sum_by f (take (i + 1) xs))
one_more_summed f xs i total n sum d within is its all =
    let more = sum_by_more f xs i d within in
    capped_more (sum_by f (take i xs)) n total sum is all ∙ ap capped (omega (arith, more, its))

pub all_summed : {X : Type 0} (f : X → ℕ) (xs : List X) (i total : ℕ) → length xs ≤ i → total ≡ capped (sum_by f (take i xs)) → total ≡ capped (sum_by f xs)
all_summed f xs i total all is = is ∙ ap (λ ys. capped (sum_by f ys)) (take_all i xs all)

-- ---- over the entries of a history

-- what is counted of none
pub none_counted : (es : List Entry) → es ≡ [] → (0 ≡ count_by is_began es) × (0 ≡ count_by is_taken es) × (0 ≡ bytes_of es)
unfolding bytes_of
none_counted es empty = (ap (count_by is_began) (sym empty), ap (count_by is_taken) (sym empty), ap (λ xs. capped (sum_by weight xs)) (sym empty))

-- a test as a number
pub bool_one : (b : Bool) → bool_byte b ≡ cond b 1 0
bool_one true = refl
bool_one false = refl

-- and of one more
pub one_counted : (p : Entry → Bool) (es new : List Entry) (e : Entry) (had more : ℕ) → had ≡ count_by p es → more ≡ cond (p e) 1 0 → new ≡ es ++ e ∷ [] → had + more ≡ count_by p new
one_counted p es new e had more is its grown =
    let all : count_by p (es ++ e ∷ []) ≡ count_by p es + cond (p e) 1 0 = sum_by_push (λ x. cond (p x) 1 0) es e in
    let sum = ap (count_by p) grown in
    omega (arith, is, its, all, sum)

-- and its bytes
pub bytes_counted : (es new : List Entry) (e : Entry) (had more sum : ℕ) → had ≡ bytes_of es → more ≡ capped (weight e) → sum ≡ min (had + more) (2 ^ 64 - 1) → new ≡ es ++ e ∷ [] → sum ≡ bytes_of new
unfolding bytes_of
bytes_counted es new e had more sum is its all grown =
    all ∙ ap (λ n. min (n + more) (2 ^ 64 - 1)) is ∙ ap (λ n. min (capped (sum_by weight es) + n) (2 ^ 64 - 1)) its ∙ capped_both (sum_by weight es) (weight e)
    ∙ ap capped (sym (sum_by_push weight es e)) ∙ ap (λ xs. capped (sum_by weight xs)) (sym grown)
