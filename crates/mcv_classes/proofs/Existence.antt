-- Each rest has a class, and this class a member.
use Rattle.std.proofs.Common.{◌≡◌, ℕ, zero, suc, ◌<◌, ◌≤◌, ◌⊎◌, inl, inr, Bool, true, false, List, [], ◌∷◌, length, get_or, Some, refl, sym, ap, ◌∙◌, subst, arith}
use Rattle.std.specs.List.{All, Contains}
use Rattle.std.specs.Str.{bytes_eq}
use Rattle.std.proofs.lemmas.Bool.{cases_Bool, cases_lt, false≢true, true≢false}
use Rattle.std.proofs.lemmas.List.Elements.{All-head}
use Rattle.std.proofs.lemmas.Slice.Eq.{bytes_eq-Decides}
use Rattle.mcv_base.specs.Key.{begins_with, is_key_byte, is_key_word}
use Rattle.mcv_classes.specs.Class.{IsClassWord, IsFree, IsMember}
use Rattle.mcv_classes.specs.Words.{class_words, prefixes_in}
use Rattle.mcv_classes.specs.Laws.{RestsHaveClasses}
use Rattle.mcv_classes.proofs.Members.{begins-key, first-free}

-- ---- members of lists

there : (w v : List ℕ) (ws : List (List ℕ)) → Contains ws v → Contains (w ∷ ws) v
there w v ws h = (suc h.0, omega (arith, h.1), h.2)

split-at : (w v : List ℕ) (ws : List (List ℕ)) (k : ℕ) → k < length (w ∷ ws) → get_or (w ∷ ws) k v ≡ v → (w ≡ v) ⊎ Contains ws v
split-at w v ws zero h is = inl is
split-at w v ws (suc k) h is = inr (k, omega (arith, h), is)

split : (w v : List ℕ) (ws : List (List ℕ)) → Contains (w ∷ ws) v → (w ≡ v) ⊎ Contains ws v
split w v ws h = split-at w v ws h.0 h.1 h.2

has-or-not : (ws : List (List ℕ)) (v : List ℕ) → Contains ws v ⊎ (Contains ws v → ⊥)
has-or-not [] v = inr (λ h. absurd (omega (arith, h.1)))
has-or-not (w ∷ ws) v = by (bytes_eq w v) refl (has-or-not ws v)
  where
    by : (b : Bool) → bytes_eq w v ≡ b → Contains ws v ⊎ (Contains ws v → ⊥) → Contains (w ∷ ws) v ⊎ (Contains (w ∷ ws) v → ⊥)
    by true e more = inl (0, omega arith, (bytes_eq-Decides w v).0 e)
    by false e (inl h) = inl (there w v ws h)
    by false e (inr n) = inr (λ h. elim (split w v ws h) as (λ _. ⊥) [ inl same ↦ false≢true (sym e ∙ (bytes_eq-Decides w v).1 same) | inr at ↦ n at ])

-- ---- the longest of the words

-- the longest of u and those of the words with which the rest begins
record IsBest (ws : List (List ℕ)) (rest u v : List ℕ) : Type 0 where
  begins : begins_with rest v ≡ true
  least : length u ≤ length v
  listed : (v ≡ u) ⊎ Contains ws v
  most : (x : List ℕ) → Contains ws x → begins_with rest x ≡ true → length x ≤ length v

best : (ws : List (List ℕ)) (rest u : List ℕ) → begins_with rest u ≡ true → (v : List ℕ) × IsBest ws rest u v
best [] rest u b = (u, record { begins = b; least = omega arith; listed = inl refl; most = λ x h e. absurd (omega (arith, h.1)) })
best (w ∷ ws) rest u b = by (best ws rest) (begins_with rest w) refl (cases_lt (length u) (length w))
  where
    moved : (v : List ℕ) → (v ≡ u) ⊎ Contains ws v → (v ≡ u) ⊎ Contains (w ∷ ws) v
    moved v (inl e) = inl e
    moved v (inr h) = inr (there w v ws h)

    replaced : (v : List ℕ) → (v ≡ w) ⊎ Contains ws v → Contains (w ∷ ws) v
    replaced v (inl e) = (0, omega arith, sym e)
    replaced v (inr h) = there w v ws h

    most-of : (v x : List ℕ) → (begins_with rest w ≡ true → length w ≤ length v) → ((y : List ℕ) → Contains ws y → begins_with rest y ≡ true → length y ≤ length v) → (w ≡ x) ⊎ Contains ws x → begins_with rest x ≡ true → length x ≤ length v
    most-of v x own more (inl e) f =
        let under : length w ≤ length v = own (ap (begins_with rest) e ∙ f) in
        omega (arith, under, ap length e)
    most-of v x own more (inr h) f = more x h f

    by : ((x : List ℕ) → begins_with rest x ≡ true → (v : List ℕ) × IsBest ws rest x v) → (t : Bool) → begins_with rest w ≡ t → (length u < length w) ⊎ (length w ≤ length u) → (v : List ℕ) × IsBest (w ∷ ws) rest u v
    by among false e order =
        let k = among u b in
        (k.0, record { begins = k.1.begins; least = k.1.least; listed = moved k.0 k.1.listed; most = λ x h f. most-of k.0 x (λ g. absurd (true≢false (sym g ∙ e))) k.1.most (split w x ws h) f })
    by among true e (inl longer) =
        let k = among w e in
        let over : length w ≤ length k.0 = k.1.least in
        (k.0, record { begins = k.1.begins; least = omega (arith, longer, over); listed = inr (replaced k.0 k.1.listed); most = λ x h f. most-of k.0 x (λ g. k.1.least) k.1.most (split w x ws h) f })
    by among true e (inr shorter) =
        let k = among u b in
        let over : length u ≤ length k.0 = k.1.least in
        let own : length w ≤ length k.0 = omega (arith, shorter, over) in
        (k.0, record { begins = k.1.begins; least = k.1.least; listed = moved k.0 k.1.listed; most = λ x h f. most-of k.0 x (λ g. own) k.1.most (split w x ws h) f })

class-exists : (ws : List (List ℕ)) (rest : List ℕ) → (v : List ℕ) × IsClassWord ([] ∷ ws) rest v
class-exists ws rest = let k = best ws rest [] refl in (k.0, record { listed = listed k.0 k.1.listed; begins = k.1.begins; longest = λ x h e. longest k.0 k.1 x e (split [] x ws h) })
  where
    listed : (v : List ℕ) → (v ≡ []) ⊎ Contains ws v → Contains ([] ∷ ws) v
    listed v (inl e) = (0, omega arith, sym e)
    listed v (inr h) = there [] v ws h

    longest : (v : List ℕ) → IsBest ws rest [] v → (x : List ℕ) → begins_with rest x ≡ true → ([] ≡ x) ⊎ Contains ws x → length x ≤ length v
    longest v k x f (inl e) = let none : length x ≡ 0 = sym (ap length e) in omega (arith, none)
    longest v k x f (inr h) = k.most x h f

-- ---- the least free byte

free-or-not : (ws : List (List ℕ)) (b : ℕ) → IsFree ws b ⊎ (IsFree ws b → ⊥)
free-or-not ws b = by (cases_lt b 256) (cases_Bool (is_key_byte b)) (has-or-not ws (b ∷ []))
  where
    by : (b < 256) ⊎ (256 ≤ b) → (is_key_byte b ≡ true) ⊎ (is_key_byte b ≡ false) → Contains ws (b ∷ []) ⊎ (Contains ws (b ∷ []) → ⊥) → IsFree ws b ⊎ (IsFree ws b → ⊥)
    by (inr large) k h = inr (λ f. let small : b < 256 = f.small in absurd (omega (arith, small, large)))
    by (inl small) (inr other) h = inr (λ f. true≢false (sym f.key ∙ other))
    by (inl small) (inl key) (inl listed) = inr (λ f. f.unlisted listed)
    by (inl small) (inl key) (inr unlisted) = inl (record { small = small; key = key; unlisted = unlisted })

abbrev IsLeast : List (List ℕ) → ℕ → Type 0
IsLeast ws b = IsFree ws b × ((c : ℕ) → IsFree ws c → b ≤ c)

least-below : (ws : List (List ℕ)) (n : ℕ) → ((b : ℕ) × IsLeast ws b) ⊎ ((c : ℕ) → c < n → IsFree ws c → ⊥)
least-below ws zero = inr (λ c h f. absurd (omega (arith, h)))
least-below ws (suc n) = by (least-below ws n) (free-or-not ws n)
  where
    not-below : ((c : ℕ) → c < n → IsFree ws c → ⊥) → (c : ℕ) → IsFree ws c → (c < n) ⊎ (n ≤ c) → n ≤ c
    not-below none c f (inl less) = absurd (none c less f)
    not-below none c f (inr more) = more

    not-yet : ((c : ℕ) → c < n → IsFree ws c → ⊥) → (IsFree ws n → ⊥) → (c : ℕ) → c < suc n → IsFree ws c → (c < n) ⊎ (n ≤ c) → ⊥
    not-yet none last c h f (inl less) = none c less f
    not-yet none last c h f (inr more) = let same : c ≡ n = omega (arith, h, more) in last (subst (IsFree ws) same f)

    by : ((b : ℕ) × IsLeast ws b) ⊎ ((c : ℕ) → c < n → IsFree ws c → ⊥) → IsFree ws n ⊎ (IsFree ws n → ⊥) → ((b : ℕ) × IsLeast ws b) ⊎ ((c : ℕ) → c < suc n → IsFree ws c → ⊥)
    by (inl found) here = inl found
    by (inr none) (inl f) = inl (n, (f, λ c g. not-below none c g (cases_lt c n)))
    by (inr none) (inr last) = inr (λ c h g. not-yet none last c h g (cases_lt c n))

least-free : (ws : List (List ℕ)) (b : ℕ) → IsFree ws b → (c : ℕ) × IsLeast ws c
least-free ws b f = by (least-below ws 256)
  where
    by : ((c : ℕ) × IsLeast ws c) ⊎ ((c : ℕ) → c < 256 → IsFree ws c → ⊥) → (c : ℕ) × IsLeast ws c
    by (inl found) = found
    by (inr none) = absurd (none b f.small f)

-- ---- each rest has a class with a member

member-exists : (ws : List (List ℕ)) (rest word : List ℕ) → is_key_word rest ≡ true → All (λ b. b < 256) rest → IsClassWord ws rest word → (m : List ℕ) × IsMember ws word (Some m)
member-exists ws [] [] key small c = absurd (false≢true key)
member-exists ws (b ∷ rest) [] key small c =
    let found = least-free ws b (first-free ws b rest key (All-head (λ x. x < 256) b rest small) c) in
    (found.0 ∷ [], (found.0, refl, found.1.0, found.1.1))
member-exists ws rest (w ∷ word) key small c =
    let some : 0 < length (w ∷ word) = omega arith in
    (w ∷ word, (refl, begins-key rest (w ∷ word) key c.begins some))

pub rests_have_classes : RestsHaveClasses
rests_have_classes t rest key small =
    let word = class-exists (prefixes_in t) rest in
    let member = member-exists (class_words t) rest word.0 key small word.1 in
    (word.0, member.0, word.1, member.1)
