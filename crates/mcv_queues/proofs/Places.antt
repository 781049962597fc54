-- Where a number hangs in a forest.
use Rattle.std.proofs.Common.{◌≡◌, ◌&&◌, ◌||◌, ◌⊎◌, inl, inr, cond, ℕ, ◌<◌, Bool, true, false, nat_lt, Option, Some, None, refl, ap, ◌∙◌}
use Rattle.std.proofs.lemmas.Bool.{eq-eqb, ne_eqb, eqb-true, ltb-true, lt-ltb, and_from, and_parts, or_left, or_right}
use Rattle.mcv_queues.specs.declared.rows.Link.{Link}
use Rattle.mcv_queues.specs.Numbers.{put, names}
use Rattle.mcv_queues.specs.Forest.{left_of, right_of, up_of, is_below, IsForest}

-- ---- small facts

pub put_here : {X : Type 0} (f : ℕ → Option X) (n : ℕ) (w : Option X) → put f n w n ≡ w
put_here f n w = ap (λ b. cond b w (f n)) (eq-eqb n n refl)

pub put_there : {X : Type 0} (f : ℕ → Option X) (n m : ℕ) (w : Option X) → (n ≡ m → ⊥) → put f n w m ≡ f m
put_there f n m w ne = ap (λ b. cond b w (f m)) (ne_eqb n m ne)

pub some_eq : {a b : ℕ} → Some a ≡ Some b → a ≡ b
some_eq e = cc

pub none_some : {X : Type 0} {y : X} → None ≡ Some y → ⊥
none_some e = absurd (cc)

pub apart_bool : (b : Bool) → b ≡ true → b ≡ false → ⊥
apart_bool b e f = absurd (cc)

pub bool_cases : (b : Bool) → (b ≡ true) ⊎ (b ≡ false)
bool_cases true = inl refl
bool_cases false = inr refl

pub or_split : (a b : Bool) → (a || b) ≡ true → (a ≡ true) ⊎ (b ≡ true)
or_split true b e = inl refl
or_split false b e = inr e

pub option_cases : (o : Option ℕ) → (o ≡ None) ⊎ ((n : ℕ) × (o ≡ Some n))
option_cases None = inl refl
option_cases (Some n) = inr (n, refl)

pub names_some : (o : Option ℕ) (n : ℕ) → names o n ≡ true → o ≡ Some n
names_some None n e = absurd (cc)
names_some (Some m) n e = ap (λ j. Some j) (eqb-true m n e)

pub some_names : (o : Option ℕ) (n : ℕ) → o ≡ Some n → names o n ≡ true
some_names o n e = ap (λ b. names b n) e ∙ eq-eqb n n refl

pub cases_names : (o : Option ℕ) (n : ℕ) → (o ≡ Some n) ⊎ (o ≡ Some n → ⊥)
cases_names o n = elim (bool_cases (names o n)) [
  | inl e ↦ inl (names_some o n e)
  | inr e ↦ inr (λ q. apart_bool (names o n) (some_names o n q) e)
]

-- ---- where a number hangs in a forest

pub data Placed (w : ℕ → Bool) (f : ℕ → Option Link) (a b c : Option ℕ) (n : ℕ) : Type 0 where
  is_first : a ≡ Some n → Placed w f a b c n
  is_second : b ≡ Some n → Placed w f a b c n
  is_third : c ≡ Some n → Placed w f a b c n
  hangs : (p : ℕ) → up_of (f n) ≡ Some p → w p ≡ true → p < n → (left_of (f p) ≡ Some n) ⊎ (right_of (f p) ≡ Some n) → Placed w f a b c n

pub below_hangs : (w : ℕ → Bool) (f : ℕ → Option Link) (a b c : Option ℕ) (n : ℕ) (o : Option ℕ) → up_of (f n) ≡ o → is_below w f n o ≡ true → Placed w f a b c n
below_hangs w f a b c n None e h = absurd (cc)
below_hangs w f a b c n (Some p) e h =
    let x = and_parts (w p) (nat_lt p n && (names (left_of (f p)) n || names (right_of (f p)) n)) h in
    let y = and_parts (nat_lt p n) (names (left_of (f p)) n || names (right_of (f p)) n) x.1 in
    hangs p e x.0 (ltb-true p n y.0) (elim (or_split (names (left_of (f p)) n) (names (right_of (f p)) n) y.1) [
      | inl z ↦ inl (names_some (left_of (f p)) n z)
      | inr z ↦ inr (names_some (right_of (f p)) n z)
    ])

pub place : (w : ℕ → Bool) (f : ℕ → Option Link) (a b c : Option ℕ) (n : ℕ) → IsForest w f a b c → w n ≡ true → Placed w f a b c n
place w f a b c n i h = elim (or_split (names a n) _ (i.member n h)) [
  | inl z ↦ is_first (names_some a n z)
  | inr x ↦ elim (or_split (names b n) _ x) [
    | inl z ↦ is_second (names_some b n z)
    | inr y ↦ elim (or_split (names c n) _ y) [
      | inl z ↦ is_third (names_some c n z)
      | inr z ↦ below_hangs w f a b c n (up_of (f n)) refl z
    ]
  ]
]

abbrev pub is_placed : (ℕ → Bool) → (ℕ → Option Link) → Option ℕ → Option ℕ → Option ℕ → ℕ → Bool
is_placed w f a b c n = names a n || (names b n || (names c n || is_below w f n (up_of (f n))))

pub side_names : (l r : Option ℕ) (n : ℕ) → (l ≡ Some n) ⊎ (r ≡ Some n) → (names l n || names r n) ≡ true
side_names l r n (inl e) = or_left _ _ (some_names l n e)
side_names l r n (inr e) = or_right _ _ (some_names r n e)

pub placed : (w : ℕ → Bool) (f : ℕ → Option Link) (a b c : Option ℕ) (n : ℕ) → Placed w f a b c n → is_placed w f a b c n ≡ true
placed w f a b c n (is_first e) = or_left _ _ (some_names a n e)
placed w f a b c n (is_second e) = or_right (names a n) _ (or_left _ _ (some_names b n e))
placed w f a b c n (is_third e) = or_right (names a n) _ (or_right (names b n) _ (or_left _ _ (some_names c n e)))
placed w f a b c n (hangs p e h l s) = or_right (names a n) _ (or_right (names b n) _ (or_right (names c n) _ (ap (λ o. is_below w f n o) e ∙ and_from (w p) _ h (and_from (nat_lt p n) _ (lt-ltb p n l) (side_names _ _ n s)))))
