-- What comes before the first separator: by the place where a search finds it, and as a cut.
use Rattle.std.proofs.Common.{◌≡◌, ◌∙◌, ℕ, ◌+◌, ◌<◌, ◌≤◌, Bool, true, false, true≢false, ◌==◌, List, [], ◌∷◌, ◌++◌, length, take, drop, zero, suc, None, refl, sym, ap, ap₂, subst, arith, if◌then◌else◌}
use Rattle.std.proofs.lemmas.Bool.Decides.{Decides-eqb}
use Rattle.memchr.specs.Find.{IsFirstByte, OccursAt, Passes, is_byte}
use Rattle.memchr.proofs.lemmas.MatchLemmas.{OccursAt-part, OccursAt-from_part}
use Rattle.mcv_base.specs.Key.{IsHashedCut, IsUnseparated, begins_with, hashed_part, separator}
use Rattle.mcv_base.proofs.Cuts.{both, joined}

begins_take : (xs ys : List ℕ) → begins_with xs ys ≡ true → take (length ys) xs ≡ ys
begins_take xs [] is = refl
begins_take [] (y ∷ ys) is = absurd (cc)
begins_take (x ∷ xs) (y ∷ ys) is =
    let parts = both (x == y) (begins_with xs ys) is in
    ap₂ (λ (b : ℕ) (bs : List ℕ). b ∷ bs) ((Decides-eqb x y).0 parts.0) (begins_take xs ys parts.1)

take_begins : (xs ys : List ℕ) → take (length ys) xs ≡ ys → begins_with xs ys ≡ true
take_begins xs [] is = refl
take_begins [] (y ∷ ys) is = absurd (let h : ⊥ = cc in h)
take_begins (x ∷ xs) (y ∷ ys) is =
    let head : x ≡ y = cc in
    let tail : take (length ys) xs ≡ ys = cc in
    joined (x == y) (begins_with xs ys) ((Decides-eqb x y).1 head) (take_begins xs ys tail)

begins_fits : (xs ys : List ℕ) → begins_with xs ys ≡ true → length ys ≤ length xs
begins_fits xs [] is = omega arith
begins_fits [] (y ∷ ys) is = absurd (cc)
begins_fits (x ∷ xs) (y ∷ ys) is = let h = begins_fits xs ys (both (x == y) (begins_with xs ys) is).1 in omega arith

occurs_first : (xs : List ℕ) → begins_with xs separator ≡ true → OccursAt xs separator 0
occurs_first xs is = OccursAt-from_part xs separator 0 (begins_fits xs separator is) (begins_take xs separator is)

first_occurs : (xs : List ℕ) → OccursAt xs separator 0 → begins_with xs separator ≡ true
first_occurs xs at = take_begins xs separator (OccursAt-part xs separator 0 at)

later : (x : ℕ) (xs : List ℕ) (k : ℕ) → OccursAt xs separator k → OccursAt (x ∷ xs) separator (suc k)
later x xs k at = OccursAt-from_part (x ∷ xs) separator (suc k) (let h = at.fits in omega arith) (OccursAt-part xs separator k at)

sooner : (x : ℕ) (xs : List ℕ) (k : ℕ) → OccursAt (x ∷ xs) separator (suc k) → OccursAt xs separator k
sooner x xs k at = OccursAt-from_part xs separator k (let h = at.fits in omega arith) (OccursAt-part (x ∷ xs) separator (suc k) at)

chosen_true : (b : Bool) (xs ys : List ℕ) → b ≡ true → xs ≡ (if b then xs else ys)
chosen_true true xs ys is = refl
chosen_true false xs ys is = absurd (cc)

chosen_false : (b : Bool) (xs ys : List ℕ) → (b ≡ true → ⊥) → ys ≡ (if b then xs else ys)
chosen_false true xs ys differs = absurd (differs refl)
chosen_false false xs ys differs = refl

pub part_at : (rest : List ℕ) (k : ℕ) → OccursAt rest separator k → ((j : ℕ) → j < k → ¬ OccursAt rest separator j) → take k rest ≡ hashed_part rest
part_at [] k at before = absurd (let h = at.fits in let bad : ⊥ = omega arith in bad)
part_at (b ∷ bytes) zero at before = chosen_true (begins_with (b ∷ bytes) separator) [] (b ∷ hashed_part bytes) (first_occurs (b ∷ bytes) at)
part_at (b ∷ bytes) (suc k) at before =
    ap (λ xs. b ∷ xs) (part_at bytes k (sooner b bytes k at) (λ j below here. before (suc j) (omega arith) (later b bytes j here)))
    ∙ chosen_false (begins_with (b ∷ bytes) separator) [] (b ∷ hashed_part bytes) (λ begins. before 0 (omega arith) (occurs_first (b ∷ bytes) begins))

pub part_whole : (rest : List ℕ) → ((j : ℕ) → j ≤ length rest → ¬ OccursAt rest separator j) → rest ≡ hashed_part rest
part_whole [] none = refl
part_whole (b ∷ bytes) none =
    ap (λ xs. b ∷ xs) (part_whole bytes (λ j le here. none (suc j) (omega arith) (later b bytes j here)))
    ∙ chosen_false (begins_with (b ∷ bytes) separator) [] (b ∷ hashed_part bytes) (λ begins. none 0 (omega arith) (occurs_first (b ∷ bytes) begins))

-- bytes without a bar have no separator
pub no_mark : (rest : List ℕ) → IsFirstByte (is_byte 124) rest None → (j : ℕ) → j ≤ length rest → ¬ OccursAt rest separator j
no_mark rest none j le at =
    let fits = at.fits in
    let place : j + 0 ≡ j = omega arith in
    let bar : Passes (is_byte 124) rest (j + 0) = ap (λ b. b == 124) (at.reads 0 (omega arith)) in
    none j (omega arith) (omega arith) (subst (λ k. Passes (is_byte 124) rest k) place bar)

-- ---- as a cut

nil_cons : (x : ℕ) (xs : List ℕ) → [] ≡ x ∷ xs → ⊥
nil_cons x xs is = cc

same_head : (x y : ℕ) (xs ys : List ℕ) → x ∷ xs ≡ y ∷ ys → x ≡ y
same_head x y xs ys is = cc

same_tail : (x y : ℕ) (xs ys : List ℕ) → x ∷ xs ≡ y ∷ ys → xs ≡ ys
same_tail x y xs ys is = cc

begins_cut : (xs ys : List ℕ) → begins_with xs ys ≡ true → xs ≡ ys ++ drop (length ys) xs
begins_cut xs [] is = refl
begins_cut [] (y ∷ ys) is = absurd (cc)
begins_cut (x ∷ xs) (y ∷ ys) is =
    let parts = both (x == y) (begins_with xs ys) is in
    ap₂ (λ (b : ℕ) (bs : List ℕ). b ∷ bs) ((Decides-eqb x y).0 parts.0) (begins_cut xs ys parts.1)

-- `|#|` is 124, 35, 124
none_in_nothing : (front behind : List ℕ) → [] ≡ front ++ separator ++ behind → ⊥
none_in_nothing [] behind is = nil_cons 124 (35 ∷ 124 ∷ behind) is
none_in_nothing (f ∷ front) behind is = nil_cons f (front ++ separator ++ behind) is

none_in_front : (b : ℕ) (bytes behind : List ℕ) → begins_with (b ∷ bytes) separator ≡ false → b ∷ bytes ≡ separator ++ behind → ⊥
none_in_front b bytes behind begins is = true≢false (sym (ap (λ (xs : List ℕ). begins_with xs separator) is) ∙ begins)

none_in_more : (b : ℕ) (bytes front behind : List ℕ) → begins_with (b ∷ bytes) separator ≡ false → IsUnseparated bytes → b ∷ bytes ≡ front ++ separator ++ behind → ⊥
none_in_more b bytes [] behind begins none is = none_in_front b bytes behind begins is
none_in_more b bytes (f ∷ front) behind begins none is = none front behind (same_tail b f bytes (front ++ separator ++ behind) is)

first_in_more : (b : ℕ) (bytes part front behind : List ℕ) → begins_with (b ∷ bytes) separator ≡ false
    → ((f g : List ℕ) → bytes ≡ f ++ separator ++ g → length part ≤ length f) → b ∷ bytes ≡ front ++ separator ++ behind → length (b ∷ part) ≤ length front
first_in_more b bytes part [] behind begins first is = absurd (none_in_front b bytes behind begins is)
first_in_more b bytes part (f ∷ front) behind begins first is =
    let h = first front behind (same_tail b f bytes (front ++ separator ++ behind) is) in
    omega arith

cut_in_front : (bytes : List ℕ) → begins_with bytes separator ≡ true → IsHashedCut bytes []
cut_in_front bytes begins = IsHashedCut.parted (drop (length separator) bytes) (begins_cut bytes separator begins) (λ front more is. omega arith)

cut_in_more : (b : ℕ) (bytes part : List ℕ) → begins_with (b ∷ bytes) separator ≡ false → IsHashedCut bytes part → IsHashedCut (b ∷ bytes) (b ∷ part)
cut_in_more b bytes part begins (IsHashedCut.whole none is) =
    IsHashedCut.whole (λ front behind here. none_in_more b bytes front behind begins none here) (ap (λ xs. b ∷ xs) is)
cut_in_more b bytes part begins (IsHashedCut.parted behind is first) =
    IsHashedCut.parted behind (ap (λ xs. b ∷ xs) is) (λ front more here. first_in_more b bytes part front more begins first here)

cut_by_test : (b : ℕ) (bytes : List ℕ) (t : Bool) → begins_with (b ∷ bytes) separator ≡ t → IsHashedCut bytes (hashed_part bytes)
    → IsHashedCut (b ∷ bytes) (if t then [] else b ∷ hashed_part bytes)
cut_by_test b bytes true begins cut = cut_in_front (b ∷ bytes) begins
cut_by_test b bytes false begins cut = cut_in_more b bytes (hashed_part bytes) begins cut

pub hashed_is_cut : (rest : List ℕ) → IsHashedCut rest (hashed_part rest)
hashed_is_cut [] = IsHashedCut.whole none_in_nothing refl
hashed_is_cut (b ∷ bytes) = cut_by_test b bytes (begins_with (b ∷ bytes) separator) refl (hashed_is_cut bytes)

same_front : (xs ys us vs : List ℕ) → length xs ≡ length ys → xs ++ separator ++ us ≡ ys ++ separator ++ vs → xs ≡ ys
same_front [] [] us vs len is = refl
same_front [] (y ∷ ys) us vs len is = absurd (let h : ⊥ = omega arith in h)
same_front (x ∷ xs) [] us vs len is = absurd (let h : ⊥ = omega arith in h)
same_front (x ∷ xs) (y ∷ ys) us vs len is =
    ap₂ (λ (b : ℕ) (bs : List ℕ). b ∷ bs) (same_head x y (xs ++ separator ++ us) (ys ++ separator ++ vs) is)
    (same_front xs ys us vs (omega arith) (same_tail x y (xs ++ separator ++ us) (ys ++ separator ++ vs) is))

pub one_hashed_cut : (rest part other : List ℕ) → IsHashedCut rest part → IsHashedCut rest other → part ≡ other
one_hashed_cut rest part other (IsHashedCut.whole none is) (IsHashedCut.whole un be) = is ∙ sym be
one_hashed_cut rest part other (IsHashedCut.whole none is) (IsHashedCut.parted more be second) = absurd (none other more be)
one_hashed_cut rest part other (IsHashedCut.parted behind is first) (IsHashedCut.whole un be) = absurd (un part behind is)
one_hashed_cut rest part other (IsHashedCut.parted behind is first) (IsHashedCut.parted more be second) =
    let low : length part ≤ length other = first other more be in
    let high : length other ≤ length part = second part behind is in
    same_front part other behind more (omega arith) (sym is ∙ be)
