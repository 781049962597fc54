-- A stream has one reading.
use Rattle.std.proofs.Common.{◌≡◌, ◌≢◌, ℕ, suc, ◌+◌, ◌≤◌, List, [], ◌∷◌, ◌++◌, length, get_or, take, drop, refl, sym, ap, subst, ◌∙◌, arith, inl, inr}
use Rattle.std.specs.List.{All}
use Rattle.std.proofs.lemmas.List.{take_at, drop_at, length-append, length-take, get_or-take, get_or_at}
use Rattle.std.proofs.lemmas.List.Elements.{All-head, All-tail}
use Rattle.mcv_text.specs.Request.{with_body, AskValue, asking, ItemValue, asked}
use Rattle.mcv_text.specs.Stream.{Awaits, Held, Skips, Failed, IsLine, Begins, by_line, too_long, IsUnfinished, in_line, in_value, AfterLine, AfterValue, stored, no_cr, no_lf, IsValuePart, WaitsForValue, Rests, First, Reads}
use Rattle.mcv_text.specs.Line.{LineValue, whole, stores, unknown, bad, too_large, meaning}

-- the first LF is at one place
line_one : (l m x y : List ℕ) → All (λ b. b ≢ 10) l → All (λ b. b ≢ 10) m → l ++ 10 ∷ x ≡ m ++ 10 ∷ y → (l ≡ m) × (x ≡ y)
line_one [] [] x y p q e = (refl, cc)
line_one [] (b ∷ m) x y p q e = absurd (All-head (λ b. b ≢ 10) b m q (cc))
line_one (a ∷ l) [] x y p q e = absurd (All-head (λ b. b ≢ 10) a l p (cc))
line_one (a ∷ l) (b ∷ m) x y p q e =
    let heads : a ≡ b = cc in
    let tails : l ++ 10 ∷ x ≡ m ++ 10 ∷ y = cc in
    let rest = line_one l m x y (All-tail (λ b. b ≢ 10) a l p) (All-tail (λ b. b ≢ 10) b m q) tails in
    (cc (heads, rest.0), rest.1)

-- fronts of one length are one
front_one : (v w x y : List ℕ) (n : ℕ) → length v ≡ n → length w ≡ n → v ++ x ≡ w ++ y → (v ≡ w) × (x ≡ y)
front_one v w x y n a b e = (sym (take_at v x n a) ∙ ap (take n) e ∙ take_at w y n b, sym (drop_at v x n a) ∙ ap (drop n) e ∙ drop_at w y n b)

value_one : (fields : AskValue) (n : ℕ) (bytes : List ℕ) (i j : ItemValue) (r s : Awaits) → AfterValue fields n bytes i r → AfterValue fields n bytes j s → (i ≡ j) × (r ≡ s)
value_one fields n bytes _ _ _ _ (stored v x lv ev) (stored w y lw ew) =
    let f = front_one v w (13 ∷ 10 ∷ x) (13 ∷ 10 ∷ y) n lv lw (sym ev ∙ ew) in
    let tails : x ≡ y = cc (f.1) in
    (ap (λ t. asked (asking (with_body fields t))) f.0, ap Held tails)
value_one fields n bytes _ _ _ _ (stored v x lv ev) (no_cr w y b lw ne ew) =
    let f = front_one v w (13 ∷ 10 ∷ x) (b ∷ y) n lv lw (sym ev ∙ ew) in absurd (ne (cc (f.1)))
value_one fields n bytes _ _ _ _ (stored v x lv ev) (no_lf w y b lw ne ew) =
    let f = front_one v w (13 ∷ 10 ∷ x) (13 ∷ b ∷ y) n lv lw (sym ev ∙ ew) in absurd (ne (cc (f.1)))
value_one fields n bytes _ _ _ _ (no_cr v x a lv na ev) (stored w y lw ew) =
    let f = front_one v w (a ∷ x) (13 ∷ 10 ∷ y) n lv lw (sym ev ∙ ew) in absurd (na (cc (f.1)))
value_one fields n bytes _ _ _ _ (no_cr v x a lv na ev) (no_cr w y b lw ne ew) = (refl, refl)
value_one fields n bytes _ _ _ _ (no_cr v x a lv na ev) (no_lf w y b lw ne ew) = (refl, refl)
value_one fields n bytes _ _ _ _ (no_lf v x a lv na ev) (stored w y lw ew) =
    let f = front_one v w (13 ∷ a ∷ x) (13 ∷ 10 ∷ y) n lv lw (sym ev ∙ ew) in absurd (na (cc (f.1)))
value_one fields n bytes _ _ _ _ (no_lf v x a lv na ev) (no_cr w y b lw ne ew) = (refl, refl)
value_one fields n bytes _ _ _ _ (no_lf v x a lv na ev) (no_lf w y b lw ne ew) = (refl, refl)

after_one : (m : LineValue) (bytes : List ℕ) (i j : ItemValue) (r s : Awaits) → AfterLine m bytes i r → AfterLine m bytes j s → (i ≡ j) × (r ≡ s)
after_one (whole q) bytes i j r s a b = (a.0 ∙ sym b.0, a.1 ∙ sym b.1)
after_one (stores fields n) bytes i j r s a b = value_one fields n bytes i j r s a b
after_one unknown bytes i j r s a b = (a.0 ∙ sym b.0, a.1 ∙ sym b.1)
after_one bad bytes i j r s a b = (a.0 ∙ sym b.0, a.1 ∙ sym b.1)
after_one (too_large n) bytes i j r s a b = (a.0 ∙ sym b.0, a.1 ∙ sym b.1)

-- a line that ends is not too long
not_both : (bytes l more : List ℕ) → IsLine l → bytes ≡ l ++ 10 ∷ more → All (λ b. b ≢ 10) (take 65537 bytes) → ⊥
not_both bytes l more is e none =
    let n = length l in
    let short : n ≤ 65536 = is.short in
    let len : length bytes ≡ n + suc (length more) = ap length e ∙ length-append l (10 ∷ more) in
    let ten : get_or bytes n 0 ≡ 10 = ap (λ t. get_or t n 0) e ∙ get_or_at l 10 more 0 n refl in
    none n 0 (omega (arith, length-take 65537 bytes)) (get_or-take 65537 bytes n 0 (omega arith) ∙ ten)

begins_one : (bytes : List ℕ) (i j : ItemValue) (r s : Awaits) → Begins bytes i r → Begins bytes j s → (i ≡ j) × (r ≡ s)
begins_one bytes i j r s (by_line l x il el al) (by_line m y im em am) =
    let f = line_one l m x y il.no_end im.no_end (sym el ∙ em) in
    after_one (meaning m) y i j r s (subst (λ (t : List ℕ). AfterLine (meaning t) y i r) f.0 (subst (λ (t : List ℕ). AfterLine (meaning l) t i r) f.1 al)) am
begins_one bytes i j r s (by_line l x il el al) (too_long big none ei er) = absurd (not_both bytes l x il el none)
begins_one bytes i j r s (too_long big none ei er) (by_line m y im em am) = absurd (not_both bytes m y im em none)
begins_one bytes i j r s (too_long big none ei er) (too_long big' none' ej es) = (ei ∙ sym ej, er ∙ sym es)

part_or_whole : (fields : AskValue) (n : ℕ) (bytes : List ℕ) (i : ItemValue) (r : Awaits) → IsValuePart n bytes → AfterValue fields n bytes i r → ⊥
part_or_whole fields n bytes _ _ (inl short) (stored v x lv ev) = omega (arith, ap length ev, length-append v (13 ∷ 10 ∷ x))
part_or_whole fields n bytes _ _ (inl short) (no_cr v x b lv ne ev) = omega (arith, ap length ev, length-append v (b ∷ x))
part_or_whole fields n bytes _ _ (inl short) (no_lf v x b lv ne ev) = omega (arith, ap length ev, length-append v (13 ∷ b ∷ x))
part_or_whole fields n bytes _ _ (inr (w, lw, ew)) (stored v x lv ev) =
    let f = front_one w v (13 ∷ []) (13 ∷ 10 ∷ x) n lw lv (sym ew ∙ ev) in absurd (cc (f.1))
part_or_whole fields n bytes _ _ (inr (w, lw, ew)) (no_cr v x b lv ne ev) =
    let f = front_one w v (13 ∷ []) (b ∷ x) n lw lv (sym ew ∙ ev) in ne (cc (f.1))
part_or_whole fields n bytes _ _ (inr (w, lw, ew)) (no_lf v x b lv ne ev) =
    let f = front_one w v (13 ∷ []) (13 ∷ b ∷ x) n lw lv (sym ew ∙ ev) in absurd (cc (f.1))

waits_or_after : (m : LineValue) (bytes : List ℕ) (i : ItemValue) (r : Awaits) → WaitsForValue m bytes → AfterLine m bytes i r → ⊥
waits_or_after (whole q) bytes i r w a = w
waits_or_after (stores fields n) bytes i r w a = part_or_whole fields n bytes i r w a
waits_or_after unknown bytes i r w a = w
waits_or_after bad bytes i r w a = w
waits_or_after (too_large n) bytes i r w a = w

ends_or_not : (bytes : List ℕ) (i : ItemValue) (r : Awaits) → IsUnfinished bytes → Begins bytes i r → ⊥
ends_or_not bytes i r (in_line is) (by_line l x il el al) =
    let len : length bytes ≡ length l + suc (length x) = ap length el ∙ length-append l (10 ∷ x) in
    is.no_end (length l) 0 (omega arith) (ap (λ t. get_or t (length l) 0) el ∙ get_or_at l 10 x 0 (length l) refl)
ends_or_not bytes i r (in_line is) (too_long big none ei er) = omega (arith, is.short)
ends_or_not bytes i r (in_value l x il el w) (by_line m y im em am) =
    let f = line_one l m x y il.no_end im.no_end (sym el ∙ em) in
    waits_or_after (meaning m) y i r (subst (λ (t : List ℕ). WaitsForValue (meaning t) y) f.0 (subst (λ (t : List ℕ). WaitsForValue (meaning l) t) f.1 w)) am
ends_or_not bytes i r (in_value l x il el w) (too_long big none ei er) = not_both bytes l x il el none

first_one : (from : Awaits) (i j : ItemValue) (r s : Awaits) → First from i r → First from j s → (i ≡ j) × (r ≡ s)
first_one (Held bytes) i j r s a b = begins_one bytes i j r s a b
first_one (Skips n) i j r s a b = absurd a
first_one Failed i j r s a b = absurd a

rests_or_first : (from : Awaits) (i : ItemValue) (r : Awaits) → Rests from → First from i r → ⊥
rests_or_first (Held bytes) i r a b = ends_or_not bytes i r a b
rests_or_first (Skips n) i r a b = b
rests_or_first Failed i r a b = b

pub reads_one : (from : Awaits) (xs ys : List ItemValue) (r s : Awaits) → Reads from xs r → Reads from ys s → (xs ≡ ys) × (r ≡ s)
reads_one from [] [] r s a b = (refl, a.1 ∙ sym b.1)
reads_one from [] (y ∷ ys) r s a b = absurd (rests_or_first from y b.0 a.0 b.1)
reads_one from (x ∷ xs) [] r s a b = absurd (rests_or_first from x a.0 b.0 a.1)
reads_one from (x ∷ xs) (y ∷ ys) r s a b =
    let f = first_one from x y a.0 b.0 a.1 b.1 in
    let rest = reads_one b.0 xs ys r s (subst (λ (t : Awaits). Reads t xs r) f.1 a.2) b.2 in
    (ap (λ t. t ∷ xs) f.0 ∙ ap (λ t. y ∷ t) rest.0, rest.1)
