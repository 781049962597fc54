-- More bytes change no item that has ended.
use Rattle.std.proofs.Common.{◌≡◌, ◌≢◌, ℕ, suc, zero, ◌+◌, ◌-◌, ◌<◌, ◌≤◌, cond, List, [], ◌∷◌, ◌++◌, length, drop, refl, sym, ap, subst, ◌∙◌, arith, inl, inr, append_assoc}
use Rattle.std.specs.List.{All}
use Rattle.std.proofs.lemmas.Bool.{lt-ltb, le-ltb, cases_lt}
use Rattle.std.proofs.lemmas.List.{length-append, take-append-le, drop-append-le}
use Rattle.mcv_text.specs.Request.{AskValue, ItemValue}
use Rattle.mcv_text.specs.Stream.{Awaits, Held, Skips, Failed, followed, Begins, by_line, too_long, AfterLine, AfterValue, stored, no_cr, no_lf, First, Reads}
use Rattle.mcv_text.specs.Line.{LineValue, whole, stores, unknown, bad, too_large, meaning}

pub skips_short : (n : ℕ) (a : List ℕ) → length a < n → followed (Skips n) a ≡ Skips (n - length a)
skips_short n a l = ap (λ b. cond b (Skips (n - length a)) (Held (drop n a))) (lt-ltb (length a) n l)

pub skips_long : (n : ℕ) (a : List ℕ) → n ≤ length a → followed (Skips n) a ≡ Held (drop n a)
skips_long n a l = ap (λ b. cond b (Skips (n - length a)) (Held (drop n a))) (le-ltb (length a) n l)

drop_past : (n : ℕ) (a b : List ℕ) → length a ≤ n → drop n (a ++ b) ≡ drop (n - length a) b
drop_past n [] b l = ap (λ k. drop k b) (omega arith)
drop_past zero (x ∷ a) b l = absurd (omega arith)
drop_past (suc n) (x ∷ a) b l = drop_past n a b (omega arith) ∙ ap (λ k. drop k b) (omega arith)

pub followed_append : (s : Awaits) (a b : List ℕ) → followed s (a ++ b) ≡ followed (followed s a) b
followed_append (Held bytes) a b = ap Held (sym (append_assoc bytes a b))
followed_append (Skips n) a b =
    let len = length-append a b in
    elim (cases_lt (length a) n) [
      | inl short ↦ elim (cases_lt (length a + length b) n) [
        | inl less ↦ skips_short n (a ++ b) (omega (arith, len)) ∙ ap Skips (omega (arith, len)) ∙ sym (skips_short (n - length a) b (omega arith)) ∙ ap (λ t. followed t b) (sym (skips_short n a short))
        | inr more ↦ skips_long n (a ++ b) (omega (arith, len)) ∙ ap Held (drop_past n a b (omega arith)) ∙ sym (skips_long (n - length a) b (omega arith)) ∙ ap (λ t. followed t b) (sym (skips_short n a short))
      ]
      | inr long ↦ skips_long n (a ++ b) (omega (arith, len)) ∙ ap Held (drop-append-le n a b long) ∙ ap (λ t. followed t b) (sym (skips_long n a long))
    ]
followed_append Failed a b = refl

value_more : (fields : AskValue) (n : ℕ) (bytes piece : List ℕ) (i : ItemValue) (r : Awaits) → AfterValue fields n bytes i r → AfterValue fields n (bytes ++ piece) i (followed r piece)
value_more fields n bytes piece _ _ (stored v x lv ev) = stored v (x ++ piece) lv (ap (λ t. t ++ piece) ev ∙ append_assoc v (13 ∷ 10 ∷ x) piece)
value_more fields n bytes piece _ _ (no_cr v x b lv ne ev) = no_cr v (x ++ piece) b lv ne (ap (λ t. t ++ piece) ev ∙ append_assoc v (b ∷ x) piece)
value_more fields n bytes piece _ _ (no_lf v x b lv ne ev) = no_lf v (x ++ piece) b lv ne (ap (λ t. t ++ piece) ev ∙ append_assoc v (13 ∷ b ∷ x) piece)

after_more : (m : LineValue) (bytes piece : List ℕ) (i : ItemValue) (r : Awaits) → AfterLine m bytes i r → AfterLine m (bytes ++ piece) i (followed r piece)
after_more (whole q) bytes piece i r a = (a.0, ap (λ t. followed t piece) a.1)
after_more (stores fields n) bytes piece i r a = value_more fields n bytes piece i r a
after_more unknown bytes piece i r a = (a.0, ap (λ t. followed t piece) a.1)
after_more bad bytes piece i r a = (a.0, ap (λ t. followed t piece) a.1)
after_more (too_large n) bytes piece i r a = (a.0, ap (λ t. followed t piece) a.1 ∙ sym (followed_append (Skips (n + 2)) bytes piece))

begins_more : (bytes piece : List ℕ) (i : ItemValue) (r : Awaits) → Begins bytes i r → Begins (bytes ++ piece) i (followed r piece)
begins_more bytes piece i r (by_line l x il el al) = by_line l (x ++ piece) il (ap (λ t. t ++ piece) el ∙ append_assoc l (10 ∷ x) piece) (after_more (meaning l) x piece i r al)
begins_more bytes piece i r (too_long big none ei er) =
    too_long (omega (arith, length-append bytes piece))
    (subst (λ (t : List ℕ). All (λ b. b ≢ 10) t) (sym (take-append-le 65537 bytes piece (omega arith))) none) ei (ap (λ t. followed t piece) er)

first_more : (from : Awaits) (piece : List ℕ) (i : ItemValue) (r : Awaits) → First from i r → First (followed from piece) i (followed r piece)
first_more (Held bytes) piece i r a = begins_more bytes piece i r a
first_more (Skips n) piece i r a = absurd a
first_more Failed piece i r a = absurd a

reads_more : (from mid to : Awaits) (piece : List ℕ) (xs ys : List ItemValue) → Reads from xs mid → Reads (followed mid piece) ys to → Reads (followed from piece) (xs ++ ys) to
reads_more from mid to piece [] ys a b = subst (λ (t : Awaits). Reads (followed t piece) ys to) a.1 b
reads_more from mid to piece (x ∷ xs) ys a b = (followed a.0 piece, first_more from piece x a.0 a.1, reads_more a.0 mid to piece xs ys a.2 b)

pub reads_pieces : (from mid to : Awaits) (a b : List ℕ) (xs ys : List ItemValue) → Reads (followed from a) xs mid → Reads (followed mid b) ys to → Reads (followed from (a ++ b)) (xs ++ ys) to
reads_pieces from mid to a b xs ys p q = subst (λ (t : Awaits). Reads t (xs ++ ys) to) (sym (followed_append from a b)) (reads_more (followed from a) mid to b xs ys p q)
