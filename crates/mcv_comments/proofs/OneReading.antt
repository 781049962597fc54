-- A text falls into pieces in one way, and none of them is a comment that doesn't end.
use Rattle.std.proofs.Common.{◌≡◌, ◌≢◌, ◌⊎◌, ℕ, List, [], ◌∷◌, ◌++◌, get_or, All, refl, sym, ap, subst, ◌∙◌, inl, inr, arith}
use Rattle.std.specs.List.{flat_map}
use Rattle.std.proofs.lemmas.List.Elements.{All-head, All-tail}
use Rattle.mcv_comments.specs.Comments.{Piece, plain, quoted, unended, block, line, remains, HasNoEnd, Begins, Reads, Strips, IsOpen}
use Rattle.mcv_comments.proofs.Insides.{inside_one}

-- the first `*/` is at one place
block_one : (u v x y : List ℕ) → HasNoEnd u → HasNoEnd v → u ++ 42 ∷ 47 ∷ x ≡ v ++ 42 ∷ 47 ∷ y → (u ≡ v) × (x ≡ y)
block_one [] [] x y p q e = (refl, cc)
block_one [] (b ∷ []) x y p q e =
    let next : ◌≡◌ {A = ℕ} 47 42 = cc in
    absurd (omega (arith, next))
block_one [] (b ∷ d ∷ v) x y p q e =
    let star : 42 ≡ b = cc in
    let slash : 47 ≡ d = cc in
    absurd (q [] v (cc (star, slash)))
block_one (a ∷ []) [] x y p q e =
    let next : ◌≡◌ {A = ℕ} 42 47 = cc in
    absurd (omega (arith, next))
block_one (a ∷ c ∷ u) [] x y p q e =
    let star : a ≡ 42 = cc in
    let slash : c ≡ 47 = cc in
    absurd (p [] u (cc (star, slash)))
block_one (a ∷ u) (b ∷ v) x y p q e =
    let heads : a ≡ b = cc in
    let tails : u ++ 42 ∷ 47 ∷ x ≡ v ++ 42 ∷ 47 ∷ y = cc in
    let rest = block_one u v x y (λ front more is. p (a ∷ front) more (ap (λ t. a ∷ t) is)) (λ front more is. q (b ∷ front) more (ap (λ t. b ∷ t) is)) tails in
    (cc (heads, rest.0), rest.1)

-- nothing is there, or a LF is
abbrev pub EndsLine : List ℕ → Type 0
EndsLine after = (after ≡ []) ⊎ (get_or after 0 0 ≡ 10)

ends_or_goes_on : (x : List ℕ) (b : ℕ) (more : List ℕ) → EndsLine x → b ≢ 10 → x ≡ b ∷ more → ⊥
ends_or_goes_on x b more (inl none) no_lf e = absurd (cc (none, e))
ends_or_goes_on x b more (inr lf) no_lf e = no_lf (sym (ap (λ t. get_or t 0 0) e) ∙ lf)

-- a line ends at one place
line_one : (u v x y : List ℕ) → All (λ b. b ≢ 10) u → All (λ b. b ≢ 10) v → EndsLine x → EndsLine y → u ++ x ≡ v ++ y → (u ≡ v) × (x ≡ y)
line_one [] [] x y p q ex ey e = (refl, e)
line_one [] (b ∷ v) x y p q ex ey e = absurd (ends_or_goes_on x b (v ++ y) ex (All-head (λ b. b ≢ 10) b v q) e)
line_one (a ∷ u) [] x y p q ex ey e = absurd (ends_or_goes_on y a (u ++ x) ey (All-head (λ b. b ≢ 10) a u p) (sym e))
line_one (a ∷ u) (b ∷ v) x y p q ex ey e =
    let heads : a ≡ b = cc in
    let tails : u ++ x ≡ v ++ y = cc in
    let rest = line_one u v x y (All-tail (λ b. b ≢ 10) a u p) (All-tail (λ b. b ≢ 10) b v q) ex ey tails in
    (cc (heads, rest.0), rest.1)

-- a text is of one first byte, and of one second byte
head_one : (text x y : List ℕ) (a b : ℕ) → text ≡ a ∷ x → text ≡ b ∷ y → (a ≡ b) × (x ≡ y)
head_one text x y a b p q =
    let e : a ∷ x ≡ b ∷ y = sym p ∙ q in
    let heads : a ≡ b = cc in
    let tails : x ≡ y = cc in
    (heads, tails)

apart : (text x y : List ℕ) (a b : ℕ) → text ≡ a ∷ x → text ≡ b ∷ y → a ≢ b → ⊥
apart text x y a b p q differ = differ (head_one text x y a b p q).0

apart_second : (text x y : List ℕ) (s a b : ℕ) → text ≡ s ∷ a ∷ x → text ≡ s ∷ b ∷ y → a ≢ b → ⊥
apart_second text x y s a b p q differ =
    let rest = (head_one text (a ∷ x) (b ∷ y) s s p q).1 in
    differ (head_one (a ∷ x) x y a b refl rest).0

-- a plain slash comes before no star and no slash
slash_apart : (text x y : List ℕ) (b d : ℕ) → text ≡ b ∷ x → (b ≡ 47 → get_or x 0 0 ≡ d → ⊥) → text ≡ 47 ∷ d ∷ y → ⊥
slash_apart text x y b d p differ q =
    let both = head_one text x (d ∷ y) b 47 p q in
    differ both.0 (ap (λ t. get_or t 0 0) both.1)

-- a text begins with one piece
begins_one : (text : List ℕ) (p q : Piece) (x y : List ℕ) → Begins text p x → Begins text q y → (p ≡ q) × (x ≡ y)
begins_one text (plain u) (plain v) x y p q =
    let both = head_one text x y u v p.0 q.0 in
    (ap plain both.0, both.1)
begins_one text (plain u) (quoted v) x y p q = absurd (apart text x (v ++ 34 ∷ y) u 34 p.0 q.0 p.1)
begins_one text (plain u) (unended v) x y p q = absurd (apart text x v u 34 p.0 q.0 p.1)
begins_one text (plain u) (block v) x y p q = absurd (slash_apart text x (v ++ 42 ∷ 47 ∷ y) u 42 p.0 (λ slash. (p.2 slash).0) q.0)
begins_one text (plain u) (line v) x y p q = absurd (slash_apart text x (v ++ y) u 47 p.0 (λ slash. (p.2 slash).1) q.0)
begins_one text (quoted u) (plain v) x y p q = absurd (apart text y (u ++ 34 ∷ x) v 34 q.0 p.0 q.1)
begins_one text (quoted u) (quoted v) x y p q =
    let inner = (head_one text (u ++ 34 ∷ x) (v ++ 34 ∷ y) 34 34 p.0 q.0).1 in
    let both = inside_one u v x y p.1 q.1 inner in
    (ap quoted both.0, both.1)
begins_one text (quoted u) (unended v) x y p q = absurd (q.1 u x p.1 (head_one text v (u ++ 34 ∷ x) 34 34 q.0 p.0).1)
begins_one text (quoted u) (block v) x y p q = absurd (apart text (u ++ 34 ∷ x) (42 ∷ v ++ 42 ∷ 47 ∷ y) 34 47 p.0 q.0 (λ e. omega (arith, e)))
begins_one text (quoted u) (line v) x y p q = absurd (apart text (u ++ 34 ∷ x) (47 ∷ v ++ y) 34 47 p.0 q.0 (λ e. omega (arith, e)))
begins_one text (unended u) (plain v) x y p q = absurd (apart text y u v 34 q.0 p.0 q.1)
begins_one text (unended u) (quoted v) x y p q = absurd (p.1 v y q.1 (head_one text u (v ++ 34 ∷ y) 34 34 p.0 q.0).1)
begins_one text (unended u) (unended v) x y p q =
    let inner = (head_one text u v 34 34 p.0 q.0).1 in
    (ap unended inner, p.2 ∙ sym q.2)
begins_one text (unended u) (block v) x y p q = absurd (apart text u (42 ∷ v ++ 42 ∷ 47 ∷ y) 34 47 p.0 q.0 (λ e. omega (arith, e)))
begins_one text (unended u) (line v) x y p q = absurd (apart text u (47 ∷ v ++ y) 34 47 p.0 q.0 (λ e. omega (arith, e)))
begins_one text (block u) (plain v) x y p q = absurd (slash_apart text y (u ++ 42 ∷ 47 ∷ x) v 42 q.0 (λ slash. (q.2 slash).0) p.0)
begins_one text (block u) (quoted v) x y p q = absurd (apart text (42 ∷ u ++ 42 ∷ 47 ∷ x) (v ++ 34 ∷ y) 47 34 p.0 q.0 (λ e. omega (arith, e)))
begins_one text (block u) (unended v) x y p q = absurd (apart text (42 ∷ u ++ 42 ∷ 47 ∷ x) v 47 34 p.0 q.0 (λ e. omega (arith, e)))
begins_one text (block u) (block v) x y p q =
    let inner = (head_one text (42 ∷ u ++ 42 ∷ 47 ∷ x) (42 ∷ v ++ 42 ∷ 47 ∷ y) 47 47 p.0 q.0).1 in
    let behind = (head_one (42 ∷ u ++ 42 ∷ 47 ∷ x) (u ++ 42 ∷ 47 ∷ x) (v ++ 42 ∷ 47 ∷ y) 42 42 refl inner).1 in
    let both = block_one u v x y p.1 q.1 behind in
    (ap block both.0, both.1)
begins_one text (block u) (line v) x y p q = absurd (apart_second text (u ++ 42 ∷ 47 ∷ x) (v ++ y) 47 42 47 p.0 q.0 (λ e. omega (arith, e)))
begins_one text (line u) (plain v) x y p q = absurd (slash_apart text y (u ++ x) v 47 q.0 (λ slash. (q.2 slash).1) p.0)
begins_one text (line u) (quoted v) x y p q = absurd (apart text (47 ∷ u ++ x) (v ++ 34 ∷ y) 47 34 p.0 q.0 (λ e. omega (arith, e)))
begins_one text (line u) (unended v) x y p q = absurd (apart text (47 ∷ u ++ x) v 47 34 p.0 q.0 (λ e. omega (arith, e)))
begins_one text (line u) (block v) x y p q = absurd (apart_second text (u ++ x) (v ++ 42 ∷ 47 ∷ y) 47 47 42 p.0 q.0 (λ e. omega (arith, e)))
begins_one text (line u) (line v) x y p q =
    let inner = (head_one text (47 ∷ u ++ x) (47 ∷ v ++ y) 47 47 p.0 q.0).1 in
    let behind = (head_one (47 ∷ u ++ x) (u ++ x) (v ++ y) 47 47 refl inner).1 in
    let both = line_one u v x y p.1 q.1 p.2 q.2 behind in
    (ap line both.0, both.1)

begins_none : (text : List ℕ) (p : Piece) (x : List ℕ) → Begins text p x → text ≡ [] → ⊥
begins_none text (plain u) x p e = absurd (cc (p.0, e))
begins_none text (quoted u) x p e = absurd (cc (p.0, e))
begins_none text (unended u) x p e = absurd (cc (p.0, e))
begins_none text (block u) x p e = absurd (cc (p.0, e))
begins_none text (line u) x p e = absurd (cc (p.0, e))

-- a comment that doesn't end begins no piece
open_begins : (text body : List ℕ) (p : Piece) (x : List ℕ) → HasNoEnd body → text ≡ 47 ∷ 42 ∷ body → Begins text p x → ⊥
open_begins text body (plain u) x never e p = slash_apart text x body u 42 p.0 (λ slash. (p.2 slash).0) e
open_begins text body (quoted u) x never e p = apart text (u ++ 34 ∷ x) (42 ∷ body) 34 47 p.0 e (λ is. omega (arith, is))
open_begins text body (unended u) x never e p = apart text u (42 ∷ body) 34 47 p.0 e (λ is. omega (arith, is))
open_begins text body (block u) x never e p =
    let inner = (head_one text (42 ∷ body) (42 ∷ u ++ 42 ∷ 47 ∷ x) 47 47 e p.0).1 in
    never u x (head_one (42 ∷ body) body (u ++ 42 ∷ 47 ∷ x) 42 42 refl inner).1
open_begins text body (line u) x never e p = apart_second text (u ++ x) body 47 47 42 p.0 e (λ is. omega (arith, is))

pub reads_one : (text : List ℕ) (ps qs : List Piece) → Reads text ps [] → Reads text qs [] → ps ≡ qs
reads_one text [] [] a b = refl
reads_one text [] (q ∷ qs) a b = absurd (begins_none text q b.0 b.1 a)
reads_one text (p ∷ ps) [] a b = absurd (begins_none text p a.0 a.1 b)
reads_one text (p ∷ ps) (q ∷ qs) a b =
    let first = begins_one text p q a.0 b.0 a.1 b.1 in
    let rest = reads_one b.0 ps qs (subst (λ (t : List ℕ). Reads t ps []) first.1 a.2) b.2 in
    ap (λ t. t ∷ ps) first.0 ∙ ap (λ t. q ∷ t) rest

pub strips_one : (text out other : List ℕ) → Strips text out → Strips text other → out ≡ other
strips_one text out other a b = a.2 ∙ ap (flat_map remains) (reads_one text a.0 b.0 a.1 b.1) ∙ sym b.2

open_or_reads : (text rest body : List ℕ) (ps qs : List Piece) → HasNoEnd body → rest ≡ 47 ∷ 42 ∷ body → Reads text ps rest → Reads text qs [] → ⊥
open_or_reads text rest body [] [] never e a b = absurd (cc (a, b, e))
open_or_reads text rest body [] (q ∷ qs) never e a b = open_begins text body q b.0 never (a ∙ e) b.1
open_or_reads text rest body (p ∷ ps) [] never e a b = begins_none text p a.0 a.1 b
open_or_reads text rest body (p ∷ ps) (q ∷ qs) never e a b =
    let first = begins_one text p q a.0 b.0 a.1 b.1 in
    open_or_reads b.0 rest body ps qs never e (subst (λ (t : List ℕ). Reads t ps rest) first.1 a.2) b.2

pub open_or_strips : (text out : List ℕ) → IsOpen text → Strips text out → ⊥
open_or_strips text out is strips = open_or_reads text is.0 is.3.0 is.2.0 strips.0 is.3.2 is.3.1 is.2.1 strips.1
