-- What may be between the quotes of a text, byte by byte.
use Rattle.std.proofs.Common.{◌≡◌, ◌≢◌, ℕ, ◌+◌, ◌<◌, ◌≤◌, List, [], ◌∷◌, ◌++◌, length, get_or, take, drop, refl, sym, ap, subst, ◌∙◌, append_assoc, append-nil, inl, inr, arith}
use Rattle.std.proofs.lemmas.List.{take_more, drop_more, drop_all}
use Rattle.std.proofs.lemmas.Bool.{cases_lt}
use Rattle.mcv_comments.specs.Comments.{IsInside, HasNoQuote}

pub inside_byte : (b : ℕ) (bytes : List ℕ) → b ≢ 34 → b ≢ 92 → IsInside bytes → IsInside (b ∷ bytes)
inside_byte b [] no_quote no_backslash is = (no_quote, no_backslash)
inside_byte b (c ∷ bytes) no_quote no_backslash is = inr (no_quote, no_backslash, is)

pub inside_escape : (b c : ℕ) (bytes : List ℕ) → b ≡ 92 → IsInside bytes → IsInside (b ∷ c ∷ bytes)
inside_escape b c bytes backslash is = inl (backslash, is)

-- it begins with no quote
inside_head : (b : ℕ) (bytes : List ℕ) → IsInside (b ∷ bytes) → b ≡ 34 → ⊥
inside_head b [] is quote = is.0 quote
inside_head b (c ∷ bytes) (inl escaped) quote = omega (arith, escaped.0, quote)
inside_head b (c ∷ bytes) (inr plain) quote = plain.0 quote

inside_tail : (b : ℕ) (bytes : List ℕ) → IsInside (b ∷ bytes) → b ≢ 92 → IsInside bytes
inside_tail b [] is no_backslash = tt
inside_tail b (c ∷ bytes) (inl escaped) no_backslash = absurd (no_backslash escaped.0)
inside_tail b (c ∷ bytes) (inr plain) no_backslash = plain.2

-- the quote that ends a text is at one place
pub inside_one : (u v x y : List ℕ) → IsInside u → IsInside v → u ++ 34 ∷ x ≡ v ++ 34 ∷ y → (u ≡ v) × (x ≡ y)
inside_one [] [] x y p q e = (refl, cc)
inside_one [] (b ∷ v) x y p q e =
    let heads : 34 ≡ b = cc in
    absurd (inside_head b v q (sym heads))
inside_one (a ∷ u) [] x y p q e =
    let heads : a ≡ 34 = cc in
    absurd (inside_head a u p heads)
inside_one (a ∷ []) (b ∷ []) x y p q e =
    let heads : a ≡ b = cc in
    let tails : x ≡ y = cc in
    (ap (λ t. t ∷ []) heads, tails)
inside_one (a ∷ []) (b ∷ d ∷ v) x y p (inl q) e =
    let heads : a ≡ b = cc in
    absurd (p.1 (heads ∙ q.0))
inside_one (a ∷ []) (b ∷ d ∷ v) x y p (inr q) e =
    let next : 34 ≡ d = cc in
    absurd (inside_head d v q.2 (sym next))
inside_one (a ∷ c ∷ u) (b ∷ []) x y (inl p) q e =
    let heads : a ≡ b = cc in
    absurd (q.1 (sym heads ∙ p.0))
inside_one (a ∷ c ∷ u) (b ∷ []) x y (inr p) q e =
    let next : c ≡ 34 = cc in
    absurd (inside_head c u p.2 next)
inside_one (a ∷ c ∷ u) (b ∷ d ∷ v) x y (inl p) (inl q) e =
    let tails : u ++ 34 ∷ x ≡ v ++ 34 ∷ y = cc in
    let heads : a ≡ b = cc in
    let seconds : c ≡ d = cc in
    let rest = inside_one u v x y p.1 q.1 tails in
    (cc (heads, seconds, rest.0), rest.1)
inside_one (a ∷ c ∷ u) (b ∷ d ∷ v) x y (inl p) (inr q) e =
    let heads : a ≡ b = cc in
    absurd (q.1 (sym heads ∙ p.0))
inside_one (a ∷ c ∷ u) (b ∷ d ∷ v) x y (inr p) (inl q) e =
    let heads : a ≡ b = cc in
    absurd (p.1 (heads ∙ q.0))
inside_one (a ∷ c ∷ u) (b ∷ d ∷ v) x y (inr p) (inr q) e =
    let tails : c ∷ u ++ 34 ∷ x ≡ d ∷ v ++ 34 ∷ y = cc in
    let heads : a ≡ b = cc in
    let rest = inside_one (c ∷ u) (d ∷ v) x y p.2 q.2 tails in
    (cc (heads, rest.0), rest.1)

pub never_nil : (inside more : List ℕ) → IsInside inside → [] ≡ inside ++ 34 ∷ more → ⊥
never_nil [] more is e = absurd (cc)
never_nil (b ∷ inside) more is e = absurd (cc)

pub never_byte : (b : ℕ) (bytes : List ℕ) → b ≢ 34 → b ≢ 92 → HasNoQuote bytes → (inside more : List ℕ) → IsInside inside → b ∷ bytes ≡ inside ++ 34 ∷ more → ⊥
never_byte b bytes no_quote no_backslash never [] more is e = no_quote (cc)
never_byte b bytes no_quote no_backslash never (c ∷ inside) more is e =
    let heads : b ≡ c = cc in
    let tails : bytes ≡ inside ++ 34 ∷ more = cc in
    never inside more (inside_tail c inside is (λ k. no_backslash (heads ∙ k))) tails

pub never_escape : (b c : ℕ) (bytes : List ℕ) → b ≡ 92 → HasNoQuote bytes → (inside more : List ℕ) → IsInside inside → b ∷ c ∷ bytes ≡ inside ++ 34 ∷ more → ⊥
never_escape b c bytes backslash never [] more is e =
    let quote : b ≡ 34 = cc in
    omega (arith, quote, backslash)
never_escape b c bytes backslash never (d ∷ []) more is e =
    let heads : b ≡ d = cc in
    is.1 (sym heads ∙ backslash)
never_escape b c bytes backslash never (d ∷ f ∷ inside) more (inl escaped) e =
    let tails : bytes ≡ inside ++ 34 ∷ more = cc in
    never inside more escaped.1 tails
never_escape b c bytes backslash never (d ∷ f ∷ inside) more (inr plain) e =
    let heads : b ≡ d = cc in
    plain.1 (sym heads ∙ backslash)

-- a backslash at the end escapes nothing
pub never_last : (b : ℕ) → b ≡ 92 → (inside more : List ℕ) → IsInside inside → b ∷ [] ≡ inside ++ 34 ∷ more → ⊥
never_last b backslash [] more is e =
    let quote : b ≡ 34 = cc in
    omega (arith, quote, backslash)
never_last b backslash (d ∷ []) more is e = absurd (cc)
never_last b backslash (d ∷ f ∷ inside) more is e = absurd (cc)

-- so far no quote has ended the text, and no byte at `place` is escaped
pub record Scanned (body : List ℕ) (place : ℕ) : Type 0 where
  pub inside : place ≤ length body → (more : List ℕ) → IsInside more → IsInside (take place body ++ more)
  pub never : HasNoQuote (drop place body) → HasNoQuote body

two_more : (body : List ℕ) (place : ℕ) → place + 1 < length body → take (place + 2) body ≡ take place body ++ get_or body place 0 ∷ get_or body (place + 1) 0 ∷ []
two_more body place l =
    let first : place < length body = omega arith in
    let two : place + 2 ≡ place + 1 + 1 = omega arith in
    ap (λ n. take n body) two
    ∙ take_more body (place + 1) 0 l
    ∙ ap (λ t. t ++ get_or body (place + 1) 0 ∷ []) (take_more body place 0 first)
    ∙ append_assoc (take place body) (get_or body place 0 ∷ []) (get_or body (place + 1) 0 ∷ [])

two_left : (body : List ℕ) (place : ℕ) → place + 1 < length body → drop place body ≡ get_or body place 0 ∷ get_or body (place + 1) 0 ∷ drop (place + 2) body
two_left body place l =
    let first : place < length body = omega arith in
    let two : place + 1 + 1 ≡ place + 2 = omega arith in
    drop_more body place 0 first
    ∙ ap (λ t. get_or body place 0 ∷ t) (drop_more body (place + 1) 0 l)
    ∙ ap (λ n. get_or body place 0 ∷ get_or body (place + 1) 0 ∷ drop n body) two

last_left : (body : List ℕ) (place : ℕ) → place < length body → length body ≤ place + 1 → drop place body ≡ get_or body place 0 ∷ []
last_left body place l last = drop_more body place 0 l ∙ ap (λ t. get_or body place 0 ∷ t) (drop_all (place + 1) body last)

pub scanned_escape : (body : List ℕ) (place : ℕ) → place < length body → get_or body place 0 ≡ 92 → Scanned body place → Scanned body (place + 2)
scanned_escape body place l backslash so_far =
    let b = get_or body place 0 in
    let c = get_or body (place + 1) 0 in
    record {
      inside = λ within more is.
          subst IsInside (sym (ap (λ t. t ++ more) (two_more body place (omega arith)) ∙ append_assoc (take place body) (b ∷ c ∷ []) more))
          (so_far.inside (omega arith) (b ∷ c ∷ more) (inside_escape b c more backslash is));
      never = λ h. so_far.never (elim (cases_lt (place + 1) (length body)) as (λ w. HasNoQuote (drop place body)) [
        | inl two ↦ subst HasNoQuote (sym (two_left body place two)) (never_escape b c (drop (place + 2) body) backslash h)
        | inr last ↦ subst HasNoQuote (sym (last_left body place l last)) (never_last b backslash)
      ]);
    }

pub scanned_end : (body : List ℕ) (place : ℕ) → place < length body → Scanned body place → IsInside (take place body)
scanned_end body place l so_far = subst IsInside (append-nil (take place body)) (so_far.inside (omega arith) [] tt)
