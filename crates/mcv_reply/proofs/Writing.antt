-- What is written for a form, one byte on.
use Rattle.std.proofs.Common.{◌≡◌, ◌≢◌, ℕ, suc, zero, ◌+◌, ◌-◌, ◌*◌, ◌<◌, ◌≤◌, ◌⊎◌, inl, inr, List, [], ◌∷◌, ◌++◌, refl, sym, ap, subst, ◌∙◌, arith}
use Rattle.mcv_reply.specs.Line.{Form, word, number, text, Next, Writes, IsWritten, IsDigits, decimal_from, spaces}
use Rattle.mcv_reply.specs.Candidate.{Goes, Digits, limit_of}
use Rattle.mcv_reply.specs.declared.candidate.Number.{Number}
use Rattle.mcv_reply.specs.declared.candidate.Number.TheVariants.{Flags, Size, Cas, Count}

-- what is written for the form begins with more than a space
abbrev pub Starts : Form → Type 0
Starts form = (w : List ℕ) → IsWritten form w → (h : ℕ) × (t : List ℕ) × (w ≡ h ∷ t) × (32 < h)

module _ (form : Form) (Then : List ℕ → Type 0) (b : ℕ) (more : List ℕ) where
  space_parts : (gap : ℕ) (w after : List ℕ) → b ∷ more ≡ spaces gap ++ (w ++ after) → 1 ≤ gap → IsWritten form w → Then after → (b ≡ 32) × Next form 0 Then more
  space_parts zero w after e l is rest = absurd (omega arith)
  space_parts (suc gap) w after e l is rest =
      let parts : b ∷ more ≡ 32 ∷ (spaces gap ++ (w ++ after)) = e in
      (cc, record { gap = gap; written = w; after = after; parts = cc; enough = omega arith; is = is; rest = rest })

  -- a space comes before it
  pub space_on : Next form 1 Then (b ∷ more) → (b ≡ 32) × Next form 0 Then more
  space_on n = space_parts n.gap n.written n.after n.parts n.enough n.is n.rest

  here_parts : (gap : ℕ) (w after : List ℕ) → b ≢ 32 → b ∷ more ≡ spaces gap ++ (w ++ after) → IsWritten form w → Then after → (v : List ℕ) × (a : List ℕ) × (b ∷ more ≡ v ++ a) × IsWritten form v × Then a
  here_parts zero w after ne e is rest = (w, after, e, is, rest)
  here_parts (suc gap) w after ne e is rest =
      let parts : b ∷ more ≡ 32 ∷ (spaces gap ++ (w ++ after)) = e in
      absurd (ne (cc))

  -- no space comes before it
  pub here : b ≢ 32 → Next form 0 Then (b ∷ more) → (v : List ℕ) × (a : List ℕ) × (b ∷ more ≡ v ++ a) × IsWritten form v × Then a
  here ne n = here_parts n.gap n.written n.after ne n.parts n.is n.rest

  skip_parts : (gap : ℕ) (w after : List ℕ) → Starts form → b ≡ 32 → b ∷ more ≡ spaces gap ++ (w ++ after) → IsWritten form w → Then after → Next form 0 Then more
  skip_parts zero w after starts s e is rest =
      let at = starts w is in
      let heads : b ∷ more ≡ at.0 ∷ (at.1 ++ after) = e ∙ ap (λ t. t ++ after) at.2 in
      let same : b ≡ at.0 = cc in
      absurd (omega (arith, at.3))
  skip_parts (suc gap) w after starts s e is rest =
      let parts : b ∷ more ≡ 32 ∷ (spaces gap ++ (w ++ after)) = e in
      record { gap = gap; written = w; after = after; parts = cc; enough = omega arith; is = is; rest = rest }

  pub skip_on : Starts form → b ≡ 32 → Next form 0 Then (b ∷ more) → Next form 0 Then more
  skip_on starts s n = skip_parts n.gap n.written n.after starts s n.parts n.is n.rest

  pub space_back : b ≡ 32 → Next form 0 Then more → Next form 1 Then (b ∷ more)
  space_back s n = record { gap = suc n.gap; written = n.written; after = n.after; parts = (let tail : more ≡ spaces n.gap ++ (n.written ++ n.after) = n.parts in let both : b ∷ more ≡ 32 ∷ (spaces n.gap ++ (n.written ++ n.after)) = cc in both); enough = omega arith; is = n.is; rest = n.rest }

  pub skip_back : b ≡ 32 → Next form 0 Then more → Next form 0 Then (b ∷ more)
  skip_back s n = record { gap = suc n.gap; written = n.written; after = n.after; parts = (let tail : more ≡ spaces n.gap ++ (n.written ++ n.after) = n.parts in let both : b ∷ more ≡ 32 ∷ (spaces n.gap ++ (n.written ++ n.after)) = cc in both); enough = omega arith; is = n.is; rest = n.rest }

-- a word that is known, from its first byte on
module _ (bytes : List ℕ) (Then : List ℕ → Type 0) (b : ℕ) (more : List ℕ) where
  pub word_on : b ≢ 32 → Next (word bytes) 0 Then (b ∷ more) → Goes bytes Then (b ∷ more)
  word_on ne n =
      let h = here (word bytes) Then b more ne n in
      record { after = h.1; parts = h.2 ∙ ap (λ t. t ++ h.1) h.3; rest = h.4 }

  pub word_back : Goes bytes Then (b ∷ more) → Next (word bytes) 0 Then (b ∷ more)
  word_back g = record { gap = 0; written = bytes; after = g.after; parts = g.parts; enough = omega arith; is = refl; rest = g.rest }

-- behind what is written comes a space or the CR of the end
pub behind_first : (forms : List Form) (b : ℕ) (more : List ℕ) → Writes forms 1 (b ∷ more) → (b ≡ 32) ⊎ (b ≡ 13)
behind_first [] b more (inl p) = inl p.0
behind_first [] b more (inr p) = inr p.0
behind_first (word bytes ∷ forms) b more n = inl (space_on (word bytes) (Writes forms 1) b more n).0
behind_first (number limit n ∷ forms) b more m = inl (space_on (number limit n) (Writes forms 1) b more m).0
behind_first (text ∷ forms) b more (inl p) = inl p
behind_first (text ∷ forms) b more (inr p) = inr p.0

pub decimal_grows : (n : ℕ) (digits : List ℕ) → n ≤ decimal_from n digits
decimal_grows n [] = omega arith
decimal_grows n (b ∷ digits) = omega (arith, decimal_grows (10 * n + (b - 48)) digits)

-- a number's digits, from the first on
digits_parts : (limit n b : ℕ) (Then : List ℕ → Type 0) (more : List ℕ) (v a : List ℕ) → b ∷ more ≡ v ++ a → v ≢ [] → IsDigits v → decimal_from 0 v ≡ n → n ≤ limit → Then a → (48 ≤ b) × (b ≤ 57) × Digits limit (b - 48) n Then more
digits_parts limit n b Then more [] a e some are is within rest = absurd (some refl)
digits_parts limit n b Then more (x ∷ v) a e some are is within rest =
    let parts : b ∷ more ≡ x ∷ (v ++ a) = e in
    let same : b ≡ x = cc in
    let first : 10 * 0 + (x - 48) ≡ b - 48 = omega arith in
    (omega (arith, are.0), omega (arith, are.1), record { digits = v; after = a; parts = cc; are = are.2; value_is = ap (λ t. decimal_from t v) (sym first) ∙ is; within = within; rest = rest })

module _ (limit n b : ℕ) (Then : List ℕ → Type 0) (more : List ℕ) where
  pub number_on : b ≢ 32 → Next (number limit n) 0 Then (b ∷ more) → (48 ≤ b) × (b ≤ 57) × Digits limit (b - 48) n Then more
  number_on ne m =
      let h = here (number limit n) Then b more ne m in
      digits_parts limit n b Then more h.0 h.1 h.2 h.3.0 h.3.1 h.3.2 h.3.3 h.4

  pub number_back : 48 ≤ b → b ≤ 57 → Digits limit (b - 48) n Then more → Next (number limit n) 0 Then (b ∷ more)
  number_back low high d =
      let first : 10 * 0 + (b - 48) ≡ b - 48 = omega arith in
      record {
        gap = 0;
        written = b ∷ d.digits;
        after = d.after;
        parts = ap (λ t. b ∷ t) d.parts;
        enough = omega arith;
        is = ((λ e. absurd (cc)), (low, high, d.are), ap (λ t. decimal_from t d.digits) first ∙ d.value_is, d.within);
        rest = d.rest;
      }

-- one byte behind digits
digit_parts : (limit value n b : ℕ) (Then : List ℕ → Type 0) (more digits after : List ℕ) → ((m : List ℕ) → Then (b ∷ m) → ⊥) → b ∷ more ≡ digits ++ after → IsDigits digits → decimal_from value digits ≡ n → n ≤ limit → Then after → Digits limit (10 * value + (b - 48)) n Then more
digit_parts limit value n b Then more [] after never e are is within rest = absurd (never more (subst Then (sym e) rest))
digit_parts limit value n b Then more (x ∷ digits) after never e are is within rest =
    let parts : b ∷ more ≡ x ∷ (digits ++ after) = e in
    let same : b ≡ x = cc in
    record { digits = digits; after = after; parts = cc; are = are.2; value_is = ap (λ t. decimal_from (10 * value + (t - 48)) digits) same ∙ is; within = within; rest = rest }

end_parts : (limit value n b : ℕ) (Then : List ℕ → Type 0) (more digits after : List ℕ) → ((48 ≤ b) → (b ≤ 57) → ⊥) → b ∷ more ≡ digits ++ after → IsDigits digits → decimal_from value digits ≡ n → Then after → (value ≡ n) × Then (b ∷ more)
end_parts limit value n b Then more [] after never e are is rest = (is, subst Then (sym e) rest)
end_parts limit value n b Then more (x ∷ digits) after never e are is rest =
    let parts : b ∷ more ≡ x ∷ (digits ++ after) = e in
    let same : b ≡ x = cc in
    absurd (never (omega (arith, are.0)) (omega (arith, are.1)))

module _ (limit value n b : ℕ) (Then : List ℕ → Type 0) (more : List ℕ) where
  pub digit_on : ((m : List ℕ) → Then (b ∷ m) → ⊥) → Digits limit value n Then (b ∷ more) → Digits limit (10 * value + (b - 48)) n Then more
  digit_on never d = digit_parts limit value n b Then more d.digits d.after never d.parts d.are d.value_is d.within d.rest

  pub digit_back : 48 ≤ b → b ≤ 57 → Digits limit (10 * value + (b - 48)) n Then more → Digits limit value n Then (b ∷ more)
  digit_back low high d = record { digits = b ∷ d.digits; after = d.after; parts = ap (λ t. b ∷ t) d.parts; are = (low, high, d.are); value_is = d.value_is; within = d.within; rest = d.rest }

  pub digits_end : ((48 ≤ b) → (b ≤ 57) → ⊥) → Digits limit value n Then (b ∷ more) → (value ≡ n) × Then (b ∷ more)
  digits_end never d = end_parts limit value n b Then more d.digits d.after never d.parts d.are d.value_is d.rest

  pub digits_none : value ≤ limit → value ≡ n → Then (b ∷ more) → Digits limit value n Then (b ∷ more)
  digits_none within is rest = record { digits = []; after = b ∷ more; parts = refl; are = tt; value_is = is; within = omega arith; rest = rest }

pub digits_least : (limit value n : ℕ) (Then : List ℕ → Type 0) (more : List ℕ) → Digits limit value n Then more → value ≤ limit
digits_least limit value n Then more d = omega (arith, decimal_grows value d.digits, d.value_is, d.within)

pub number_starts : (limit n : ℕ) → Starts (number limit n)
number_starts limit n [] is = absurd (is.0 refl)
number_starts limit n (h ∷ t) is = (h, t, refl, omega (arith, is.1.0))

-- one digit is within each limit
pub digit_limit : (n : Number) (value : ℕ) → value ≤ 9 → value ≤ limit_of n
digit_limit Flags value l = omega arith
digit_limit Size value l = omega arith
digit_limit Cas value l = omega arith
digit_limit Count value l = omega arith

-- no digit comes behind what is written
pub digit_never : (forms : List Form) (b : ℕ) (more : List ℕ) → 48 ≤ b → b ≤ 57 → Writes forms 1 (b ∷ more) → ⊥
digit_never forms b more low high rest = elim (behind_first forms b more rest) [ inl e ↦ omega arith | inr e ↦ omega arith ]
