-- The newest legs whose texts are among the last bytes.
use Rattle.std.proofs.Common.{◌≡◌, ◌∙◌, ◌+◌, ◌-◌, ◌≤◌, ◌<◌, ◌⊎◌, ℕ, zero, suc, true, false, cond, inl, inr, List, [], ◌∷◌, length, drop, arith, ap}
use Rattle.std.specs.Prelude.{leb, slice_index_or}
use Rattle.std.proofs.Math.Seq.{drop-cons}
use Rattle.std.proofs.lemmas.Bool.{le-leb}
use Rattle.std.proofs.lemmas.Bool.Decides.{leb_tells}
use Rattle.mcv_lines.specs.Lost.{count_unwritten, texts_length}
use Rattle.mcv_lines.specs.declared.sent.Sent.{Sent}

over_told : (a b : ℕ) → ((leb a b ≡ true) × (a ≤ b)) ⊎ ((leb a b ≡ false) × (b < a)) → b < a → leb a b ≡ false
over_told a b (inl e) more = let within = e.1 in absurd (omega (arith, more, within))
over_told a b (inr e) more = e.0

-- fewer texts have no more bytes
fewer_texts : (sent : List Sent) (n : ℕ) → texts_length (drop n sent) ≤ texts_length sent
fewer_texts sent zero = omega arith
fewer_texts [] (suc n) = omega arith
fewer_texts (s ∷ sent) (suc n) = let few = fewer_texts sent n in omega (arith, few)

-- the leg before this place has a byte that was written
abbrev pub IsWrittenBefore : ℕ → List Sent → ℕ → Type 0
IsWrittenBefore bytes sent zero = Unit {0}
IsWrittenBefore bytes sent (suc n) = bytes < texts_length (drop n sent)

written_next : (bytes : ℕ) (s : Sent) (sent : List Sent) (n : ℕ) → IsWrittenBefore bytes (s ∷ sent) (suc n) → IsWrittenBefore bytes sent n
written_next bytes s sent zero written = tt
written_next bytes s sent (suc n) written = written

fewer_left : (before n : ℕ) (sent : List Sent) (s : Sent) → before ≡ length sent - n → before ≡ length (s ∷ sent) - suc n
fewer_left before n sent s e = omega (arith, e)

none_less : (n : ℕ) → n ≡ n - 0
none_less n = omega arith

counted : (bytes : ℕ) (sent : List Sent) (n : ℕ) → n ≤ length sent → texts_length (drop n sent) ≤ bytes → IsWrittenBefore bytes sent n → count_unwritten bytes sent ≡ length sent - n
counted bytes [] zero few within written = omega arith
counted bytes (s ∷ sent) zero few within written = ap (λ b. cond b (length (s ∷ sent)) (count_unwritten bytes sent)) (le-leb (texts_length (s ∷ sent)) bytes within) ∙ none_less (length (s ∷ sent))
counted bytes [] (suc n) few within written = absurd (omega (arith, few))
counted bytes (s ∷ sent) (suc n) few within written =
    let most = fewer_texts (s ∷ sent) n in
    let over = over_told (texts_length (s ∷ sent)) bytes (leb_tells (texts_length (s ∷ sent)) bytes) (omega (arith, most, written)) in
    ap (λ b. cond b (length (s ∷ sent)) (count_unwritten bytes sent)) over
    ∙ fewer_left (count_unwritten bytes sent) n sent s (counted bytes sent n (omega (arith, few)) within (written_next bytes s sent n written))

-- all legs from this place on are unwritten, and the one before it has a byte that was written
pub counted_from : (bytes left place : ℕ) (sent : List Sent) (one : Sent) → 0 < place → place ≤ length sent → texts_length (drop place sent) + left ≡ bytes → one ≡ slice_index_or sent (place - 1) one → left < one.length
    → length sent - (place - 1) - 1 ≡ count_unwritten bytes sent
counted_from bytes left zero sent one some few so_far is more = absurd (omega (arith, some))
counted_from bytes left (suc n) sent one some few so_far is more =
    let here = ap texts_length (drop-cons sent n one (omega (arith, few))) in
    let at : suc n - 1 ≡ n = omega arith in
    let length_is = ap (λ (s : Sent). s.length) (is ∙ ap (λ (m : ℕ). slice_index_or sent m one) at) in
    let all = counted bytes sent (suc n) few (omega (arith, so_far)) (omega (arith, here, length_is, so_far, more)) in
    omega (arith, all)

pub counted_all : (bytes left place : ℕ) (sent : List Sent) → place ≤ 0 → texts_length (drop place sent) + left ≡ bytes → length sent ≡ count_unwritten bytes sent
counted_all bytes left zero sent none so_far = let all = counted bytes sent zero (omega arith) (omega (arith, so_far)) tt in omega (arith, all)
counted_all bytes left (suc n) sent none so_far = absurd (omega (arith, none))
