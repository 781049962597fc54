-- A text says one thing.
use Rattle.std.proofs.Common.{◌≡◌, ◌∙◌, ℕ, ◌<◌, ◌≤◌, ◌^◌, true, List, [], ◌∷◌, ◌++◌, length, drop, refl, sym, ap, subst, arith, append_assoc, append-nil}
use Rattle.std.specs.List.{All, flat_map}
use Rattle.std.proofs.lemmas.Bool.{true≢false}
use Rattle.std.proofs.lemmas.List.Elements.{All-head, All-tail}
use Rattle.mcv_cert.specs.Pair.{AreRising, IsPair, PairValue, is_behind}
use Rattle.mcv_cert.specs.Reading.{Reading, Reads, Says, Stops, at_end, ended, breaks, falls, over, headless, pairs, reads, text_limit}
use Rattle.mcv_cert.specs.Text.{certificate_text, first_line, last_line, pair_line}
use Rattle.mcv_cert.proofs.Spelled.{head_one, line_one, not_last}
use Rattle.mcv_cert.proofs.Rising.{behind_front}

module _ (w : ℕ) where
  -- where the reading stops, it stops with one answer
  stops_one : (ps : List PairValue) (rest : List ℕ) (r s : Reading) → Stops w ps rest r → Stops w ps rest s → r ≡ s
  stops_one ps rest r s (ended more is) (ended other is2) = ap (at_end w ps) (same_end more other (sym is ∙ is2))
    where
      same_end : (xs ys : List ℕ) → last_line ++ xs ≡ last_line ++ ys → xs ≡ ys
      same_end xs ys e = ap (drop 4) e
  stops_one ps rest r s (ended more is) (breaks none) = absurd (none.last more is)
  stops_one ps rest r s (ended more is) (falls p other f is2 low) = absurd (not_last w p more other f (sym is ∙ is2))
  stops_one ps rest r s (breaks none) (ended more is) = absurd (none.last more is)
  stops_one ps rest r s (breaks none) (breaks none2) = refl
  stops_one ps rest r s (breaks none) (falls p other f is low) = absurd (none.pair p other f is)
  stops_one ps rest r s (falls p other f is low) (ended more is2) = absurd (not_last w p more other f (sym is2 ∙ is))
  stops_one ps rest r s (falls p other f is low) (breaks none) = absurd (none.pair p other f is)
  stops_one ps rest r s (falls p other f is low) (falls q other2 g is2 low2) = refl

  -- it doesn't stop before the line of a pair that comes behind the others
  goes_on : (ps : List PairValue) (rest more : List ℕ) (r : Reading) (p : PairValue) → Stops w ps rest r → IsPair w p → rest ≡ pair_line w p ++ more → is_behind ps p ≡ true → ⊥
  goes_on ps rest more r p (ended other is) f e behind = not_last w p other more f (sym is ∙ e)
  goes_on ps rest more r p (breaks none) f e behind = none.pair p more f e
  goes_on ps rest more r p (falls q other g is low) f e behind =
      let same_pair = (line_one w p q more other f g (sym e ∙ is)).0 in
      true≢false (sym behind ∙ ap (is_behind ps) same_pair ∙ low)

  -- two readings that agree so far
  onward : (done ps qs : List PairValue) (rest other : List ℕ) (r s : Reading)
      → All (IsPair w) ps → All (IsPair w) qs → AreRising (done ++ ps) → AreRising (done ++ qs)
      → flat_map (pair_line w) ps ++ rest ≡ flat_map (pair_line w) qs ++ other → Stops w (done ++ ps) rest r → Stops w (done ++ qs) other s → r ≡ s
  onward done [] [] rest other r s f g up up2 e a b =
      stops_one done rest r s (subst (λ d. Stops w d rest r) (append-nil done) a)
      (subst (λ t. Stops w done t s) (sym e) (subst (λ d. Stops w d other s) (append-nil done) b))
  onward done [] (q ∷ qs) rest other r s f g up up2 e a b =
      absurd (goes_on done rest (flat_map (pair_line w) qs ++ other) r q (subst (λ d. Stops w d rest r) (append-nil done) a)
      (All-head (IsPair w) q qs g) (e ∙ append_assoc (pair_line w q) (flat_map (pair_line w) qs) other) (behind_front done q qs up2))
  onward done (p ∷ ps) [] rest other r s f g up up2 e a b =
      absurd (goes_on done other (flat_map (pair_line w) ps ++ rest) s p (subst (λ d. Stops w d other s) (append-nil done) b)
      (All-head (IsPair w) p ps f) (sym e ∙ append_assoc (pair_line w p) (flat_map (pair_line w) ps) rest) (behind_front done p ps up))
  onward done (p ∷ ps) (q ∷ qs) rest other r s f g up up2 e a b =
      let both = line_one w p q (flat_map (pair_line w) ps ++ rest) (flat_map (pair_line w) qs ++ other) (All-head (IsPair w) p ps f) (All-head (IsPair w) q qs g)
      (sym (append_assoc (pair_line w p) (flat_map (pair_line w) ps) rest) ∙ e ∙ append_assoc (pair_line w q) (flat_map (pair_line w) qs) other) in
      let left : done ++ p ∷ ps ≡ (done ++ p ∷ []) ++ ps = sym (append_assoc done (p ∷ []) ps) in
      let right : done ++ q ∷ qs ≡ (done ++ p ∷ []) ++ qs = ap (λ x. done ++ x ∷ qs) (sym both.0) ∙ sym (append_assoc done (p ∷ []) qs) in
      onward (done ++ p ∷ []) ps qs rest other r s (All-tail (IsPair w) p ps f) (All-tail (IsPair w) q qs g)
      (subst AreRising left up) (subst AreRising right up2) both.1
      (subst (λ d. Stops w d rest r) left a) (subst (λ d. Stops w d other s) right b)

  reads_one : (body : List ℕ) (r s : Reading) → Reads w body r → Reads w body s → r ≡ s
  reads_one body r s a b =
      onward [] a.ps b.ps a.rest b.rest r s a.are_pairs b.are_pairs a.rising b.rising (sym a.lines ∙ b.lines) a.stops b.stops

not_both : {G : Type 0} (text : List ℕ) → text_limit < length text → length text ≤ text_limit → G
not_both text long short = absurd (let h : ⊥ = omega arith in h)

pub says_one : (text : List ℕ) (r s : Reading) → Says text r → Says text s → r ≡ s
says_one text r s (over long) (over long2) = refl
says_one text r s (over long) (headless short none) = not_both text long short
says_one text r s (over long) (reads w body s2 small short is b) = not_both text long short
says_one text r s (headless short none) (over long) = not_both text long short
says_one text r s (headless short none) (headless short2 none2) = refl
says_one text r s (headless short none) (reads w body s2 small short2 is b) = absurd (none w body small is)
says_one text r s (reads w body r2 small short is a) (over long) = not_both text long short
says_one text r s (reads w body r2 small short is a) (headless short2 none) = absurd (none w body small is)
says_one text r s (reads w body r2 small short is a) (reads v other s2 small2 short2 is2 b) =
    let head = head_one v w other body small2 small (sym is2 ∙ is) in
    reads_one w body r2 s2 a (subst (λ t. Reads w t s2) head.1 (subst (λ u. Reads u other s2) head.0 b))

-- the text of pairs that rise says them
pub says_text : (w : ℕ) (ps : List PairValue) → w < 2 ^ 64 → AreRising ps → All (IsPair w) ps → length (certificate_text w ps) ≤ text_limit → Says (certificate_text w ps) (pairs w ps)
says_text w ps small rising are short =
    reads w (flat_map (pair_line w) ps ++ last_line) (pairs w ps) small short refl
    (record { ps = ps; rest = last_line; lines = refl; are_pairs = are; rising = rising; stops = ended [] refl })
