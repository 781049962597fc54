-- The text of a pair that is written piece by piece.
use Rattle.std.proofs.Common.{◌≡◌, ◌∙◌, ℕ, zero, suc, ◌≢◌, List, [], ◌∷◌, ◌++◌, refl, sym, ap, arith, append_assoc, append-nil, map}
use Rattle.std.specs.Prelude.{codes, decimal}
use Rattle.std.specs.List.{flat_map, join_with_byte}
use Rattle.mcv_base.specs.Position.{position_text}
use Rattle.mcv_cert.specs.Escape.{escaped}
use Rattle.mcv_cert.specs.Pair.{PairValue, ReasonValue, SpotValue, never, twin, same, all}
use Rattle.mcv_cert.specs.Text.{certificate_text, era_words, first_text, pair_line, pair_text, reason_words}

-- words with a space before each but the first
pub join_positions : (w : List ℕ) (ps : List (List ℕ)) → join_with_byte 32 (w ∷ map position_text ps) ≡ w ++ flat_map (λ p. codes " " ++ position_text p) ps
join_positions w [] = sym (append-nil w)
join_positions w (p ∷ ps) = ap (λ x. w ++ 32 ∷ x) (join_positions (position_text p) ps)

-- the words of a reason behind another
join_reason : (w : List ℕ) (r : ReasonValue) → join_with_byte 32 (w ∷ reason_words r) ≡ w ++ 32 ∷ join_with_byte 32 (reason_words r)
join_reason w never = refl
join_reason w (twin leg) = refl
join_reason w (same index leg) = refl
join_reason w (all index legs) = refl

-- ---- eras

-- the words of eras behind another
join_eras : (x : List ℕ) (w : ℕ) (s : SpotValue) (more : List (List ℕ)) → join_with_byte 32 (x ∷ era_words w s more) ≡ x ++ 32 ∷ join_with_byte 32 (era_words w s more)
join_eras x zero s more = refl
join_eras x (suc w) s more = refl

abbrev pub eras_text : ℕ → SpotValue → List ℕ
eras_text w s = join_with_byte 32 (era_words w s [])

-- the words of eras before others
eras_joined : (w : ℕ) (s : SpotValue) (x : List ℕ) (xs : List (List ℕ)) → join_with_byte 32 (era_words w s (x ∷ xs)) ≡ eras_text w s ++ 32 ∷ join_with_byte 32 (x ∷ xs)
eras_joined zero s x xs = refl
eras_joined (suc w) s x xs = sym (append_assoc (decimal s.era) (32 ∷ decimal s.get_era) (32 ∷ join_with_byte 32 (x ∷ xs)))

pub one_era_written : (w : ℕ) (s : SpotValue) (old new : List ℕ) → w ≡ 0 → new ≡ old ++ decimal s.era → new ≡ old ++ eras_text w s
one_era_written zero s old new none e = e
one_era_written (suc w) s old new none e = absurd (let h : ⊥ = omega (arith, none) in h)

pub two_eras_written : (w : ℕ) (s : SpotValue) (old t1 t2 new : List ℕ) → w ≢ 0 → t1 ≡ old ++ decimal s.era → t2 ≡ t1 ++ codes " " → new ≡ t2 ++ decimal s.get_era → new ≡ old ++ eras_text w s
two_eras_written zero s old t1 t2 new some e f g = absurd (some refl)
two_eras_written (suc w) s old t1 t2 new some e f g =
    g ∙ ap (λ t. t ++ decimal s.get_era) (f ∙ ap (λ t. t ++ codes " ") e)
    ∙ append_assoc (old ++ decimal s.era) (codes " ") (decimal s.get_era)
    ∙ append_assoc old (decimal s.era) (32 ∷ decimal s.get_era)

-- ---- first lines

pub first_of_none : (w : ℕ) → w ≡ 0 → codes "mcv-cert 1" ≡ first_text w
first_of_none zero none = refl
first_of_none (suc w) none = absurd (let h : ⊥ = omega (arith, none) in h)

pub first_of_some : (w : ℕ) → w ≢ 0 → codes "mcv-cert 2 " ++ decimal w ≡ first_text w
first_of_some zero some = absurd (some refl)
first_of_some (suc w) some = refl

pub first_written : (w : ℕ) (old t1 new : List ℕ) → w ≢ 0 → t1 ≡ old ++ codes "mcv-cert 2 " → new ≡ t1 ++ decimal w → new ≡ old ++ first_text w
first_written w old t1 new some e f =
    f ∙ ap (λ t. t ++ decimal w) e ∙ append_assoc old (codes "mcv-cert 2 ") (decimal w) ∙ ap (λ t. old ++ t) (first_of_some w some)

pub all_lines : (w : ℕ) (ps : List PairValue) (t0 t1 t2 t3 t4 : List ℕ) → t0 ≡ [] → t1 ≡ t0 ++ first_text w → t2 ≡ t1 ++ codes "\n" → t3 ≡ t2 ++ flat_map (pair_line w) ps → t4 ≡ t3 ++ codes "end\n" → t4 ≡ certificate_text w ps
all_lines w ps t0 t1 t2 t3 t4 e0 e1 e2 e3 e4 =
    e4 ∙ ap (λ t. t ++ codes "end\n") (e3 ∙ ap (λ t. t ++ flat_map (pair_line w) ps) (e2 ∙ ap (λ t. t ++ codes "\n") (e1 ∙ ap (λ t. t ++ first_text w) e0)))
    ∙ append_assoc (first_text w ++ codes "\n") (flat_map (pair_line w) ps) (codes "end\n")

-- ---- pairs

pieces : (old route space sign class space1 era space2 leaf space3 reason : List ℕ)
    → ((((((((old ++ route) ++ (space ++ sign)) ++ class) ++ space1) ++ era) ++ space2) ++ leaf) ++ space3) ++ reason
    ≡ old ++ (route ++ (space ++ ((sign ++ class) ++ (space1 ++ (era ++ (space2 ++ (leaf ++ (space3 ++ reason))))))))
pieces old route space sign class space1 era space2 leaf space3 reason = simp append_assoc

abbrev reason_text : PairValue → List ℕ
reason_text p = join_with_byte 32 (reason_words p.reason)

text_joined : (w : ℕ) (p : PairValue)
    → decimal p.place.spot.route ++ (codes " " ++ ((codes "=" ++ escaped p.place.spot.class) ++ (codes " " ++ (eras_text w p.place.spot ++ (codes " " ++ (position_text p.place.leaf ++ (codes " " ++ reason_text p)))))))
    ≡ pair_text w p
unfolding pair_text
text_joined w p =
    let class = codes "=" ++ escaped p.place.spot.class in
    let leaf = position_text p.place.leaf in
    let behind = leaf ∷ reason_words p.reason in
    ap (λ x. decimal p.place.spot.route ++ 32 ∷ x)
    (ap (λ x. class ++ 32 ∷ x) (ap (λ x. eras_text w p.place.spot ++ 32 ∷ x) (sym (join_reason leaf p.reason)) ∙ sym (eras_joined w p.place.spot leaf (reason_words p.reason)))
    ∙ sym (join_eras class w p.place.spot behind))

text_written : (w : ℕ) (old : List ℕ) (p : PairValue)
    → ((((((((old ++ decimal p.place.spot.route) ++ codes " =") ++ escaped p.place.spot.class) ++ codes " ") ++ eras_text w p.place.spot) ++ codes " ") ++ position_text p.place.leaf) ++ codes " ") ++ reason_text p
    ≡ old ++ pair_text w p
text_written w old p =
    pieces old (decimal p.place.spot.route) (codes " ") (codes "=") (escaped p.place.spot.class) (codes " ") (eras_text w p.place.spot) (codes " ") (position_text p.place.leaf) (codes " ") (reason_text p)
    ∙ ap (λ x. old ++ x) (text_joined w p)

pub written : (w : ℕ) (t0 t1 t2 t3 t4 t5 t6 t7 t8 t9 : List ℕ) (p : PairValue)
    → t1 ≡ t0 ++ decimal p.place.spot.route → t2 ≡ t1 ++ codes " =" → t3 ≡ t2 ++ escaped p.place.spot.class → t4 ≡ t3 ++ codes " " → t5 ≡ t4 ++ eras_text w p.place.spot → t6 ≡ t5 ++ codes " "
    → t7 ≡ t6 ++ position_text p.place.leaf → t8 ≡ t7 ++ codes " " → t9 ≡ t8 ++ join_with_byte 32 (reason_words p.reason) → t9 ≡ t0 ++ pair_text w p
written w t0 t1 t2 t3 t4 t5 t6 t7 t8 t9 p e1 e2 e3 e4 e5 e6 e7 e8 e9 =
    e9 ∙ ap (λ t. t ++ reason_text p)
    (e8 ∙ ap (λ t. t ++ codes " ")
    (e7 ∙ ap (λ t. t ++ position_text p.place.leaf)
    (e6 ∙ ap (λ t. t ++ codes " ")
    (e5 ∙ ap (λ t. t ++ eras_text w p.place.spot)
    (e4 ∙ ap (λ t. t ++ codes " ") (e3 ∙ ap (λ t. t ++ escaped p.place.spot.class) (e2 ∙ ap (λ t. t ++ codes " =") e1)))))))
    ∙ text_written w t0 p

-- the words of an `all`
pub all_written : (old number : List ℕ) (legs : List (List ℕ)) → ((old ++ codes "all ") ++ number) ++ flat_map (λ p. codes " " ++ position_text p) legs ≡ old ++ join_with_byte 32 (codes "all" ∷ number ∷ map position_text legs)
all_written old number legs =
    append_assoc (old ++ codes "all ") number (flat_map (λ p. codes " " ++ position_text p) legs)
    ∙ append_assoc old (codes "all ") (number ++ flat_map (λ p. codes " " ++ position_text p) legs)
    ∙ ap (λ x. old ++ (codes "all " ++ x)) (sym (join_positions number legs))
