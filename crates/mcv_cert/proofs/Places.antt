-- The words of a line, by their places.
use Rattle.std.proofs.Common.{◌≡◌, ◌≢◌, ◌∙◌, ◌==◌, ◌||◌, not, Bool, ℕ, zero, suc, true, eqb-true, eq-eqb, ◌-◌, ◌<◌, List, [], ◌∷◌, ◌++◌, length, get_or, take, drop, map, Bor, Some, refl, sym, ap, arith, length-drop}
use Rattle.std.specs.Prelude.{codes, decimal}
use Rattle.std.proofs.lemmas.Bool.{ne_eqb}
use Rattle.std.proofs.lemmas.List.{drop-map, get_or-map, length-map, take_all}
use Rattle.mcv_base.specs.Position.{position_text}
use Rattle.mcv_cert.specs.Escape.{escaped}
use Rattle.mcv_cert.specs.declared.pair.Pair.{Pair}
use Rattle.mcv_cert.specs.declared.pair.Reason.{Reason}
use Rattle.mcv_cert.specs.declared.place.Place.{Place}
use Rattle.mcv_cert.specs.Pair.{PairValue, ReasonValue, SpotValue, has_eras, pair_of, place_of, reason_of}
use Rattle.mcv_cert.specs.Text.{era_words, pair_words, reason_words}

abbrev pub texts : List (Bor (List ℕ)) → List (List ℕ)
texts words = map (λ (w : Bor (List ℕ)). w.now) words

pub sized : (words : List (Bor (List ℕ))) (are : List (List ℕ)) → texts words ≡ are → length words ≡ length are
sized words are e = sym (length-map words (λ (w : Bor (List ℕ)). w.now)) ∙ ap length e

pub word_at : (words : List (Bor (List ℕ))) (d : Bor (List ℕ)) (i : ℕ) (are : List (List ℕ)) → texts words ≡ are → i < length are → (get_or words i d).now ≡ get_or are i []
word_at words d i are e l =
    let within : i < length words = omega (arith, sized words are e) in
    sym (get_or-map (λ (w : Bor (List ℕ)). w.now) words i d [] within) ∙ ap (λ xs. get_or xs i []) e

pub words_behind : (words : List (Bor (List ℕ))) (n : ℕ) (are : List (List ℕ)) → texts words ≡ are → texts (take (length words - n) (drop n words)) ≡ drop n are
words_behind words n are e =
    ap texts (take_all (length words - n) (drop n words) (omega (arith, length-drop n words)))
    ∙ sym (drop-map (λ (w : Bor (List ℕ)). w.now) n words) ∙ ap (drop n) e

-- ---- the words of a pair

-- a reference to nothing, for places past the end
abbrev pub no_word : Bor (List ℕ)
no_word = record { ref_ptr = (0, 0); now = [] }

-- the words behind the eras
abbrev pub behind_eras : PairValue → List (List ℕ)
behind_eras p = position_text p.place.leaf ∷ reason_words p.reason

module _ (words : List (Bor (List ℕ))) (w : ℕ) (p : PairValue) (e : texts words ≡ pair_words w p) where
  count : length (pair_words w p) ≡ suc (suc (length (era_words w p.place.spot (behind_eras p))))
  count = refl

  pub not_short : length words < 2 → ⊥
  not_short l = omega (arith, sized words (pair_words w p) e, count)

  pub route_word : (get_or words 0 no_word).now ≡ decimal p.place.spot.route
  route_word = word_at words no_word 0 (pair_words w p) e (omega (arith, count))

  pub class_word : (get_or words 1 no_word).now ≡ codes "=" ++ escaped p.place.spot.class
  class_word = word_at words no_word 1 (pair_words w p) e (omega (arith, count))

  pub eras_are : texts (take (length words - 2) (drop 2 words)) ≡ era_words w p.place.spot (behind_eras p)
  eras_are = words_behind words 2 (pair_words w p) e

-- the first word and the others
module _ (words : List (Bor (List ℕ))) (first : List ℕ) (others : List (List ℕ)) (e : texts words ≡ first ∷ others) where
  pub not_empty : length words < 1 → ⊥
  not_empty l = omega (arith, sized words (first ∷ others) e)

  pub first_word : (get_or words 0 no_word).now ≡ first
  first_word = word_at words no_word 0 (first ∷ others) e (omega arith)

  pub other_words : texts (take (length words - 1) (drop 1 words)) ≡ others
  other_words = words_behind words 1 (first ∷ others) e

abbrev made : ℕ → List ℕ → (era get_era : ℕ) → List ℕ → ReasonValue → PairValue
made route class era get_era leaf reason = record { place = record { spot = record { route = route; class = class; era = era; get_era = get_era }; leaf = leaf }; reason = reason }

-- a pair with the parts of another is that other
pub pair_is : (p : PairValue) (route : ℕ) (class : List ℕ) (era get_era : ℕ) (leaf : List ℕ) (reason : ReasonValue) → route ≡ p.place.spot.route → Some class ≡ Some p.place.spot.class → era ≡ p.place.spot.era → get_era ≡ p.place.spot.get_era → leaf ≡ p.place.leaf → reason ≡ p.reason
    → made route class era get_era leaf reason ≡ p
pair_is p route class era get_era leaf reason r c e g l s =
    let k : class ≡ p.place.spot.class = cc in
    λ i. made (r i) (k i) (e i) (g i) (l i) (s i)

-- what a pair made of a place and a reason means
pub pair_made : (x : Pair) (place : Place) (reason : Reason) → x.place ≡ place → x.reason ≡ reason → pair_of x ≡ record { place = place_of place; reason = reason_of reason }
pair_made x place reason p r = λ i. record { place = place_of (p i); reason = reason_of (r i) }

-- ---- the words of eras

-- what follows the first of them
abbrev pub past_first : ℕ → SpotValue → List (List ℕ) → List (List ℕ)
past_first zero s more = more
past_first (suc w) s more = decimal s.get_era ∷ more

pub era_words_are : (w : ℕ) (s : SpotValue) (more : List (List ℕ)) → era_words w s more ≡ decimal s.era ∷ past_first w s more
era_words_are zero s more = refl
era_words_are (suc w) s more = refl

pub past_one_era : (w : ℕ) (s : SpotValue) (more : List (List ℕ)) → w ≡ 0 → past_first w s more ≡ more
past_one_era zero s more none = refl
past_one_era (suc w) s more none = absurd (let h : ⊥ = omega (arith, none) in h)

pub past_two_eras : (w : ℕ) (s : SpotValue) (more : List (List ℕ)) → w ≢ 0 → past_first w s more ≡ decimal s.get_era ∷ more
past_two_eras zero s more some = absurd (some refl)
past_two_eras (suc w) s more some = refl

pub one_era : (w : ℕ) (s : SpotValue) → has_eras w s ≡ true → w ≡ 0 → s.era ≡ s.get_era
one_era zero s are none = sym (eqb-true s.get_era s.era are)
one_era (suc w) s are none = absurd (let h : ⊥ = omega (arith, none) in h)

pub eras_of_window : (w : ℕ) (s : SpotValue) → (w ≡ 0 → s.get_era ≡ s.era) → has_eras w s ≡ true
eras_of_window zero s one = eq-eqb s.get_era s.era (one refl)
eras_of_window (suc w) s one = ap (λ (b : Bool). not b || (s.get_era == s.era)) (ne_eqb (suc w) 0 (λ e. omega (arith, e)))
