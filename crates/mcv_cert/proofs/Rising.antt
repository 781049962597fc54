-- Pairs that rise.
use Rattle.std.proofs.Common.{◌≡◌, ◌∙◌, ℕ, suc, zero, ◌<◌, ◌≤◌, ◌-◌, ◌&&◌, inl, inr, Bool, true, false, List, [], ◌∷◌, ◌++◌, length, get_or, refl, sym, ap, arith, map, length-append}
use Rattle.std.specs.Cmp.{IsTotalOrder}
use Rattle.std.specs.Ordering.{is_lt}
use Rattle.std.specs.declared.cmp.Ordering.{Ordering}
use Rattle.std.specs.declared.cmp.Ordering.TheVariants.{Less, Equal, Greater}
use Rattle.std.proofs.lemmas.Cmp.{nat_cmp_total, nat_list_cmp_total, on_total, then_total}
use Rattle.std.proofs.Math.Seq.{get_or-append_seam}
use Rattle.std.proofs.lemmas.Bool.{and_from, and_right, cases_Bool, true_from_ne_false, true≢false}
use Rattle.std.proofs.lemmas.List.{get_or-map, length-map}
use Rattle.std.proofs.lemmas.List.Elements.{All-push}
use Rattle.std.proofs.lemmas.List.Folds.{list_all_at}
use Rattle.std.proofs.lemmas.List.Quantifiers.{all_pairs_push}
use Rattle.mcv_cert.specs.Pair.{AreRising, HasEras, IsCertificate, NamesLegs, PairValue, PlaceValue, SpotValue, names_legs, index_of, is_behind, pair_cmp, place_cmp, spot_cmp}

pub spots_total : IsTotalOrder spot_cmp
spots_total =
    then_total (then_total (then_total (on_total (λ (s : SpotValue). s.route) nat_cmp_total) (on_total (λ (s : SpotValue). s.class) nat_list_cmp_total))
    (on_total (λ (s : SpotValue). s.era) nat_cmp_total)) (on_total (λ (s : SpotValue). s.get_era) nat_cmp_total)

pub places_total : IsTotalOrder place_cmp
unfolding place_cmp
places_total = then_total (on_total (λ (p : PlaceValue). p.spot) spots_total) (on_total (λ (p : PlaceValue). p.leaf) nat_list_cmp_total)

pub pairs_total : IsTotalOrder pair_cmp
pairs_total = then_total (on_total (λ (p : PairValue). p.place) places_total) (on_total (λ (p : PairValue). index_of p.reason) nat_cmp_total)

less_is : (o : Ordering) → is_lt o ≡ true → o ≡ Less
less_is Less is = refl
less_is Equal is = absurd (true≢false (sym is))
less_is Greater is = absurd (true≢false (sym is))

and_true : (b : Bool) → (b && true) ≡ b
and_true true = refl
and_true false = refl

later_rising : (q : PairValue) (ps : List PairValue) → AreRising (q ∷ ps) → AreRising ps
later_rising q ps up = λ i j d lt l. up (suc i) (suc j) d (omega arith) (omega arith)

-- a pair comes behind those before it
pub behind_front : (done : List PairValue) (p : PairValue) (ps : List PairValue) → AreRising (done ++ p ∷ ps) → is_behind done p ≡ true
behind_front [] p ps up = refl
behind_front (q ∷ done) p ps up =
    let within : length done < length (done ++ p ∷ ps) = omega (arith, length-append done (p ∷ ps)) in
    let first : pair_cmp q p ≡ Less = ap (pair_cmp q) (sym (get_or-append_seam done p ps q)) ∙ up 0 (suc (length done)) q (omega arith) (omega arith) in
    and_from (is_lt (pair_cmp q p)) (is_behind done p) (ap is_lt first) (behind_front done p ps (later_rising q (done ++ p ∷ ps) up))

-- one more pair
pub rising_push : (ps : List PairValue) (p : PairValue) → AreRising ps → is_behind ps p ≡ true → AreRising (ps ++ p ∷ [])
rising_push ps p up behind = all_pairs_push (λ (q r : PairValue). pair_cmp q r ≡ Less) ps p up (λ k d l. less_is (pair_cmp (get_or ps k d) p) (each k d l))
  where
    each : (k : ℕ) (d : PairValue) → k < length ps → is_lt (pair_cmp (get_or ps k d) p) ≡ true
    each k d l = true_from_ne_false (is_lt (pair_cmp (get_or ps k d) p)) (λ low. true≢false (sym behind ∙ list_all_at (λ q. is_lt (pair_cmp q p)) ps k d l low))

-- a pair that comes behind the last one comes behind all, since they rise
last_decides : (ps : List PairValue) (n : ℕ) (q p : PairValue) → length ps ≡ suc n → q ≡ get_or ps n q → AreRising ps → is_lt (pair_cmp q p) ≡ is_behind ps p
last_decides [] n q p some is up = absurd (let h : ⊥ = omega arith in h)
last_decides (r ∷ []) zero q p some is up = ap (λ x. is_lt (pair_cmp x p)) is ∙ sym (and_true (is_lt (pair_cmp r p)))
last_decides (r ∷ []) (suc n) q p some is up = absurd (let h : ⊥ = omega arith in h)
last_decides (r ∷ s ∷ ps) zero q p some is up = absurd (let h : ⊥ = omega arith in h)
last_decides (r ∷ s ∷ ps) (suc n) q p some is up =
    let more = last_decides (s ∷ ps) n q p (omega arith) is (later_rising r (s ∷ ps) up) in
    elim (cases_Bool (is_lt (pair_cmp q p))) [
      | inl above ↦
          let before : pair_cmp r q ≡ Less = ap (pair_cmp r) is ∙ up 0 (suc n) q (omega arith) (omega arith) in
          let first = pairs_total.trans r q p before (less_is (pair_cmp q p) above) in
          above ∙ sym (and_from (is_lt (pair_cmp r p)) (is_behind (s ∷ ps) p) (ap is_lt first) (sym more ∙ above))
      | inr below ↦ below ∙ sym (and_right (is_lt (pair_cmp r p)) (is_behind (s ∷ ps) p) (sym more ∙ below))
    ]

pub last_of : {X : Type 0} (f : X → PairValue) (xs : List X) (x : X) (p : PairValue) → 0 < length xs → x ≡ get_or xs (length xs - 1) x → AreRising (map f xs) → is_lt (pair_cmp (f x) p) ≡ is_behind (map f xs) p
last_of f xs x p some is up =
    let within : length xs - 1 < length xs = omega arith in
    let sized : length (map f xs) ≡ suc (length xs - 1) = omega (arith, length-map xs f) in
    last_decides (map f xs) (length xs - 1) (f x) p sized (ap f is ∙ sym (get_or-map f xs (length xs - 1) x (f x) within)) up

pub none_before : {X : Type 0} (f : X → PairValue) (xs : List X) (p : PairValue) → length xs ≤ 0 → is_behind (map f xs) p ≡ true
none_before f [] p none = refl
none_before f (x ∷ xs) p none = absurd (let h : ⊥ = omega arith in h)

-- the certificate that a push leaves
pub certificate_push : (w : ℕ) (ps : List PairValue) (p : PairValue) → IsCertificate (record { window = w; pairs = ps }) → HasEras w p → names_legs p.reason ≡ true → is_behind ps p ≡ true → IsCertificate (record { window = w; pairs = ps ++ p ∷ [] })
certificate_push w ps p is eras legs behind = record {
  rising = rising_push ps p is.rising behind;
  legs = All-push NamesLegs ps p is.legs legs;
  eras = All-push (HasEras w) ps p is.eras eras;
}
