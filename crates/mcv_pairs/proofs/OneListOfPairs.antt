-- Pairs that answer a block, each with the reason that is picked, are one list.
use Rattle.std.proofs.Common.{◌≡◌, ◌<◌, ℕ, true, false, true≢false, List, [], ◌∷◌, ◌++◌, length, get_or, map, Option, Some, None, inl, inr, refl, sym, ap, ◌∙◌, subst, arith}
use Rattle.std.specs.List.{Contains}
use Rattle.std.specs.Option.{option_map}
use Rattle.std.specs.Ordering.{is_eq}
use Rattle.std.specs.Prelude.{All, is_some}
use Rattle.std.specs.declared.cmp.Ordering.TheVariants.{Less}
use Rattle.std.proofs.lemmas.Bool.{cases_lt}
use Rattle.std.proofs.lemmas.List.{ext_get_or, get_or_default}
use Rattle.std.proofs.lemmas.List.Elements.{All-cons, All-contains_itself, All-head, All-nil, All-tail}
use Rattle.std.proofs.lemmas.Option.{slice_get-get_or}
use Rattle.mcv_cert.specs.Pair.{PairValue, PlaceValue, ReasonValue, all, index_of, list_cmp, never}
use Rattle.mcv_judge.specs.Answers.{AnswersEach, AnswersLeaf, AnswersLeaves}
use Rattle.mcv_judge.specs.Faults.{AreLegsRising, require, place_required}
use Rattle.mcv_judge.specs.Reason.{BlockValue, LegValue, is_whole, server_at}
use Rattle.mcv_picks.specs.Picks.{IsFirstFilling, filling, first_with}
use Rattle.mcv_picks.specs.Reasons.{IsReasonAt, IsReasonBeside, whole_reason}
use Rattle.mcv_picks.proofs.TwinsAreEqual.{same_itself}
use Rattle.mcv_pairs.specs.AddedPairs.{pair_with}
use Rattle.mcv_pairs.specs.Reasons.{IsPicked, IsPickedBeside, IsPickedFor, IsPickedIn, OneListOfPairs}
use Rattle.mcv_pairs.proofs.PickedReasons.{picked_index, picked_whole}

-- ---- one reason is picked

module _ (legs : List LegValue) (x : ℕ) where
  none_some : (o : Option (List LegValue)) (ds : List LegValue) → o ≡ None → o ≡ Some ds → ⊥
  none_some o ds h g = let both : ◌≡◌ {A = Option (List LegValue)} None (Some ds) = sym h ∙ g in cc

  one_filling : (found other : Option (List LegValue)) → IsFirstFilling legs x found → IsFirstFilling legs x other → found ≡ other
  one_filling None None h g = refl
  one_filling None (Some ds) h g = absurd (none_some (filling legs g.0 x) ds (h g.0) g.1)
  one_filling (Some ds) None h g = absurd (none_some (filling legs h.0 x) ds (g h.0) h.1)
  one_filling (Some ds) (Some es) h g = elim (cases_lt h.0 g.0) [
    | inl l ↦ absurd (none_some (filling legs h.0 x) ds (g.2 h.0 l) h.1)
    | inr m ↦ elim (cases_lt g.0 h.0) [
      | inl l ↦ absurd (none_some (filling legs g.0 x) es (h.2 g.0 l) g.1)
      | inr n ↦
          let same : h.0 ≡ g.0 = omega (arith, m, n) in
          sym h.1 ∙ ap (λ s. filling legs s x) same ∙ g.1
    ]
  ]

  one_beside : (o : Option LegValue) (i : ℕ) (r q : ReasonValue) → IsReasonBeside o legs i x (Some r) → IsReasonBeside o legs i x (Some q) → r ≡ q
  one_beside (Some d) i r q h g = let both : ◌≡◌ {A = Option ReasonValue} (Some r) (Some q) = h ∙ sym g in cc
  one_beside None i r q h g =
      let same = one_filling h.0 g.0 h.1 g.1 in
      let both : ◌≡◌ {A = Option ReasonValue} (Some r) (Some q) = h.2 ∙ ap (option_map (λ ds. all i (map (λ d. d.position) ds))) same ∙ sym g.2 in
      cc

module _ (b : BlockValue) (leaf : LegValue) where
  abbrev whole : Option ReasonValue
  whole = whole_reason b.can_be_acknowledged b.acknowledged leaf

  one_server : (x y : ℕ) → Some x ≡ Some y → x ≡ y
  one_server x y h = cc

  one_reason : (o : Option ReasonValue) (r q : ReasonValue) → index_of r ≡ index_of q → IsPickedBeside o b leaf r → IsPickedBeside o b leaf q → r ≡ q
  one_reason (Some w) r q same h g = h ∙ sym g
  one_reason None r q same h g =
      let server = one_server h.0 g.0 (sym h.1 ∙ ap (server_at leaf) same ∙ g.1) in
      let at_own : IsReasonAt b.acknowledged leaf (index_of r) g.0 (Some q) = subst (λ n. IsReasonAt b.acknowledged leaf n g.0 (Some q)) (sym same) g.2 in
      let at : IsReasonAt b.acknowledged leaf (index_of r) h.0 (Some q) = subst (λ y. IsReasonAt b.acknowledged leaf (index_of r) y (Some q)) (sym server) at_own in
      one_beside b.acknowledged h.0 (first_with b.acknowledged leaf.symbol h.0 (index_of r)) (index_of r) r q h.2 at

  -- it speaks of all indexes where there is one for all
  which_whole : (o : Option ReasonValue) (r : ReasonValue) → whole ≡ o → IsPickedBeside o b leaf r → is_whole r ≡ is_some o
  which_whole (Some w) r is h = subst (λ q. is_whole q ≡ true) (sym h) (picked_whole b.can_be_acknowledged b.acknowledged leaf w is).1
  which_whole None r is h = (picked_index b.acknowledged leaf (index_of r) h.0 r h.2).1

  never_both : (r q : ReasonValue) → IsPicked b leaf r → IsPicked b leaf q → is_whole r ≡ true → is_whole q ≡ false → ⊥
  never_both r q h g yes_whole not_whole = true≢false (sym yes_whole ∙ which_whole whole r refl h ∙ sym (which_whole whole q refl g) ∙ not_whole)

  -- ---- one list of pairs for a leaf

  one_pair : (p q : PairValue) → IsPickedFor b leaf p → IsPickedFor b leaf q → index_of p.reason ≡ index_of q.reason → p ≡ q
  one_pair p q h g index =
      let place = h.place ∙ sym g.place in
      let reason = one_reason whole p.reason q.reason index h.reason g.reason in
      λ i. record { place = place i; reason = reason i }

  first_of : (p : PairValue) (ps : List PairValue) → ps ≡ p ∷ [] → All (IsPickedFor b leaf) ps → IsPickedFor b leaf p
  first_of p ps is every = All-head (IsPickedFor b leaf) p [] (subst (All (IsPickedFor b leaf)) is every)

  -- one pair for all indexes, and one for each
  apart : (p : PairValue) (qs : List PairValue) → 0 < length leaf.servers → IsPickedFor b leaf p → is_whole p.reason ≡ true → AnswersEach b leaf (length leaf.servers) qs → All (IsPickedFor b leaf) qs → ⊥
  apart p qs indexed has yes_whole each every =
      let within : 0 < length qs = let count = each.count in omega (arith, count, indexed) in
      let own = each.each 0 (get_or qs 0 p) (slice_get-get_or qs 0 p within) in
      never_both p.reason (get_or qs 0 p).reason has.reason (every 0 p within).reason yes_whole own.1

  one_for_leaf : (ps qs : List PairValue) → 0 < length leaf.servers → AnswersLeaf b leaf ps → All (IsPickedFor b leaf) ps → AnswersLeaf b leaf qs → All (IsPickedFor b leaf) qs → ps ≡ qs
  one_for_leaf ps qs indexed (inl h) every (inl g) each =
      h.1 ∙ ap (λ p. p ∷ []) (one_pair h.0 g.0 (first_of h.0 ps h.1 every) (first_of g.0 qs g.1 each) (h.2.index ∙ sym g.2.index)) ∙ sym g.1
  one_for_leaf ps qs indexed (inl h) every (inr g) each = absurd (apart h.0 qs indexed (first_of h.0 ps h.1 every) h.3 g each)
  one_for_leaf ps qs indexed (inr h) every (inl g) each = absurd (apart g.0 ps indexed (first_of g.0 qs g.1 each) g.3 h every)
  one_for_leaf ps qs indexed (inr h) every (inr g) each =
      let p = pair_with b leaf never in
      let counts = h.count ∙ sym g.count in
      ext_get_or p ps qs counts (λ i l.
      let m : i < length qs = omega (arith, l, counts) in
      let own = h.each i (get_or ps i p) (slice_get-get_or ps i p l) in
      let other = g.each i (get_or qs i p) (slice_get-get_or qs i p m) in
      one_pair (get_or ps i p) (get_or qs i p) (every i p l) (each i p m) (own.0.index ∙ sym other.0.index))

  -- ---- the leaf of a pair

  placed : (ps : List PairValue) → AnswersLeaf b leaf ps → All (λ p. p.place ≡ place_required (require b leaf)) ps
  placed ps (inl h) = subst (All (λ p. p.place ≡ place_required (require b leaf))) (sym h.1) (All-cons (λ p. p.place ≡ place_required (require b leaf)) h.0 [] h.2.place (All-nil (λ p. p.place ≡ place_required (require b leaf))))
  placed ps (inr h) = λ i p l. (h.each i (get_or ps i p) (slice_get-get_or ps i p l)).0.place

no_less : (p q : List ℕ) → p ≡ q → list_cmp p q ≡ Less → ⊥
no_less p q same less = true≢false (sym (same_itself p) ∙ ap is_eq (ap (list_cmp p) same ∙ less))

-- legs that rise have one at a position
one_leaf : (legs : List LegValue) → AreLegsRising legs → (d e : LegValue) → Contains legs d → Contains legs e → d.position ≡ e.position → d ≡ e
one_leaf legs up d e h g same =
    let first : get_or legs g.0 d ≡ e = get_or_default legs g.0 d e g.1 ∙ g.2 in
    elim (cases_lt h.0 g.0) [
      | inl l ↦ absurd (no_less d.position e.position same (subst (λ k. list_cmp d.position k.position ≡ Less) first (subst (λ k. list_cmp k.position (get_or legs g.0 d).position ≡ Less) h.2 (up h.0 g.0 d l g.1))))
      | inr m ↦ elim (cases_lt g.0 h.0) [
        | inl l ↦ absurd (no_less e.position d.position (sym same) (subst (λ k. list_cmp e.position k.position ≡ Less) h.2 (subst (λ k. list_cmp k.position (get_or legs h.0 d).position ≡ Less) first (up g.0 h.0 d l h.1))))
        | inr n ↦
            let index : h.0 ≡ g.0 = omega (arith, m, n) in
            sym h.2 ∙ ap (λ k. get_or legs k d) index ∙ first
      ]
    ]

all_parts : (P : PairValue → Type 0) (ps qs : List PairValue) → All P (ps ++ qs) → All P ps × All P qs
all_parts P [] qs h = (All-nil P, h)
all_parts P (p ∷ ps) qs h =
    let rest = all_parts P ps qs (All-tail P p (ps ++ qs) h) in
    (All-cons P p ps (All-head P p (ps ++ qs) h) rest.0, rest.1)

-- ---- one list for a block

module _ (b : BlockValue) (up : AreLegsRising b.readable) where
  own_picked : (leaf : LegValue) → Contains b.readable leaf → (ps : List PairValue) → AnswersLeaf b leaf ps → All (IsPickedIn b) ps → All (IsPickedFor b leaf) ps
  own_picked leaf is_readable ps answers picked i p l =
      let h = picked i p l in
      let place = placed b leaf ps answers i p l in
      let same : h.0 ≡ leaf = one_leaf b.readable up h.0 leaf h.1 is_readable (ap (λ (s : PlaceValue). s.leaf) (sym h.2.place ∙ place)) in
      subst (λ d. IsPickedFor b d (get_or ps i p)) same h.2

  abbrev IsLeafOf : LegValue → Type 0
  IsLeafOf leaf = Contains b.readable leaf × (0 < length leaf.servers)

  one_for_leaves : (leaves : List LegValue) → All IsLeafOf leaves → (ps qs : List PairValue) → AnswersLeaves b leaves ps → All (IsPickedIn b) ps → AnswersLeaves b leaves qs → All (IsPickedIn b) qs → ps ≡ qs
  one_for_leaves [] are ps qs h every g each = h ∙ sym g
  one_for_leaves (leaf ∷ leaves) are ps qs h every g each =
      let is = All-head IsLeafOf leaf leaves are in
      let mine = all_parts (IsPickedIn b) h.0 h.1 (subst (All (IsPickedIn b)) h.2 every) in
      let yours = all_parts (IsPickedIn b) g.0 g.1 (subst (All (IsPickedIn b)) g.2 each) in
      let own = one_for_leaf b leaf h.0 g.0 is.1 h.3 (own_picked leaf is.0 h.0 h.3 mine.0) g.3 (own_picked leaf is.0 g.0 g.3 yours.0) in
      let others = one_for_leaves leaves (All-tail IsLeafOf leaf leaves are) h.1 g.1 h.4 mine.1 g.4 yours.1 in
      h.2 ∙ ap (λ xs. xs ++ h.1) own ∙ ap (λ xs. g.0 ++ xs) others ∙ sym g.2

pub one_list : OneListOfPairs
one_list b ps qs order h every g each = one_for_leaves b order.readable b.readable (λ i d l. (All-contains_itself b.readable i d l, order.indexed i d l)) ps qs h every g each
