-- Pairs that answer all that is required: they rise, and the walk passes them all.
use Rattle.std.proofs.Common.{◌≡◌, ◌+◌, ◌<◌, ℕ, zero, suc, true, false, List, [], ◌∷◌, ◌++◌, length, map, nat_lt, Some, None, Ok, inl, inr, ◌⊎◌, refl, sym, ap, ◌∙◌, subst, arith}
use Rattle.std.specs.Prelude.{All, flat_map, slice_get, ⊤}
use Rattle.std.specs.Cmp.{nat_cmp_is}
use Rattle.std.specs.declared.cmp.Ordering.TheVariants.{Less, Equal}
use Rattle.std.specs.Ordering.{nat_cmp}
use Rattle.std.proofs.lemmas.Bool.{cases_Bool, le-ltb, lt-ltb}
use Rattle.std.proofs.lemmas.Cmp.{tied_itself}
use Rattle.std.proofs.lemmas.List.{append-nil, append_assoc, length-append}
use Rattle.std.proofs.lemmas.List.Elements.{All-head, All-tail}
use Rattle.mcv_cert.specs.Pair.{PlaceValue, PairValue, ReasonValue, index_of, index_cmp}
use Rattle.mcv_cert.proofs.Rising.{places_total}
use Rattle.mcv_judge.specs.Answers.{AnsweredIsFaultless, AnswersAll, AnswersEach, AnswersLeaf, AnswersLeaves, AreInTurn, IsAnswer}
use Rattle.mcv_judge.specs.Faults.{IsInOrder, require, required_by}
use Rattle.mcv_judge.specs.Reason.{LegValue, BlockValue, is_whole}
use Rattle.mcv_judge.specs.Walk.{Entry, after, entries, entry_from, or_else, walk}
use Rattle.mcv_judge.proofs.Bridge.{of_blocks}
use Rattle.mcv_judge.proofs.FirstFault.{chain, judges, rising_after, self}
use Rattle.mcv_judge.proofs.FaultAtPlace.{IsBelowPairs, ArePairsAscending, IsBelowEntries, AreEntriesRising, Judges, fault_from}
use Rattle.mcv_judge.proofs.Order.{all_rise, entries_both, rising}
use Rattle.mcv_judge.proofs.Steps.{by}

-- the pairs are those that the entries want, one after the other
abbrev Serves : List Entry → List PairValue → Type 0
Serves [] [] = ⊤
Serves (e ∷ es) [] = ⊥
Serves [] (r ∷ pairs) = ⊥
Serves (e ∷ es) (r ∷ pairs) = (r.place ≡ e.place) × (index_of r.reason ≡ e.from) × (e.judge r.reason ≡ None) × Serves (after r.reason e es) pairs

-- ---- they rise

-- the index comes before what the first entry wants
abbrev ComesBefore : PlaceValue → ℕ → List Entry → Type 0
ComesBefore s i [] = ⊤
ComesBefore s i (e ∷ es) = index_cmp s i e.place e.from ≡ Less

before_more : (s : PlaceValue) (i : ℕ) (q : PlaceValue) (j : ℕ) (es : List Entry) → index_cmp s i q j ≡ Less → ComesBefore q j es → ComesBefore s i es
before_more s i q j [] less h = tt
before_more s i q j (e ∷ es) less h = chain places_total s i q j e.place e.from less h

before_others : (e : Entry) (es : List Entry) → IsBelowEntries e.place es → ComesBefore e.place e.from es
before_others e [] below = tt
before_others e (f ∷ es) below = rw below.0 refl

before_next_index : (s : PlaceValue) (i : ℕ) → index_cmp s i s (suc i) ≡ Less
before_next_index s i =
    let index : nat_cmp i (suc i) ≡ Less = sym (nat_cmp_is i (suc i) Less (omega arith)) in
    rw (tied_itself places_total s, index) refl

before_next : (r : ReasonValue) (e : Entry) (es : List Entry) → IsBelowEntries e.place es → ComesBefore e.place e.from (after r e es)
before_next r e es below = elim (cases_Bool (is_whole r)) [
  | inl w ↦ rw w (before_others e es below)
  | inr w ↦ elim (cases_Bool (nat_lt (suc e.from) e.size)) [
    | inl l ↦ rw (w, l) (before_next_index e.place e.from)
    | inr l ↦ rw (w, l) (before_others e es below)
  ]
]

serving_below : (pairs : List PairValue) (es : List Entry) (s : PlaceValue) (i : ℕ) → AreEntriesRising es → ComesBefore s i es → Serves es pairs → IsBelowPairs s i pairs
serving_below [] es s i up before h = tt
serving_below (r ∷ pairs) [] s i up before h = absurd h
serving_below (r ∷ pairs) (e ∷ es) s i up before h = (
  ap (λ q. index_cmp s i q (index_of r.reason)) h.0 ∙ ap (index_cmp s i e.place) h.1 ∙ before,
  serving_below pairs (after r.reason e es) s i (rising_after r.reason e es up) (before_more s i e.place e.from (after r.reason e es) before (before_next r.reason e es up.1)) h.3,
)

serving_ascends : (pairs : List PairValue) (es : List Entry) → AreEntriesRising es → Serves es pairs → ArePairsAscending pairs
serving_ascends [] es up h = tt
serving_ascends (r ∷ pairs) [] up h = absurd h
serving_ascends (r ∷ pairs) (e ∷ es) up h =
    let later = rising_after r.reason e es up in
    let below = serving_below pairs (after r.reason e es) e.place e.from later (before_next r.reason e es up.1) h.3 in (
      subst (λ q. IsBelowPairs q (index_of r.reason) pairs) (sym h.0) (subst (λ i. IsBelowPairs e.place i pairs) (sym h.1) below),
      serving_ascends pairs (after r.reason e es) later h.3,
    )

-- ---- no fault is in them

serving_walks : (pairs : List PairValue) (es : List Entry) → Serves es pairs → walk pairs es ≡ Ok []
serving_walks [] [] h = refl
serving_walks [] (e ∷ es) h = absurd h
serving_walks (r ∷ pairs) [] h = absurd h
serving_walks (r ∷ pairs) (e ∷ es) h =
    let level : index_cmp r.place (index_of r.reason) e.place e.from ≡ Equal = ap (λ q. index_cmp q (index_of r.reason) e.place e.from) h.0 ∙ ap (λ i. index_cmp e.place i e.place e.from) h.1 ∙ self places_total e.place e.from in
    ap (by r pairs e es) level ∙ ap (λ f. or_else f (walk pairs (after r.reason e es))) h.2 ∙ serving_walks pairs (after r.reason e es) h.3

serving_faultless : (pairs : List PairValue) (es : List Entry) → AreEntriesRising es → Serves es pairs → (s : PlaceValue) (i : ℕ) → fault_from pairs es s i ≡ None
serving_faultless pairs es up h s i =
    let judged = judges places_total pairs es [] (serving_ascends pairs es up h) (subst AreEntriesRising (sym (append-nil es)) up) in
    let same = (subst (Judges pairs es []) (serving_walks pairs es h) judged).1 in
    ap (λ fs. fault_from pairs fs s i) (sym (append-nil es)) ∙ same s i

-- ---- answers are such pairs

module _ (b : BlockValue) (leaf : LegValue) (es : List Entry) (others : List PairValue) (h : Serves es others) where
  at_once : (p : PairValue) → IsAnswer b leaf 0 p → is_whole p.reason ≡ true → Serves (entry_from 0 (require b leaf) ∷ es) (p ∷ others)
  at_once p a whole =
      let next : after p.reason (entry_from 0 (require b leaf)) es ≡ es = rw whole refl in
      (a.place, a.index, a.faultless, subst (λ fs. Serves fs others) (sym next) h)

  one_by_one : (own : List PairValue) (i : ℕ) → 0 < length own → i + length own ≡ length leaf.servers → ((k : ℕ) (p : PairValue) → slice_get own k ≡ Some p → IsAnswer b leaf (i + k) p × (is_whole p.reason ≡ false)) → Serves (entry_from i (require b leaf) ∷ es) (own ++ others)
  one_by_one [] i some count each = absurd (let none : ⊥ = omega arith in none)
  one_by_one (p ∷ []) i some count each =
      let a = each 0 p refl in
      let last : nat_lt (suc i) (length leaf.servers) ≡ false = le-ltb (suc i) (length leaf.servers) (omega arith) in
      let next : after p.reason (entry_from i (require b leaf)) es ≡ es = rw (a.1, last) refl in
      let at : i + 0 ≡ i = omega arith in
      (a.0.place, a.0.index ∙ at, a.0.faultless, subst (λ fs. Serves fs others) (sym next) h)
  one_by_one (p ∷ q ∷ own) i some count each =
      let a = each 0 p refl in
      let more : nat_lt (suc i) (length leaf.servers) ≡ true = lt-ltb (suc i) (length leaf.servers) (omega arith) in
      let next : after p.reason (entry_from i (require b leaf)) es ≡ entry_from (suc i) (require b leaf) ∷ es = rw (a.1, more) refl in
      let at : i + 0 ≡ i = omega arith in
      let further : (k : ℕ) → i + suc k ≡ suc i + k = λ k. omega arith in
      let rest = one_by_one (q ∷ own) (suc i) (omega arith) (omega arith) (λ k r is. subst (λ n. IsAnswer b leaf n r × (is_whole r.reason ≡ false)) (further k) (each (suc k) r is)) in
      (a.0.place, a.0.index ∙ at, a.0.faultless, subst (λ fs. Serves fs ((q ∷ own) ++ others)) (sym next) rest)

  leaf_serves : (own : List PairValue) → 0 < length leaf.servers → AnswersLeaf b leaf own → Serves (entry_from 0 (require b leaf) ∷ es) (own ++ others)
  leaf_serves own some (inl a) = subst (λ ps. Serves (entry_from 0 (require b leaf) ∷ es) (ps ++ others)) (sym a.1) (at_once a.0 a.2 a.3)
  leaf_serves own some (inr a) =
      let from : (k : ℕ) → k ≡ 0 + k = λ k. omega arith in
      one_by_one own 0 (omega (arith, a.count)) (omega (arith, a.count)) (λ k p is. subst (λ n. IsAnswer b leaf n p × (is_whole p.reason ≡ false)) (from k) (a.each k p is))

leaves_serve : (b : BlockValue) (leaves : List LegValue) (own : List PairValue) (es : List Entry) (others : List PairValue) → All (λ l. 0 < length l.servers) leaves → AnswersLeaves b leaves own → Serves es others → Serves (entries (map (require b) leaves) ++ es) (own ++ others)
leaves_serve b [] own es others some a h = subst (λ ps. Serves es (ps ++ others)) (sym a) h
leaves_serve b (l ∷ ls) own es others some a h =
    let rest = leaves_serve b ls a.1 es others (All-tail (λ m. 0 < length m.servers) l ls some) a.4 h in
    let one = leaf_serves b l (entries (map (require b) ls) ++ es) (a.1 ++ others) rest a.0 (All-head (λ m. 0 < length m.servers) l ls some) a.3 in
    let all : own ++ others ≡ a.0 ++ (a.1 ++ others) = ap (λ ps. ps ++ others) a.2 ∙ append_assoc a.0 a.1 others in
    subst (Serves (entry_from 0 (require b l) ∷ (entries (map (require b) ls) ++ es))) (sym all) one

blocks_serve : (blocks : List BlockValue) (ps : List PairValue) → All IsInOrder blocks → AnswersAll blocks ps → Serves (entries (flat_map required_by blocks)) ps
blocks_serve [] ps each a = subst (Serves []) (sym a) tt
blocks_serve (b ∷ bs) ps each a =
    let first = All-head IsInOrder b bs each in
    let rest = blocks_serve bs a.1 (All-tail IsInOrder b bs each) a.4 in
    let one = leaves_serve b b.readable a.0 (entries (flat_map required_by bs)) a.1 first.indexed a.3 rest in
    subst (λ es. Serves es ps) (sym (entries_both (required_by b) (flat_map required_by bs))) (subst (Serves (entries (required_by b) ++ entries (flat_map required_by bs))) (sym a.2) one)

pub answered_faultless : AnsweredIsFaultless
answered_faultless blocks ps order answers =
    let serves = blocks_serve blocks ps order.each answers in
    let up = all_rise blocks order in
    (rising ps (serving_ascends ps (entries (flat_map required_by blocks)) up serves), λ s i. sym (of_blocks ps blocks s i) ∙ serving_faultless ps (entries (flat_map required_by blocks)) up serves s i)

-- ---- one more: who makes a certificate goes by these

-- the pairs of one more come behind
pub in_turn_push : {X : Type 0} (P : X → List PairValue → Type 0) (xs : List X) (x : X) (ps qs : List PairValue) → AreInTurn P xs ps → P x qs → AreInTurn P (xs ++ x ∷ []) (ps ++ qs)
in_turn_push P [] x ps qs a h = (qs, [], ap (λ rs. rs ++ qs) a ∙ sym (append-nil qs), h, refl)
in_turn_push P (y ∷ xs) x ps qs a h = (a.0, a.1 ++ qs, ap (λ rs. rs ++ qs) a.2 ∙ append_assoc a.0 a.1 qs, a.3, in_turn_push P xs x a.1 qs a.4 h)

pub leaves_push : (b : BlockValue) (leaves : List LegValue) (leaf : LegValue) (ps qs : List PairValue) → AnswersLeaves b leaves ps → AnswersLeaf b leaf qs → AnswersLeaves b (leaves ++ leaf ∷ []) (ps ++ qs)
leaves_push b leaves leaf ps qs a h = in_turn_push (AnswersLeaf b) leaves leaf ps qs a h

pushed : {X : Type 0} (xs : List X) (x y : X) (k : ℕ) → slice_get (xs ++ x ∷ []) k ≡ Some y → (slice_get xs k ≡ Some y) ⊎ ((k ≡ length xs) × (x ≡ y))
pushed [] x y zero h = let same : x ≡ y = cc in inr (refl, same)
pushed [] x y (suc k) h = absurd cc
pushed (z ∷ xs) x y zero h = inl h
pushed (z ∷ xs) x y (suc k) h = elim (pushed xs x y k h) [
  | inl there ↦ inl there
  | inr last ↦ inr (ap suc last.0, last.1)
]

-- an answer at the next index
pub each_push : (b : BlockValue) (leaf : LegValue) (n : ℕ) (ps : List PairValue) (p : PairValue) → AnswersEach b leaf n ps → IsAnswer b leaf n p → is_whole p.reason ≡ false → AnswersEach b leaf (suc n) (ps ++ p ∷ [])
each_push b leaf n ps p a one alone = record {
  count = length-append ps (p ∷ []) ∙ (let more : length ps + 1 ≡ suc n = omega (arith, a.count) in more);
  each = λ i q is. elim (pushed ps p q i is) [
    | inl there ↦ a.each i q there
    | inr last ↦ subst (λ r. IsAnswer b leaf i r × (is_whole r.reason ≡ false)) last.1 (subst (λ k. IsAnswer b leaf k p) (sym (last.0 ∙ a.count)) one, alone)
  ];
}
