-- The walk finds the first fault.
use Rattle.std.proofs.Common.{◌≡◌, ◌≢◌, ◌⊎◌, ◌&&◌, ◌||◌, not, inl, inr, ℕ, suc, ◌<◌, Bool, true, false, nat_eq, nat_le, nat_lt, List, [], ◌∷◌, ◌++◌, Option, Some, None, Result, Ok, Err, refl, sym, ap, ◌∙◌, subst, arith, true≢false}
use Rattle.std.proofs.lemmas.Bool.{cases_Bool, ltb-true, ltb-false, lt-ltb, le-ltb, le-leb, lt-leb, ne_eqb, leb-true, leb-false}
use Rattle.std.proofs.lemmas.Cmp.{tied_itself, tied_back, alike_right, nat_cmp_total, on_total, then_total, ranked}
use Rattle.std.specs.Cmp.{IsTotalOrder}
use Rattle.std.specs.declared.cmp.Ordering.{Ordering}
use Rattle.std.specs.declared.cmp.Ordering.TheVariants.{Less, Equal, Greater}
use Rattle.std.specs.Ordering.{is_eq, nat_cmp, ordering_then, ordering_reverse, MatchOrdering}
use Rattle.mcv_cert.specs.Pair.{ReasonValue, never, twin, same, all, PlaceValue, PairValue, index_of, place_cmp, index_cmp}
use Rattle.mcv_judge.specs.Reason.{is_whole}
use Rattle.mcv_judge.specs.Faults.{pair_at, is_answered_whole}
use Rattle.mcv_judge.specs.Walk.{Entry, after, or_else, walk}
use Rattle.mcv_judge.specs.declared.fault.PairFault.{PairFault}
use Rattle.mcv_judge.specs.declared.fault.PairFault.TheVariants.{Missing, Stray}
use Rattle.mcv_judge.proofs.FaultAtPlace.{entry_at, is_open, fault_beside, fault_from, IsFirst, IsBelowPairs, ArePairsAscending, IsBelowEntries, AreEntriesRising, Judges}
use Rattle.mcv_judge.proofs.Steps.{after_both}

pub whole_index : (r : ReasonValue) → is_whole r ≡ true → index_of r ≡ 0
whole_index never h = refl
whole_index (twin p) h = refl
whole_index (same i p) h = absurd cc
whole_index (all i ps) h = absurd cc

-- less as a whole: less by the first, or level there and less by the second
then_less : (a b : Ordering) → ordering_then a b ≡ Less → (a ≡ Less) ⊎ ((a ≡ Equal) × (b ≡ Less))
then_less Less b e = inl refl
then_less Equal b e = inr (refl, e)
then_less Greater b e = absurd cc

pub then_equal : (a b : Ordering) → ordering_then a b ≡ Equal → (a ≡ Equal) × (b ≡ Equal)
then_equal Less b e = absurd cc
then_equal Equal b e = (refl, e)
then_equal Greater b e = absurd cc

at_less : (r : Ordering) (P Q S : Type 0) → MatchOrdering r P Q S → r ≡ Less → P
at_less Less P Q S h e = h
at_less Equal P Q S h e = absurd cc
at_less Greater P Q S h e = absurd cc

at_equal : (r : Ordering) (P Q S : Type 0) → MatchOrdering r P Q S → r ≡ Equal → Q
at_equal Less P Q S h e = absurd cc
at_equal Equal P Q S h e = h
at_equal Greater P Q S h e = absurd cc

pub nat_less : (i j : ℕ) → nat_cmp i j ≡ Less → i < j
nat_less i j e = at_less (nat_cmp i j) (i < j) (i ≡ j) (j < i) (ranked i j (nat_cmp i j) refl) e

pub nat_equal : (i j : ℕ) → nat_cmp i j ≡ Equal → i ≡ j
nat_equal i j e = at_equal (nat_cmp i j) (i < j) (i ≡ j) (j < i) (ranked i j (nat_cmp i j) refl) e

nat_self : (i : ℕ) → nat_cmp i i ≡ Equal
nat_self i = tied_itself nat_cmp_total i

-- not level, from less or greater
other : (a : Ordering) → a ≡ Greater → is_eq a ≡ false
other a e = ap is_eq e

pub equal_is : (a : Ordering) → is_eq a ≡ true → a ≡ Equal
equal_is Less e = absurd cc
equal_is Equal e = refl
equal_is Greater e = absurd cc

pub and_false : (b : Bool) → (b && false) ≡ false
and_false true = refl
and_false false = refl

or_true : (b : Bool) → (b || true) ≡ true
or_true true = refl
or_true false = refl

-- at another index of a leaf of which all was said
beside : (e : Entry) (row : Option PairValue) (said : Bool) (j : ℕ) → nat_eq j 0 ≡ false → fault_beside (Some e) row true j ≡ fault_beside None row said j
beside e None said j z = rw (and_false (is_open e j)) refl
beside e (Some r) said j z = rw (z, and_false (is_open e j)) refl

step_over : (i j : ℕ) → i ≢ j → nat_le i j ≡ nat_le (suc i) j
step_over i j n = elim (cases_Bool (nat_le i j)) [
  | inl h ↦ let a = leb-true i j h in h ∙ sym (le-leb (suc i) j (omega arith))
  | inr h ↦ let a = leb-false i j h in h ∙ sym (lt-leb (suc i) j (omega arith))
]

past : (e : Entry) (j : ℕ) → e.from ≢ j → nat_lt (suc e.from) e.size ≡ false → is_open e j ≡ false
past e j n last = elim (cases_Bool (nat_le e.from j)) [
  | inl h ↦ let a = leb-true e.from j h in let b = ltb-false (suc e.from) e.size last in rw (h, le-ltb j e.size (omega arith)) refl
  | inr h ↦ rw h refl
]

nothing_there : (e : Entry) (row : Option PairValue) (said : Bool) (j : ℕ) → is_open e j ≡ false → fault_beside (Some e) row said j ≡ fault_beside None row said j
nothing_there e None said j h = rw h refl
nothing_there e (Some r) said j h = rw h refl

still : (e : Entry) (row : Option PairValue) (said : Bool) (j : ℕ) → nat_le e.from j ≡ nat_le (suc e.from) j → fault_beside (Some e) row said j ≡ fault_beside (Some (record { place = e.place; from = suc e.from; size = e.size; judge = e.judge })) row said j
still e None said j s = rw s refl
still e (Some r) said j s = rw s refl

pub rising_after : (r : ReasonValue) (e : Entry) (es : List Entry) → AreEntriesRising (e ∷ es) → AreEntriesRising (after r e es)
rising_after r e es rising = elim (cases_Bool (is_whole r)) [
  | inl w ↦ rw w rising.2
  | inr w ↦ elim (cases_Bool (nat_lt (suc e.from) e.size)) [
    | inl l ↦ rw (w, l) (ltb-true (suc e.from) e.size l, rising.1, rising.2)
    | inr l ↦ rw (w, l) rising.2
  ]
]

module _ (o : IsTotalOrder place_cmp) where
  pairs : IsTotalOrder (λ (x y : PlaceValue × ℕ). ordering_then (place_cmp x.0 y.0) (nat_cmp x.1 y.1))
  pairs = then_total (on_total (λ (x : PlaceValue × ℕ). x.0) o) (on_total (λ (x : PlaceValue × ℕ). x.1) nat_cmp_total)

  turn : (p : PlaceValue) (i : ℕ) (q : PlaceValue) (j : ℕ) → index_cmp p i q j ≡ Less → index_cmp q j p i ≡ Greater
  turn p i q j e = pairs.antisymm (q, j) (p, i) ∙ ap ordering_reverse e

  turn_back : (p : PlaceValue) (i : ℕ) (q : PlaceValue) (j : ℕ) → index_cmp p i q j ≡ Greater → index_cmp q j p i ≡ Less
  turn_back p i q j e = pairs.antisymm (q, j) (p, i) ∙ ap ordering_reverse e

  pub chain : (p : PlaceValue) (i : ℕ) (q : PlaceValue) (j : ℕ) (s : PlaceValue) (k : ℕ) → index_cmp p i q j ≡ Less → index_cmp q j s k ≡ Less → index_cmp p i s k ≡ Less
  chain p i q j s k e f = pairs.trans (p, i) (q, j) (s, k) e f

  level : (p : PlaceValue) (i : ℕ) (q : PlaceValue) (j : ℕ) (s : PlaceValue) (k : ℕ) → index_cmp p i q j ≡ Equal → index_cmp p i s k ≡ index_cmp q j s k
  level p i q j s k e = pairs.congr (p, i) (q, j) (s, k) e

  below_more : (p : PlaceValue) (i : ℕ) (q : PlaceValue) (j : ℕ) → index_cmp p i q j ≡ Less → (rows : List PairValue) → IsBelowPairs q j rows → IsBelowPairs p i rows
  below_more p i q j e [] h = h
  below_more p i q j e (r ∷ rows) h = (chain p i q j r.place (index_of r.reason) e h.0, below_more p i q j e rows h.1)

  below_level : (p : PlaceValue) (i : ℕ) (q : PlaceValue) (j : ℕ) → index_cmp p i q j ≡ Equal → (rows : List PairValue) → IsBelowPairs q j rows → IsBelowPairs p i rows
  below_level p i q j e [] h = h
  below_level p i q j e (r ∷ rows) h = (level p i q j r.place (index_of r.reason) e ∙ h.0, below_level p i q j e rows h.1)

  -- no row is at a place below all of them
  no_row : (p : PlaceValue) (i : ℕ) (rows : List PairValue) → IsBelowPairs p i rows → pair_at rows p i ≡ None
  no_row p i [] h = refl
  no_row p i (r ∷ rows) h = rw (other _ (turn p i r.place (index_of r.reason) h.0)) (no_row p i rows h.1)

  no_entry : (p : PlaceValue) (es : List Entry) → IsBelowEntries p es → entry_at es p ≡ None
  no_entry p [] h = refl
  no_entry p (e ∷ es) h = rw (other _ (o.antisymm e.place p ∙ ap ordering_reverse h.0)) (no_entry p es h.1)

  entries_more : (p q : PlaceValue) → place_cmp p q ≡ Less → (es : List Entry) → IsBelowEntries q es → IsBelowEntries p es
  entries_more p q e [] h = h
  entries_more p q e (f ∷ es) h = (o.trans p q f.place e h.0, entries_more p q e es h.1)

  entries_level : (p q : PlaceValue) → place_cmp p q ≡ Equal → (es : List Entry) → IsBelowEntries q es → IsBelowEntries p es
  entries_level p q e [] h = h
  entries_level p q e (f ∷ es) h = (o.congr p q f.place e ∙ h.0, entries_level p q e es h.1)

  -- a row above the place gives no reason for the whole leaf there
  row_says_not : (p : PlaceValue) (i : ℕ) (r : PairValue) → index_cmp p i r.place (index_of r.reason) ≡ Less → (w : Bool) → is_whole r.reason ≡ w → (w && is_eq (place_cmp r.place p)) ≡ false
  row_says_not p i r h false e = refl
  row_says_not p i r h true e =
      elim (then_less (place_cmp p r.place) (nat_cmp i (index_of r.reason)) h) [
        | inl a ↦ other _ (o.antisymm r.place p ∙ ap ordering_reverse a)
        | inr a ↦ let l = nat_less i (index_of r.reason) a.1 in let z = whole_index r.reason e in absurd (omega arith)
      ]

  not_said : (p : PlaceValue) (i : ℕ) (rows : List PairValue) → IsBelowPairs p i rows → is_answered_whole rows p ≡ false
  not_said p i [] h = refl
  not_said p i (r ∷ rows) h = rw (row_says_not p i r h.0 (is_whole r.reason) refl) (not_said p i rows h.1)

  -- ---- at places before the first index of the first leaf nothing is expected

  before_index : (e : Entry) (j : ℕ) → j < e.from → is_open e j ≡ false
  before_index e j h = rw (lt-leb e.from j h) refl

  -- nothing is missing there
  early : (q : PlaceValue) (j : ℕ) (e : Entry) (es : List Entry) (said : Bool) → IsBelowEntries e.place es → index_cmp q j e.place e.from ≡ Less → fault_beside (entry_at (e ∷ es) q) None said j ≡ None
  early q j e es said below h =
      elim (then_less (place_cmp q e.place) (nat_cmp j e.from) h) [
        | inl a ↦ rw (no_entry q (e ∷ es) (a, entries_more q e.place a es below)) refl
        | inr a ↦ rw (ap is_eq (tied_back o q e.place a.0), before_index e j (nat_less j e.from a.1)) refl
      ]

  -- and each row there is one too much
  early_row : (r : PairValue) (j : ℕ) (e : Entry) (es : List Entry) (said : Bool) → IsBelowEntries e.place es → index_cmp r.place j e.place e.from ≡ Less → fault_beside (entry_at (e ∷ es) r.place) (Some r) said j ≡ Some Stray
  early_row r j e es said below h =
      elim (then_less (place_cmp r.place e.place) (nat_cmp j e.from) h) [
        | inl a ↦ rw (no_entry r.place (e ∷ es) (a, entries_more r.place e.place a es below)) refl
        | inr a ↦ rw (ap is_eq (tied_back o r.place e.place a.0), before_index e j (nat_less j e.from a.1)) refl
      ]

  pub self : (p : PlaceValue) (i : ℕ) → index_cmp p i p i ≡ Equal
  self p i = tied_itself pairs (p, i)

  -- the first row at its own place
  own_row : (r : PairValue) (rows : List PairValue) → pair_at (r ∷ rows) r.place (index_of r.reason) ≡ Some r
  own_row r rows = rw (ap is_eq (self r.place (index_of r.reason))) refl

  first_index : (e : Entry) → e.from < e.size → is_open e e.from ≡ true
  first_index e h = rw (le-leb e.from e.from (omega arith), lt-ltb e.from e.size h) refl

  -- no row where the first leaf wants one
  missing : (rows : List PairValue) (e : Entry) (es : List Entry) → IsBelowPairs e.place e.from rows → AreEntriesRising (e ∷ es) → IsFirst rows (e ∷ es) Missing
  missing rows e es below rising = (
    e.place,
    e.from,
    rw (ap is_eq (tied_itself o e.place), no_row e.place e.from rows below, not_said e.place e.from rows below, first_index e rising.0) refl,
    λ q j h. rw (no_row q j rows (below_more q j e.place e.from h rows below)) (early q j e es (is_answered_whole rows q) rising.1 h),
  )

  -- rows are left where no leaf is
  left_over : (r : PairValue) (rows : List PairValue) → ArePairsAscending (r ∷ rows) → IsFirst (r ∷ rows) [] Stray
  left_over r rows up = (
    r.place,
    index_of r.reason,
    rw (own_row r rows) refl,
    λ q j h. rw (no_row q j (r ∷ rows) (h, below_more q j r.place (index_of r.reason) h rows up.0)) refl,
  )

  -- the first row comes before what the first leaf wants
  stray : (r : PairValue) (rows : List PairValue) (e : Entry) (es : List Entry) → index_cmp r.place (index_of r.reason) e.place e.from ≡ Less → ArePairsAscending (r ∷ rows) → AreEntriesRising (e ∷ es) → IsFirst (r ∷ rows) (e ∷ es) Stray
  stray r rows e es less up rising = (
    r.place,
    index_of r.reason,
    rw (own_row r rows) (early_row r (index_of r.reason) e es (is_answered_whole (r ∷ rows) r.place) rising.1 less),
    λ q j h. rw (no_row q j (r ∷ rows) (h, below_more q j r.place (index_of r.reason) h rows up.0)) (early q j e es (is_answered_whole (r ∷ rows) q) rising.1 (chain q j r.place (index_of r.reason) e.place e.from h less)),
  )

  -- ---- a row that speaks of the first index of the first leaf

  module _ (r : PairValue) (rows : List PairValue) (e : Entry) (es : List Entry) (at : index_cmp r.place (index_of r.reason) e.place e.from ≡ Equal) (up : ArePairsAscending (r ∷ rows)) (rising : AreEntriesRising (e ∷ es)) where
    parts : (place_cmp r.place e.place ≡ Equal) × (nat_cmp (index_of r.reason) e.from ≡ Equal)
    parts = then_equal (place_cmp r.place e.place) (nat_cmp (index_of r.reason) e.from) at

    index_is : index_of r.reason ≡ e.from
    index_is = nat_equal (index_of r.reason) e.from parts.1

    keys_alike : (q : PlaceValue) → place_cmp r.place q ≡ place_cmp e.place q
    keys_alike q = o.congr r.place e.place q parts.0

    alone : (q : PlaceValue) (j : ℕ) → index_cmp r.place (index_of r.reason) q j ≡ Equal → (w : Bool) → is_whole r.reason ≡ w → (nat_eq j 0 || not ((w && is_eq (place_cmp r.place q)) || is_answered_whole rows q)) ≡ true
    alone q j h true w =
        let zeroth : j ≡ 0 = sym (nat_equal (index_of r.reason) j (then_equal (place_cmp r.place q) (nat_cmp (index_of r.reason) j) h).1) ∙ whole_index r.reason w in
        rw zeroth refl
    alone q j h false w = rw (not_said q j rows (below_level q j r.place (index_of r.reason) (tied_back pairs (r.place, index_of r.reason) (q, j) h) rows up.0)) (or_true (nat_eq j 0))

    -- what is wrong at that place is what is wrong with the reason
    here : (q : PlaceValue) (j : ℕ) → index_cmp r.place (index_of r.reason) q j ≡ Equal → fault_from (r ∷ rows) (e ∷ es) q j ≡ e.judge r.reason
    here q j h =
        let two = then_equal (place_cmp r.place q) (nat_cmp (index_of r.reason) j) h in
        let level_key : is_eq (place_cmp e.place q) ≡ true = ap is_eq (sym (keys_alike q) ∙ two.0) in
        let place : is_eq (index_cmp r.place (index_of r.reason) q j) ≡ true = ap is_eq h in
        let index : is_open e j ≡ true = subst (λ k. is_open e k ≡ true) (sym index_is ∙ nat_equal (index_of r.reason) j two.1) (first_index e rising.0) in
        rw (level_key, place, index, alone q j h (is_whole r.reason) refl) refl

    wrong : (f : PairFault) → e.judge r.reason ≡ Some f → IsFirst (r ∷ rows) (e ∷ es) f
    wrong f h = (
      r.place,
      index_of r.reason,
      here r.place (index_of r.reason) (self r.place (index_of r.reason)) ∙ h,
      λ q j l. rw (no_row q j (r ∷ rows) (l, below_more q j r.place (index_of r.reason) l rows up.0)) (early q j e es (is_answered_whole (r ∷ rows) q) rising.1 (sym (alike_right pairs (r.place, index_of r.reason) (e.place, e.from) (q, j) at) ∙ l)),
    )

    -- nothing else is there
    no_more : (q : PlaceValue) (j : ℕ) → index_cmp r.place (index_of r.reason) q j ≡ Equal → pair_at rows q j ≡ None
    no_more q j h = no_row q j rows (below_level q j r.place (index_of r.reason) (tied_back pairs (r.place, index_of r.reason) (q, j) h) rows up.0)

    level_entries : (q : PlaceValue) → is_eq (place_cmp e.place q) ≡ true → entry_at es q ≡ None
    level_entries q h = no_entry q es (entries_level q e.place (tied_back o e.place q (equal_is (place_cmp e.place q) h)) es rising.1)

    -- elsewhere at that leaf the index is another
    other_index : (q : PlaceValue) (j : ℕ) → is_eq (index_cmp r.place (index_of r.reason) q j) ≡ false → is_eq (place_cmp e.place q) ≡ true → e.from ≢ j
    other_index q j h g i =
        let k : place_cmp r.place q ≡ Equal = keys_alike q ∙ equal_is (place_cmp e.place q) g in
        let n : nat_cmp (index_of r.reason) j ≡ Equal = subst (λ m. nat_cmp (index_of r.reason) m ≡ Equal) (index_is ∙ i) (nat_self (index_of r.reason)) in
        let both : ordering_then (place_cmp r.place q) (nat_cmp (index_of r.reason) j) ≡ Equal = rw (k, n) refl in
        true≢false (sym (ap is_eq both) ∙ h)

    module _ (fine : e.judge r.reason ≡ None) where
      -- after a reason for the whole leaf
      same_whole : is_whole r.reason ≡ true → (q : PlaceValue) (j : ℕ) → fault_from (r ∷ rows) (e ∷ es) q j ≡ fault_from rows es q j
      same_whole w q j = elim (cases_Bool (is_eq (index_cmp r.place (index_of r.reason) q j))) [
        | inl h ↦
            let p = equal_is (index_cmp r.place (index_of r.reason) q j) h in
            let g : is_eq (place_cmp e.place q) ≡ true = ap is_eq (sym (keys_alike q) ∙ (then_equal (place_cmp r.place q) (nat_cmp (index_of r.reason) j) p).0) in
            here q j p ∙ fine ∙ rw (level_entries q g, no_more q j p) refl
        | inr h ↦ elim (cases_Bool (is_eq (place_cmp e.place q))) [
          | inl g ↦
              let k : is_eq (place_cmp r.place q) ≡ true = ap is_eq (keys_alike q) ∙ g in
              let z : nat_eq j 0 ≡ false = ne_eqb j 0 (λ i. other_index q j h g (sym index_is ∙ whole_index r.reason w ∙ sym i)) in
              rw (h, g, w, k, level_entries q g) (beside e (pair_at rows q j) (is_answered_whole rows q) j z)
          | inr g ↦
              let k : is_eq (place_cmp r.place q) ≡ false = ap is_eq (keys_alike q) ∙ g in
              rw (h, g, w, k) refl
        ]
      ]

      -- after the reason for the last index
      same_last : is_whole r.reason ≡ false → nat_lt (suc e.from) e.size ≡ false → (q : PlaceValue) (j : ℕ) → fault_from (r ∷ rows) (e ∷ es) q j ≡ fault_from rows es q j
      same_last w last q j = elim (cases_Bool (is_eq (index_cmp r.place (index_of r.reason) q j))) [
        | inl h ↦
            let p = equal_is (index_cmp r.place (index_of r.reason) q j) h in
            let g : is_eq (place_cmp e.place q) ≡ true = ap is_eq (sym (keys_alike q) ∙ (then_equal (place_cmp r.place q) (nat_cmp (index_of r.reason) j) p).0) in
            here q j p ∙ fine ∙ rw (level_entries q g, no_more q j p) refl
        | inr h ↦ elim (cases_Bool (is_eq (place_cmp e.place q))) [
          | inl g ↦ rw (h, g, w, level_entries q g) (nothing_there e (pair_at rows q j) (is_answered_whole rows q) j (past e j (other_index q j h g) last))
          | inr g ↦ rw (h, g, w) refl
        ]
      ]

      -- after the reason for another index
      same_next : is_whole r.reason ≡ false → (q : PlaceValue) (j : ℕ) → fault_from (r ∷ rows) (e ∷ es) q j ≡ fault_from rows (record { place = e.place; from = suc e.from; size = e.size; judge = e.judge } ∷ es) q j
      same_next w q j = elim (cases_Bool (is_eq (index_cmp r.place (index_of r.reason) q j))) [
        | inl h ↦
            let p = equal_is (index_cmp r.place (index_of r.reason) q j) h in
            let two = then_equal (place_cmp r.place q) (nat_cmp (index_of r.reason) j) p in
            let g : is_eq (place_cmp e.place q) ≡ true = ap is_eq (sym (keys_alike q) ∙ two.0) in
            let i : j ≡ e.from = sym (nat_equal (index_of r.reason) j two.1) ∙ index_is in
            let b : nat_le (suc e.from) j ≡ false = lt-leb (suc e.from) j (omega arith) in
            here q j p ∙ fine ∙ rw (g, no_more q j p, b) refl
        | inr h ↦ elim (cases_Bool (is_eq (place_cmp e.place q))) [
          | inl g ↦
              let n = other_index q j h g in
              let s : nat_le e.from j ≡ nat_le (suc e.from) j = step_over e.from j n in
              rw (h, g, w) (still e (pair_at rows q j) (is_answered_whole rows q) j s)
          | inr g ↦ rw (h, g, w) refl
        ]
      ]

      same_after : (q : PlaceValue) (j : ℕ) → fault_from (r ∷ rows) (e ∷ es) q j ≡ fault_from rows (after r.reason e es) q j
      same_after q j = elim (cases_Bool (is_whole r.reason)) [
        | inl w ↦ same_whole w q j ∙ sym (rw w refl)
        | inr w ↦ elim (cases_Bool (nat_lt (suc e.from) e.size)) [
          | inl l ↦ same_next w q j ∙ sym (rw (w, l) refl)
          | inr l ↦ same_last w l q j ∙ sym (rw (w, l) refl)
        ]
      ]

  -- both have the same faults
  carry : (rows : List PairValue) (es : List Entry) (rows2 : List PairValue) (es2 fs : List Entry) → ((q : PlaceValue) (j : ℕ) → fault_from rows (es ++ fs) q j ≡ fault_from rows2 (es2 ++ fs) q j) → (x : Result (List PairValue) PairFault) → Judges rows2 es2 fs x → Judges rows es fs x
  carry rows es rows2 es2 fs alike (Ok rest) h = (h.0, λ q j. alike q j ∙ h.1 q j)
  carry rows es rows2 es2 fs alike (Err f) h = (h.0, h.1, alike h.0 h.1 ∙ h.2, λ q j l. alike q j ∙ h.3 q j l)

  module _ (r : PairValue) (rows : List PairValue) (e : Entry) (es fs : List Entry) (up : ArePairsAscending (r ∷ rows)) (rising : AreEntriesRising (e ∷ (es ++ fs))) where
    judged : (at : index_cmp r.place (index_of r.reason) e.place e.from ≡ Equal) → (next : Result (List PairValue) PairFault) → Judges rows (after r.reason e es) fs next → (f : Option PairFault) → e.judge r.reason ≡ f → Judges (r ∷ rows) (e ∷ es) fs (or_else f next)
    judged at next h None fine = carry (r ∷ rows) (e ∷ es) rows (after r.reason e es) fs (λ q j. same_after r rows e (es ++ fs) at up rising fine q j ∙ ap (λ x. fault_from rows x q j) (after_both r.reason e es fs)) next h
    judged at next h (Some f) is = wrong r rows e (es ++ fs) at up rising f is

    step : (next : Result (List PairValue) PairFault) → (AreEntriesRising (after r.reason e es ++ fs) → Judges rows (after r.reason e es) fs next) → (c : Ordering) → index_cmp r.place (index_of r.reason) e.place e.from ≡ c →
        Judges (r ∷ rows) (e ∷ es) fs (elim c [ Less ↦ Err Stray | Equal ↦ or_else (e.judge r.reason) next | Greater ↦ Err Missing ])
    step next h Less at = stray r rows e (es ++ fs) at up rising
    step next h Equal at = judged at next (h (subst AreEntriesRising (after_both r.reason e es fs) (rising_after r.reason e (es ++ fs) rising))) (e.judge r.reason) refl
    step next h Greater at =
        let below = turn_back r.place (index_of r.reason) e.place e.from at in
        missing (r ∷ rows) e (es ++ fs) (below, below_more e.place e.from r.place (index_of r.reason) below rows up.0) rising

pub judges : IsTotalOrder place_cmp → (rows : List PairValue) (es fs : List Entry) → ArePairsAscending rows → AreEntriesRising (es ++ fs) → Judges rows es fs (walk rows es)
judges o [] [] fs up rising = (up, λ q j. refl)
judges o (r ∷ rows) [] fs up rising = (up, λ q j. refl)
judges o [] (e ∷ es) fs up rising = missing o [] e (es ++ fs) tt rising
judges o (r ∷ rows) (e ∷ es) fs up rising =
    step o r rows e es fs up rising (walk rows (after r.reason e es)) (λ h. judges o rows (after r.reason e es) fs up.1 h) (index_cmp r.place (index_of r.reason) e.place e.from) refl

-- pairs that no leaf is left for
pub end_stray : IsTotalOrder place_cmp → (r : PairValue) (rows : List PairValue) → ArePairsAscending (r ∷ rows) → IsFirst (r ∷ rows) [] Stray
end_stray o = left_over o
