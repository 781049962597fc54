-- A reason that is picked has no fault, and where none is picked each has one.
use Rattle.std.proofs.Common.{◌≡◌, ◌≢◌, ◌⊎◌, ℕ, suc, Bool, true, false, nat_eq, List, [], ◌∷◌, length, map, Option, Some, None, inl, inr, refl, sym, ap, ◌∙◌, subst, true≢false, arith}
use Rattle.std.specs.Prelude.{All, find, if◌then◌else◌, is_some, slice_get, slice_index}
use Rattle.std.specs.Option.{option_and_then, option_map}
use Rattle.std.specs.Ordering.{is_eq}
use Rattle.std.specs.declared.cmp.Ordering.TheVariants.{Less}
use Rattle.std.proofs.lemmas.Bool.{and_parts, cases_Bool, eqb-true, eq-eqb}
use Rattle.std.proofs.lemmas.List.{length-map}
use Rattle.std.proofs.lemmas.List.Elements.{All-head, All-tail}
use Rattle.mcv_cert.specs.Pair.{ReasonValue, never, twin, same, all, index_of, list_cmp}
use Rattle.mcv_judge.specs.Reason.{LegValue, BlockValue, fault_of, fault_of_leg, fill_a_symbol, fill_symbol_of, has_server, have_server, is_one_missing, is_same_list, is_same_server, is_there_with, is_twin, is_whole, leg_at, server_at, unless}
use Rattle.mcv_judge.specs.Faults.{AreLegsRising}
use Rattle.mcv_judge.specs.declared.fault.PairFault.{PairFault}
use Rattle.mcv_judge.specs.declared.fault.PairFault.TheVariants.{CanBeAcknowledged, NotAcknowledged, OtherServer}
use Rattle.mcv_picks.specs.Picks.{IsFirstFilling, before_others, each_with, filling, first_twin, first_with}
use Rattle.mcv_picks.specs.Reasons.{AreSized, IsReasonAt, IsReasonBeside, whole_reason}
use Rattle.mcv_picks.proofs.TwinsAreEqual.{same_itself}

-- ---- what a search found

found_all : {X : Type 0} (p : X → Bool) (Q : X → Type 0) (xs : List X) (d : X) → find p xs ≡ Some d → All Q xs → (p d ≡ true) × Q d
found_all p Q [] d h every = absurd cc
found_all p Q (x ∷ xs) d h every = elim (cases_Bool (p x)) [
  | inl is ↦
      let some : Some x ≡ Some d = rw is at h in
      let one : x ≡ d = cc in
      (subst (λ y. p y ≡ true) one is, subst Q one (All-head Q x xs every))
  | inr isnt ↦ found_all p Q xs d (rw isnt at h) (All-tail Q x xs every)
]

passes : {X : Type 0} (p : X → Bool) (xs : List X) (d : X) → find p xs ≡ Some d → p d ≡ true
passes p xs d h = (found_all p (λ _. Unit {0}) xs d h (λ _ _ _. tt)).0

-- another test that it passes finds something too
found_too : {X : Type 0} (p q : X → Bool) (xs : List X) (d : X) → find p xs ≡ Some d → q d ≡ true → is_some (find q xs) ≡ true
found_too p q [] d h also = absurd cc
found_too p q (x ∷ xs) d h also = elim (cases_Bool (q x)) [
  | inl is ↦ rw is refl
  | inr isnt ↦ elim (cases_Bool (p x)) [
    | inl was ↦
        let some : Some x ≡ Some d = rw was at h in
        let one : x ≡ d = cc in
        absurd (true≢false (sym also ∙ ap q (sym one) ∙ isnt))
    | inr wasnt ↦ rw isnt (found_too p q xs d (rw wasnt at h) also)
  ]
]

none_of : {X : Type 0} (o : Option X) → o ≡ None → is_some o ≡ true → ⊥
none_of o none some = true≢false (sym some ∙ ap is_some none)

rises_from : (d : LegValue) (legs : List LegValue) → AreLegsRising (d ∷ legs) → All (λ e. list_cmp d.position e.position ≡ Less) legs
rises_from d legs up k e l = up 0 (suc k) e (omega arith) (omega arith)

rises_behind : (d : LegValue) (legs : List LegValue) → AreLegsRising (d ∷ legs) → AreLegsRising legs
rises_behind d legs up i j e l b = up (suc i) (suc j) e (omega arith) (omega arith)

-- a leg that was found is the one at its position
at_own : (p : LegValue → Bool) (legs : List LegValue) (d : LegValue) → AreLegsRising legs → find p legs ≡ Some d → leg_at legs d.position ≡ Some d
at_own p [] d up h = absurd cc
at_own p (e ∷ legs) d up h = elim (cases_Bool (p e)) [
  | inl is ↦
      let some : Some e ≡ Some d = rw is at h in
      let one : e ≡ d = cc in
      subst (λ y. leg_at (e ∷ legs) y.position ≡ Some y) one (rw (same_itself e.position) refl)
  | inr isnt ↦
      let later : find p legs ≡ Some d = rw isnt at h in
      let less = (found_all p (λ y. list_cmp e.position y.position ≡ Less) legs d later (rises_from e legs up)).1 in
      let other : is_same_list e.position d.position ≡ false = ap is_eq less in
      rw other (at_own p legs d (rises_behind e legs up) later)
]

-- ---- what is picked holds

module _ (legs : List LegValue) (up : AreLegsRising legs) where
  leg_holds : (test : LegValue → Bool) (d : LegValue) → find test legs ≡ Some d → fault_of_leg (leg_at legs d.position) test ≡ None
  leg_holds test d h = rw (at_own test legs d up h, passes test legs d h) refl

  -- what legs, one for each index from one on, have
  abbrev AreThere : ℕ → ℕ → ℕ → ℕ → List LegValue → Type 0
  AreThere s x i n ds = (length ds ≡ n) × (is_one_missing legs (map (λ d. d.position) ds) ≡ false) × (have_server legs s (Some x) i (map (λ d. d.position) ds) ≡ true)

  there_before : (s x i n : ℕ) (o : Option LegValue) (more : Option (List LegValue)) (ds : List LegValue) → first_with legs s x i ≡ o → ((es : List LegValue) → more ≡ Some es → AreThere s x (suc i) n es) → before_others o more ≡ Some ds → AreThere s x i (suc n) ds
  there_before s x i n None more ds is others h = absurd cc
  there_before s x i n (Some d) None ds is others h = absurd cc
  there_before s x i n (Some d) (Some es) ds is others h =
      let whole : d ∷ es ≡ ds = cc in
      let rest = others es refl in
      let own = at_own (has_server s (Some x) i) legs d up is in
      let has = passes (has_server s (Some x) i) legs d is in
      subst (AreThere s x i (suc n)) whole (ap suc rest.0, rw own rest.1, rw (own, has) rest.2)

  each_there : (s x i : ℕ) (ys : List ℕ) (ds : List LegValue) → each_with legs s x i ys ≡ Some ds → AreThere s x i (length ys) ds
  each_there s x i [] ds h = let none : [] ≡ ds = cc in subst (AreThere s x i 0) none (refl, refl, refl)
  each_there s x i (y ∷ ys) ds h = there_before s x i (length ys) (first_with legs s x i) (each_with legs s x (suc i) ys) ds refl (λ es is. each_there s x (suc i) ys es is) h

  begins : (d : LegValue) (more : Option (List LegValue)) (ds : List LegValue) → before_others (Some d) more ≡ Some ds → (es : List LegValue) × (d ∷ es ≡ ds)
  begins d None ds h = absurd cc
  begins d (Some es) ds h = (es, cc)

  first_begins : (s x : ℕ) (ys : List ℕ) (d : LegValue) (ds : List LegValue) → is_same_server (slice_get ys 0) (Some x) ≡ true → first_with legs s x 0 ≡ Some d → each_with legs s x 0 ys ≡ Some ds → (es : List LegValue) × (d ∷ es ≡ ds)
  first_begins s x [] d ds some is h = absurd cc
  first_begins s x (y ∷ ys) d ds some is h = begins d (each_with legs s x 1 ys) ds (ap (λ o. before_others o (each_with legs s x 1 ys)) (sym is) ∙ h)

  -- what fills a symbol
  abbrev Fills : ℕ → List LegValue → Type 0
  Fills x ds = (is_one_missing legs (map (λ d. d.position) ds) ≡ false) × (fill_a_symbol legs (Some x) (map (λ d. d.position) ds) ≡ true)

  filled : (s x : ℕ) (d : LegValue) (es : List LegValue) → first_with legs s x 0 ≡ Some d → AreThere s x 0 (length d.servers) (d ∷ es) → Fills x (d ∷ es)
  filled s x d es is there =
      let own = at_own (has_server s (Some x) 0) legs d up is in
      let has = and_parts (nat_eq d.symbol s) (is_same_server (server_at d 0) (Some x)) (passes (has_server s (Some x) 0) legs d is) in
      let symbol = eqb-true d.symbol s has.0 in
      let count : length (map (λ (e : LegValue). e.position) (d ∷ es)) ≡ length d.servers = length-map (d ∷ es) (λ e. e.position) ∙ there.0 in
      (there.1, rw (own, eq-eqb (length (map (λ (e : LegValue). e.position) (d ∷ es))) (length d.servers) count) (subst (λ n. have_server legs n (Some x) 0 (map (λ (e : LegValue). e.position) (d ∷ es)) ≡ true) (sym symbol) there.2))

  all_holds : (s x : ℕ) (ds : List LegValue) (o : Option LegValue) → first_with legs s x 0 ≡ o → option_and_then (λ d. each_with legs s x 0 d.servers) o ≡ Some ds → Fills x ds
  all_holds s x ds None is h = absurd cc
  all_holds s x ds (Some d) is h =
      let has = and_parts (nat_eq d.symbol s) (is_same_server (server_at d 0) (Some x)) (passes (has_server s (Some x) 0) legs d is) in
      let begin = first_begins s x d.servers d ds has.1 is h in
      subst (Fills x) begin.1 (filled s x d begin.0 is (subst (AreThere s x 0 (length d.servers)) (sym begin.1) (each_there s x 0 d.servers ds h)))

  -- at an index
  all_hold : (leaf : LegValue) (b : BlockValue) → b.acknowledged ≡ legs → (i x : ℕ) (r : ReasonValue) → server_at leaf i ≡ Some x → (found : Option (List LegValue)) → IsFirstFilling legs x found → Some r ≡ option_map (λ ds. all i (map (λ d. d.position) ds)) found → fault_of b leaf r ≡ None
  all_hold leaf b same_legs i x r server None least h = absurd cc
  all_hold leaf b same_legs i x r server (Some ds) least h =
      let one : r ≡ all i (map (λ (d : LegValue). d.position) ds) = cc in
      let fills = all_holds least.0 x ds (first_with legs least.0 x 0) refl least.1 in
      rw (one, same_legs, server, fills.0, fills.1) refl

  at_holds : (leaf : LegValue) (b : BlockValue) → b.acknowledged ≡ legs → (i x : ℕ) (r : ReasonValue) → server_at leaf i ≡ Some x → (o : Option LegValue) → first_with legs leaf.symbol x i ≡ o → IsReasonBeside o legs i x (Some r) → fault_of b leaf r ≡ None
  at_holds leaf b same_legs i x r server (Some d) is h =
      let one : r ≡ same i d.position = cc in
      rw (one, same_legs, server) (leg_holds (has_server leaf.symbol (Some x) i) d is)
  at_holds leaf b same_legs i x r server None is h = all_hold leaf b same_legs i x r server h.0 h.1 h.2

-- for all indexes
twin_holds : (b : BlockValue) (leaf : LegValue) (r : ReasonValue) → AreLegsRising b.acknowledged → (o : Option LegValue) → first_twin b.acknowledged leaf ≡ o → option_map (λ d. twin d.position) o ≡ Some r → fault_of b leaf r ≡ None
twin_holds b leaf r up None is h = absurd cc
twin_holds b leaf r up (Some d) is h =
    let one : twin d.position ≡ r = cc in
    subst (λ q. fault_of b leaf q ≡ None) one (leg_holds b.acknowledged up (is_twin leaf) d is)

whole_holds : (b : BlockValue) (leaf : LegValue) (r : ReasonValue) → AreLegsRising b.acknowledged → whole_reason b.can_be_acknowledged b.acknowledged leaf ≡ Some r → fault_of b leaf r ≡ None
whole_holds b leaf r up h = elim (cases_Bool b.can_be_acknowledged) [
  | inl can ↦ twin_holds b leaf r up (first_twin b.acknowledged leaf) refl (rw can at h)
  | inr cannot ↦
      let some : Some never ≡ Some r = rw cannot at h in
      let one : never ≡ r = cc in
      subst (λ q. fault_of b leaf q ≡ None) one (rw cannot refl)
]

pub picked_hold : (b : BlockValue) (leaf : LegValue) (r : ReasonValue) → AreLegsRising b.acknowledged →
    (whole_reason b.can_be_acknowledged b.acknowledged leaf ≡ Some r) ⊎ ((i : ℕ) × (x : ℕ) × (server_at leaf i ≡ Some x) × IsReasonAt b.acknowledged leaf i x (Some r)) → fault_of b leaf r ≡ None
picked_hold b leaf r up (inl h) = whole_holds b leaf r up h
picked_hold b leaf r up (inr h) = at_holds b.acknowledged up leaf b refl h.0 h.1 r h.2 (first_with b.acknowledged leaf.symbol h.1 h.0) refl h.3

-- ---- where none is picked

refused : (o : Option LegValue) (test : LegValue → Bool) → fault_of_leg o test ≡ None → (d : LegValue) × (o ≡ Some d) × (test d ≡ true)
refused None test h = absurd cc
refused (Some d) test h = elim (cases_Bool (test d)) [
  | inl is ↦ (d, refl, is)
  | inr isnt ↦ absurd (let some : ◌≡◌ {A = Option PairFault} (Some OtherServer) None = rw isnt at h in cc)
]

-- a leg that is somewhere and passes is found
one_is_found : (legs : List LegValue) (p : List ℕ) (test : LegValue → Bool) → find test legs ≡ None → fault_of_leg (leg_at legs p) test ≡ None → ⊥
one_is_found legs p test none h =
    let there = refused (leg_at legs p) test h in
    none_of (find test legs) none (found_too (λ d. is_same_list d.position p) test legs there.0 there.1 there.2)

there_with : (test : LegValue → Bool) (o : Option LegValue) → is_there_with test o ≡ true → (d : LegValue) × (o ≡ Some d) × (test d ≡ true)
there_with test None h = absurd cc
there_with test (Some d) h = (d, refl, h)

both_there : (o : Option LegValue) (more : Option (List LegValue)) → is_some o ≡ true → is_some more ≡ true → is_some (before_others o more) ≡ true
both_there None more h g = absurd cc
both_there (Some d) None h g = absurd cc
both_there (Some d) (Some ds) h g = refl

module _ (legs : List LegValue) where
  each_some : (s x i : ℕ) (ps : List (List ℕ)) (ys : List ℕ) → length ps ≡ length ys → have_server legs s (Some x) i ps ≡ true → is_some (each_with legs s x i ys) ≡ true
  each_some s x i [] [] e h = refl
  each_some s x i [] (y ∷ ys) e h = absurd (omega arith)
  each_some s x i (p ∷ ps) [] e h = absurd (omega arith)
  each_some s x i (p ∷ ps) (y ∷ ys) e h =
      let both = and_parts (is_there_with (has_server s (Some x) i) (leg_at legs p)) (have_server legs s (Some x) (suc i) ps) h in
      let there = there_with (has_server s (Some x) i) (leg_at legs p) both.0 in
      both_there (first_with legs s x i) (each_with legs s x (suc i) ys) (found_too (λ d. is_same_list d.position p) (has_server s (Some x) i) legs there.0 there.1 there.2) (each_some s x (suc i) ps ys (omega arith) both.1)

  -- no symbol's legs have the server at all indexes
  fills_none : (sizes : List ℕ) → AreSized sizes legs → (x : ℕ) → ((s : ℕ) → filling legs s x ≡ None) → (ps : List (List ℕ)) → fill_a_symbol legs (Some x) ps ≡ true → ⊥
  fills_none sizes sized x none [] h = absurd cc
  fills_none sizes sized x none (p ∷ ps) h =
      let there = there_with (fill_symbol_of legs (Some x) (p ∷ ps)) (leg_at legs p) h in
      let both = and_parts (nat_eq (length (p ∷ ps)) (length there.0.servers)) (have_server legs there.0.symbol (Some x) 0 (p ∷ ps)) there.2 in
      let count = eqb-true (length (p ∷ ps)) (length there.0.servers) both.0 in
      let size = (found_all (λ d. is_same_list d.position p) (λ d. length d.servers ≡ slice_index sizes d.symbol) legs there.0 there.1 sized).1 in
      let parts = and_parts (is_there_with (has_server there.0.symbol (Some x) 0) (leg_at legs p)) (have_server legs there.0.symbol (Some x) 1 ps) both.1 in
      let own = there_with (has_server there.0.symbol (Some x) 0) (leg_at legs p) parts.0 in
      let some = found_too (λ d. is_same_list d.position p) (has_server there.0.symbol (Some x) 0) legs own.0 own.1 own.2 in
      found_first there.0.symbol (p ∷ ps) (count ∙ size) both.1 (first_with legs there.0.symbol x 0) refl some
    where
      found_first : (s : ℕ) (qs : List (List ℕ)) → length qs ≡ slice_index sizes s → have_server legs s (Some x) 0 qs ≡ true → (o : Option LegValue) → first_with legs s x 0 ≡ o → is_some o ≡ true → ⊥
      found_first s qs size have None is some = absurd cc
      found_first s qs size have (Some e) is some =
          let of = found_all (has_server s (Some x) 0) (λ d. length d.servers ≡ slice_index sizes d.symbol) legs e is sized in
          let symbol = eqb-true e.symbol s (and_parts (nat_eq e.symbol s) (is_same_server (server_at e 0) (Some x)) of.0).0 in
          let count : length qs ≡ length e.servers = size ∙ ap (slice_index sizes) (sym symbol) ∙ sym of.1 in
          let fills : filling legs s x ≡ each_with legs s x 0 e.servers = ap (option_and_then (λ d. each_with legs s x 0 d.servers)) is in
          none_of (filling legs s x) (none s) (ap is_some fills ∙ each_some s x 0 qs e.servers count have)

no_some : {X Y : Type 0} (f : X → Y) (o : Option X) → option_map f o ≡ None → o ≡ None
no_some f None h = refl
no_some f (Some x) h = absurd cc

beside_none : (legs : List LegValue) (i x : ℕ) (o : Option LegValue) → IsReasonBeside o legs i x None → (o ≡ None) × ((s : ℕ) → filling legs s x ≡ None)
beside_none legs i x (Some d) h = absurd cc
beside_none legs i x None h = (refl, subst (IsFirstFilling legs x) (no_some (λ ds. all i (map (λ d. d.position) ds)) h.0 (sym h.2)) h.1)

fine_all : (legs : List LegValue) (x : Option ℕ) (ps : List (List ℕ)) → (if is_one_missing legs ps then Some NotAcknowledged else unless (fill_a_symbol legs x ps) OtherServer) ≡ None → fill_a_symbol legs x ps ≡ true
fine_all legs x ps h = elim (cases_Bool (is_one_missing legs ps)) [
  | inl m ↦ absurd (let some : ◌≡◌ {A = Option PairFault} (Some NotAcknowledged) None = rw m at h in cc)
  | inr there ↦ elim (cases_Bool (fill_a_symbol legs x ps)) [
    | inl is ↦ is
    | inr isnt ↦ absurd (let some : ◌≡◌ {A = Option PairFault} (Some OtherServer) None = rw (there, isnt) at h in cc)
  ]
]

no_twin : (can : Bool) (legs : List LegValue) (leaf : LegValue) → whole_reason can legs leaf ≡ None → (can ≡ true) × (first_twin legs leaf ≡ None)
no_twin true legs leaf h = (refl, no_some (λ d. twin d.position) (first_twin legs leaf) h)
no_twin false legs leaf h = absurd cc

at_index : (r : ReasonValue) (i : ℕ) → is_whole r ≡ false → (index_of r ≡ i) ⊎ (is_whole r ≡ true) → index_of r ≡ i
at_index r i not (inl h) = h
at_index r i not (inr h) = absurd (true≢false (sym h ∙ not))

pub none_holds : (sizes : List ℕ) (b : BlockValue) (leaf : LegValue) (i x : ℕ) (r : ReasonValue) → AreSized sizes b.acknowledged → server_at leaf i ≡ Some x →
    whole_reason b.can_be_acknowledged b.acknowledged leaf ≡ None → IsReasonAt b.acknowledged leaf i x None → (index_of r ≡ i) ⊎ (is_whole r ≡ true) → fault_of b leaf r ≢ None
none_holds sizes b leaf i x r sized server whole picked index h = by r index h
  where
    no : (b.can_be_acknowledged ≡ true) × (first_twin b.acknowledged leaf ≡ None)
    no = no_twin b.can_be_acknowledged b.acknowledged leaf whole

    none : (first_with b.acknowledged leaf.symbol x i ≡ None) × ((s : ℕ) → filling b.acknowledged s x ≡ None)
    none = beside_none b.acknowledged i x (first_with b.acknowledged leaf.symbol x i) picked

    by : (q : ReasonValue) → (index_of q ≡ i) ⊎ (is_whole q ≡ true) → fault_of b leaf q ≡ None → ⊥
    by never index h = absurd (let some : ◌≡◌ {A = Option PairFault} (Some CanBeAcknowledged) None = rw no.0 at h in cc)
    by (twin p) index h = one_is_found b.acknowledged p (is_twin leaf) no.1 h
    by (same j p) index h =
        let own : j ≡ i = at_index (same j p) i refl index in
        one_is_found b.acknowledged p (has_server leaf.symbol (Some x) i) none.0
        (rw (own, server) at h)
    by (all j ps) index h =
        let own : j ≡ i = at_index (all j ps) i refl index in
        fills_none b.acknowledged sizes sized x none.1 ps (fine_all b.acknowledged (Some x) ps (rw (own, server) at h))
