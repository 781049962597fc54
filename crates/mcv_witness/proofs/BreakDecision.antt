-- Whether a finding breaks coverage, by what it takes in turn.
use Rattle.std.proofs.Common.{◌≡◌, ◌≢◌, ◌↔◌, ℕ, zero, suc, ◌<◌, ◌≤◌, ◌+◌, ◌&&◌, ◌==◌, Bool, true, false, nat_le, nat_lt, List, [], ◌∷◌, length, map, Option, Some, None, Bor, option_map, refl, sym, ap, ◌∙◌, subst, arith}
use Rattle.std.specs.Cmp.Lexicographic.{slice_cmp}
use Rattle.std.specs.Ordering.{is_lt, nat_cmp}
use Rattle.std.specs.List.{list_all}
use Rattle.std.specs.Prelude.{IsTrue, option_and_then, slice_get, slice_index}
use Rattle.std.specs.Slice.{IsItemAt}
use Rattle.std.specs.declared.cmp.Ordering.{Ordering}
use Rattle.std.specs.declared.cmp.Ordering.TheVariants.{Less, Equal, Greater}
use Rattle.std.proofs.lemmas.Bool.{and_from, and_parts, eq-eqb, eqb-true, false≢true, leb-true, lt-ltb, ltb-true}
use Rattle.std.proofs.lemmas.Option.{none-some, same_Some, slice_get-map}
use Rattle.mcv_base.proofs.Prefixes.{no_rest, one_reading}
use Rattle.mcv_base.specs.declared.key.KeyFault.{KeyFault}
use Rattle.mcv_base.specs.declared.request.ServerId.{ServerId}
use Rattle.mcv_base.specs.declared.key.KeyFault.TheVariants.{Empty, TooLong, BadByte, NoRest}
use Rattle.mcv_base.specs.Key.{IsCut, IsKeyFault, IsRest, is_key_byte, is_key_word}
use Rattle.mcv_base.specs.Operation.{shows_value}
use Rattle.mcv_classes.proofs.Order.{before-through}
use Rattle.mcv_classes.specs.Class.{IsBefore, IsClassWord}
use Rattle.mcv_classes.specs.Words.{class_words}
use Rattle.mcv_pools.specs.Symbol.{SymbolValue}
use Rattle.mcv_route.proofs.HandleChildren.{borrowed-at}
use Rattle.mcv_route.specs.Outcomes.{History, IsChoice}
use Rattle.mcv_route.specs.Places.{leaf_in, pool_at_position, route_of_prefix}
use Rattle.mcv_route.specs.Routes.{RouteEntry, RoutesValue}
use Rattle.mcv_route.specs.Tree.{Pool, Tree}
use Rattle.mcv_symbolic.specs.CoveredRoutes.{sizes_of}
use Rattle.mcv_witness.specs.Breaks.{AreRising, BreaksCoverage, IsLeafOf, IsMissed, IsRead, IsAtPlace, chosen}
use Rattle.mcv_witness.specs.Confirm.{AreErasOf, HaveNoEras, IsNowhere, are_rising, has_indexes, hit_seen, missed_seen, rising_from}
use Rattle.mcv_witness.specs.Finding.{FindingValue}
use Rattle.mcv_witness.proofs.ConfirmedFindings.{missed_left, missed_right, missed_walk, one_place, read_left, read_right, read_walk}
use Rattle.mcv_witness.proofs.EachMember.{Each, each_map}
use Rattle.mcv_witness.proofs.RouteWalk.{rises_rising, rising_rises}
use Rattle.mcv_witness.proofs.Regions.{Rises}

-- ---- the whole

module _ (r : RoutesValue) (f : FindingValue) where
  pub nowhere : IsNowhere r f → IsTrue false ↔ BreaksCoverage r f
  nowhere none = (λ e. absurd (false≢true e), λ b. absurd (none b.tree b.rest b.since b.get_since b.placed))

  module _ (t : Tree) (rest : List ℕ) (since get_since : Option ℕ) (placed : IsAtPlace r f t rest since get_since) where
    its_leaf : BreaksCoverage r f → IsLeafOf f t
    its_leaf b = subst (IsLeafOf f) (one_place r f b.tree t b.rest rest b.since since b.get_since get_since b.placed placed).0 b.leaf

    its_read : BreaksCoverage r f → IsRead f t rest get_since
    its_read b =
        let same = one_place r f b.tree t b.rest rest b.since since b.get_since get_since b.placed placed in
        subst (λ x. IsRead f x rest get_since) same.0 (subst (λ x. IsRead f b.tree x get_since) same.1 (subst (IsRead f b.tree b.rest) same.3 b.read))

    its_missed : BreaksCoverage r f → IsMissed f t rest since
    its_missed b =
        let same = one_place r f b.tree t b.rest rest b.since since b.get_since get_since b.placed placed in
        subst (λ x. IsMissed f x rest since) same.0 (subst (λ x. IsMissed f b.tree x since) same.1 (subst (IsMissed f b.tree b.rest) same.2 b.missed))

    pub no_choice : (IsChoice (sizes_of r) (chosen f) → ⊥) → IsTrue false ↔ BreaksCoverage r f
    no_choice none = (λ e. absurd (false≢true e), λ b. absurd (none b.choice))

    pub no_leaf : (b : Bool) → b ≡ false → IsTrue b ↔ IsLeafOf f t → IsTrue false ↔ BreaksCoverage r f
    no_leaf b e decides = (λ g. absurd (false≢true g), λ breaks. absurd (false≢true (sym e ∙ decides.1 (its_leaf breaks))))

    pub not_read : (b : Bool) → b ≡ false → IsTrue b ↔ IsRead f t rest get_since → IsTrue false ↔ BreaksCoverage r f
    not_read b e decides = (λ g. absurd (false≢true g), λ breaks. absurd (false≢true (sym e ∙ decides.1 (its_read breaks))))

    pub all_but_missed : IsChoice (sizes_of r) (chosen f) → IsLeafOf f t → IsRead f t rest get_since → (b : Bool) → IsTrue b ↔ IsMissed f t rest since → IsTrue b ↔ BreaksCoverage r f
    all_but_missed choice leaf read b decides = (
      λ e. record { tree = t; rest = rest; since = since; get_since = get_since; placed = placed; choice = choice; leaf = leaf; read = read; missed = decides.0 e },
      λ breaks. decides.1 (its_missed breaks),
    )

-- ---- choices

indexes-right : (choice : List ℕ) (k : ℕ) (symbols : List SymbolValue) → has_indexes choice k symbols ≡ true → (s : ℕ) → s < length (map (λ x. x.n) symbols) → slice_index choice (s + k) < slice_index (map (λ x. x.n) symbols) s
indexes-right choice k [] e s low = absurd (omega (arith, low))
indexes-right choice k (x ∷ symbols) e zero low =
    let start : k ≡ zero + k = omega arith in
    subst (λ i. slice_index choice i < x.n) start (ltb-true (slice_index choice k) x.n (and_parts (nat_lt (slice_index choice k) x.n) (has_indexes choice (suc k) symbols) e).0)
indexes-right choice k (x ∷ symbols) e (suc s) low =
    let moved : s + suc k ≡ suc s + k = omega arith in
    subst (λ i. slice_index choice i < slice_index (map (λ y. y.n) symbols) s) moved
    (indexes-right choice (suc k) symbols (and_parts (nat_lt (slice_index choice k) x.n) (has_indexes choice (suc k) symbols) e).1 s (omega (arith, low)))

indexes-left : (choice : List ℕ) (k : ℕ) (symbols : List SymbolValue) → ((s : ℕ) → s < length (map (λ x. x.n) symbols) → slice_index choice (s + k) < slice_index (map (λ x. x.n) symbols) s) → has_indexes choice k symbols ≡ true
indexes-left choice k [] h = refl
indexes-left choice k (x ∷ symbols) h =
    let start : zero + k ≡ k = omega arith in
    and_from (nat_lt (slice_index choice k) x.n) (has_indexes choice (suc k) symbols) (lt-ltb (slice_index choice k) x.n (subst (λ i. slice_index choice i < x.n) start (h zero (omega arith))))
    (indexes-left choice (suc k) symbols (λ s low. subst (λ i. slice_index choice i < slice_index (map (λ y. y.n) symbols) s) (moved s k) (h (suc s) (omega (arith, low)))))
  where
    moved : (s k : ℕ) → suc s + k ≡ s + suc k
    moved s k = omega arith

choice-at : (choice : List ℕ) (s : ℕ) (n : ℕ) → slice_index choice (s + 0) < n → slice_index choice s < n
choice-at choice s n h = let same : s + 0 ≡ s = omega arith in subst (λ i. slice_index choice i < n) same h

at-choice : (choice : List ℕ) (s : ℕ) (n : ℕ) → slice_index choice s < n → slice_index choice (s + 0) < n
at-choice choice s n h = let same : s ≡ s + 0 = omega arith in subst (λ i. slice_index choice i < n) same h

pub indexes_choice : (choice : List ℕ) (symbols : List SymbolValue) → has_indexes choice 0 symbols ≡ true → IsChoice (map (λ x. x.n) symbols) (slice_index choice)
indexes_choice choice symbols e s low = choice-at choice s (slice_index (map (λ x. x.n) symbols) s) (indexes-right choice 0 symbols e s low)

pub choice_indexes : (choice : List ℕ) (symbols : List SymbolValue) → IsChoice (map (λ x. x.n) symbols) (slice_index choice) → has_indexes choice 0 symbols ≡ true
choice_indexes choice symbols h = indexes-left choice 0 symbols (λ s low. at-choice choice s (slice_index (map (λ x. x.n) symbols) s) (h s low))

-- ---- rising

is_less : (o : Ordering) → is_lt o ≡ true → o ≡ Less
is_less Less e = refl
is_less Equal e = absurd (false≢true e)
is_less Greater e = absurd (false≢true e)

rising-each : (p : List ℕ) (es : History) → rising_from p es ≡ true → Each (λ e. IsBefore p e.0) es × Rises es
rising-each p [] e = (tt, tt)
rising-each p (x ∷ es) e =
    let parts = and_parts (is_lt (slice_cmp nat_cmp p x.0)) (rising_from x.0 es) e in
    let first : IsBefore p x.0 = is_less (slice_cmp nat_cmp p x.0) parts.0 in
    let more = rising-each x.0 es parts.1 in
    ((first, each_map (λ y. IsBefore x.0 y.0) (λ y. IsBefore p y.0) es (λ y h. before-through p x.0 y.0 first h) more.0), more)

each-rising : (p : List ℕ) (es : History) → Each (λ e. IsBefore p e.0) es → Rises es → rising_from p es ≡ true
each-rising p [] h g = refl
each-rising p (x ∷ es) h g = and_from (is_lt (slice_cmp nat_cmp p x.0)) (rising_from x.0 es) (ap is_lt h.0) (each-rising x.0 es g.0 g.1)

pub rising_right : (es : History) → are_rising es ≡ true → AreRising es
rising_right [] e = rises_rising [] tt
rising_right (x ∷ es) e = rises_rising (x ∷ es) (rising-each x.0 es e)

pub rising_left : (es : History) → AreRising es → are_rising es ≡ true
rising_left [] h = refl
rising_left (x ∷ es) h = let rises = rising_rises (x ∷ es) h in each-rising x.0 es rises.0 rises.1

-- ---- what is read, and what is missed

module _ (f : FindingValue) (t : Tree) (rest : List ℕ) (since : Option ℕ) where
  pub no_get : shows_value f.op ≡ false → IsTrue false ↔ IsRead f t rest since
  no_get e = (λ g. absurd (false≢true g), λ h. absurd (false≢true (sym e ∙ h.reading)))

  pub unsorted_gets : are_rising f.gets ≡ false → IsTrue false ↔ IsRead f t rest since
  unsorted_gets e = (λ g. absurd (false≢true g), λ h. absurd (false≢true (sym e ∙ rising_left f.gets h.rising)))

  pub reads : (b : Bool) → shows_value f.op ≡ true → are_rising f.gets ≡ true → b ≡ hit_seen (read_walk f t rest since) → IsTrue b ↔ IsRead f t rest since
  reads b reading rising e = (λ g. read_right f t rest since reading (rising_right f.gets rising) (sym e ∙ g), λ h. e ∙ read_left f t rest since h)

  pub unsorted_deletes : are_rising f.deletes ≡ false → IsTrue false ↔ IsMissed f t rest since
  unsorted_deletes e = (λ g. absurd (false≢true g), λ h. absurd (false≢true (sym e ∙ rising_left f.deletes h.rising)))

  pub misses : (b : Bool) → are_rising f.deletes ≡ true → b ≡ missed_seen (missed_walk f t rest since) → IsTrue b ↔ IsMissed f t rest since
  misses b rising e = (λ g. missed_right f t rest since (rising_right f.deletes rising) (sym e ∙ g), λ h. e ∙ missed_left f t rest since h)

-- ---- the leaf

leaf-in : (entries : List RouteEntry) (n : ℕ) (p : List ℕ) (t : Tree) → option_map (λ e. e.tree) (slice_get entries n) ≡ Some t → option_and_then (λ e. pool_at_position e.tree p) (slice_get entries n) ≡ pool_at_position t p
leaf-in entries n p t e = by (slice_get entries n) e
  where
    by : (x : Option RouteEntry) → option_map (λ e. e.tree) x ≡ Some t → option_and_then (λ e. pool_at_position e.tree p) x ≡ pool_at_position t p
    by None g = absurd (none-some t g)
    by (Some x) g = ap (λ u. pool_at_position u p) (same_Some x.tree t g)

module _ (r : RoutesValue) (f : FindingValue) (t : Tree) (is : option_map (λ e. e.tree) (slice_get r.entries f.place.spot.route) ≡ Some t) where
  pool-in : (p : Pool) → Some p ≡ leaf_in r f.place.spot.route f.place.leaf → pool_at_position t f.place.leaf ≡ Some p
  pool-in p e = sym (leaf-in r.entries f.place.spot.route f.place.leaf t is) ∙ sym e

  pub no_pool : None ≡ leaf_in r f.place.spot.route f.place.leaf → IsTrue false ↔ IsLeafOf f t
  no_pool e = (λ g. absurd (false≢true g), λ h. absurd (none-some h.pool (e ∙ leaf-in r.entries f.place.spot.route f.place.leaf t is ∙ h.pool_there)))

  pub other_index : (p : Pool) → Some p ≡ leaf_in r f.place.spot.route f.place.leaf → chosen f p.symbol ≢ f.at → IsTrue false ↔ IsLeafOf f t
  other_index p e other =
      (λ g. absurd (false≢true g), λ h. absurd (other (ap (λ q. chosen f q.symbol) (same_Some p h.pool (sym (pool-in p e) ∙ h.pool_there)) ∙ h.index)))

  pub at_leaf : (p : Pool) (b : Bool) → Some p ≡ leaf_in r f.place.spot.route f.place.leaf → chosen f p.symbol ≡ f.at → IsTrue b ↔ (slice_get p.servers f.at ≡ Some f.server) → IsTrue b ↔ IsLeafOf f t
  at_leaf p b e index decides = (
    λ g. record { pool = p; pool_there = pool-in p e; index = index; server = decides.0 g },
    λ h. decides.1 (ap (λ q. slice_get q.servers f.at) (same_Some p h.pool (sym (pool-in p e) ∙ h.pool_there)) ∙ h.server),
  )

-- ---- a server in a list

module _ (servers : List ServerId) (at x : ℕ) (got : Option (Bor ServerId)) (item : IsItemAt servers at got) where
  numbered : option_map (λ (s : Bor ServerId). s.now.0) got ≡ slice_get (map (λ (s : ServerId). s.0) servers) at
  numbered = borrowed-at (λ (s : ServerId). s.0) servers at got item ∙ sym (slice_get-map (λ (s : ServerId). s.0) servers at)

  pub item_there : (found : Bor ServerId) → got ≡ Some found → IsTrue (found.now.0 == x) ↔ (slice_get (map (λ s. s.0) servers) at ≡ Some x)
  item_there found is =
      let there : slice_get (map (λ (s : ServerId). s.0) servers) at ≡ Some found.now.0 = sym numbered ∙ ap (option_map (λ (s : Bor ServerId). s.now.0)) is in
      (λ e. there ∙ ap Some (eqb-true found.now.0 x e), λ h. eq-eqb found.now.0 x (same_Some found.now.0 x (sym there ∙ h)))

  pub item_past : got ≡ None → IsTrue false ↔ (slice_get (map (λ s. s.0) servers) at ≡ Some x)
  item_past is =
      let none : slice_get (map (λ (s : ServerId). s.0) servers) at ≡ None = sym numbered ∙ ap (option_map (λ (s : Bor ServerId). s.now.0)) is in
      (λ e. absurd (false≢true e), λ h. absurd (none-some x (sym none ∙ h)))

-- ---- the place

not-key : (word : List ℕ) (fault : KeyFault) → IsKeyFault word fault → (fault ≢ NoRest) → is_key_word word ≡ true → ⊥
not-key word Empty h n e = false≢true (ap is_key_word (sym h) ∙ e)
not-key word TooLong h n e = too-long word h (leb-parts word e)
  where
    leb-parts : (w : List ℕ) → is_key_word w ≡ true → length w ≤ 250
    leb-parts w g = leb-true (length w) 250 (and_parts (nat_le (length w) 250) (list_all is_key_byte w) (and_parts (nat_lt 0 (length w)) (nat_le (length w) 250 && list_all is_key_byte w) g).1).0

    too-long : (w : List ℕ) → 250 < length w → length w ≤ 250 → ⊥
    too-long w a b = omega (arith, a, b)
not-key word BadByte h n e =
    false≢true (sym h.2 ∙ (and_parts (nat_le (length word) 250) (list_all is_key_byte word) (and_parts (nat_lt 0 (length word)) (nat_le (length word) 250 && list_all is_key_byte word) e).1).1)
not-key word NoRest h n e = n refl

no-key : (word : List ℕ) (fault : KeyFault) (prefix rest : List ℕ) → IsKeyFault word fault → is_key_word word ≡ true → IsCut word prefix rest → IsRest rest → ⊥
no-key word NoRest prefix rest h e cut is = false≢true (ap is_key_word (sym (no_rest word prefix rest h.1 cut)) ∙ is.key)
no-key word Empty prefix rest h e cut is = not-key word Empty h (λ x. cc) e
no-key word TooLong prefix rest h e cut is = not-key word TooLong h (λ x. cc) e
no-key word BadByte prefix rest h e cut is = not-key word BadByte h (λ x. cc) e

module _ (r : RoutesValue) (f : FindingValue) where
  pub faulty_key : (fault : KeyFault) → IsKeyFault f.key fault → IsNowhere r f
  faulty_key fault h t rest since get_since s = no-key f.key fault s.prefix rest h s.word s.cut s.rest_is

  module _ (routed more : List ℕ) (cut : IsCut f.key routed more) where
    selects : (t : Tree) (rest : List ℕ) (since get_since : Option ℕ) → IsAtPlace r f t rest since get_since → route_of_prefix routed r.entries ≡ Some f.place.spot.route
    selects t rest since get_since s = ap (λ p. route_of_prefix p r.entries) (one_reading f.key routed more s.prefix rest cut s.cut).0 ∙ s.selects

    pub no_route : None ≡ route_of_prefix routed r.entries → IsNowhere r f
    no_route e t rest since get_since s = none-some f.place.spot.route (e ∙ selects t rest since get_since s)

    pub other_route : (n : ℕ) → Some n ≡ route_of_prefix routed r.entries → n ≢ f.place.spot.route → IsNowhere r f
    other_route n e other t rest since get_since s = other (same_Some n f.place.spot.route (e ∙ selects t rest since get_since s))

    pub other_class : (u : Tree) (b : Bool) → Some u ≡ option_map (λ e. e.tree) (slice_get r.entries f.place.spot.route) → b ≡ false → IsTrue b ↔ IsClassWord (class_words u) more f.place.spot.class → IsNowhere r f
    other_class u b e bad decides t rest since get_since s =
        let tree : t ≡ u = same_Some t u (sym s.route ∙ sym e) in
        let same : rest ≡ more = sym (one_reading f.key routed more s.prefix rest cut s.cut).1 in
        false≢true (sym bad ∙ decides.1 (subst (λ x. IsClassWord (class_words x) more f.place.spot.class) tree (subst (λ x. IsClassWord (class_words t) x f.place.spot.class) same s.class)))

  pub no_tree : None ≡ option_map (λ e. e.tree) (slice_get r.entries f.place.spot.route) → IsNowhere r f
  no_tree e t rest since get_since s = none-some t (e ∙ s.route)

  pub no_eras : HaveNoEras r f → IsNowhere r f
  no_eras none t rest since get_since s = none since get_since (record { era = s.era; get_era = s.get_era; near = s.near })

  pub found_at : (routed more : List ℕ) (t : Tree) (since get_since : Option ℕ) (n : ℕ) → is_key_word f.key ≡ true → IsCut f.key routed more → IsRest more → Some n ≡ route_of_prefix routed r.entries → n ≡ f.place.spot.route
      → Some t ≡ option_map (λ e. e.tree) (slice_get r.entries n) → IsClassWord (class_words t) more f.place.spot.class → AreErasOf r f since get_since → IsAtPlace r f t more since get_since
  found_at routed more t since get_since n word cut rest selects same tree class eras = record {
    prefix = routed;
    route = ap (λ k. option_map (λ e. e.tree) (slice_get r.entries k)) (sym same) ∙ sym tree;
    word = word;
    cut = cut;
    rest_is = rest;
    selects = sym selects ∙ ap Some same;
    class = class;
    era = eras.era;
    get_era = eras.get_era;
    near = eras.near;
  }
