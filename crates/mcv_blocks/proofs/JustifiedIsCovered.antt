-- Routes with a justified certificate are covered.
use Rattle.std.proofs.Common.{◌≡◌, ◌⊎◌, ◌<◌, ◌+◌, ℕ, zero, suc, Bool, true, false, nat_eq, List, [], ◌∷◌, length, Option, Some, None, inl, inr, refl, sym, ap, ◌∙◌, subst, true≢false, arith}
use Rattle.std.specs.Prelude.{if◌then◌else◌, slice_get, slice_index}
use Rattle.std.specs.List.{Contains}
use Rattle.std.proofs.lemmas.Bool.{and_parts, cases_Bool, eqb-true, false≢true}
use Rattle.std.proofs.lemmas.List.Elements.{All-contains}
use Rattle.std.proofs.lemmas.Option.{get_or_from_slice_get, none-some, same_Some, slice_get-get_or}
use Rattle.mcv_route.specs.Places.{pool_at_position}
use Rattle.mcv_route.specs.Routes.{RouteEntry, RoutesValue, IsSoundRoutes}
use Rattle.mcv_route.specs.Tree.{Pool, Tree}
use Rattle.mcv_classes.specs.Class.{IsMember}
use Rattle.mcv_classes.specs.Words.{class_words}
use Rattle.mcv_route.specs.Eras.{IsEra, IsNear}
use Rattle.mcv_symbolic.specs.CoveredRoutes.{CoveredByMembers, sizes_of}
use Rattle.mcv_symbolic.specs.JustifiedRoutes.{IsAcknowledgedPool, IsAnswered, IsJustified, IsNeverAcknowledged, IsReadableAt}
use Rattle.mcv_cert.specs.Pair.{AreRising, PairValue, ReasonValue, SpotValue, never, twin, same, all, index_of, list_cmp}
use Rattle.mcv_judge.specs.Faults.{IsFaultless}
use Rattle.mcv_judge.specs.Reason.{BlockValue, HasReason, LegValue, fault_of, fault_of_leg, fill_a_symbol, fill_symbol_of, has_server, have_server, is_one_missing, is_same_list, is_same_server, is_there_with, is_twin, is_whole, leg_at, server_at, unless}
use Rattle.mcv_judge.specs.declared.fault.PairFault.{PairFault}
use Rattle.mcv_judge.specs.declared.fault.PairFault.TheVariants.{CanBeAcknowledged, NotAcknowledged, OtherServer}
use Rattle.mcv_blocks.specs.Blocks.{AreBlocksOf, IsAcknowledgedAt, IsBlockAt, IsBlockOf, IsSpotOf, pool_for}
use Rattle.mcv_blocks.specs.Coverage.{JustifiedIsCovered}
use Rattle.mcv_blocks.proofs.NoFaultHasReasons.{equal_of, has_reason, list_equal, required_there}
use Rattle.mcv_route.proofs.BreakTables.{era_numbered}
use Rattle.mcv_blocks.proofs.PoolSizes.{AreSized, entry_sized}
use Rattle.mcv_blocks.proofs.Searches.{found}
use Rattle.mcv_blocks.proofs.OneListOfBlocks.{block_has, has_property, leg_there, pool_of_leg}

-- ---- what holds where a reason has no fault

no_fault : (c : Bool) (f : PairFault) → unless c f ≡ None → c ≡ true
no_fault true f h = refl
no_fault false f h = absurd (none-some f (sym h))

never_can : (c : Bool) → (if c then Some CanBeAcknowledged else None) ≡ None → c ≡ false
never_can true h = absurd (none-some CanBeAcknowledged (sym h))
never_can false h = refl

no_fault_in_all : (c d : Bool) → (if c then Some NotAcknowledged else unless d OtherServer) ≡ None → d ≡ true
no_fault_in_all true d h = absurd (none-some NotAcknowledged (sym h))
no_fault_in_all false d h = no_fault d OtherServer h

leg_passes : (o : Option LegValue) (test : LegValue → Bool) → fault_of_leg o test ≡ None → (d : LegValue) × (o ≡ Some d) × (test d ≡ true)
leg_passes None test h = absurd (none-some NotAcknowledged (sym h))
leg_passes (Some d) test h = (d, refl, no_fault (test d) OtherServer h)

pub there_with : (test : LegValue → Bool) (o : Option LegValue) → is_there_with test o ≡ true → (d : LegValue) × (o ≡ Some d) × (test d ≡ true)
there_with test None h = absurd (false≢true h)
there_with test (Some d) h = (d, refl, h)

-- the number of a server that both have
both_have : (x y : Option ℕ) → is_same_server x y ≡ true → (n : ℕ) × (x ≡ Some n) × (y ≡ Some n)
both_have None y h = absurd (false≢true h)
both_have (Some x) None h = absurd (false≢true h)
both_have (Some x) (Some y) h = (x, refl, ap Some (sym (eqb-true x y h)))

servers_equal : (xs ys : List ℕ) (i j : ℕ) → is_same_server (slice_get xs i) (slice_get ys j) ≡ true → slice_index xs i ≡ slice_index ys j
servers_equal xs ys i j h =
    let n = both_have (slice_get xs i) (slice_get ys j) h in
    get_or_from_slice_get xs i n.0 0 n.1 ∙ sym (get_or_from_slice_get ys j n.0 0 n.2)

pub symbol_of : (s : ℕ) (x : Option ℕ) (i : ℕ) (d : LegValue) → has_server s x i d ≡ true → (d.symbol ≡ s) × (is_same_server (server_at d i) x ≡ true)
symbol_of s x i d h =
    let both = and_parts (nat_eq d.symbol s) (is_same_server (server_at d i) x) h in
    (eqb-true d.symbol s both.0, both.1)

-- the legs of a list from an index on
each_has : (legs : List LegValue) (s : ℕ) (x : Option ℕ) (k : ℕ) (ps : List (List ℕ)) → have_server legs s x k ps ≡ true → (j m : ℕ) → j < length ps → m ≡ k + j → (d : LegValue) × Contains legs d × (has_server s x m d ≡ true)
each_has legs s x k [] h j m low e = absurd (omega (arith, low))
each_has legs s x k (p ∷ ps) h zero m low e =
    let both = and_parts (is_there_with (has_server s x k) (leg_at legs p)) (have_server legs s x (suc k) ps) h in
    let d = there_with (has_server s x k) (leg_at legs p) both.0 in
    let same_index : k ≡ m = omega (arith, e) in
    (d.0, (found (λ (c : LegValue). is_same_list c.position p) legs d.0 d.1).0, subst (λ n. has_server s x n d.0 ≡ true) same_index d.2)
each_has legs s x k (p ∷ ps) h (suc j) m low e =
    let both = and_parts (is_there_with (has_server s x k) (leg_at legs p)) (have_server legs s x (suc k) ps) h in
    each_has legs s x (suc k) ps both.1 j m (omega (arith, low)) (omega (arith, e))

-- ---- a reason answers

module _ (sizes : List ℕ) (t : Tree) (rest : List ℕ) (since read : Option ℕ) (sized : AreSized sizes t) (b : BlockValue) (block : IsBlockAt t rest since read b) where
  acknowledged : (d : LegValue) → Contains b.acknowledged d → IsAcknowledgedPool t rest since (pool_for d)
  acknowledged d at = (
    d.position,
    pool_of_leg t (IsAcknowledgedAt t rest since) b.acknowledged block.acknowledged d at,
    has_property t (IsAcknowledgedAt t rest since) b.acknowledged block.acknowledged d at,
  )

  leg_sized : (d : LegValue) → Contains b.acknowledged d → (d.symbol < length sizes) × (slice_index sizes d.symbol ≡ length d.servers)
  leg_sized d at = sized d.position (pool_for d) (pool_of_leg t (IsAcknowledgedAt t rest since) b.acknowledged block.acknowledged d at)

  module _ (leaf : LegValue) (within : leaf.symbol < length sizes) (i : ℕ) where
    abbrev Answers : Type 0
    Answers = IsNeverAcknowledged t rest since ⊎ IsAnswered sizes t rest since (pool_for leaf) i

    by_twin : (p : List ℕ) → fault_of_leg (leg_at b.acknowledged p) (is_twin leaf) ≡ None → Answers
    by_twin p h =
        let d = leg_passes (leg_at b.acknowledged p) (is_twin leaf) h in
        let at = (found (λ (c : LegValue). is_same_list c.position p) b.acknowledged d.0 d.1).0 in
        let both = and_parts (nat_eq d.0.symbol leaf.symbol) (is_same_list d.0.servers leaf.servers) d.2 in
        let symbol = eqb-true d.0.symbol leaf.symbol both.0 in
        let servers = list_equal d.0.servers leaf.servers (equal_of (list_cmp d.0.servers leaf.servers) both.1) in
        inr (leaf.symbol, within, λ j low may. (pool_for d.0, acknowledged d.0 at, symbol, ap (λ xs. slice_index xs j) servers ∙ ap (slice_index leaf.servers) (may refl)))

    by_same : (p : List ℕ) → fault_of_leg (leg_at b.acknowledged p) (has_server leaf.symbol (server_at leaf i) i) ≡ None → Answers
    by_same p h =
        let d = leg_passes (leg_at b.acknowledged p) (has_server leaf.symbol (server_at leaf i) i) h in
        let at = (found (λ (c : LegValue). is_same_list c.position p) b.acknowledged d.0 d.1).0 in
        let has = symbol_of leaf.symbol (server_at leaf i) i d.0 d.2 in
        inr (leaf.symbol, within, λ j low may. (pool_for d.0, acknowledged d.0 at, has.0, ap (slice_index d.0.servers) (may refl) ∙ servers_equal d.0.servers leaf.servers i i has.1))

    by_all : (ps : List (List ℕ)) → fill_a_symbol b.acknowledged (server_at leaf i) ps ≡ true → Answers
    by_all [] h = absurd (false≢true h)
    by_all (p ∷ ps) h =
        let x = server_at leaf i in
        let d = there_with (fill_symbol_of b.acknowledged x (p ∷ ps)) (leg_at b.acknowledged p) h in
        let at = (found (λ (c : LegValue). is_same_list c.position p) b.acknowledged d.0 d.1).0 in
        let both = and_parts (nat_eq (length (p ∷ ps)) (length d.0.servers)) (have_server b.acknowledged d.0.symbol x 0 (p ∷ ps)) d.2 in
        let many = eqb-true (length (p ∷ ps)) (length d.0.servers) both.0 in
        let size = leg_sized d.0 at in
        inr (
          d.0.symbol,
          size.0,
          λ j low may.
              let e = each_has b.acknowledged d.0.symbol x 0 (p ∷ ps) both.1 j j (omega (arith, low, size.1, many)) (omega arith) in
              let has = symbol_of d.0.symbol x j e.0 e.2 in
              (pool_for e.0, acknowledged e.0 e.1, has.0, servers_equal e.0.servers leaf.servers j i has.1),
        )

    pub answers : HasReason b leaf i → Answers
    answers h = by h.0 h.1 h.2
      where
        by : (reason : ReasonValue) → (is_whole reason ≡ true) ⊎ (index_of reason ≡ i) → fault_of b leaf reason ≡ None → Answers
        by never speaks f = inl (block.never.0 (never_can b.can_be_acknowledged f))
        by (twin p) speaks f = by_twin p f
        by (same k p) (inl h) f = absurd (false≢true h)
        by (same k p) (inr e) f = by_same p (subst (λ n. fault_of_leg (leg_at b.acknowledged p) (has_server leaf.symbol (server_at leaf n) n) ≡ None) e f)
        by (all k ps) (inl h) f = absurd (false≢true h)
        by (all k ps) (inr e) f =
            by_all ps (subst (λ n. fill_a_symbol b.acknowledged (server_at leaf n) ps ≡ true) e (no_fault_in_all (is_one_missing b.acknowledged ps) (fill_a_symbol b.acknowledged (server_at leaf k) ps) f))

  -- a block all of whose readable leaves have reasons
  pub justified : ((leaf : LegValue) → Contains b.readable leaf → (i : ℕ) → i < length leaf.servers → HasReason b leaf i) → IsJustified sizes t rest since read
  justified reasons =
      elim (cases_Bool b.can_be_acknowledged) [
        | inr cannot ↦ inl (block.never.0 cannot)
        | inl can ↦ inr (λ p leaf i readable pool low.
            let l = leg_there t (IsReadableAt t rest read) b.readable block.readable p readable in
            let pool_there = pool_of_leg t (IsReadableAt t rest read) b.readable block.readable l.0 l.1 in
            let own : pool_for l.0 ≡ leaf = same_Some (pool_for l.0) leaf (sym pool_there ∙ ap (pool_at_position t) l.2 ∙ pool) in
            let size = sized p leaf pool in
            let below : i < length l.0.servers = omega (arith, low, size.1, ap (λ (m : Pool). length m.servers) own) in
            let within : l.0.symbol < length sizes = subst (λ (m : Pool). m.symbol < length sizes) (sym own) size.0 in
            elim (answers l.0 within i (reasons l.0 l.1 i below)) [
              | inl none ↦ absurd (true≢false (sym can ∙ block.never.1 none))
              | inr answered ↦ subst (λ m. IsAnswered sizes t rest since m i) own answered
            ])
      ]

-- ---- the whole

module _ (r : RoutesValue) (pairs : List PairValue) (sound : IsSoundRoutes r) (up : AreRising pairs) (blocks : List BlockValue) (are : AreBlocksOf r blocks) (fine : IsFaultless pairs blocks) where
  at_member : (e : RouteEntry) (word member : List ℕ) (since read : Option ℕ) → Contains r.entries e → Contains (class_words e.tree) word → IsMember (class_words e.tree) word (Some member) → IsEra r since → IsEra r read
      → IsNear r r.window since read → IsJustified (sizes_of r) e.tree member since read
  at_member e word member since read at listed has era other near =
      let number = era_numbered r since era in
      let get_number = era_numbered r read other in
      let spot : SpotValue = record { route = at.0; class = word; era = number.0; get_era = get_number.0 } in
      let is : IsSpotOf r spot e.tree member since read =
      record { entry = e; numbered = slice_get-get_or r.entries at.0 e at.1 ∙ ap Some at.2; has_tree = refl; listed = listed; has_member = has; opened = number.1; read_opened = get_number.1; near = near } in
      let b = are.all spot e.tree member since read is in
      let own = All-contains (IsBlockOf r) blocks b.0 are.only b.1 in
      let block = block_has r spot e.tree member since read is b.0 own b.2 in
      justified (sizes_of r) e.tree member since read (entry_sized r e sound at) b.0 block
      (λ leaf readable i low. has_reason pairs blocks up fine b.0 leaf (required_there r blocks are b.0 b.1 leaf readable) i low)

pub justified_is_covered : CoveredByMembers → JustifiedIsCovered
justified_is_covered by_members r c sound up given =
    (by_members r sound).1 (λ e word member since read at listed has rest era other near. at_member r c.pairs sound up given.1.0 given.1.1 given.1.2 e word member since read at listed has era other near)
