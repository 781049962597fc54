-- Where routes are covered, each leaf that can be read has a reason at each of its indexes.
use Rattle.std.proofs.Common.{◌≡◌, ◌<◌, ◌+◌, ◌≤◌, ℕ, zero, suc, true, false, nat_eq, List, [], ◌∷◌, length, get_or, Option, Some, None, inl, inr, refl, sym, ap, ◌∙◌, subst, arith}
use Rattle.std.specs.Prelude.{if◌then◌else◌, slice_get, slice_index}
use Rattle.std.specs.List.{All, Contains}
use Rattle.std.specs.Ordering.{is_eq}
use Rattle.std.proofs.lemmas.Bool.{and_from, and_parts, cases_eq, eq-eqb}
use Rattle.std.proofs.lemmas.Cmp.{nat_list_cmp_total, tied_itself}
use Rattle.std.proofs.lemmas.List.Elements.{All-cons, All-nil}
use Rattle.std.proofs.lemmas.Option.{get_or_from_slice_get, same_Some, slice_get-get_or, slice_get_within}
use Rattle.mcv_base.specs.Key.{IsRest, is_key_byte}
use Rattle.mcv_route.specs.Places.{pool_at_position}
use Rattle.mcv_route.specs.Tree.{Pool, Tree}
use Rattle.mcv_classes.specs.Class.{IsMember}
use Rattle.mcv_classes.specs.Words.{class_words}
use Rattle.mcv_symbolic.specs.CoveredRoutes.{CoveredByMembers, sizes_of}
use Rattle.mcv_symbolic.specs.JustifiedRoutes.{IsAcknowledgedPool, IsAnswered, IsJustified, IsReadableAt}
use Rattle.mcv_cert.specs.Pair.{never, same, all, list_cmp}
use Rattle.mcv_judge.specs.Reason.{BlockValue, HasReason, LegValue, fault_of_leg, fill_a_symbol, fill_symbol_of, has_server, have_server, is_one_missing, is_same_list, is_same_server, is_there_with, leg_at, server_at, unless}
use Rattle.mcv_judge.specs.declared.fault.PairFault.TheVariants.{CanBeAcknowledged, NotAcknowledged, OtherServer}
use Rattle.mcv_blocks.specs.Blocks.{IsAcknowledgedAt, IsBlockAt, pool_for}
use Rattle.mcv_blocks.specs.Coverage.{CoveredHasReasons}
use Rattle.mcv_blocks.proofs.NoFaultHasReasons.{equal_of, list_equal}
use Rattle.mcv_route.proofs.BreakTables.{era_there}
use Rattle.mcv_blocks.proofs.PoolSizes.{AreSized, entry_sized}
use Rattle.mcv_blocks.proofs.Searches.{finds_one, found}
use Rattle.mcv_blocks.proofs.JustifiedIsCovered.{symbol_of, there_with}
use Rattle.mcv_blocks.proofs.OneListOfBlocks.{has_property, leg_there, one_leg, pool_of_leg}

servers_agree : (xs ys : List ℕ) (i j : ℕ) → i < length xs → j < length ys → slice_index xs i ≡ slice_index ys j → is_same_server (slice_get xs i) (slice_get ys j) ≡ true
servers_agree xs ys i j low high e =
    ap (λ o. is_same_server o (slice_get ys j)) (slice_get-get_or xs i 0 low)
    ∙ ap (is_same_server (Some (get_or xs i 0))) (slice_get-get_or ys j 0 high)
    ∙ eq-eqb (get_or xs i 0) (get_or ys j 0) e

has_its_server : (s : ℕ) (x : Option ℕ) (i : ℕ) (d : LegValue) → d.symbol ≡ s → is_same_server (server_at d i) x ≡ true → has_server s x i d ≡ true
has_its_server s x i d symbol server = and_from (nat_eq d.symbol s) (is_same_server (server_at d i) x) (eq-eqb d.symbol s symbol) server

-- ---- legs, one for each index

module _ (legs : List LegValue) (own : (d : LegValue) → Contains legs d → leg_at legs d.position ≡ Some d) (s : ℕ) (x : Option ℕ) where
  legs_for : (n k : ℕ) → ((j : ℕ) → k ≤ j → j < k + n → (d : LegValue) × Contains legs d × (has_server s x j d ≡ true)) →
      (ps : List (List ℕ)) × (length ps ≡ n) × (is_one_missing legs ps ≡ false) × (have_server legs s x k ps ≡ true)
  legs_for zero k every = ([], refl, refl, refl)
  legs_for (suc n) k every =
      let d = every k (omega arith) (omega arith) in
      let rest = legs_for n (suc k) (λ j low high. every j (omega (arith, low)) (omega (arith, high))) in
      let there : leg_at legs d.0.position ≡ Some d.0 = own d.0 d.1 in
      let has : has_server s x k d.0 ≡ true = d.2 in
      (d.0.position ∷ rest.0, ap suc rest.1, rw there rest.2, rw (there, has) rest.3)

  fills : (n : ℕ) → ((d : LegValue) → Contains legs d → d.symbol ≡ s → length d.servers ≡ n) → (ps : List (List ℕ)) → 0 < length ps → length ps ≡ n → have_server legs s x 0 ps ≡ true → fill_a_symbol legs x ps ≡ true
  fills n sized [] some many have = absurd (omega (arith, some))
  fills n sized (p ∷ ps) some many have =
      let both = and_parts (is_there_with (has_server s x 0) (leg_at legs p)) (have_server legs s x 1 ps) have in
      let d = there_with (has_server s x 0) (leg_at legs p) both.0 in
      let at = (found (λ (c : LegValue). is_same_list c.position p) legs d.0 d.1).0 in
      let symbol = (symbol_of s x 0 d.0 d.2).0 in
      ap (is_there_with (fill_symbol_of legs x (p ∷ ps))) d.1
      ∙ and_from (nat_eq (length (p ∷ ps)) (length d.0.servers)) (have_server legs d.0.symbol x 0 (p ∷ ps)) (eq-eqb (length (p ∷ ps)) (length d.0.servers) (many ∙ sym (sized d.0 at symbol)))
      (subst (λ y. have_server legs y x 0 (p ∷ ps) ≡ true) (sym symbol) have)

-- ---- reasons

-- where no delete can be acknowledged there is one for each index
pub reason_by_none : (b : BlockValue) (leaf : LegValue) (i : ℕ) → b.can_be_acknowledged ≡ false → HasReason b leaf i
reason_by_none b leaf i can = (never, inl refl, ap (λ c. if c then Some CanBeAcknowledged else None) can)

module _ (sizes : List ℕ) (t : Tree) (rest : List ℕ) (since read : Option ℕ) (positive : All (λ n. 0 < n) sizes) (sized : AreSized sizes t) (b : BlockValue) (block : IsBlockAt t rest since read b) where
  leg_found : (d : LegValue) → Contains b.acknowledged d → leg_at b.acknowledged d.position ≡ Some d
  leg_found d at =
      finds_one (λ (c : LegValue). is_same_list c.position d.position) b.acknowledged d at (ap is_eq (tied_itself nat_list_cmp_total d.position))
      (λ c there is. one_leg t (IsAcknowledgedAt t rest since) b.acknowledged block.acknowledged c d there at (list_equal c.position d.position (equal_of (list_cmp c.position d.position) is)))

  leg_size : (d : LegValue) → Contains b.acknowledged d → slice_index sizes d.symbol ≡ length d.servers
  leg_size d at = (sized d.position (pool_for d) (pool_of_leg t (IsAcknowledgedAt t rest since) b.acknowledged block.acknowledged d at)).1

  -- a leg that has the leaf's server at the leaf's index
  pub reason_by_leg : (leaf : LegValue) (i : ℕ) (d : LegValue) → Contains b.acknowledged d → has_server leaf.symbol (server_at leaf i) i d ≡ true → HasReason b leaf i
  reason_by_leg leaf i d at has =
      (same i d.position, inr refl, ap (λ o. fault_of_leg o (has_server leaf.symbol (server_at leaf i) i)) (leg_found d at) ∙ ap (λ c. unless c OtherServer) has)

  -- legs that have it at each index of a symbol
  pub reason_by_symbol : (leaf : LegValue) (i s : ℕ) → s < length sizes → ((j : ℕ) → j < slice_index sizes s → (d : LegValue) × Contains b.acknowledged d × (has_server s (server_at leaf i) j d ≡ true)) → HasReason b leaf i
  reason_by_symbol leaf i s within every =
      let x = server_at leaf i in
      let some : 0 < slice_index sizes s = positive s 0 within in
      let ps = legs_for b.acknowledged leg_found s x (slice_index sizes s) 0 (λ j least high. every j (omega (arith, high))) in
      let filled = fills b.acknowledged leg_found s x (slice_index sizes s) (λ d at symbol. sym (leg_size d at) ∙ ap (slice_index sizes) symbol) ps.0 (omega (arith, some, ps.1)) ps.1 ps.3 in
      (all i ps.0, inr refl, ap (λ c. if c then Some NotAcknowledged else unless (fill_a_symbol b.acknowledged x ps.0) OtherServer) ps.2 ∙ ap (λ c. unless c OtherServer) filled)

  -- ---- a leaf that is answered has one

  -- the leg of an acknowledged pool
  leg_of_pool : (m : Pool) → IsAcknowledgedPool t rest since m → (d : LegValue) × Contains b.acknowledged d × (pool_for d ≡ m)
  leg_of_pool m is =
      let d = leg_there t (IsAcknowledgedAt t rest since) b.acknowledged block.acknowledged is.0 is.2 in
      let pool_there = pool_of_leg t (IsAcknowledgedAt t rest since) b.acknowledged block.acknowledged d.0 d.1 in
      (d.0, d.1, same_Some (pool_for d.0) m (sym pool_there ∙ ap (pool_at_position t) d.2 ∙ is.1))

  module _ (leaf : LegValue) (i : ℕ) (low : i < length leaf.servers) where
    -- at an index of a symbol a leg has the leaf's server
    leg_with : (s j : ℕ) → j < slice_index sizes s → (m : Pool) × IsAcknowledgedPool t rest since m × (m.symbol ≡ s) × (slice_index m.servers j ≡ slice_index leaf.servers i) →
        (d : LegValue) × Contains b.acknowledged d × (has_server s (server_at leaf i) j d ≡ true)
    leg_with s j below h =
        let d = leg_of_pool h.0 h.1 in
        let symbol : d.0.symbol ≡ s = ap (λ (m : Pool). m.symbol) d.2 ∙ h.2 in
        let count : slice_index sizes s ≡ length d.0.servers = ap (slice_index sizes) (sym symbol) ∙ leg_size d.0 d.1 in
        let server : slice_index d.0.servers j ≡ slice_index leaf.servers i = ap (λ (m : Pool). slice_index m.servers j) d.2 ∙ h.3 in
        (d.0, d.1, has_its_server s (server_at leaf i) j d.0 symbol (servers_agree d.0.servers leaf.servers j i (omega (arith, below, count)) low server))

    by_own : slice_index sizes leaf.symbol ≡ length leaf.servers → (m : Pool) × IsAcknowledgedPool t rest since m × (m.symbol ≡ leaf.symbol) × (slice_index m.servers i ≡ slice_index leaf.servers i) → HasReason b leaf i
    by_own size h =
        let d = leg_with leaf.symbol i (omega (arith, low, size)) h in
        reason_by_leg leaf i d.0 d.1 d.2

    by_other : (s : ℕ) → s < length sizes → ((j : ℕ) → j < slice_index sizes s → (m : Pool) × IsAcknowledgedPool t rest since m × (m.symbol ≡ s) × (slice_index m.servers j ≡ slice_index leaf.servers i)) → HasReason b leaf i
    by_other s within every = reason_by_symbol leaf i s within (λ j below. leg_with s j below (every j below))

    by_answer : slice_index sizes leaf.symbol ≡ length leaf.servers → IsAnswered sizes t rest since (pool_for leaf) i → HasReason b leaf i
    by_answer size h =
        elim (cases_eq h.0 leaf.symbol) [
          | inl own ↦
              let at_own = subst (λ s. (j : ℕ) → j < slice_index sizes s → (s ≡ leaf.symbol → j ≡ i) → (m : Pool) × IsAcknowledgedPool t rest since m × (m.symbol ≡ s) × (slice_index m.servers j ≡ slice_index leaf.servers i)) own h.2 in
              by_own size (at_own i (omega (arith, low, size)) (λ e. refl))
          | inr other ↦ by_other h.0 h.1 (λ j below. h.2 j below (λ e. absurd (other e)))
        ]

    pub by_justified : Contains b.readable leaf → IsJustified sizes t rest since read → HasReason b leaf i
    by_justified readable (inl none) = reason_by_none b leaf i (block.never.1 none)
    by_justified readable (inr answered) =
        let pool_there = pool_of_leg t (IsReadableAt t rest read) b.readable block.readable leaf readable in
        let size : slice_index sizes leaf.symbol ≡ length leaf.servers = (sized leaf.position (pool_for leaf) pool_there).1 in
        let can_be_read : IsReadableAt t rest read leaf.position = has_property t (IsReadableAt t rest read) b.readable block.readable leaf readable in
        by_answer size (answered leaf.position (pool_for leaf) i can_be_read pool_there (omega (arith, low, size)))

-- ---- the whole

-- the member of a class whose word is of bytes is a rest
member_rest : (words : List (List ℕ)) (class member : List ℕ) → All (λ c. c < 256) class → IsMember words class (Some member) → IsRest member
member_rest words [] member bytes m =
    subst IsRest (sym m.1) (record { key = and_from (is_key_byte m.0) true m.2.key refl; bytes = All-cons (λ c. c < 256) m.0 [] m.2.small (All-nil (λ c. c < 256)) })
member_rest words (c ∷ class) member bytes m = subst IsRest (sym m.0) (record { key = m.1; bytes = bytes })

pub covered_has_reasons : CoveredByMembers → CoveredHasReasons
covered_has_reasons by_members r b leaf i sound positive covered own bytes readable low =
    let at_spot = own.spot in
    let e = at_spot.entry in
    let tree : e.tree ≡ own.tree = at_spot.has_tree in
    let at : Contains r.entries e = (b.spot.route, slice_get_within r.entries b.spot.route e at_spot.numbered, get_or_from_slice_get r.entries b.spot.route e e at_spot.numbered) in
    let rest = member_rest (class_words own.tree) b.spot.class own.member bytes at_spot.has_member in
    let listed = subst (λ t. Contains (class_words t) b.spot.class) (sym tree) at_spot.listed in
    let has = subst (λ t. IsMember (class_words t) b.spot.class (Some own.member)) (sym tree) at_spot.has_member in
    let is = (by_members r sound).0 covered e b.spot.class own.member own.since own.read at listed has rest (era_there r b.spot.era own.since at_spot.opened) (era_there r b.spot.get_era own.read at_spot.read_opened) at_spot.near in
    let block = subst (λ t. IsBlockAt t own.member own.since own.read b) (sym tree) own.has in
    by_justified (sizes_of r) e.tree own.member own.since own.read positive (entry_sized r e sound at) b block leaf i low readable is
