-- A block is determined by its spot, and so a list of all blocks by the routes.
use Rattle.std.proofs.Common.{◌≡◌, ◌↔◌, ℕ, Bool, true, false, List, [], ◌∷◌, Option, Some, refl, sym, ap, ◌∙◌, subst, arith}
use Rattle.std.specs.List.{Contains}
use Rattle.std.specs.declared.cmp.Ordering.TheVariants.{Less}
use Rattle.std.proofs.lemmas.Cmp.{nat_list_cmp_total}
use Rattle.std.proofs.lemmas.List.Elements.{All-contains}
use Rattle.std.proofs.lemmas.Option.{same_Some}
use Rattle.mcv_route.specs.Places.{pool_at_position}
use Rattle.mcv_route.specs.Routes.{RouteEntry, RoutesValue}
use Rattle.mcv_route.specs.Tree.{Tree}
use Rattle.mcv_classes.specs.Class.{IsMember}
use Rattle.mcv_classes.specs.Words.{class_words}
use Rattle.mcv_cert.specs.Pair.{SpotValue, list_cmp, spot_cmp}
use Rattle.mcv_cert.proofs.Rising.{spots_total}
use Rattle.mcv_judge.specs.Reason.{BlockValue, LegValue}
use Rattle.mcv_symbolic.specs.JustifiedRoutes.{IsNeverAcknowledged, IsReadableAt}
use Rattle.mcv_blocks.specs.Blocks.{AreBlocksOf, AreLeavesAt, IsAcknowledgedAt, IsBlockAt, IsBlockOf, IsSpotOf, pool_for, positions_of}
use Rattle.mcv_blocks.specs.Coverage.{OneListOfBlocks}
use Rattle.mcv_route.proofs.BreakTables.{one_era}
use Rattle.mcv_route.proofs.RisingLists.{not_both, rising_same}
use Rattle.mcv_blocks.proofs.Searches.{from_map, into_map}

-- ---- leaves

same_leg : (l m : LegValue) → l.position ≡ m.position → pool_for l ≡ pool_for m → l ≡ m
same_leg l m e f = λ i. record { position = e i; symbol = (f i).symbol; servers = (f i).servers }

module _ (t : Tree) (P : List ℕ → Type 0) (legs : List LegValue) (are : AreLeavesAt t P legs) where
  pub pool_of_leg : (l : LegValue) → Contains legs l → pool_at_position t l.position ≡ Some (pool_for l)
  pool_of_leg l at = All-contains (λ d. pool_at_position t d.position ≡ Some (pool_for d)) legs l are.pools at

  pub has_property : (l : LegValue) → Contains legs l → P l.position
  has_property l at = All-contains P (positions_of legs) l.position are.only (into_map (λ (d : LegValue). d.position) legs l at)

  pub leg_there : (p : List ℕ) → P p → (l : LegValue) × Contains legs l × (l.position ≡ p)
  leg_there p h = from_map (λ (d : LegValue). d.position) legs p (are.all p h)

  pub one_leg : (l m : LegValue) → Contains legs l → Contains legs m → l.position ≡ m.position → l ≡ m
  one_leg l m at also e = same_leg l m e (same_Some (pool_for l) (pool_for m) (sym (pool_of_leg l at) ∙ ap (pool_at_position t) e ∙ pool_of_leg m also))

-- a leg of one list is in the other
leg_too : (t : Tree) (P : List ℕ → Type 0) (legs others : List LegValue) → AreLeavesAt t P legs → AreLeavesAt t P others → (l : LegValue) → Contains legs l → Contains others l
leg_too t P legs others a b l at =
    let m = leg_there t P others b l.position (has_property t P legs a l at) in
    let pools : Some (pool_for m.0) ≡ Some (pool_for l) = sym (pool_of_leg t P others b m.0 m.1) ∙ ap (pool_at_position t) m.2 ∙ pool_of_leg t P legs a l at in
    subst (Contains others) (same_leg m.0 l m.2 (same_Some (pool_for m.0) (pool_for l) pools)) m.1

one_list_of_legs : (t : Tree) (P : List ℕ → Type 0) (legs others : List LegValue) → AreLeavesAt t P legs → AreLeavesAt t P others → legs ≡ others
one_list_of_legs t P legs others a b =
    rising_same (λ (l m : LegValue). list_cmp l.position m.position ≡ Less) (λ l m h g. not_both (list_cmp l.position m.position) (list_cmp m.position l.position) (nat_list_cmp_total.antisymm l.position m.position) h g) legs others a.rising b.rising
    (leg_too t P legs others a b) (leg_too t P others legs b a)

-- ---- places

one_member : (words : List (List ℕ)) (class m n : List ℕ) → IsMember words class (Some m) → IsMember words class (Some n) → m ≡ n
one_member words [] m n h g =
    let low = h.3 g.0 g.2 in
    let high = g.3 h.0 h.2 in
    let same : h.0 ≡ g.0 = omega (arith, low, high) in
    h.1 ∙ ap (λ b. b ∷ []) same ∙ sym g.1
one_member words (b ∷ word) m n h g = h.0 ∙ sym g.0

one_spot : (r : RoutesValue) (p : SpotValue) (t u : Tree) (m n : List ℕ) (s z q y : Option ℕ) → IsSpotOf r p t m s q → IsSpotOf r p u n z y → (t ≡ u) × (m ≡ n) × (s ≡ z) × (q ≡ y)
one_spot r p t u m n s z q y h g =
    let entry = same_Some h.entry g.entry (sym h.numbered ∙ g.numbered) in
    let tree : t ≡ u = sym h.has_tree ∙ ap (λ (e : RouteEntry). e.tree) entry ∙ g.has_tree in
    (tree, one_member (class_words u) p.class m n (subst (λ x. IsMember (class_words x) p.class (Some m)) tree h.has_member) g.has_member, one_era r p.era s z h.opened g.opened, one_era r p.get_era q y h.read_opened g.read_opened)

-- what a block of the spot has
pub block_has : (r : RoutesValue) (p : SpotValue) (t : Tree) (m : List ℕ) (s q : Option ℕ) → IsSpotOf r p t m s q → (b : BlockValue) → IsBlockOf r b → b.spot ≡ p → IsBlockAt t m s q b
block_has r p t m s q is b own e =
    let here : IsSpotOf r p own.tree own.member own.since own.read = subst (λ x. IsSpotOf r x own.tree own.member own.since own.read) e own.spot in
    let same = one_spot r p t own.tree m own.member s own.since q own.read is here in
    let at_read : IsBlockAt own.tree own.member own.since q b = subst (λ x. IsBlockAt own.tree own.member own.since x b) (sym same.3) own.has in
    subst (λ x. IsBlockAt x m s q b) (sym same.0) (subst (λ x. IsBlockAt own.tree x s q b) (sym same.1) (subst (λ x. IsBlockAt own.tree own.member x q b) (sym same.2) at_read))

-- ---- blocks

same_test : (x y : Bool) (N : Type 0) → (x ≡ false) ↔ N → (y ≡ false) ↔ N → x ≡ y
same_test true true N h g = refl
same_test true false N h g = h.1 (g.0 refl)
same_test false true N h g = sym (g.1 (h.0 refl))
same_test false false N h g = refl

pub one_block : (r : RoutesValue) (b c : BlockValue) → IsBlockOf r b → IsBlockOf r c → b.spot ≡ c.spot → b ≡ c
one_block r b c h g spot =
    let t = h.tree in
    let m = h.member in
    let s = h.since in
    let q = h.read in
    let other = block_has r b.spot t m s q h.spot c g (sym spot) in
    let readable = one_list_of_legs t (IsReadableAt t m q) b.readable c.readable h.has.readable other.readable in
    let acknowledged = one_list_of_legs t (IsAcknowledgedAt t m s) b.acknowledged c.acknowledged h.has.acknowledged other.acknowledged in
    let can = same_test b.can_be_acknowledged c.can_be_acknowledged (IsNeverAcknowledged t m s) h.has.never other.never in
    λ i. record { spot = spot i; readable = readable i; acknowledged = acknowledged i; can_be_acknowledged = can i }

block_too : (r : RoutesValue) (blocks others : List BlockValue) → AreBlocksOf r blocks → AreBlocksOf r others → (b : BlockValue) → Contains blocks b → Contains others b
block_too r blocks others h g b at =
    let own = All-contains (IsBlockOf r) blocks b h.only at in
    let other = g.all b.spot own.tree own.member own.since own.read own.spot in
    let is = All-contains (IsBlockOf r) others other.0 g.only other.1 in
    subst (Contains others) (one_block r other.0 b is own other.2) other.1

pub one_list_of_blocks : OneListOfBlocks
one_list_of_blocks r blocks others h g =
    rising_same (λ (b c : BlockValue). spot_cmp b.spot c.spot ≡ Less) (λ b c x y. not_both (spot_cmp b.spot c.spot) (spot_cmp c.spot b.spot) (spots_total.antisymm b.spot c.spot) x y) blocks others h.rising g.rising
    (block_too r blocks others h g) (block_too r others blocks g h)
