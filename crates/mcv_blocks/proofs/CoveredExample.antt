-- A configuration whose certificate is justified, from the definitions to coverage. Gets go to one of two servers by a hash, deletes to each server by a pool of its own.
use Rattle.std.proofs.Common.{◌≡◌, ◌≢◌, ◌⊎◌, ◌↔◌, ◌<◌, ◌≤◌, ℕ, zero, suc, true, false, List, [], ◌∷◌, length, Option, Some, None, inl, inr, refl, sym, ap, ◌∙◌, subst, true≢false, arith}
use Rattle.std.specs.Prelude.{◌==◌, nat_le, not, slice_get}
use Rattle.std.specs.List.{All, Contains}
use Rattle.std.specs.declared.cmp.Ordering.TheVariants.{Less}
use Rattle.std.proofs.lemmas.Bool.{and_parts, leb-true}
use Rattle.std.proofs.lemmas.List.Elements.{All-cons, All-nil}
use Rattle.std.proofs.lemmas.List.Kept.{AllPairs-cons}
use Rattle.std.proofs.lemmas.Option.{none-some, same_Some}
use Rattle.mcv_base.specs.declared.operation.Op.TheVariants.{Get, Gets, Delete, Incr, Decr}
use Rattle.mcv_base.specs.declared.reply.Outcome.{Outcome}
use Rattle.mcv_base.specs.declared.reply.Outcome.TheVariants.{Good, Error}
use Rattle.mcv_pools.specs.declared.symbol.HashFunc.TheVariants.{Ch3}
use Rattle.mcv_symbolic.specs.Sets.{CanHitAt}
use Rattle.mcv_route.proofs.Readings.{each_of_four}
use Rattle.mcv_route.specs.Outcomes.{Choice}
use Rattle.mcv_route.specs.Places.{pool_at_position}
use Rattle.mcv_route.specs.Routes.{IsSoundRoutes, IsSoundTree, RouteEntry, RoutesValue}
use Rattle.mcv_route.specs.Situation.{asked, under}
use Rattle.mcv_route.specs.Tree.{Pool, Tree, pool, many, AllSync, operation_selector, none, child}
use Rattle.mcv_rules.specs.Plan.{Leg}
use Rattle.mcv_rules.specs.Plans as plans
use Rattle.mcv_classes.specs.Class.{IsFree}
use Rattle.mcv_classes.specs.Words.{class_words}
use Rattle.mcv_route.specs.Eras.{IsEra, IsEraOf}
use Rattle.mcv_symbolic.specs.CoveredRoutes.{AreCovered}
use Rattle.mcv_symbolic.specs.JustifiedRoutes.{IsNeverAcknowledged, IsReadableAt}
use Rattle.mcv_symbolic.proofs.Exactness.{acknowledged_is_exact, done_is_exact, hits_are_exact}
use Rattle.mcv_symbolic.proofs.CoveredByMembers.{covered_by_members}
use Rattle.mcv_cert.specs.Pair.{AreRising, PairValue, SpotValue, all, list_cmp}
use Rattle.mcv_judge.specs.Answers.{AnswersAll, IsAnswer}
use Rattle.mcv_judge.specs.Faults.{AreInOrder, AreLegsRising, IsFaultless, IsInOrder}
use Rattle.mcv_judge.specs.Reason.{BlockValue, LegValue, is_whole}
use Rattle.mcv_judge.proofs.AnsweringPairs.{answered_faultless}
use Rattle.mcv_blocks.specs.Blocks.{AreBlocksOf, AreLeavesAt, HasBlockFor, IsAcknowledgedAt, IsBlockOf, IsJustifiedBy, IsSpotOf, pool_for}
use Rattle.mcv_route.proofs.BreakTables.{era_there}
use Rattle.mcv_route.proofs.RisingLists.{at_first, behind_first, first_or_behind, none_there}
use Rattle.mcv_blocks.proofs.JustifiedIsCovered.{justified_is_covered}

-- ---- the configuration

abbrev hashed : Pool
hashed = record { symbol = 0; servers = 0 ∷ 1 ∷ [] }

abbrev first : Pool
first = record { symbol = 1; servers = 0 ∷ [] }

abbrev second : Pool
second = record { symbol = 1; servers = 1 ∷ [] }

abbrev tree : Tree
tree = operation_selector (Some Delete ∷ []) (child (many AllSync (child (pool first [] none) (child (pool second [] none) none))) (child (pool hashed [] none) none))

abbrev entry : RouteEntry
entry = record { aliases = []; tree = tree }

abbrev routes : RoutesValue
routes = record { servers = (97 ∷ []) ∷ (98 ∷ []) ∷ []; symbols = record { func = Ch3; salt = []; n = 2 } ∷ record { func = Ch3; salt = []; n = 1 } ∷ []; entries = entry ∷ []; window = 0 }

one_server : (k : ℕ) → k < 2 → All (λ s. s < 2) (k ∷ [])
one_server k low = All-cons (λ s. s < 2) k [] low (All-nil (λ s. s < 2))

tree_sound : IsSoundTree 2 routes.symbols tree
tree_sound = (
  ((λ e. cc), ((record { some = omega arith; known = one_server 0 (omega arith); sized = refl }, tt), ((record { some = omega arith; known = one_server 1 (omega arith); sized = refl }, tt), tt))),
  ((record { some = omega arith; known = All-cons (λ s. s < 2) 0 (1 ∷ []) (omega arith) (one_server 1 (omega arith)); sized = refl }, tt), tt),
)

sound : IsSoundRoutes routes
sound = All-cons (λ (e : RouteEntry). IsSoundTree 2 routes.symbols e.tree) entry [] tree_sound (All-nil (λ (e : RouteEntry). IsSoundTree 2 routes.symbols e.tree))

-- ---- its one block

abbrev leaf : LegValue
leaf = record { position = 1 ∷ []; symbol = 0; servers = 0 ∷ 1 ∷ [] }

abbrev first_leg : LegValue
first_leg = record { position = 0 ∷ 0 ∷ []; symbol = 1; servers = 0 ∷ [] }

abbrev second_leg : LegValue
second_leg = record { position = 0 ∷ 1 ∷ []; symbol = 1; servers = 1 ∷ [] }

abbrev spot : SpotValue
spot = record { route = 0; class = []; era = 0; get_era = 0 }

abbrev block : BlockValue
block = record { spot = spot; readable = leaf ∷ []; acknowledged = first_leg ∷ second_leg ∷ []; can_be_acknowledged = true }

-- the member of the class of the empty word
abbrev member : List ℕ
member = 33 ∷ []

any : Choice
any s = 0

readable_there : (p : List ℕ) → IsReadableAt tree member None p → (1 ∷ []) ≡ p
readable_there p h =
    each_of_four (λ op. CanHitAt tree (asked op member None) h.2 p → (1 ∷ []) ≡ p)
    (λ g. let l = (hits_are_exact tree Get member None h.2 p).0 g in ap (λ (k : Leg). k.position) l.1 ∙ l.2)
    (λ g. let l = (hits_are_exact tree Gets member None h.2 p).0 g in ap (λ (k : Leg). k.position) l.1 ∙ l.2)
    (λ g. let l = (hits_are_exact tree Incr member None h.2 p).0 g in ap (λ (k : Leg). k.position) l.1 ∙ l.2)
    (λ g. let l = (hits_are_exact tree Decr member None h.2 p).0 g in ap (λ (k : Leg). k.position) l.1 ∙ l.2) h.0 h.1 h.3

readable_here : IsReadableAt tree member None (1 ∷ [])
readable_here = (Get, refl, any, (hits_are_exact tree Get member None any (1 ∷ [])).1 (plans.leg_of hashed (under 1 (asked Get member None)), refl, refl))

acknowledged_there : (p : List ℕ) → IsAcknowledgedAt tree member None p → ((0 ∷ 0 ∷ []) ≡ p) ⊎ ((0 ∷ 1 ∷ []) ≡ p)
acknowledged_there p h =
    let l = (acknowledged_is_exact tree member None any p).0 (h any) in
    elim l.1 [
      | inl e ↦ inl (ap (λ (k : Leg). k.position) e ∙ l.2)
      | inr e ↦ inr (ap (λ (k : Leg). k.position) e ∙ l.2)
    ]

first_here : IsAcknowledgedAt tree member None (0 ∷ 0 ∷ [])
first_here c = (acknowledged_is_exact tree member None c (0 ∷ 0 ∷ [])).1 (plans.leg_of first (under 0 (under 0 (asked Delete member None))), inl refl, refl)

second_here : IsAcknowledgedAt tree member None (0 ∷ 1 ∷ [])
second_here c = (acknowledged_is_exact tree member None c (0 ∷ 1 ∷ [])).1 (plans.leg_of second (under 1 (under 0 (asked Delete member None))), inr refl, refl)

one_rises : (l : LegValue) → AreLegsRising (l ∷ [])
one_rises l i j d low high = absurd (omega (arith, low, high))

two_rise : AreLegsRising (first_leg ∷ second_leg ∷ [])
two_rise =
    AllPairs-cons (λ (l m : LegValue). list_cmp l.position m.position ≡ Less) first_leg (second_leg ∷ [])
    (All-cons (λ (m : LegValue). list_cmp first_leg.position m.position ≡ Less) second_leg [] refl (All-nil (λ (m : LegValue). list_cmp first_leg.position m.position ≡ Less)))
    (one_rises second_leg)

readable_leaves : AreLeavesAt tree (IsReadableAt tree member None) (leaf ∷ [])
readable_leaves = record {
  pools = All-cons (λ (l : LegValue). pool_at_position tree l.position ≡ Some (pool_for l)) leaf [] refl (All-nil (λ (l : LegValue). pool_at_position tree l.position ≡ Some (pool_for l)));
  rising = one_rises leaf;
  only = All-cons (IsReadableAt tree member None) (1 ∷ []) [] readable_here (All-nil (IsReadableAt tree member None));
  all = λ p h. at_first (1 ∷ []) [] p (readable_there p h);
}

acknowledged_leaves : AreLeavesAt tree (IsAcknowledgedAt tree member None) (first_leg ∷ second_leg ∷ [])
acknowledged_leaves = record {
  pools =
      All-cons (λ (l : LegValue). pool_at_position tree l.position ≡ Some (pool_for l)) first_leg (second_leg ∷ []) refl
      (All-cons (λ (l : LegValue). pool_at_position tree l.position ≡ Some (pool_for l)) second_leg [] refl (All-nil (λ (l : LegValue). pool_at_position tree l.position ≡ Some (pool_for l))));
  rising = two_rise;
  only =
      All-cons (IsAcknowledgedAt tree member None) (0 ∷ 0 ∷ []) ((0 ∷ 1 ∷ []) ∷ []) first_here
      (All-cons (IsAcknowledgedAt tree member None) (0 ∷ 1 ∷ []) [] second_here (All-nil (IsAcknowledgedAt tree member None)));
  all = λ p h. elim (acknowledged_there p h) [
    | inl e ↦ at_first (0 ∷ 0 ∷ []) ((0 ∷ 1 ∷ []) ∷ []) p e
    | inr e ↦ behind_first (0 ∷ 0 ∷ []) ((0 ∷ 1 ∷ []) ∷ []) p (at_first (0 ∷ 1 ∷ []) [] p e)
  ];
}

good_is_no_error : ◌≡◌ {A = Outcome} Good Error → ⊥
good_is_no_error e = cc

can_be : (true ≡ false) ↔ IsNeverAcknowledged tree member None
can_be = (λ e. absurd (true≢false e), λ h. absurd (h any ((done_is_exact tree member None any).1 good_is_no_error)))

byte_not_listed : (b : ℕ) → Contains (class_words tree) (b ∷ []) → ⊥
byte_not_listed b at =
    elim (first_or_behind [] [] (b ∷ []) at) [
      | inl e ↦ cc
      | inr h ↦ none_there (b ∷ []) h
    ]

from_33 : (c : ℕ) → IsFree (class_words tree) c → 33 ≤ c
from_33 c free = leb-true 33 c (and_parts (nat_le 33 c) (not (c == 127)) free.key).0

is_spot : IsSpotOf routes spot tree member None None
is_spot = record {
  entry = entry;
  numbered = refl;
  has_tree = refl;
  listed = (0, omega arith, refl);
  has_member = (33, refl, record { small = omega arith; key = refl; unlisted = byte_not_listed 33 }, from_33);
  opened = refl;
  read_opened = refl;
  near = inl refl;
}

is_block : IsBlockOf routes block
is_block = record {
  tree = tree;
  member = member;
  since = None;
  read = None;
  spot = is_spot;
  has = record { readable = readable_leaves; acknowledged = acknowledged_leaves; never = can_be };
}

-- ---- and it is the only one

only_route : (n : ℕ) (e : RouteEntry) → slice_get routes.entries n ≡ Some e → (0 ≡ n) × (entry ≡ e)
only_route zero e h = (refl, same_Some entry e h)
only_route (suc n) e h = absurd (none-some e h)

only_class : (class : List ℕ) → Contains (class_words tree) class → [] ≡ class
only_class class at =
    elim (first_or_behind [] [] class at) [
      | inl e ↦ e
      | inr h ↦ absurd (none_there class h)
    ]

only_era : (era : ℕ) (z : Option ℕ) → IsEraOf routes era z → 0 ≡ era
only_era era z opened = by era z opened
  where
    no_break : (k : ℕ) (z : Option ℕ) → IsEra routes z → (z ≢ None) → 0 ≡ suc k
    no_break k None h some = absurd (some refl)
    no_break k (Some b) h some = absurd (none_there b h)

    by : (era : ℕ) (z : Option ℕ) → IsEraOf routes era z → 0 ≡ era
    by zero z opened = refl
    by (suc k) z opened = no_break k z (era_there routes (suc k) z opened) opened.3

has_block : (s : SpotValue) (t : Tree) (m : List ℕ) (since read : Option ℕ) → IsSpotOf routes s t m since read → HasBlockFor (block ∷ []) s
has_block s t m since read is =
    let route_is = only_route s.route is.entry is.numbered in
    let t_is : tree ≡ t = ap (λ (e : RouteEntry). e.tree) route_is.1 ∙ is.has_tree in
    let class_is = only_class s.class (subst (λ x. Contains (class_words x) s.class) (sym t_is) is.listed) in
    let era_is = only_era s.era since is.opened in
    let get_era_is = only_era s.get_era read is.read_opened in
    (block, at_first block [] block refl, λ i. record { route = route_is.0 i; class = class_is i; era = era_is i; get_era = get_era_is i })

are_blocks : AreBlocksOf routes (block ∷ [])
are_blocks = record {
  rising = λ i j d low high. absurd (omega (arith, low, high));
  only = All-cons (IsBlockOf routes) block [] is_block (All-nil (IsBlockOf routes));
  all = has_block;
}

-- ---- a certificate: at each index of the leaf the pool that has its server

abbrev pair : ℕ → List ℕ → PairValue
pair i leg = record { place = record { spot = spot; leaf = 1 ∷ [] }; reason = all i (leg ∷ []) }

abbrev pairs : List PairValue
pairs = pair 0 (0 ∷ 0 ∷ []) ∷ pair 1 (0 ∷ 1 ∷ []) ∷ []

each_answers : (i : ℕ) (p : PairValue) → slice_get pairs i ≡ Some p → IsAnswer block leaf i p × (is_whole p.reason ≡ false)
each_answers zero p e = subst (λ q. IsAnswer block leaf 0 q × (is_whole q.reason ≡ false)) (same_Some (pair 0 (0 ∷ 0 ∷ [])) p e) (record { place = refl; index = refl; faultless = refl }, refl)
each_answers (suc zero) p e = subst (λ q. IsAnswer block leaf 1 q × (is_whole q.reason ≡ false)) (same_Some (pair 1 (0 ∷ 1 ∷ [])) p e) (record { place = refl; index = refl; faultless = refl }, refl)
each_answers (suc (suc k)) p e = absurd (none-some p e)

answered : AnswersAll (block ∷ []) pairs
answered = (pairs, [], refl, (pairs, [], refl, inr (record { count = refl; each = each_answers }), refl), refl)

in_order : AreInOrder (block ∷ [])
in_order = record {
  rising = λ i j d low high. absurd (omega (arith, low, high));
  each = All-cons IsInOrder block [] (record { readable = one_rises leaf; indexed = All-cons (λ (l : LegValue). 0 < length l.servers) leaf [] (omega arith) (All-nil (λ (l : LegValue). 0 < length l.servers)); acknowledged = two_rise }) (All-nil IsInOrder);
}

certified : AreRising pairs × IsFaultless pairs (block ∷ [])
certified = answered_faultless (block ∷ []) pairs in_order answered

is_justified : IsJustifiedBy routes (record { window = 0; pairs = pairs })
is_justified = (refl, (block ∷ [], are_blocks, certified.1))

-- every key, every choice, every outcome that can come
are_covered : AreCovered routes
are_covered = justified_is_covered covered_by_members routes (record { window = 0; pairs = pairs }) sound certified.0 is_justified
