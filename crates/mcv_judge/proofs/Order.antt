-- The order of places, and lists that rise, taken apart from the front.
use Rattle.std.proofs.Common.{◌≡◌, ℕ, zero, suc, ◌<◌, List, [], ◌∷◌, ◌++◌, length, map, drop, sym, ap, ◌∙◌, subst, arith}
use Rattle.std.specs.Prelude.{All, AllPairs, flat_map}
use Rattle.std.specs.declared.cmp.Ordering.TheVariants.{Less}
use Rattle.std.specs.Ordering.{ordering_then}
use Rattle.std.proofs.lemmas.Cmp.{tied_itself}
use Rattle.std.proofs.lemmas.List.Elements.{All-cons, All-nil, All-head, All-tail, All-drop}
use Rattle.std.proofs.lemmas.List.Kept.{AllPairs-cons}
use Rattle.std.proofs.lemmas.List.{map-append}
use Rattle.mcv_cert.specs.Pair.{PlaceValue, SpotValue, PairValue, AreRising, index_of, list_cmp, spot_cmp, place_cmp, index_cmp}
use Rattle.mcv_cert.proofs.Rising.{spots_total}
use Rattle.mcv_judge.specs.Reason.{LegValue, BlockValue}
use Rattle.mcv_judge.specs.Faults.{Required, AreInOrder, AreLegsRising, IsInOrder, require, required_by}
use Rattle.mcv_judge.specs.Walk.{Entry, entries}
use Rattle.mcv_judge.proofs.FaultAtPlace.{IsBelowPairs, ArePairsAscending, IsBelowEntries, AreEntriesRising}

-- ---- lists by index, from the front

from_first : {X : Type 0} (P : X → X → Type 0) (x : X) (xs : List X) → AllPairs P (x ∷ xs) → All (P x) xs
from_first P x xs h k d l = h 0 (suc k) d (omega arith) (omega arith)

behind_first : {X : Type 0} (P : X → X → Type 0) (x : X) (xs : List X) → AllPairs P (x ∷ xs) → AllPairs P xs
behind_first P x xs h i j d l b = h (suc i) (suc j) d (omega arith) (omega arith)

-- ---- pairs

below_all : (s : PlaceValue) (i : ℕ) (pairs : List PairValue) → All (λ r. index_cmp s i r.place (index_of r.reason) ≡ Less) pairs → IsBelowPairs s i pairs
below_all s i [] h = tt
below_all s i (r ∷ pairs) h = (All-head (λ q. index_cmp s i q.place (index_of q.reason) ≡ Less) r pairs h, below_all s i pairs (All-tail (λ q. index_cmp s i q.place (index_of q.reason) ≡ Less) r pairs h))

all_below : (s : PlaceValue) (i : ℕ) (pairs : List PairValue) → IsBelowPairs s i pairs → All (λ r. index_cmp s i r.place (index_of r.reason) ≡ Less) pairs
all_below s i [] h = All-nil (λ r. index_cmp s i r.place (index_of r.reason) ≡ Less)
all_below s i (r ∷ pairs) h = All-cons (λ q. index_cmp s i q.place (index_of q.reason) ≡ Less) r pairs h.0 (all_below s i pairs h.1)

abbrev Later : PairValue → PairValue → Type 0
Later r q = index_cmp r.place (index_of r.reason) q.place (index_of q.reason) ≡ Less

pub ascending : (pairs : List PairValue) → AreRising pairs → ArePairsAscending pairs
ascending [] h = tt
ascending (r ∷ pairs) h = (below_all r.place (index_of r.reason) pairs (from_first Later r pairs h), ascending pairs (behind_first Later r pairs h))

none_rise : AreRising []
none_rise i j d l b = absurd (omega arith)

pub rising : (pairs : List PairValue) → ArePairsAscending pairs → AreRising pairs
rising [] h = none_rise
rising (r ∷ pairs) h = AllPairs-cons Later r pairs (all_below r.place (index_of r.reason) pairs h.0) (rising pairs h.1)

-- ---- blocks

-- the place at a spot
abbrev pub at_spot : SpotValue → List ℕ → PlaceValue
at_spot s p = record { spot = s; leaf = p }

pub in_one_spot : (s : SpotValue) (p q : List ℕ) → place_cmp (at_spot s p) (at_spot s q) ≡ list_cmp p q
unfolding place_cmp
in_one_spot s p q = ap (λ o. ordering_then o (list_cmp p q)) (tied_itself spots_total s)

pub in_two_spots : (s t : SpotValue) (p q : List ℕ) → spot_cmp s t ≡ Less → place_cmp (at_spot s p) (at_spot t q) ≡ Less
unfolding place_cmp
in_two_spots s t p q h = ap (λ o. ordering_then o (list_cmp p q)) h

abbrev requiring : BlockValue → List LegValue → List Required
requiring b ls = map (require b) ls

below_leaves : (s : PlaceValue) (b : BlockValue) (ls : List LegValue) → ((l : LegValue) → place_cmp s (at_spot b.spot l.position) ≡ Less) → (es : List Entry) → IsBelowEntries s es → IsBelowEntries s (entries (requiring b ls) ++ es)
below_leaves s b [] h es more = more
below_leaves s b (l ∷ ls) h es more = (h l, below_leaves s b ls h es more)

below_own : (b : BlockValue) (p : List ℕ) (ls : List LegValue) → All (λ l. list_cmp p l.position ≡ Less) ls → (es : List Entry) → IsBelowEntries (at_spot b.spot p) es → IsBelowEntries (at_spot b.spot p) (entries (requiring b ls) ++ es)
below_own b p [] h es more = more
below_own b p (l ∷ ls) h es more = (in_one_spot b.spot p l.position ∙ All-head (λ m. list_cmp p m.position ≡ Less) l ls h, below_own b p ls (All-tail (λ m. list_cmp p m.position ≡ Less) l ls h) es more)

-- a block's leaves before entries that come behind all of its places
leaves_rise : (b : BlockValue) (ls : List LegValue) → AreLegsRising ls → All (λ l. 0 < length l.servers) ls → (es : List Entry) → ((p : List ℕ) → IsBelowEntries (at_spot b.spot p) es) → AreEntriesRising es → AreEntriesRising (entries (requiring b ls) ++ es)
leaves_rise b [] up sized es below more = more
leaves_rise b (l ∷ ls) up sized es below more = (
  All-head (λ m. 0 < length m.servers) l ls sized,
  below_own b l.position ls (from_first (λ m n. list_cmp m.position n.position ≡ Less) l ls up) es (below l.position),
  leaves_rise b ls (behind_first (λ m n. list_cmp m.position n.position ≡ Less) l ls up) (All-tail (λ m. 0 < length m.servers) l ls sized) es below more,
)

pub entries_both : (os ps : List Required) → entries (os ++ ps) ≡ entries os ++ entries ps
entries_both os ps = map-append _ os ps

below_blocks : (b : BlockValue) (p : List ℕ) (cs : List BlockValue) → All (λ c. spot_cmp b.spot c.spot ≡ Less) cs → IsBelowEntries (at_spot b.spot p) (entries (flat_map required_by cs))
below_blocks b p [] h = tt
below_blocks b p (c ∷ cs) h =
    subst (IsBelowEntries (at_spot b.spot p)) (sym (entries_both (required_by c) (flat_map required_by cs)))
    (below_leaves (at_spot b.spot p) c c.readable (λ l. in_two_spots b.spot c.spot p l.position (All-head (λ d. spot_cmp b.spot d.spot ≡ Less) c cs h)) (entries (flat_map required_by cs)) (below_blocks b p cs (All-tail (λ d. spot_cmp b.spot d.spot ≡ Less) c cs h)))

blocks_rise : (bs : List BlockValue) → AllPairs (λ b c. spot_cmp b.spot c.spot ≡ Less) bs → All IsInOrder bs → AreEntriesRising (entries (flat_map required_by bs))
blocks_rise [] up each = tt
blocks_rise (b ∷ bs) up each =
    let own = All-head IsInOrder b bs each in
    subst AreEntriesRising (sym (entries_both (required_by b) (flat_map required_by bs)))
    (leaves_rise b b.readable own.readable own.indexed (entries (flat_map required_by bs)) (λ p. below_blocks b p bs (from_first (λ c d. spot_cmp c.spot d.spot ≡ Less) b bs up)) (blocks_rise bs (behind_first (λ c d. spot_cmp c.spot d.spot ≡ Less) b bs up) (All-tail IsInOrder b bs each)))

pub all_rise : (bs : List BlockValue) → AreInOrder bs → AreEntriesRising (entries (flat_map required_by bs))
all_rise bs h = blocks_rise bs h.rising h.each

pub one_rises : (b : BlockValue) → IsInOrder b → AreEntriesRising (entries (required_by b) ++ [])
one_rises b h = leaves_rise b b.readable h.readable h.indexed [] (λ p. tt) tt

pairs_from : {X : Type 0} (P : X → X → Type 0) (n : ℕ) (xs : List X) → AllPairs P xs → AllPairs P (drop n xs)
pairs_from P zero xs h = h
pairs_from P (suc n) [] h = h
pairs_from P (suc n) (x ∷ xs) h = pairs_from P n xs (behind_first P x xs h)

-- the blocks from one on
pub in_order_from : (n : ℕ) (bs : List BlockValue) → AreInOrder bs → AreInOrder (drop n bs)
in_order_from n bs h = record { rising = pairs_from (λ b c. spot_cmp b.spot c.spot ≡ Less) n bs h.rising; each = All-drop IsInOrder n bs h.each }
