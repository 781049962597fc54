-- Pairs that are added one by one, of which each has a property: that it gives the reason that is picked.
use Rattle.std.proofs.Common.{◌≡◌, ◌<◌, ℕ, Option, Some, None, List, [], ◌∷◌, ◌++◌, length, get_or, refl, sym, ap, ◌∙◌, subst, arith}
use Rattle.std.specs.List.{Contains}
use Rattle.std.specs.Prelude.{All}
use Rattle.std.proofs.lemmas.List.{append-nil, append_assoc, get_or-map, length-map}
use Rattle.std.proofs.lemmas.List.Elements.{All-append, All-nil, All-push, All-weaker}
use Rattle.mcv_cert.specs.Pair.{PairValue, ReasonValue, index_of}
use Rattle.mcv_judge.specs.PairsInMemory.{leg_of, legs_of}
use Rattle.mcv_judge.specs.Reason.{BlockValue, LegValue, server_at}
use Rattle.mcv_judge.specs.declared.block.Leg.{Leg}
use Rattle.mcv_picks.specs.Reasons.{IsReasonAt, whole_reason}
use Rattle.mcv_pairs.specs.AddedPairs.{Adds, pair_with}
use Rattle.mcv_pairs.specs.Reasons.{IsPickedBeside, IsPickedFor, IsPickedIn}
use Rattle.mcv_pairs.proofs.PickedReasons.{picked_index}

-- ---- what is picked for a leaf

module _ (b : BlockValue) (leaf : LegValue) where
  pub picked_for_all : (r : ReasonValue) → whole_reason b.can_be_acknowledged b.acknowledged leaf ≡ Some r → IsPickedFor b leaf (pair_with b leaf r)
  picked_for_all r picked = record { place = refl; reason = subst (λ (o : Option ReasonValue). IsPickedBeside o b leaf r) (sym picked) refl }

  pub picked_for_one : (i x : ℕ) (r : ReasonValue) → server_at leaf i ≡ Some x → whole_reason b.can_be_acknowledged b.acknowledged leaf ≡ None → IsReasonAt b.acknowledged leaf i x (Some r) → IsPickedFor b leaf (pair_with b leaf r)
  picked_for_one i x r server none picked =
      let own = sym (picked_index b.acknowledged leaf i x r picked).0 in
      let server_own : server_at leaf (index_of r) ≡ Some x = subst (λ n. server_at leaf n ≡ Some x) own server in
      let picked_own : IsReasonAt b.acknowledged leaf (index_of r) x (Some r) = subst (λ n. IsReasonAt b.acknowledged leaf n x (Some r)) own picked in
      record { place = refl; reason = subst (λ (o : Option ReasonValue). IsPickedBeside o b leaf r) (sym none) (x, server_own, picked_own) }

-- ---- pairs that are added, each with the property

module _ (P : PairValue → Type 0) where
  pub all_none : (old : List PairValue) → Adds (All P) old old
  all_none old = record { pairs = []; added = sym (append-nil old); have = All-nil P }

  -- one pair more
  pub all_next : (old now new : List PairValue) (p : PairValue) → Adds (All P) old now → new ≡ now ++ p ∷ [] → P p → Adds (All P) old new
  all_next old now new p so_far grown has = record {
    pairs = so_far.pairs ++ p ∷ [];
    added = grown ∙ ap (λ ps. ps ++ p ∷ []) so_far.added ∙ append_assoc old so_far.pairs (p ∷ []);
    have = All-push P so_far.pairs p so_far.have has;
  }

  pub all_one : (old new : List PairValue) (p : PairValue) → new ≡ old ++ p ∷ [] → P p → Adds (All P) old new
  all_one old new p grown has = all_next old old new p (all_none old) grown has

  -- pairs that have more
  pub all_more : (Q : PairValue → Type 0) → ((p : PairValue) → Q p → P p) → (old now new : List PairValue) → Adds (All P) old now → Adds (All Q) now new → Adds (All P) old new
  all_more Q weaker old now new so_far own = record {
    pairs = so_far.pairs ++ own.pairs;
    added = own.added ∙ ap (λ ps. ps ++ own.pairs) so_far.added ∙ append_assoc old so_far.pairs own.pairs;
    have = All-append P so_far.pairs own.pairs so_far.have (All-weaker Q P weaker own.pairs own.have);
  }

pub leg_there : (leaves : List Leg) (n : ℕ) (item : Leg) → n < length leaves → item ≡ get_or leaves n item → Contains (legs_of leaves) (leg_of item)
leg_there leaves n item within is =
    let count = length-map leaves leg_of in
    (n, omega (arith, within, count), get_or-map leg_of leaves n item (leg_of item) within ∙ ap leg_of (sym is))

-- the pairs of a further leaf of the block
pub all_leaf : (b : BlockValue) (leaf : LegValue) (old now new : List PairValue) → Contains b.readable leaf → Adds (All (IsPickedIn b)) old now → Adds (All (IsPickedFor b leaf)) now new → Adds (All (IsPickedIn b)) old new
all_leaf b leaf old now new is_readable so_far own = all_more (IsPickedIn b) (IsPickedFor b leaf) (λ p h. (leaf, is_readable, h)) old now new so_far own
