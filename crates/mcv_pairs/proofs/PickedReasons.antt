-- What is picked for a leaf, and the pair made of it.
use Rattle.std.proofs.Common.{◌≡◌, ◌⊎◌, ◌<◌, ◌+◌, ℕ, Bool, true, false, List, [], ◌∷◌, ◌++◌, length, get_or, map, Option, Some, None, inl, inr, refl, sym, ap, ◌∙◌, subst, add-one}
use Rattle.std.specs.Option.{option_map}
use Rattle.std.specs.Prelude.{slice_get}
use Rattle.std.proofs.lemmas.List.{append_assoc, map-append}
use Rattle.std.proofs.lemmas.Option.{slice_get-get_or}
use Rattle.mcv_base.specs.declared.request.ServerId.{ServerId}
use Rattle.mcv_cert.specs.Pair.{PairValue, ReasonValue, never, twin, same, all, index_of, pair_of}
use Rattle.mcv_cert.specs.declared.pair.Pair.{Pair}
use Rattle.mcv_judge.specs.Answers.{AnswersEach, AnswersLeaf, AnswersLeaves, IsAnswer}
use Rattle.mcv_judge.specs.Faults.{AreLegsRising}
use Rattle.mcv_judge.specs.PairsInMemory.{numbers, pairs_of}
use Rattle.mcv_judge.specs.Reason.{BlockValue, HasReason, LegValue, is_whole, server_at}
use Rattle.mcv_judge.proofs.AnsweringPairs.{each_push, leaves_push}
use Rattle.mcv_judge.proofs.Servers.{server_of}
use Rattle.mcv_picks.specs.Picks.{first_twin, first_with}
use Rattle.mcv_picks.specs.Reasons.{IsReasonAt, IsReasonBeside, whole_reason}
use Rattle.mcv_picks.proofs.PicksHold.{none_holds, picked_hold}
use Rattle.mcv_pairs.specs.AddedPairs.{Adds, pair_with}
use Rattle.mcv_pairs.specs.Gaps.{IsSized}

pub server_there : (servers : List ServerId) (i : ℕ) (d : ServerId) → i < length servers → slice_get (numbers servers) i ≡ Some (get_or servers i d).0
server_there servers i d within = server_of servers i ∙ ap (option_map (λ (s : ServerId). s.0)) (slice_get-get_or servers i d within)

-- one that is picked at an index speaks of that one alone
pub picked_index : (legs : List LegValue) (leaf : LegValue) (i x : ℕ) (r : ReasonValue) → IsReasonAt legs leaf i x (Some r) → (index_of r ≡ i) × (is_whole r ≡ false)
picked_index legs leaf i x r h = beside (first_with legs leaf.symbol x i) h
  where
    gathered : (found : Option (List LegValue)) → Some r ≡ option_map (λ ds. all i (map (λ d. d.position) ds)) found → (index_of r ≡ i) × (is_whole r ≡ false)
    gathered None e = absurd cc
    gathered (Some ds) e =
        let one : all i (map (λ d. d.position) ds) ≡ r = cc in
        subst (λ q. (index_of q ≡ i) × (is_whole q ≡ false)) one (refl, refl)

    beside : (o : Option LegValue) → IsReasonBeside o legs i x (Some r) → (index_of r ≡ i) × (is_whole r ≡ false)
    beside (Some d) e =
        let one : same i d.position ≡ r = cc in
        subst (λ q. (index_of q ≡ i) × (is_whole q ≡ false)) one (refl, refl)
    beside None e = gathered e.0 e.2

-- one that is picked for a leaf speaks of all indexes
pub picked_whole : (can : Bool) (legs : List LegValue) (leaf : LegValue) (r : ReasonValue) → whole_reason can legs leaf ≡ Some r → (index_of r ≡ 0) × (is_whole r ≡ true)
picked_whole false legs leaf r h =
    let one : never ≡ r = cc in
    subst (λ q. (index_of q ≡ 0) × (is_whole q ≡ true)) one (refl, refl)
picked_whole true legs leaf r h = twinned (first_twin legs leaf) h
  where
    twinned : (o : Option LegValue) → option_map (λ d. twin d.position) o ≡ Some r → (index_of r ≡ 0) × (is_whole r ≡ true)
    twinned None e = absurd cc
    twinned (Some d) e =
        let one : twin d.position ≡ r = cc in
        subst (λ q. (index_of q ≡ 0) × (is_whole q ≡ true)) one (refl, refl)

module _ (b : BlockValue) (leaf : LegValue) where
  answer_whole : (r : ReasonValue) → AreLegsRising b.acknowledged → whole_reason b.can_be_acknowledged b.acknowledged leaf ≡ Some r → IsAnswer b leaf 0 (pair_with b leaf r) × (is_whole r ≡ true)
  answer_whole r up picked =
      let speaks = picked_whole b.can_be_acknowledged b.acknowledged leaf r picked in
      (record { place = refl; index = speaks.0; faultless = picked_hold b leaf r up (inl picked) }, speaks.1)

  answer_at : (i x : ℕ) (r : ReasonValue) → AreLegsRising b.acknowledged → server_at leaf i ≡ Some x → IsReasonAt b.acknowledged leaf i x (Some r) → IsAnswer b leaf i (pair_with b leaf r) × (is_whole r ≡ false)
  answer_at i x r up server picked =
      let speaks = picked_index b.acknowledged leaf i x r picked in
      (record { place = refl; index = speaks.0; faultless = picked_hold b leaf r up (inr (i, x, server, picked)) }, speaks.1)

  turned : (r : ReasonValue) (i : ℕ) → (is_whole r ≡ true) ⊎ (index_of r ≡ i) → (index_of r ≡ i) ⊎ (is_whole r ≡ true)
  turned r i (inl h) = inr h
  turned r i (inr h) = inl h

  pub no_reason : (i x : ℕ) → IsSized b.acknowledged → server_at leaf i ≡ Some x → whole_reason b.can_be_acknowledged b.acknowledged leaf ≡ None → IsReasonAt b.acknowledged leaf i x None → HasReason b leaf i → ⊥
  no_reason i x sized server whole picked has =
      none_holds sized.0 b leaf i x has.0 sized.1 server whole picked (turned has.0 i has.1) has.2

  -- ---- the pairs that are added

  -- the pair for all indexes
  pub adds_whole : (old new : List PairValue) (r : ReasonValue) → AreLegsRising b.acknowledged → whole_reason b.can_be_acknowledged b.acknowledged leaf ≡ Some r → new ≡ old ++ pair_with b leaf r ∷ [] → Adds (AnswersLeaf b leaf) old new
  adds_whole old new r up picked grown =
      let answer = answer_whole r up picked in
      record { pairs = pair_with b leaf r ∷ []; added = grown; have = inl (pair_with b leaf r, refl, answer.0, answer.1) }

  -- the pair for the next index
  pub adds_next : (i x : ℕ) (old now new : List PairValue) (r : ReasonValue) → AreLegsRising b.acknowledged → server_at leaf i ≡ Some x → IsReasonAt b.acknowledged leaf i x (Some r) → Adds (AnswersEach b leaf i) old now → new ≡ now ++ pair_with b leaf r ∷ [] → Adds (AnswersEach b leaf (i + 1)) old new
  adds_next i x old now new r up server picked so_far grown =
      let answer = answer_at i x r up server picked in
      let p = pair_with b leaf r in
      record {
        pairs = so_far.pairs ++ p ∷ [];
        added = grown ∙ ap (λ ps. ps ++ p ∷ []) so_far.added ∙ append_assoc old so_far.pairs (p ∷ []);
        have = subst (λ n. AnswersEach b leaf n (so_far.pairs ++ p ∷ [])) (sym (add-one i)) (each_push b leaf i so_far.pairs p so_far.have answer.0 answer.1);
      }

-- a pair that is pushed
pub grown : (items new : List Pair) (p : Pair) (q : PairValue) → new ≡ items ++ p ∷ [] → pair_of p ≡ q → pairs_of new ≡ pairs_of items ++ q ∷ []
grown items new p q pushed is = ap pairs_of pushed ∙ map-append pair_of items (p ∷ []) ∙ ap (λ r. pairs_of items ++ r ∷ []) is

-- the pairs of the next leaf
pub adds_leaf : (b : BlockValue) (leaves : List LegValue) (leaf : LegValue) (old now new : List PairValue) → Adds (AnswersLeaves b leaves) old now → Adds (AnswersLeaf b leaf) now new → Adds (AnswersLeaves b (leaves ++ leaf ∷ [])) old new
adds_leaf b leaves leaf old now new so_far own = record {
  pairs = so_far.pairs ++ own.pairs;
  added = own.added ∙ ap (λ ps. ps ++ own.pairs) so_far.added ∙ append_assoc old so_far.pairs own.pairs;
  have = leaves_push b leaves leaf so_far.pairs own.pairs so_far.have own.have;
}
