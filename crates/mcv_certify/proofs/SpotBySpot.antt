-- Pairs that are added spot by spot, and what is reported of a gap.
use Rattle.std.proofs.Common.{◌≡◌, List, [], ◌∷◌, ◌++◌, refl, sym, ap, ◌∙◌, subst}
use Rattle.std.specs.List.{All}
use Rattle.std.proofs.lemmas.List.{append-nil, append_assoc}
use Rattle.std.proofs.lemmas.List.Elements.{All-append, All-nil}
use Rattle.mcv_cert.specs.Pair.{PairValue}
use Rattle.mcv_judge.specs.Answers.{AnswersBlock}
use Rattle.mcv_judge.specs.Reason.{BlockValue, HasReasons}
use Rattle.mcv_route.specs.Routes.{RoutesValue}
use Rattle.mcv_pairs.specs.AddedPairs.{Adds}
use Rattle.mcv_pairs.specs.Reasons.{IsPickedIn}
use Rattle.mcv_pairs.proofs.AddedPairs.{all_more, all_none}
use Rattle.mcv_pairs.proofs.AnsweredHasReasons.{answered_have}
use Rattle.mcv_blocks.specs.Spots.{IsBlockFor, ClassInEras}
use Rattle.mcv_certify.specs.BlockSteps.{AddsFor, ReportsGapAt, ReportsGapIn}
use Rattle.mcv_certify.specs.PickedReasons.{IsPickedOf}
use Rattle.mcv_certify.specs.declared.gap.Gap.{Gap}
use Rattle.mcv_certify.proofs.Lists.{in_turn_both, zip_both}

-- pairs were added for the spots up to those that are left
pub record AddsUpTo (r : RoutesValue) (all left : List ClassInEras) (old new : List PairValue) : Type 0 where
  pub done : List ClassInEras
  pub parts : all ≡ done ++ left
  pub adds : AddsFor r done old new

module _ (r : RoutesValue) where
  adds_none : (old : List PairValue) → AddsFor r [] old old
  adds_none old = record { blocks = []; blocks_are = tt; adds = record { pairs = []; added = sym (append-nil old); have = refl }; picked = all_none (IsPickedOf r) old }

  -- the pairs of one block
  pub adds_one : (s : ClassInEras) (b : BlockValue) (old new : List PairValue) → IsBlockFor r s b → Adds (AnswersBlock b) old new → Adds (All (IsPickedIn b)) old new → AddsFor r (s ∷ []) old new
  adds_one s b old new block_is h picked = record {
    blocks = b ∷ [];
    blocks_are = (block_is, tt);
    adds = record { pairs = h.pairs; added = h.added; have = (h.pairs, [], sym (append-nil h.pairs), h.have, refl) };
    picked = all_more (IsPickedOf r) (IsPickedIn b) (λ p own. (b, block_is.is, own)) old old new (all_none (IsPickedOf r) old) picked;
  }

  adds_both : (ss ts : List ClassInEras) (old now new : List PairValue) → AddsFor r ss old now → AddsFor r ts now new → AddsFor r (ss ++ ts) old new
  adds_both ss ts old now new h g = record {
    blocks = h.blocks ++ g.blocks;
    blocks_are = zip_both (IsBlockFor r) ss ts h.blocks g.blocks h.blocks_are g.blocks_are;
    adds = record {
      pairs = h.adds.pairs ++ g.adds.pairs;
      added = g.adds.added ∙ ap (λ ps. ps ++ g.adds.pairs) h.adds.added ∙ append_assoc old h.adds.pairs g.adds.pairs;
      have = in_turn_both AnswersBlock h.blocks g.blocks h.adds.pairs g.adds.pairs h.adds.have g.adds.have;
    };
    picked = all_more (IsPickedOf r) (IsPickedOf r) (λ p own. own) old now new h.picked g.picked;
  }

  module _ (all : List ClassInEras) (old : List PairValue) where
    pub adds_start : AddsUpTo r all all old old
    adds_start = record { done = []; parts = refl; adds = adds_none old }

    parted : (ss left now : List ClassInEras) (done : List ClassInEras) → all ≡ done ++ now → now ≡ ss ++ left → all ≡ (done ++ ss) ++ left
    parted ss left now done parts is = parts ∙ ap (λ ts. done ++ ts) is ∙ sym (append_assoc done ss left)

    -- the pairs of the next spots
    pub adds_next : (ss left now : List ClassInEras) (so_far new : List PairValue) → now ≡ ss ++ left → AddsUpTo r all now old so_far → AddsFor r ss so_far new → AddsUpTo r all left old new
    adds_next ss left now so_far new is h g = record { done = h.done ++ ss; parts = parted ss left now h.done h.parts is; adds = adds_both h.done ss old so_far new h.adds g }

    -- none are left
    pub adds_all : (now : List ClassInEras) (new : List PairValue) → now ≡ [] → AddsUpTo r all now old new → AddsFor r all old new
    adds_all now new is h =
        let same : h.done ≡ all = sym (h.parts ∙ ap (λ ts. h.done ++ ts) is ∙ append-nil h.done) in
        subst (λ ss. AddsFor r ss old new) same h.adds

    -- a gap in the next spots, behind blocks that have reasons
    pub reports_next : (ss left now : List ClassInEras) (so_far : List PairValue) (f : Gap) → now ≡ ss ++ left → AddsUpTo r all now old so_far → ReportsGapIn r ss f → ReportsGapIn r all f
    reports_next ss left now so_far f is h reported =
        let own : ss ++ left ≡ reported.before ++ (reported.spot ∷ (reported.behind ++ left)) = ap (λ ts. ts ++ left) reported.parts ∙ append_assoc reported.before (reported.spot ∷ reported.behind) left in
        record {
          before = h.done ++ reported.before;
          spot = reported.spot;
          behind = reported.behind ++ left;
          parts = h.parts ∙ ap (λ ts. h.done ++ ts) (is ∙ own) ∙ sym (append_assoc h.done reported.before (reported.spot ∷ (reported.behind ++ left)));
          blocks = h.adds.blocks ++ reported.blocks;
          blocks_are = zip_both (IsBlockFor r) h.done reported.before h.adds.blocks reported.blocks h.adds.blocks_are reported.blocks_are;
          reasons = All-append (λ b. All (HasReasons b) b.readable) h.adds.blocks reported.blocks (answered_have h.adds.blocks h.adds.adds.pairs h.adds.adds.have) reported.reasons;
          reports = reported.reports;
        }

  -- a gap at a spot is one in the list of it alone
  pub reports_one : (s : ClassInEras) (f : Gap) → ReportsGapAt r s f → ReportsGapIn r (s ∷ []) f
  reports_one s f reported = record { before = []; spot = s; behind = []; parts = refl; blocks = []; blocks_are = tt; reasons = All-nil (λ b. All (HasReasons b) b.readable); reports = reported }
