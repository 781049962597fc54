-- How the code goes from block to block. Only private contracts cite this.
use Rattle.std.specs.Prelude.{All, ◌≡◌, ◌<◌, ◌++◌, ◌∷◌, ℕ, List, Some}
use Rattle.std.specs.List.{AllZip}
use Rattle.mcv_cert.specs.Pair.{PairValue, SpotValue, place_of}
use Rattle.mcv_judge.specs.Answers.{AnswersAll, AnswersBlock}
use Rattle.mcv_judge.specs.Faults.{place_required, require}
use Rattle.mcv_judge.specs.Reason.{BlockValue, HasReasons, LegValue, server_at}
use Rattle.mcv_route.specs.Routes.{RoutesValue}
use Rattle.mcv_pairs.specs.AddedPairs.{Adds}
use Rattle.mcv_pairs.specs.Gaps.{IsFirstGapIn, IsSized}
use Rattle.mcv_pairs.specs.Reasons.{IsPickedIn}
use Rattle.mcv_blocks.specs.Blocks.{AreLeavesAt, IsAcknowledgedAt}
use Rattle.mcv_blocks.specs.Sets.{SetsValue}
use Rattle.mcv_blocks.specs.Spots.{IsBlockFor, IsBlockWith, ClassInEras}
use Rattle.mcv_certify.specs.PickedReasons.{IsPickedOf}
use Rattle.mcv_certify.specs.declared.gap.Gap.{Gap}

-- the legs that every delete that has a reply has sent have as many servers as their symbols have indexes
abbrev pub AreLegsSized : SetsValue → Type 0
AreLegsSized s = (legs : List LegValue) → AreLeavesAt s.tree (IsAcknowledgedAt s.tree s.rest s.since) legs → IsSized legs

-- pairs were added that answer the block of the sets
pub record AddsWith (s g : SetsValue) (at : SpotValue) (old new : List PairValue) : Type 0 where
  pub block : BlockValue
  pub is : IsBlockWith s g at block
  pub adds : Adds (AnswersBlock block) old new
  pub picked : Adds (All (IsPickedIn block)) old new

-- pairs were added that answer blocks at these spots
pub record AddsFor (r : RoutesValue) (spots : List ClassInEras) (old new : List PairValue) : Type 0 where
  pub blocks : List BlockValue
  pub blocks_are : AllZip (IsBlockFor r) spots blocks
  pub adds : Adds (AnswersAll blocks) old new
  pub picked : Adds (All (IsPickedOf r)) old new

-- the first gap of the block is reported
pub record ReportsGapOf (b : BlockValue) (f : Gap) : Type 0 where
  pub number : ℕ
  pub gap : IsFirstGapIn b number f.at
  pub placed : place_required (require b gap.leaf) ≡ place_of f.place
  pub has : server_at gap.leaf f.at ≡ Some f.server.0
  pub bytes : All (λ c. c < 256) f.place.class.items

-- that of the block of the sets
pub record ReportsGapWith (s g : SetsValue) (at : SpotValue) (f : Gap) : Type 0 where
  pub block : BlockValue
  pub is : IsBlockWith s g at block
  pub reports : ReportsGapOf block f

-- that of the block at the spot
pub record ReportsGapAt (r : RoutesValue) (s : ClassInEras) (f : Gap) : Type 0 where
  pub block : BlockValue
  pub block_is : IsBlockFor r s block
  pub reports : ReportsGapOf block f

-- that of the block at one of the spots, and blocks at those before it have a reason for each index
pub record ReportsGapIn (r : RoutesValue) (spots : List ClassInEras) (f : Gap) : Type 0 where
  pub before : List ClassInEras
  pub spot : ClassInEras
  pub behind : List ClassInEras
  pub parts : spots ≡ before ++ spot ∷ behind
  pub blocks : List BlockValue
  pub blocks_are : AllZip (IsBlockFor r) before blocks
  pub reasons : All (λ b. All (HasReasons b) b.readable) blocks
  pub reports : ReportsGapAt r spot f
