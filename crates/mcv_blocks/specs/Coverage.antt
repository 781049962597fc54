-- What certificates have to do with coverage.
use Rattle.std.specs.Prelude.{◌≡◌, ◌<◌, ℕ, List, length}
use Rattle.std.specs.List.{All, Contains}
use Rattle.mcv_route.specs.Routes.{IsSoundRoutes, RoutesValue}
use Rattle.mcv_symbolic.specs.CoveredRoutes.{AreCovered, sizes_of}
use Rattle.mcv_judge.specs.Reason.{BlockValue, HasReason, LegValue}
use Rattle.mcv_cert.specs.Pair.{AreRising, CertificateValue}
use Rattle.mcv_blocks.specs.Blocks.{AreBlocksOf, IsBlockOf, IsJustifiedBy}

-- routes have one list of blocks
abbrev pub OneListOfBlocks : Type 0
OneListOfBlocks = (r : RoutesValue) (blocks others : List BlockValue) → AreBlocksOf r blocks → AreBlocksOf r others → blocks ≡ others

-- routes with a justified certificate are covered. A certificate's pairs come in order: of two at one place only the first would be judged
abbrev pub JustifiedIsCovered : Type 0
JustifiedIsCovered = (r : RoutesValue) (c : CertificateValue) → IsSoundRoutes r → AreRising c.pairs → IsJustifiedBy r c → AreCovered r

-- where routes are covered, some reason answers for each leaf that can be read, at each of its indexes. Each symbol has an index (were there one without, no choice would be left, and all would be covered), and class words are of bytes (no rest has others)
abbrev pub CoveredHasReasons : Type 0
CoveredHasReasons =
    (r : RoutesValue) (b : BlockValue) (leaf : LegValue) (i : ℕ) → IsSoundRoutes r → All (λ n. 0 < n) (sizes_of r) → AreCovered r → IsBlockOf r b → All (λ c. c < 256) b.spot.class → Contains b.readable leaf → i < length leaf.servers
    → HasReason b leaf i
