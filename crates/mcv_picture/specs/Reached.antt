-- What deletes and gets of a finding's keys reach (own).
use Rattle.std.specs.Prelude.{◌≡◌, ◌++◌, ℕ, List, Option, map}
use Rattle.mcv_blocks.specs.Blocks.{AreLeavesAt, IsAcknowledgedAt, IsSpotOf, positions_of}
use Rattle.mcv_judge.specs.Reason.{LegValue}
use Rattle.mcv_route.specs.Routes.{RoutesValue}
use Rattle.mcv_route.specs.Tree.{Tree}
use Rattle.mcv_symbolic.specs.JustifiedRoutes.{IsReadableAt}
use Rattle.mcv_witness.specs.Finding.{FindingValue}

-- to which positions deletes go: those of the legs that answered the finding's delete, and those to which every delete that has a reply has been sent
pub record AreDeletesTo (t : Tree) (rest : List ℕ) (since : Option ℕ) (f : FindingValue) (positions : List (List ℕ)) : Type 0 where
  pub legs : List LegValue
  pub acknowledged : AreLeavesAt t (IsAcknowledgedAt t rest since) legs
  pub are : positions ≡ map (λ e. e.0) f.deletes ++ positions_of legs

-- the positions of the leaves from which a get, gets, incr or decr can be answered
pub record AreReadableAt (t : Tree) (rest : List ℕ) (since : Option ℕ) (positions : List (List ℕ)) : Type 0 where
  pub legs : List LegValue
  pub readable : AreLeavesAt t (IsReadableAt t rest since) legs
  pub are : positions ≡ positions_of legs

-- in the tree of the finding's route, at the member of its class, in its eras
abbrev pub AreReached : RoutesValue → FindingValue → (deletes readable : List (List ℕ)) → Type 0
AreReached r f deletes readable =
    (t : Tree) (member : List ℕ) (since read : Option ℕ) → IsSpotOf r f.place.spot t member since read → AreDeletesTo t member since f deletes × AreReadableAt t member read readable
