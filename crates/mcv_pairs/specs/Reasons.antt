-- Which reason a pair gives: the first that holds in the order never, twin, same, all, with the first legs (own).
use Rattle.std.specs.Prelude.{All, ◌≡◌, ℕ, List, Option, Some, None}
use Rattle.std.specs.List.{Contains}
use Rattle.mcv_cert.specs.Pair.{PairValue, ReasonValue, index_of}
use Rattle.mcv_judge.specs.Answers.{AnswersBlock}
use Rattle.mcv_judge.specs.Faults.{IsInOrder, place_required, require}
use Rattle.mcv_judge.specs.Reason.{BlockValue, LegValue, server_at}
use Rattle.mcv_picks.specs.Reasons.{IsReasonAt, whole_reason}

-- it is the one for all indexes of the leaf, if there is one, and otherwise the one at its own index
abbrev pub IsPickedBeside : Option ReasonValue → BlockValue → LegValue → ReasonValue → Type 0
IsPickedBeside (Some whole) b leaf reason = reason ≡ whole
IsPickedBeside None b leaf reason = (server : ℕ) × (server_at leaf (index_of reason) ≡ Some server) × IsReasonAt b.acknowledged leaf (index_of reason) server (Some reason)

abbrev pub IsPicked : BlockValue → LegValue → ReasonValue → Type 0
IsPicked b leaf reason = IsPickedBeside (whole_reason b.can_be_acknowledged b.acknowledged leaf) b leaf reason

-- the pair is at the leaf, and gives the reason that is picked for it
pub record IsPickedFor (b : BlockValue) (leaf : LegValue) (p : PairValue) : Type 0 where
  pub place : p.place ≡ place_required (require b leaf)
  pub reason : IsPicked b leaf p.reason

-- it does so at a readable leaf of the block
abbrev pub IsPickedIn : BlockValue → PairValue → Type 0
IsPickedIn b p = (leaf : LegValue) × Contains b.readable leaf × IsPickedFor b leaf p

-- pairs that answer a block in order, each with the reason that is picked, are one list
abbrev pub OneListOfPairs : Type 0
OneListOfPairs = (b : BlockValue) (ps qs : List PairValue) → IsInOrder b → AnswersBlock b ps → All (IsPickedIn b) ps → AnswersBlock b qs → All (IsPickedIn b) qs → ps ≡ qs
