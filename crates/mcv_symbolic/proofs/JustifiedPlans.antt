-- When plans are covered, by their structure.
use Rattle.std.proofs.Common.{◌≡◌, ◌⊎◌, ◌<◌, ℕ, true, List, length}
use Rattle.std.specs.Prelude.{slice_index}
use Rattle.mcv_base.specs.Operation.{shows_value}
use Rattle.mcv_base.specs.declared.operation.Op.{Op}
use Rattle.mcv_base.specs.declared.reply.Outcome.TheVariants.{Good, Error}
use Rattle.mcv_route.specs.Outcomes.{Choice, IsChoice}
use Rattle.mcv_rules.specs.Plan.{Leg, Plan, server}
use Rattle.mcv_symbolic.specs.Structure.{if_all, Acknowledged, Hits}

-- some symbol answers for the leaf at this index
abbrev pub IsAnswered : List ℕ → Plan → Leg → ℕ → Type 0
IsAnswered sizes delete leaf i =
    (s : ℕ) × (s < length sizes)
    × ((j : ℕ) → j < slice_index sizes s → (s ≡ leaf.symbol → j ≡ i) → (m : Leg) × Acknowledged delete m × (m.symbol ≡ s) × (slice_index m.servers j ≡ slice_index leaf.servers i))

-- under every choice that gives the leaf this index, an acknowledged leg has the leaf's server
abbrev pub IsAlwaysAnswered : List ℕ → Plan → Leg → ℕ → Type 0
IsAlwaysAnswered sizes delete leaf i = (c : Choice) → IsChoice sizes c → c leaf.symbol ≡ i → (m : Leg) × Acknowledged delete m × (server c m ≡ slice_index leaf.servers i)

-- the delete can't be done, or every leaf that can be read is answered for at every index
abbrev pub IsJustified : List ℕ → (Op → Plan) → Plan → Type 0
IsJustified sizes read delete =
    (if_all Good delete ≡ Error) ⊎ ((l : Leg) (i : ℕ) (op : Op) → shows_value op ≡ true → Hits (read op) l → i < slice_index sizes l.symbol → IsAnswered sizes delete l i)
