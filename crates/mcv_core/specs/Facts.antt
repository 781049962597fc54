-- What the core looks at of a leg (own).
use Rattle.std.specs.Prelude.{◌&&◌, ℕ, Bool, false, Option, Some, None, option_and_then, option_map}
use Rattle.mcv_base.specs.declared.operation.Mark.{Mark}
use Rattle.mcv_base.specs.declared.operation.Op.{Op}
use Rattle.mcv_base.specs.Operation.{is_counting, is_delete}
use Rattle.mcv_queues.specs.declared.leg.Leg.{Leg}
use Rattle.mcv_queues.specs.declared.leg.State.{State}
use Rattle.mcv_core.specs.declared.errand.Errand.{Errand}
use Rattle.mcv_core.specs.declared.facts.LegFacts.{LegFacts}
use Rattle.mcv_core.specs.Errands.{launch_of}

abbrev pub is_counting_delete : Op → Mark → Bool
is_counting_delete op mark = is_delete op && is_counting mark

abbrev pub facts_of : Leg Errand → LegFacts
facts_of l = record {
  server = l.server;
  state = l.state;
  op = (launch_of l.content).op;
  counted_delete = is_counting_delete (launch_of l.content).op (launch_of l.content).mark;
  call = l.content.call;
  entry = l.content.entry;
}

-- the state of the leg that is there
abbrev pub state_in : Option (Leg Errand) → Option State
state_in o = option_map (λ l. l.state) o

-- the number of the leg's record in the spool; None until it is stored there
abbrev pub record_in : Option (Leg Errand) → Option ℕ
record_in o = option_and_then (λ l. l.«record») o

-- the same of each leg
abbrev pub records_in : (ℕ → Option (Leg Errand)) → ℕ → Option ℕ
records_in legs n = record_in (legs n)

-- it is a counted delete
abbrev pub counts_in : Option (Leg Errand) → Bool
counts_in None = false
counts_in (Some l) = is_counting_delete (launch_of l.content).op (launch_of l.content).mark
