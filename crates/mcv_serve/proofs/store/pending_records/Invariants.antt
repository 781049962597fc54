use Rattle.std.proofs.Common.{◌≡◌, ◌++◌, drop}
use Rattle.mcv_serve.specs.Pending.{numbered}
use Rattle.mcv_serve.proofs.store.pending_records.Given as goal

abbrev pub invariant-loop-number : goal.invariant-loop-number
invariant-loop-number l = l.records.items ++ numbered l.number (drop l.number l.slots) ≡ numbered 0 l.slots
