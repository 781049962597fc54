use Rattle.std.proofs.Common.{◌≡◌, ℕ, length, None, Some}
use Rattle.std.specs.Arc.{arc_value}
use Rattle.std.specs.Prelude.{slice_get}
use Rattle.mcv_core.specs.Beginning.{IsErrandOf}
use Rattle.mcv_core.specs.declared.launch.Entry.{Entry}
use Rattle.mcv_core.proofs.begin.readied.Given as goal

abbrev pub invariant-loop-entry : goal.invariant-loop-entry
invariant-loop-entry l = record {
  len : length l.entries.items ≡ l.entry;
  each : (e : ℕ) (x : Entry) → slice_get l.entries.items e ≡ Some x → (x.leg ≡ None) × (x.place ≡ None) × IsErrandOf (arc_value l.laid) l.number e x.errand;
}
