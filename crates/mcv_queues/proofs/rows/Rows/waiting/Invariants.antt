use Rattle.std.proofs.Common.{◌≡◌, ◌+◌, ℕ, length}
use Rattle.std.specs.Prelude.{IfSome, slice_get, vec_len}
use Rattle.std.specs.HashMap.{values}
use Rattle.std.specs.List.{filter}
use Rattle.mcv_queues.specs.Rows.{row_waits_for}
use Rattle.mcv_queues.proofs.rows.Rows.waiting.Given as goal

-- what is counted of each server, and what is still to be counted
abbrev pub invariant-loop-row : goal.invariant-loop-row
invariant-loop-row g l = (vec_len l.counts ≡ l.servers) × ((s : ℕ) → IfSome (slice_get l.counts.items s) (λ count. count + length (filter (row_waits_for s) l.row-iterator) ≡ length (filter (row_waits_for s) (values l.self.rows))))
