use Rattle.std.proofs.Common.{◌≡◌, ◌*◌, ◌≤◌, length}
use Rattle.mcv_spool.specs.Disk.{IsQuiet}
use Rattle.mcv_spool.proofs.Pieces.{SoFar}
use Rattle.mcv_spool.proofs.find.find.Given as goal

abbrev pub invariant-loop-number : goal.invariant-loop-number
invariant-loop-number g l = record {
  count : length l.found.pending.items ≡ 1600 * l.number;
  within : 640 * length l.found.pending.items ≤ l.len;
  so_far : g.D.Disk.keeps_model → SoFar (g.D.Disk.seen l.fn.disk) l.found.pending.items;
  quiet : g.D.Disk.keeps_model → IsQuiet g.D.Disk.seen g.D.Disk.may_leave g.D.Disk.moment g.D.Disk.left_since l.fn.disk l.disk;
  counts : g.D.Disk.keeps_model → g.D.Disk.failures l.fn.disk ≤ g.D.Disk.failures l.disk;
}
