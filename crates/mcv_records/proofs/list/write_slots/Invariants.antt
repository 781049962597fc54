use Rattle.std.proofs.Common.{◌≤◌}
use Rattle.mcv_spool.specs.Disk.{IsQuiet}
use Rattle.mcv_records.proofs.Listing.{Listed}
use Rattle.mcv_records.proofs.list.write_slots.Given as goal

abbrev pub invariant-loop-number : goal.invariant-loop-number
invariant-loop-number g l = record {
  few : l.number ≤ 1000000;
  small : l.pending ≤ l.number;
  quiet : g.D.Disk.keeps_model → IsQuiet g.D.Disk.seen g.D.Disk.may_leave g.D.Disk.moment g.D.Disk.left_since l.fn.disk l.disk;
  listed : g.D.Disk.keeps_model → Listed l.fn.shown (g.D.Disk.seen l.fn.disk) l.number l.pending (g.W.Write.contents l.fn.writer) (g.W.Write.contents l.writer);
}
