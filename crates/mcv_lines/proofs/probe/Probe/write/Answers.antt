use Rattle.std.proofs.Common.{ℕ, List, length, refl, subst, take}
use Rattle.std.specs.Io.KnownBytes.{Appends}
use Rattle.mcv_lines.specs.Probe.{ProbeValue}
use Rattle.mcv_lines.specs.Took.{IsCountOf}
use Rattle.mcv_lines.proofs.Asking.{probe_written}
use Rattle.mcv_lines.proofs.probe.Probe.write.Goals as goal

pub invariant_of-self : goal.invariant_of-self
invariant_of-self g c =
    let written = g.C.Connection.written in
    let unread = g.C.Connection.unread in
    let inside = c.self.inside in
    let front = c.write_front-outcome in
    let old : ProbeValue = record { reader = inside.reader; output = inside.output; ends = record { given = written inside.connection; left = unread inside.connection } } in
    let new : ProbeValue = record { reader = inside.reader; output = c.wrote.new.self; ends = record { given = written front.new.connection; left = unread front.new.connection } } in
    let output = c.bytes-output.ensures in
    probe_written old new front.result.outcome c.self.invariant
    (record {
      writes = record {
        count = front.result.count;
        is_count = subst (λ (o : List ℕ). IsCountOf front.result.outcome front.result.count (length o)) output front.ensures.count;
        rest = c.wrote.ensures;
        given = subst (λ (o : List ℕ). Appends (written inside.connection) (written front.new.connection) (take front.result.count o)) output front.ensures.written;
      };
      reader = refl;
      unread = front.ensures.reads_nothing;
    })
