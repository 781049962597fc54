use Rattle.mcv_lines.proofs.Asking.{probe_begins}
use Rattle.mcv_lines.proofs.probe.Probe.new.Goals as goal

pub invariant_of-result : goal.invariant_of-result
invariant_of-result g c =
    probe_begins c.new.result c.in_ok-output.output (record { given = g.C.Connection.written c.args.connection; left = g.C.Connection.unread c.args.connection }) c.new.ensures c.in_ok-output.ensures
