use Rattle.std.proofs.Common.{refl}
use Rattle.mcv_lines.specs.Probe.{ProbeValue}
use Rattle.mcv_lines.proofs.Asking.{probe_read}
use Rattle.mcv_lines.proofs.probe.Probe.read.Goals as goal

pub invariant_of-self : goal.invariant_of-self
invariant_of-self g c =
    let written = g.C.Connection.written in
    let unread = g.C.Connection.unread in
    let inside = c.self.inside in
    let heard = c.read_answer-heard in
    let old : ProbeValue = record { reader = inside.reader; output = inside.output; ends = record { given = written inside.connection; left = unread inside.connection } } in
    let new : ProbeValue = record { reader = heard.new.reader; output = inside.output; ends = record { given = written heard.new.connection; left = unread heard.new.connection } } in
    probe_read old new c.self.invariant heard.ensures.writes_nothing refl heard.new.room heard.result heard.ensures.reads

pub invariant_of-self-2 : goal.invariant_of-self-2
invariant_of-self-2 g c =
    let written = g.C.Connection.written in
    let unread = g.C.Connection.unread in
    let inside = c.self.inside in
    let heard = c.read_answer-heard in
    let old : ProbeValue = record { reader = inside.reader; output = inside.output; ends = record { given = written inside.connection; left = unread inside.connection } } in
    let new : ProbeValue = record { reader = heard.new.reader; output = inside.output; ends = record { given = written heard.new.connection; left = unread heard.new.connection } } in
    probe_read old new c.self.invariant heard.ensures.writes_nothing refl heard.new.room heard.result heard.ensures.reads
