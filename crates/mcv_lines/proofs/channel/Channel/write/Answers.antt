use Rattle.std.proofs.Common.{◌-◌, ℕ, List, length, refl, subst, take}
use Rattle.std.specs.Io.KnownBytes.{Appends}
use Rattle.mcv_lines.specs.Channel.{ChannelValue, WritesOf}
use Rattle.mcv_lines.specs.Took.{IsCountOf}
use Rattle.mcv_lines.proofs.Life.{life_written, writes_of}
use Rattle.mcv_lines.proofs.channel.Channel.write.Goals as goal

pub invariant_of-self : goal.invariant_of-self
invariant_of-self g c =
    let written = g.C.Connection.written in
    let unread = g.C.Connection.unread in
    let inside = c.self.inside in
    let front = c.write_front-outcome in
    let old : ChannelValue = record { carrier = inside.upstream; ends = record { given = written inside.connection; left = unread inside.connection }; is_kept = inside.is_kept; has_begun = inside.has_begun; unwritten = inside.unwritten } in
    let new : ChannelValue = record { carrier = c.wrote.new.self; ends = record { given = written front.new.connection; left = unread front.new.connection }; is_kept = inside.is_kept; has_begun = inside.has_begun; unwritten = inside.unwritten - front.result.count } in
    let output = c.output-output.ensures in
    let is_count = subst (λ (o : List ℕ). IsCountOf front.result.outcome front.result.count (length o)) output front.ensures.count in
    let given = subst (λ (o : List ℕ). Appends (written inside.connection) (written front.new.connection) (take front.result.count o)) output front.ensures.written in
    let writes = writes_of old new front.result.outcome front.result.count c.self.invariant is_count c.wrote.ensures given front.ensures.reads_nothing refl refl refl in
    life_written old new front.result.outcome c.self.invariant writes

pub returns : goal.returns
returns g c =
    let written = g.C.Connection.written in
    let unread = g.C.Connection.unread in
    let inside = c.self.inside in
    let front = c.write_front-outcome in
    let old : ChannelValue = record { carrier = inside.upstream; ends = record { given = written inside.connection; left = unread inside.connection }; is_kept = inside.is_kept; has_begun = inside.has_begun; unwritten = inside.unwritten } in
    let new : ChannelValue = record { carrier = c.wrote.new.self; ends = record { given = written front.new.connection; left = unread front.new.connection }; is_kept = inside.is_kept; has_begun = inside.has_begun; unwritten = inside.unwritten - front.result.count } in
    let output = c.output-output.ensures in
    let is_count = subst (λ (o : List ℕ). IsCountOf front.result.outcome front.result.count (length o)) output front.ensures.count in
    let given = subst (λ (o : List ℕ). Appends (written inside.connection) (written front.new.connection) (take front.result.count o)) output front.ensures.written in
    let writes = writes_of old new front.result.outcome front.result.count c.self.invariant is_count c.wrote.ensures given front.ensures.reads_nothing refl refl refl in
    subst (λ (v : ChannelValue). WritesOf v front.result.outcome new) c.self.view_is writes
