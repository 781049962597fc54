use Rattle.std.proofs.Common.{ℕ, List, ap, length, refl}
use Rattle.mcv_lines.specs.Channel.{ChannelValue, Ends}
use Rattle.mcv_lines.proofs.Life.{life_asked, sent_any}
use Rattle.mcv_lines.proofs.channel.Channel.send.Goals as goal

pub invariant_of-self : goal.invariant_of-self
invariant_of-self g c =
    let inside = c.self.inside in
    let ends : Ends = record { given = g.C.Connection.written inside.connection; left = g.C.Connection.unread inside.connection } in
    let outcome = c.send-outcome in
    let behind = c.unwritten_after-self-inside in
    let old : ChannelValue = record { carrier = inside.upstream; ends = ends; is_kept = inside.is_kept; has_begun = inside.has_begun; unwritten = inside.unwritten } in
    let new : ChannelValue = record { carrier = outcome.new.self; ends = ends; is_kept = inside.is_kept; has_begun = inside.has_begun; unwritten = behind.result } in
    life_asked old new c.args.leg c.args.request.now outcome.result c.self.invariant
    (record {
      sends = outcome.ensures;
      ends = refl;
      kept = refl;
      begun = refl;
      unwritten = sent_any old outcome.new.self c.args.leg c.args.request.now outcome.result (length c.output-waiting.result.now) behind.result c.self.invariant outcome.ensures (ap (λ (o : List ℕ). length o) c.output-waiting.ensures) behind.ensures.ok behind.ensures.err;
    })
