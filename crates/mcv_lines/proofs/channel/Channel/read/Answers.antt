use Rattle.std.proofs.Common.{◌≡◌, ◌∙◌, ◌||◌, ℕ, Bool, ap, refl, sym}
use Rattle.mcv_reply.specs.Replies.{is_open}
use Rattle.mcv_lines.specs.Channel.{ChannelValue, begun_after, has_some}
use Rattle.mcv_lines.proofs.Life.{grown_some, life_read}
use Rattle.mcv_lines.proofs.channel.Channel.read.Goals as goal
use Rattle.mcv_lines.proofs.channel.Channel.read.Goals.{then-self, else-self}

pub invariant_of-self : goal.invariant_of-self
invariant_of-self g c =
    let written = g.C.Connection.written in
    let unread = g.C.Connection.unread in
    let inside = c.self.inside in
    let heard = c.hear-heard in
    let more = heard.ensures.reads.0 in
    let longer = grown_some c.args.landed.now.items more heard.new.landed.items heard.ensures.reads.1 in
    let before = c.len-before.ensures in
    let kept : c.if-self.self ≡ (inside.is_kept || has_some more) = elim c.if-self.branch [
      | then-self w ↦ w.self-is ∙ w.if-self.true ∙ sym (ap (λ (b : Bool). b || has_some more) w.if-self.true)
      | else-self w ↦ let is = w.self-is in let now = w.len.ensures in let first = w.if-self.false in cc (longer, before, is, now, first)
    ] in
    let old : ChannelValue = record { carrier = inside.upstream; ends = record { given = written inside.connection; left = unread inside.connection }; is_kept = inside.is_kept; has_begun = inside.has_begun; unwritten = inside.unwritten } in
    let new : ChannelValue = record { carrier = heard.new.upstream; ends = record { given = written heard.new.connection; left = unread heard.new.connection }; is_kept = c.if-self.self; has_begun = c.begun_after-self-inside.result; unwritten = inside.unwritten } in
    life_read old new heard.new.room heard.result more c.self.invariant (ap (λ (v : ChannelValue). is_open v.carrier.legs.connection) c.self.view_is ∙ c.requires)
    (record {
      reads = heard.ensures.reads.2;
      given = heard.ensures.writes_nothing;
      kept = kept;
      begun = c.begun_after-self-inside.ensures ∙ ap (λ (n : ℕ). begun_after heard.result inside.has_begun n) c.in_flight.ensures;
      unwritten = refl;
    })
