use mir.Val.{bool_byte}
use Rattle.std.proofs.Common.{◌∙◌, ap}
use Rattle.mcv_hub.specs.History.{is_began, is_taken}
use Rattle.mcv_hub.proofs.AddedWeights.{bool_one, bytes_counted, one_counted}
use Rattle.mcv_hub.proofs.history.History.push.Goals as goal

pub invariant_of-self : goal.invariant_of-self
invariant_of-self c =
    let h = c.args.self.now in
    let es = h.entries.items in
    let new = c.push_reserved.new.self.items in
    record {
      began_is = one_counted is_began es new c.args.entry h.began c.from.result h.began_is (c.from.ensures ∙ ap bool_byte c.is_began.ensures ∙ bool_one (is_began c.args.entry)) c.push_reserved.ensures.items;
      taken_is = one_counted is_taken es new c.args.entry h.taken c.from-2.result h.taken_is (c.from-2.ensures ∙ ap bool_byte c.is_taken.ensures ∙ bool_one (is_taken c.args.entry)) c.push_reserved.ensures.items;
      bytes_is = bytes_counted es new c.args.entry h.bytes c.weight.result c.saturating_add.result h.bytes_is c.weight.ensures c.saturating_add.ensures c.push_reserved.ensures.items;
    }
