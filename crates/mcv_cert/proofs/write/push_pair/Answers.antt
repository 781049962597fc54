use Rattle.std.proofs.Common.{◌∙◌, ◌++◌, ap}
use Rattle.mcv_cert.specs.Escape.{escaped}
use Rattle.mcv_cert.specs.Pair.{pair_of}
use Rattle.mcv_cert.proofs.Written.{written}
use Rattle.mcv_cert.proofs.write.push_pair.Goals as goal

pub returns : goal.returns
returns c =
    written c.args.window _ _ _ _ _ _ _ _ _ _ (pair_of c.args.pair.now) c.in_ok-push_number.ensures c.in_ok-extend_from_slice.ensures.items (c.in_ok-push_escaped.ensures ∙ ap (λ w. c.extend_from_slice.new.self.items ++ escaped w) c.as_slice.ensures.value) c.in_ok-extend_from_slice-2.ensures.items
    c.in_ok-push_eras.ensures c.in_ok-extend_from_slice-3.ensures.items c.in_ok-push_text.ensures c.in_ok-extend_from_slice-4.ensures.items c.in_ok-push_reason.ensures
