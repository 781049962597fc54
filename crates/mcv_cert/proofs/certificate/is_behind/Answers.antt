use Rattle.std.proofs.Common.{◌∙◌, ap, sym}
use Rattle.std.specs.Ordering.{is_lt}
use Rattle.mcv_cert.specs.Pair.{pair_of}
use Rattle.mcv_cert.proofs.Rising.{last_of, none_before}
use Rattle.mcv_cert.proofs.certificate.is_behind.Goals as goal

pub returns-in-None : goal.returns-in-None
returns-in-None c = sym (none_before pair_of c.args.pairs.now (pair_of c.args.pair.now) c.in-None.ensures.item.3)

pub returns-in-Some : goal.returns-in-Some
returns-in-Some c =
    let at = c.in-Some.ensures.item.3 in
    c.is_lt.ensures ∙ ap is_lt c.compare.ensures ∙ last_of pair_of c.args.pairs.now c.in-Some.last.now (pair_of c.args.pair.now) at.0 (at.1 c.in-Some.last.now) c.requires
