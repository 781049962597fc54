use Rattle.std.proofs.Common.{sym, subst}
use Rattle.mcv_cert.specs.Pair.{AreRising}
use Rattle.mcv_verifier_tests.proofs.Order.{block_in_order}
use Rattle.mcv_verifier_tests.proofs.judge.number_reported.Goals as goal

pub judge-requires : goal.judge-requires
judge-requires c = record {
  blocks = block_in_order _ c.requires.readable c.requires.indexed c.requires.acknowledged;
  pairs = subst AreRising (sym c.pairs.ensures.value) c.pairs.ensures.sound.rising;
}
