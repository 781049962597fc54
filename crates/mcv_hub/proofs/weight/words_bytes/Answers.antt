use Rattle.std.proofs.Common.{◌∙◌, Global, Vec, ap, ℕ}
use Rattle.std.specs.Prelude.{vec_len}
use Rattle.mcv_hub.proofs.AddedWeights.{all_summed, none_summed, one_more_summed}
use Rattle.mcv_hub.proofs.weight.words_bytes.Goals as goal

pub loop-word-init : goal.loop-word-init
loop-word-init c = none_summed (λ word. vec_len word) c.args.words.now

pub loop-word-preserved : goal.loop-word-preserved
loop-word-preserved c =
    one_more_summed (λ word. vec_len word) c.args.words.now c.loop-word.word-index c.loop-word.total c.len.result c.saturating_add-total.result c.word-item.result c.loop-word-test.true c.loop-word.invariant
    (c.len.ensures ∙ ap (λ (word : Vec ℕ Global). vec_len word) c.word-item.is) c.saturating_add-total.ensures

pub returns : goal.returns
returns c = all_summed (λ word. vec_len word) c.args.words.now c.loop-word.word-index c.loop-word.total c.loop-word-test.false c.loop-word.invariant
