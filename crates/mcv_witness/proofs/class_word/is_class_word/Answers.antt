use Rattle.std.proofs.Common.{length, refl}
use Rattle.mcv_route.specs.View.{view}
use Rattle.mcv_witness.proofs.LongestWord.{by_length, not_begun}
use Rattle.mcv_witness.proofs.class_word.is_class_word.Goals as goal

pub returns-then-not-begins_with : goal.returns-then-not-begins_with
returns-then-not-begins_with c =
    not_begun c.as_bytes.result.now c.args.rest.now c.args.word.now (view c.args.route.now) c.begins_with.result c.as_bytes.ensures.value c.begins_with.ensures c.if-not-begins_with.true

pub returns : goal.returns
returns c =
    by_length c.as_bytes.result.now c.args.rest.now c.args.word.now (view c.args.route.now) c.begins_with.result (length c.args.word.now) c.longest.result c.as_bytes.ensures.value c.begins_with.ensures c.if-not-begins_with.false refl c.longest.ensures
