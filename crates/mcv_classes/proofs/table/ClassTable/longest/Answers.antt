use Rattle.std.proofs.Common.{◌<◌, arith, rules, length, ap, sym, subst, ◌∙◌}
use Rattle.std.proofs.lemmas.List.Sorted.{IsPartitionPoint-from_clause}
use Rattle.mcv_classes.specs.Table.{IsLinked, texts_of, word_at}
use Rattle.mcv_classes.proofs.LastWord.{class-word, passed-below, passed-some, passes, passes-first}
use Rattle.mcv_classes.proofs.Links.{length-texts, text-at}
use Rattle.mcv_classes.proofs.table.ClassTable.longest.Goals as goal

pub overflow_sub-passed : goal.overflow_sub-passed
overflow_sub-passed c =
    let words = c.deref.result.now in
    let l = subst IsLinked (sym c.deref.ensures.value) c.self.invariant in
    let bytes = c.args.bytes.now in
    passed-some words l bytes c.partition_point-passed.result
    (IsPartitionPoint-from_clause (passes words l bytes) words c.partition_point-passed.result c.partition_point-passed.ensures.partitioned (passes-first words l bytes) (λ a r q k. search rules))

pub longest_up_to-place-requires-clause-before : goal.longest_up_to-place-requires-clause-before
longest_up_to-place-requires-clause-before c =
    let words = c.deref.result.now in
    let l = subst IsLinked (sym c.deref.ensures.value) c.self.invariant in
    let bytes = c.args.bytes.now in
    passed-below c.args.self.now words l bytes c.partition_point-passed.result (ap texts_of c.deref.ensures.value ∙ c.self.view_is) c.partition_point-passed.ensures.bound
    (IsPartitionPoint-from_clause (passes words l bytes) words c.partition_point-passed.result c.partition_point-passed.ensures.partitioned (passes-first words l bytes) (λ a r q k. search rules))

pub returns : goal.returns
returns c =
    let words = c.self.inside.words.items in
    let place = c.longest_up_to-place.result in
    let found = c.longest_up_to-place.ensures in
    let inside : place < length words = omega (arith, found.inside, length-texts words, ap length c.self.view_is) in
    class-word c.args.self.now c.args.bytes.now c.as_slice.result.now place found.inside
    (c.as_slice.ensures.value ∙ sym (text-at words place c.index.result.now inside c.index.ensures) ∙ ap (λ ts. word_at ts place) c.self.view_is) found.begins found.longest
