use Rattle.std.proofs.Common.{◌≡◌, ◌+◌, ◌++◌, ◌∷◌, [], Some, arith, length, ap, sym, subst, ◌∙◌}
use Rattle.std.specs.List.{AllPairs}
use Rattle.mcv_classes.specs.Class.{ClassValue, IsBefore}
use Rattle.mcv_classes.proofs.Links.{item-inside, item-text, length-texts}
use Rattle.mcv_classes.proofs.ClassLists.{AreListed, all-listed, listed-next, passed-over}
use Rattle.mcv_classes.proofs.table.ClassTable.classes.Goals as goal

pub loop-word-preserved-in_default : goal.loop-word-preserved-in_default
loop-word-preserved-in_default c =
    let table = c.args.self.now in
    let words = c.self.inside.words.items in
    let items = c.deref-word-items.result.now in
    let i = c.loop-word.word-index in
    let text = c.as_slice-text.result.now in
    passed-over table i c.loop-word.classes.items text (item-inside table words items i c.self.view_is c.deref-word-items.ensures.value c.loop-word-test.true)
    (item-text table words items i c.word-item.result text c.self.view_is c.deref-word-items.ensures.value c.loop-word-test.true c.word-item.is c.as_slice-text.ensures.value) c.loop-word.invariant c.in_default.ensures

pub loop-word-preserved : goal.loop-word-preserved
loop-word-preserved c =
    let table = c.args.self.now in
    let words = c.self.inside.words.items in
    let items = c.deref-word-items.result.now in
    let i = c.loop-word.word-index in
    let text = c.as_slice-text.result.now in
    let classes = c.loop-word.classes.items in
    let made : record { word = text; member = Some c.in-Some.member } ≡ c.of.result = sym (c.of.ensures ∙ (λ x. record { word = c.in_ok-from_slice.ensures.items x; member = Some c.in-Some.member })) in
    let up : AllPairs IsBefore table = subst (AllPairs IsBefore) c.self.view_is c.self.invariant.rising in
    rw c.in_ok-push.ensures.items
    (subst (λ (class : ClassValue). AreListed table (i + 1) (classes ++ class ∷ [])) made
    (listed-next table i classes text (item-inside table words items i c.self.view_is c.deref-word-items.ensures.value c.loop-word-test.true)
    (item-text table words items i c.word-item.result text c.self.view_is c.deref-word-items.ensures.value c.loop-word-test.true c.word-item.is c.as_slice-text.ensures.value) c.loop-word.invariant c.in-Some.member up c.in-Some.ensures))

pub returns : goal.returns
returns c =
    let table = c.args.self.now in
    let words = c.self.inside.words.items in
    let end : c.loop-word.word-index ≡ length table =
    omega (arith, c.loop-word-test.false, c.loop-word.auto.word-index-end, ap length c.deref-word-items.ensures.value, length-texts words, ap length c.self.view_is) in
    all-listed table c.loop-word.classes.items (subst (λ n. AreListed table n c.loop-word.classes.items) end c.loop-word.invariant)
