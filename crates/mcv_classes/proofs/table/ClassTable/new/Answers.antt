use Rattle.std.proofs.Common.{◌≡◌, ◌++◌, ◌∷◌, [], ap, ◌∙◌}
use Rattle.std.proofs.lemmas.Result.{IfOk-weaker}
use Rattle.mcv_route.specs.View.{view}
use Rattle.mcv_classes.specs.Table.{IsWordTable, bytes_of}
use Rattle.mcv_classes.specs.Words.{class_words, prefixes_in}
use Rattle.mcv_classes.proofs.TableOfWords.{in-order, table-of}
use Rattle.mcv_classes.proofs.table.ClassTable.new.Goals as goal

pub linked-requires : goal.linked-requires
linked-requires c = in-order c.sort_unstable.new.self.items c.sort_unstable.ensures.sorted

pub returns : goal.returns
returns c =
    let words = c.push_words.new.words.items in
    let sorted = c.sort_unstable.new.self.items in
    let prefixes = prefixes_in (view c.args.route.now) in
    let are : bytes_of words ≡ prefixes = c.in_ok-push_words.ensures ∙ ap (λ ws. bytes_of ws ++ prefixes) c.new-words.ensures.items in
    IfOk-weaker c.linked.result (IsWordTable ([] ∷ bytes_of sorted)) (IsWordTable (class_words (view c.args.route.now)))
    (λ table t. table-of words sorted prefixes table are c.sort_unstable.ensures.permutation t) c.linked.ensures
