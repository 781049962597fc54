use Rattle.std.proofs.Common.{◌≡◌, ap, rules, sym, subst, ◌∙◌, map-id}
use Rattle.std.proofs.lemmas.List.{map_push}
use Rattle.std.proofs.lemmas.Iterator.Consumers.{YieldsList-end}
use Rattle.std.proofs.lemmas.Iterator.Adapters.{YieldsList-from_vec}
use Rattle.mcv_classes.specs.Table.{bytes_of}
use Rattle.mcv_classes.proofs.TableOfWords.{IsMade, table-made, word-made}
use Rattle.mcv_classes.proofs.table.ClassTable.linked.Goals as goal

pub loop-word-preserved : goal.loop-word-preserved
loop-word-preserved c =
    let done = bytes_of c.loop-word.yielded in
    let more = bytes_of c.next.new.self.rest.items in
    let word = c.in-Some.word in
    let made = subst (λ ws. IsMade done c.loop-word.table (bytes_of ws)) c.in-Some.ensures.steps.0 c.loop-word.invariant in
    subst (λ ws. IsMade ws c.push.new.self more) (sym (map_push (λ w. w.items) c.loop-word.yielded word))
    (word-made done c.loop-word.table word.items more made c.push.new.self c.in_ok-push.ensures.added c.push.ensures.rising)

pub returns : goal.returns
returns c =
    let words = c.args.words.items in
    let end = YieldsList-end (YieldsList-from_vec {s = c.into_iter-word-iterator.result} words (search rules) (search rules))
    c.loop-word.yielded c.loop-word.word-iterator c.loop-word.yielded_by c.next.result c.next.new.self c.in-None.is c.next.ensures.steps in
    let all : c.loop-word.yielded ≡ words = sym (map-id c.loop-word.yielded) ∙ end.0 in
    table-made (bytes_of c.loop-word.yielded) c.loop-word.table (bytes_of c.loop-word.word-iterator.rest.items) (bytes_of words) (ap bytes_of all) c.loop-word.invariant
