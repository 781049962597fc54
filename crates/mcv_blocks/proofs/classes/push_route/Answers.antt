use Rattle.std.proofs.Common.{◌≡◌, ◌++◌, ap, map, rules, sym, ◌∙◌, map-id}
use Rattle.std.proofs.lemmas.Iterator.Consumers.{YieldsList-end}
use Rattle.std.proofs.lemmas.Iterator.Adapters.{YieldsList-from_vec}
use Rattle.mcv_classes.specs.Words.{class_words}
use Rattle.mcv_classes.proofs.TableHasClasses.{table-classes}
use Rattle.mcv_route.specs.View.{view}
use Rattle.mcv_blocks.specs.Places.{of_route}
use Rattle.mcv_blocks.proofs.classes.push_route.Goals as goal

pub returns : goal.returns
returns c =
    let own = c.in_ok-class-items.class-items.items in
    let end = YieldsList-end (YieldsList-from_vec {s = c.into_iter-class-iterator.result} own (search rules) (search rules))
    c.loop-class.yielded c.loop-class.class-iterator c.loop-class.yielded_by c.next.result c.next.new.self c.in-None.is c.next.ensures.steps in
    let all : c.loop-class.yielded ≡ own = sym (map-id c.loop-class.yielded) ∙ end.0 in
    (own, table-classes (class_words (view c.args.route.now)) c.in_ok-table.table own c.in_ok-table.ensures c.in_ok-class-items.ensures, c.loop-class.invariant ∙ ap (λ cs. c.args.classes.now.items ++ map (of_route c.args.number) cs) all)
