use Rattle.std.proofs.Common.{◌≡◌, ◌++◌, length, map}
use Rattle.std.specs.Vec.Iter.{into_iter_items, into_iter_len}
use Rattle.mcv_text.specs.Request.{item_value}
use Rattle.mcv_session.proofs.machine.push_items.Given as goal

abbrev pub invariant-loop-item : goal.invariant-loop-item
invariant-loop-item l = record {
  can : (goal.iterator-loop-item).can_next l.item-iterator;
  finite : (goal.iterator-loop-item).is_finite l.item-iterator;
  left : into_iter_len l.item-iterator ≡ length (into_iter_items l.item-iterator);
  so_far : map item_value l.waiting.items ++ map item_value (into_iter_items l.item-iterator) ≡ map item_value l.fn.waiting.items ++ map item_value l.fn.items.items;
}
