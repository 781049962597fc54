use Rattle.std.proofs.Common.{◌≡◌, ◌∙◌, ◌++◌, ap, subst, map, rules}
use Rattle.mcv_text.specs.Request.{item_value}
use Rattle.mcv_text.specs.Stream.{Reads, followed}
use Rattle.mcv_session.specs.Machine.{MachineValue}
use Rattle.mcv_session.proofs.machine.Machine.feed.Goals as goal

pub returns-clause-ok : goal.returns-clause-ok
returns-clause-ok c =
    let grown : map item_value c.push_items.new.waiting.items ≡ map item_value c.self.inside.waiting.items ++ map item_value c.in-Ok.items.items = search rules in record {
      items = map item_value c.in-Ok.items.items;
      reads = subst (λ (m : MachineValue). Reads (followed m.reader c.args.piece.now) (map item_value c.in-Ok.items.items) c.feed.new.self) c.self.view_is c.in-Ok.ensures.items;
      waiting = grown ∙ ap (λ (m : MachineValue). m.waiting ++ map item_value c.in-Ok.items.items) c.self.view_is;
      request = ap (λ (m : MachineValue). m.request) c.self.view_is;
      output = ap (λ (m : MachineValue). m.output) c.self.view_is;
      phase = ap (λ (m : MachineValue). m.phase) c.self.view_is;
    }
