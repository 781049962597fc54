use Rattle.std.proofs.Common.{◌∙◌, ap, refl}
use Rattle.mcv_core.specs.View.{core_view}
use Rattle.mcv_core.specs.declared.dispatcher.Dispatcher.{Dispatcher}
use Rattle.mcv_turn.proofs.Told.{none_marked, one_marked}
use Rattle.mcv_turn.proofs.servers.Servers.note_mark.Goals as goal

pub returns-in_default : goal.returns-in_default
returns-in_default g c = none_marked c.args.guard.now c.args.marks.now.items c.args.marks.now.items refl

pub returns : goal.returns
returns g c =
    one_marked c.args.guard.now c.args.server c.in-Some.standing.now.is_told_marked c.marked.result c.note_mark.result c.args.marks.now.items c.note_mark.new.marks.items (c.marked.ensures ∙ ap (λ (d : Dispatcher). ((core_view d).marks c.args.server.0).marked) c.core.ensures)
    c.note_mark.ensures.told c.note_mark.ensures.untold
