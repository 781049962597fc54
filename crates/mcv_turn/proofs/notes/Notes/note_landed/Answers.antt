use Rattle.std.specs.Prelude.{is_ok}
use Rattle.mcv_turn.proofs.Told.{either, none_where_some, told_or_untold}
use Rattle.mcv_turn.proofs.notes.Notes.note_landed.Goals as goal

pub returns-clause-told : goal.returns-clause-told
returns-clause-told c = told_or_untold c.args.server c.args.landed c.in-Some.number c.args.performed.now.items c.push.new.self.items c.in-Some.is (either (is_ok c.push.result) _ _ _ c.push.ensures.items)

pub returns-clause-none : goal.returns-clause-none
returns-clause-none c = none_where_some _ c.args.landed c.in-Some.number c.in-Some.is
