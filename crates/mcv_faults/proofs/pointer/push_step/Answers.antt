use Rattle.std.proofs.Common.{◌∙◌, sym}
use Rattle.std.proofs.lemmas.List.{take_rest}
use Rattle.mcv_faults.proofs.Steps.{escape_said, plain_said}
use Rattle.mcv_faults.proofs.pointer.push_step.Goals as goal

pub returns-then-is_escape-clause-said : goal.returns-then-is_escape-clause-said
returns-then-is_escape-clause-said c =
    escape_said c.args.byte c.escaped_byte.result c.args.behind.now _ c.args.pointer.now.items c.push_key_byte.new.pointer.items (sym c.is_escape.ensures ∙ c.if-is_escape.true)
    c.escaped_byte.ensures (take_rest c.args.behind.now 2) c.in_ok-push_key_byte.ensures

pub returns-clause-said : goal.returns-clause-said
returns-clause-said c =
    plain_said c.args.byte c.args.behind.now c.args.pointer.now.items c.push_plain_byte.new.pointer.items (sym c.is_escape.ensures ∙ c.if-is_escape.false) c.in_ok-push_plain_byte.ensures
