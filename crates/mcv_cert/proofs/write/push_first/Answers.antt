use Rattle.std.proofs.Common.{◌∙◌, ◌++◌, ℕ, List, ap}
use Rattle.mcv_cert.proofs.Written.{first_of_none, first_written}
use Rattle.mcv_cert.proofs.write.push_first.Goals as goal

pub returns-then-window-eq0 : goal.returns-then-window-eq0
returns-then-window-eq0 c = c.in_ok-extend_from_slice.ensures.items ∙ ap (λ (t : List ℕ). c.args.text.now.items ++ t) (first_of_none c.args.window c.if-window-eq0.true)

pub returns : goal.returns
returns c = first_written c.args.window _ _ _ c.if-window-eq0.false c.in_ok-extend_from_slice-2.ensures.items c.in_ok-push_number.ensures
