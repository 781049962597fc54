use Rattle.mcv_cert.proofs.Lines.{no_head, other_head}
use Rattle.mcv_cert.proofs.read.read_head.Goals as goal

pub returns-in_default : goal.returns-in_default
returns-in_default c = no_head c.args.text.now c.in_default.ensures

pub returns-in_default-2 : goal.returns-in_default-2
returns-in_default-2 c =
    let none = rw c.in_default-2.is at c.in_ok-window.ensures in
    other_head c.args.text.now c.in-Some.end c.in-Some.ensures none
