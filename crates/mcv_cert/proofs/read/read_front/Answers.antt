use Rattle.std.proofs.Common.{◌∙◌, sym, take}
use Rattle.std.proofs.lemmas.Bool.{true≢false}
use Rattle.std.proofs.lemmas.Bool.Decides.{Decides-eqb}
use Rattle.std.proofs.lemmas.Slice.Eq.{slice_eq-Decides}
use Rattle.mcv_cert.proofs.Lines.{no_end, no_line}
use Rattle.mcv_cert.proofs.read.read_front.Goals as goal

pub returns-in_default : goal.returns-in_default
returns-in_default c = no_end c.args.window c.args.text.now c.in_default.ensures

pub returns-in_default-2 : goal.returns-in_default-2
returns-in_default-2 c =
    let none = rw c.in_default-2.is at c.in_ok-pair.ensures in
    no_line c.args.window c.args.text.now c.in-Some.end c.in-Some.ensures
    (λ e. true≢false (sym ((slice_eq-Decides Decides-eqb (take c.in-Some.end c.args.text.now) c.as_slice.result.now _ c.if-eq.ensures).1 (e ∙ sym c.as_slice.ensures))))
    (λ p is. none p is)
