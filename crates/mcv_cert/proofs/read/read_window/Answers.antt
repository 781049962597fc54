use Rattle.std.proofs.Common.{◌∙◌, ◌++◌, ℕ, List, ap, arith, refl, sym}
use Rattle.std.proofs.lemmas.Bool.{true≢false}
use Rattle.std.proofs.lemmas.Bool.Decides.{Decides-eqb}
use Rattle.std.proofs.lemmas.Slice.Eq.{slice_eq-Decides}
use Rattle.mcv_cert.proofs.Meant.{not_some, some_is}
use Rattle.mcv_cert.specs.Text.{first_text}
use Rattle.mcv_cert.proofs.read.read_window.Goals as goal

pub returns-in_default : goal.returns-in_default
returns-in_default c = λ w small e. not_some c.window_of.result w c.in_default.is (c.window_of.ensures w small e)

pub returns-then-eq : goal.returns-then-eq
returns-then-eq c =
    let same = (slice_eq-Decides Decides-eqb c.as_slice.result.now c.args.line.now _ c.if-eq.ensures).0 refl in
    (omega arith, sym same ∙ c.as_slice.ensures.value ∙ c.in_ok-push_first.ensures ∙ ap (λ (t : List ℕ). t ++ first_text c.in-Some.window) c.new-again.ensures.items)

pub returns : goal.returns
returns c = λ w small e.
    let window = some_is c.in-Some.window w (c.in-Some.ensures w small e) in
    true≢false (sym ((slice_eq-Decides Decides-eqb c.as_slice.result.now c.args.line.now _ c.if-eq.ensures).1 (c.as_slice.ensures.value ∙ c.in_ok-push_first.ensures ∙ ap (λ (t : List ℕ). t ++ first_text c.in-Some.window) c.new-again.ensures.items ∙ ap first_text window ∙ sym e)))
