use Rattle.std.proofs.Common.{◌∙◌, ◌<◌, ◌^◌, [], refl, sym}
use Rattle.std.proofs.lemmas.Bool.{true≢false}
use Rattle.std.proofs.lemmas.Bool.Decides.{Decides-eqb}
use Rattle.std.proofs.lemmas.List.Elements.{All-nil}
use Rattle.std.proofs.lemmas.Slice.Eq.{slice_eq-Decides}
use Rattle.mcv_cert.proofs.Meant.{parts_are}
use Rattle.mcv_cert.proofs.Spelled.{position_one}
use Rattle.mcv_cert.proofs.parse.read_position.Goals as goal

pub returns-then-eq : goal.returns-then-eq
returns-then-eq c = λ p fits e.
    let dash = (slice_eq-Decides Decides-eqb c.args.word.now c.as_slice.result.now _ c.if-eq.ensures).0 refl ∙ c.as_slice.ensures in
    c.root.ensures ∙ position_one [] p (All-nil (λ n. n < 2 ^ 64)) fits (sym dash ∙ e)

pub returns-then-not-branch : goal.returns-then-not-branch
returns-then-not-branch c = λ p fits e.
    let are = c.in_ok-read_steps.ensures p fits (parts_are p c.args.word.now fits e (λ dash. true≢false (sym ((slice_eq-Decides Decides-eqb c.args.word.now c.as_slice.result.now _ c.if-eq.ensures).1 (dash ∙ sym c.as_slice.ensures))))) in
    true≢false (sym are.0 ∙ c.if-not-branch.true)

pub returns : goal.returns
returns c = λ p fits e.
    let are = c.in_ok-read_steps.ensures p fits (parts_are p c.args.word.now fits e (λ dash. true≢false (sym ((slice_eq-Decides Decides-eqb c.args.word.now c.as_slice.result.now _ c.if-eq.ensures).1 (dash ∙ sym c.as_slice.ensures))))) in
    c.in_ok-at.ensures ∙ c.as_slice-2.ensures.value ∙ are.1
