use Rattle.std.proofs.Common.{◌≡◌, ◌≢◌, ◌∙◌, ◌++◌, codes, ap, arith, drop, refl, sym, None, Some}
use Rattle.std.proofs.lemmas.Bool.{true≢false}
use Rattle.std.proofs.lemmas.Bool.Decides.{Decides-eqb}
use Rattle.std.proofs.lemmas.Slice.Eq.{slice_eq-Decides, strip_prefix_is}
use Rattle.std.specs.Prelude.{decimal}
use Rattle.mcv_cert.specs.Text.{first_text}
use Rattle.mcv_cert.proofs.Spelled.{first_digits, first_one}
use Rattle.mcv_cert.proofs.parse.window_of.Goals as goal

pub returns-then-eq : goal.returns-then-eq
returns-then-eq c = λ w small e.
    let bare = (slice_eq-Decides Decides-eqb c.args.line.now c.as_slice.result.now _ c.if-eq.ensures).0 refl ∙ c.as_slice.ensures in
    ap Some (first_one 0 w (omega arith) small (sym bare ∙ e))

pub returns-in_err-digits : goal.returns-in_err-digits
returns-in_err-digits c = λ w small e.
    let other : first_text w ≢ codes "mcv-cert 1" = λ is. true≢false (sym ((slice_eq-Decides Decides-eqb c.args.line.now c.as_slice.result.now _ c.if-eq.ensures).1 (e ∙ is ∙ sym c.as_slice.ensures))) in
    let bare = strip_prefix_is Decides-eqb c.args.line.now (codes "mcv-cert 2 ") None c.in_err-digits.ensures.cases in
    absurd (bare (decimal w) (e ∙ first_digits w other))

pub returns-in_err-window : goal.returns-in_err-window
returns-in_err-window c = λ w small e.
    let other : first_text w ≢ codes "mcv-cert 1" = λ is. true≢false (sym ((slice_eq-Decides Decides-eqb c.args.line.now c.as_slice.result.now _ c.if-eq.ensures).1 (e ∙ is ∙ sym c.as_slice.ensures))) in
    let cut = strip_prefix_is Decides-eqb c.args.line.now (codes "mcv-cert 2 ") (Some c.in_ok-digits.digits) c.in_ok-digits.ensures.cases in
    let none : None ≡ Some w = c.in_err-window.ensures w small (ap (drop 11) (sym cut ∙ e ∙ first_digits w other)) in
    absurd (cc)

pub returns : goal.returns
returns c = λ w small e.
    let other : first_text w ≢ codes "mcv-cert 1" = λ is. true≢false (sym ((slice_eq-Decides Decides-eqb c.args.line.now c.as_slice.result.now _ c.if-eq.ensures).1 (e ∙ is ∙ sym c.as_slice.ensures))) in
    let cut = strip_prefix_is Decides-eqb c.args.line.now (codes "mcv-cert 2 ") (Some c.in_ok-digits.digits) c.in_ok-digits.ensures.cases in
    c.in_ok-window.ensures w small (ap (drop 11) (sym cut ∙ e ∙ first_digits w other))
