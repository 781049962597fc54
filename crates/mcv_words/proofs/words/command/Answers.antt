use Rattle.std.proofs.Common.{◌≡◌, ◌∙◌, ap, ap₂, codes}
use Rattle.std.proofs.lemmas.Result.{IfOk-weaker}
use Rattle.clap.specs.Words.{App, app_of, new_app, with_subcommand}
use Rattle.clap.specs.Simple.{app_of_fields}
use Rattle.mcv_words.specs.Words.{check_app, draw_app, legs_app, mend_app, run_app, wanting_a_command, with_version}
use Rattle.mcv_words.proofs.words.command.Goals as goal

abbrev plain : App
plain = wanting_a_command (with_version (new_app (codes "mcv")))

pub returns : goal.returns
returns c =
    let versioned : app_of c.version.result ≡ with_version (new_app (codes "mcv")) =
    ap app_of_fields c.version.ensures ∙ ap with_version c.new.ensures.app in
    let described : app_of c.after_help.result ≡ with_version (new_app (codes "mcv")) =
    ap app_of_fields c.after_help.ensures ∙ (ap app_of_fields c.about.ensures ∙ versioned) in
    let wanting : app_of c.subcommand_required.result ≡ plain =
    ap app_of_fields c.subcommand_required.ensures ∙ ap wanting_a_command described in
    let top : app_of c.in_ok-bin_name.field-0 ≡ plain =
    ap app_of_fields (c.in_ok-bin_name.ensures.0) ∙ wanting in
    let checks : app_of c.in_ok-subcommand.field-0 ≡ with_subcommand plain check_app.top =
    c.in_ok-subcommand.ensures.shape c.in_ok-check.ensures.local ∙ ap₂ with_subcommand top (ap (λ (a : App). a.top) c.in_ok-check.ensures.app) in
    let draws : app_of c.in_ok-subcommand-2.field-0 ≡ with_subcommand (with_subcommand plain check_app.top) draw_app.top =
    c.in_ok-subcommand-2.ensures.shape c.in_ok-draw.ensures.local ∙ ap₂ with_subcommand checks (ap (λ (a : App). a.top) c.in_ok-draw.ensures.app) in
    let legs : app_of c.in_ok-subcommand-3.field-0 ≡ with_subcommand (with_subcommand (with_subcommand plain check_app.top) draw_app.top) legs_app.top =
    c.in_ok-subcommand-3.ensures.shape c.in_ok-legs.ensures.local ∙ ap₂ with_subcommand draws (ap (λ (a : App). a.top) c.in_ok-legs.ensures.app) in
    let mends : app_of c.in_ok-subcommand-4.field-0 ≡ with_subcommand (with_subcommand (with_subcommand (with_subcommand plain check_app.top) draw_app.top) legs_app.top) mend_app.top =
    c.in_ok-subcommand-4.ensures.shape c.in_ok-mend.ensures.local ∙ ap₂ with_subcommand legs (ap (λ (a : App). a.top) c.in_ok-mend.ensures.app) in
    let runs : app_of c.in_ok-subcommand-5.field-0
    ≡ with_subcommand (with_subcommand (with_subcommand (with_subcommand (with_subcommand plain check_app.top) draw_app.top) legs_app.top) mend_app.top) run_app.top =
    c.in_ok-subcommand-5.ensures.shape c.in_ok-run.ensures.local ∙ ap₂ with_subcommand mends (ap (λ (a : App). a.top) c.in_ok-run.ensures.app) in
    IfOk-weaker c.subcommand-6.result _ _
    (λ m adds. adds.shape c.in_ok-spool.ensures.local ∙ ap₂ with_subcommand runs (ap (λ (a : App). a.top) c.in_ok-spool.ensures.app)) c.subcommand-6.ensures
