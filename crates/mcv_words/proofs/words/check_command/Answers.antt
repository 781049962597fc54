use Rattle.std.proofs.Common.{◌≡◌, ◌∙◌, ap, codes, false, fold}
use Rattle.std.proofs.lemmas.Result.{IfOk-weaker}
use Rattle.clap.specs.Words.{App, app_of, new_app, with_rule}
use Rattle.clap.specs.declared.builder.command.Command.TheViews.{out-Command as fields_of}
use Rattle.clap.specs.Simple.{app_of_fields}
use Rattle.mcv_words.specs.Words.{check_rules}
use Rattle.mcv_words.proofs.words.check_command.Goals as goal

pub returns-clause-app : goal.returns-clause-app
returns-clause-app c =
    let described : app_of c.after_help-check.result ≡ new_app (codes "check") =
    ap app_of_fields c.after_help-check.ensures ∙ (ap app_of_fields c.override_usage.ensures ∙ (ap app_of_fields c.about.ensures ∙ c.new.ensures.app)) in
    IfOk-weaker c.with_options.result _ _ (λ m is. is ∙ ap (λ (app : App). fold with_rule app check_rules) described) c.with_options.ensures.app

pub returns-clause-local : goal.returns-clause-local
returns-clause-local c =
    let described : (fields_of c.after_help-check.result).has_globals ≡ false =
    rw (c.after_help-check.ensures, c.override_usage.ensures, c.about.ensures) c.new.ensures.local in
    c.with_options.ensures.local described
