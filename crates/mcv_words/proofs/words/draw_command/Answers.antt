use Rattle.std.proofs.Common.{◌≡◌, ◌∙◌, ap, ap₂, codes, false}
use Rattle.std.proofs.lemmas.Result.{IfOk-weaker}
use Rattle.clap.specs.Words.{app_of, new_app, with_rule}
use Rattle.clap.specs.declared.builder.command.Command.TheViews.{out-Command as fields_of}
use Rattle.clap.specs.Simple.{app_of_fields}
use Rattle.mcv_words.proofs.words.draw_command.Goals as goal

pub returns-clause-app : goal.returns-clause-app
returns-clause-app c =
    let described : app_of c.after_help.result ≡ new_app (codes "draw") =
    ap app_of_fields c.after_help.ensures ∙ (ap app_of_fields c.override_usage.ensures ∙ (ap app_of_fields c.about.ensures ∙ c.new.ensures.app)) in
    IfOk-weaker c.arg.result _ _ (λ m adds. adds.shape c.flag.ensures.local ∙ ap₂ with_rule described c.flag.ensures.rule) c.arg.ensures

pub returns-clause-local : goal.returns-clause-local
returns-clause-local c =
    let described : (fields_of c.after_help.result).has_globals ≡ false =
    rw (c.after_help.ensures, c.override_usage.ensures, c.about.ensures) c.new.ensures.local in
    IfOk-weaker c.arg.result _ _ (λ m adds. rw (adds.globals, described) c.flag.ensures.local) c.arg.ensures
