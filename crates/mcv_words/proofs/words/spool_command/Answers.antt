use Rattle.std.proofs.Common.{◌≡◌, ◌∙◌, ap, ap₂, codes, false}
use Rattle.std.proofs.lemmas.Result.{IfOk-weaker}
use Rattle.clap.specs.Words.{app_of, new_app, with_rule}
use Rattle.clap.specs.declared.builder.command.Command.TheViews.{out-Command as fields_of}
use Rattle.clap.specs.Simple.{app_of_fields}
use Rattle.mcv_words.specs.Words.{file_rule}
use Rattle.mcv_words.proofs.words.spool_command.Goals as goal

pub returns-clause-app : goal.returns-clause-app
returns-clause-app c =
    let described : app_of c.after_help.result ≡ new_app (codes "spool") =
    ap app_of_fields c.after_help.ensures ∙ (ap app_of_fields c.override_usage.ensures ∙ (ap app_of_fields c.about.ensures ∙ c.new.ensures.app)) in
    let one : app_of c.in_ok-arg.field-0 ≡ with_rule (new_app (codes "spool")) file_rule =
    c.in_ok-arg.ensures.shape c.file_argument.ensures.local ∙ ap₂ with_rule described c.file_argument.ensures.rule in
    IfOk-weaker c.arg-2.result _ _ (λ m adds. adds.shape c.flag.ensures.local ∙ ap₂ with_rule one c.flag.ensures.rule) c.arg-2.ensures

pub returns-clause-local : goal.returns-clause-local
returns-clause-local c =
    let described : (fields_of c.after_help.result).has_globals ≡ false =
    rw (c.after_help.ensures, c.override_usage.ensures, c.about.ensures) c.new.ensures.local in
    let one : (fields_of c.in_ok-arg.field-0).has_globals ≡ false = rw (c.in_ok-arg.ensures.globals, described) c.file_argument.ensures.local in
    IfOk-weaker c.arg-2.result _ _ (λ m adds. rw (adds.globals, one) c.flag.ensures.local) c.arg-2.ensures
