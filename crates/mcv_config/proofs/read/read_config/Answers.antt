use Rattle.std.proofs.Common.{ℕ, List, sym, subst, ◌∙◌, ◌≡◌}
use Rattle.mcv_comments.specs.declared.fault.CommentFault.TheVariants as comment_faults
use Rattle.mcv_comments.proofs.OneReading.{strips_one}
use Rattle.mcv_config.specs.Config.{NamesAsJson}
use Rattle.mcv_config.proofs.read.read_config.Goals as goal

pub returns-in-Ok-clause-only : goal.returns-in-Ok-clause-only
returns-in-Ok-clause-only c = λ config names.
    let same : names.1 ≡ c.as_slice.result.now = strips_one c.args.text.now names.1 c.in-Ok.json.items names.2 c.in-Ok.ensures.stripped ∙ sym c.as_slice.ensures.value in
    c.read_json.ensures.only config (subst (λ (json : List ℕ). NamesAsJson json config) same names.3)

pub returns-in-Err-Open-clause-only : goal.returns-in-Err-Open-clause-only
returns-in-Err-Open-clause-only c = λ config names.
    let memory : c.in-Err-Open.field-0 ≡ comment_faults.Memory = c.in-Err-Open.ensures.only names.1 names.2 in
    let never : comment_faults.Open ≡ comment_faults.Memory = sym c.in-Err-Open.field-0-is ∙ memory in
    cc
