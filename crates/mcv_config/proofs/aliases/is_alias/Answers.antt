use Rattle.std.proofs.Common.{◌≡◌, true, sym, ◌∙◌, subst, ℕ, List}
use Rattle.mcv_base.specs.Key.{is_key_word}
use Rattle.mcv_config.proofs.RoutingPrefixes.{alias_by_fault, word_no_alias, word_some}
use Rattle.mcv_config.proofs.aliases.is_alias.Goals as goal

pub returns-in-Ok : goal.returns-in-Ok
returns-in-Ok c =
    let key : is_key_word c.as_bytes.result.now ≡ true = subst (λ (r : List ℕ). is_key_word r ≡ true) (sym c.as_bytes.ensures.value) c.as_bytes.ensures.valid in
    c.is_empty.ensures ∙ word_some c.as_bytes.result.now key ∙ sym (word_no_alias c.args.text.now c.in-Ok.field-0-0 c.in-Ok.rest c.in-Ok.ensures.cut c.as_bytes.ensures.valid)

pub returns-in-Err : goal.returns-in-Err
returns-in-Err c = c.is_no_rest.ensures ∙ alias_by_fault c.args.text.now c.in-Err.fault c.requires c.in-Err.ensures.fault
