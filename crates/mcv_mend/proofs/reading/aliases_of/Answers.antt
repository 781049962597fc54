use Rattle.std.proofs.Common.{◌≡◌, ◌∙◌, ◌∷◌, [], ◌++◌, ℕ, List, ap, ap₂, map, sym}
use Rattle.std.proofs.lemmas.List.{map-append, take_all}
use Rattle.mcv_config.specs.ConfigValue.{ConfigValue}
use Rattle.mcv_gaps.proofs.Mapped.{one_further}
use Rattle.mcv_mend.specs.Aliases.{aliases_value, texts_of}
use Rattle.mcv_mend.proofs.ReadAliases.{config_aliases, entry_aliases}
use Rattle.mcv_mend.proofs.reading.aliases_of.Goals as goal

pub loop-entry-preserved : goal.loop-entry-preserved
loop-entry-preserved c =
    let items = c.deref-entry-items.result.now in
    let old = c.loop-entry.all.items in
    let own = c.in_ok-own.own in
    ap aliases_value c.in_ok-push.ensures.items
    ∙ map-append texts_of old (own ∷ [])
    ∙ ap₂ (λ (xs : List (List (List ℕ))) (x : List (List ℕ)). xs ++ x ∷ []) c.loop-entry.invariant (c.in_ok-own.ensures ∙ c.as_slice.ensures.value)
    ∙ sym (one_further entry_aliases items c.loop-entry.entry-index c.entry-item.result c.loop-entry-test.true c.entry-item.is)

pub returns : goal.returns
returns c =
    let items = c.deref-entry-items.result.now in
    c.loop-entry.invariant
    ∙ ap (map entry_aliases) (take_all c.loop-entry.entry-index items c.loop-entry-test.false ∙ c.deref-entry-items.ensures.value)
    ∙ config_aliases c.parts.result.now.entries.items c.args.config.now (ap (λ (v : ConfigValue). v.entries) c.parts.ensures.config)
