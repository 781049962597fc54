use Rattle.std.proofs.Common.{◌≡◌, ◌∙◌, ◌∷◌, [], ◌++◌, ℕ, List, ap, ap₂, map, sym, take}
use Rattle.std.proofs.lemmas.List.{map-append, take_all, take_more}
use Rattle.mcv_mend.specs.Aliases.{bytes_of}
use Rattle.mcv_mend.proofs.reading.copied.Goals as goal

pub loop-prefix-preserved : goal.loop-prefix-preserved
loop-prefix-preserved c =
    let prefixes = c.args.prefixes.now in
    let i = c.loop-prefix.prefix-index in
    let prefix = c.prefix-item.result in
    let own = c.in_ok-own.own in
    let same : own.items ≡ prefix = c.in_ok-own.ensures.items ∙ c.as_bytes.ensures in
    ap (map bytes_of) c.in_ok-push.ensures.items
    ∙ map-append bytes_of c.loop-prefix.all.items (own ∷ [])
    ∙ ap₂ (λ (xs : List (List ℕ)) (x : List ℕ). xs ++ x ∷ []) c.loop-prefix.invariant same
    ∙ sym (take_more prefixes i prefix c.loop-prefix-test.true ∙ ap (λ (x : List ℕ). take i prefixes ++ x ∷ []) (sym c.prefix-item.is))

pub returns : goal.returns
returns c = c.loop-prefix.invariant ∙ take_all c.loop-prefix.prefix-index c.args.prefixes.now c.loop-prefix-test.false
