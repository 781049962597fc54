use Rattle.std.proofs.Common.{◌<◌, ℕ, ◌∙◌, Ok, Err, Result, sym, ap}
use Rattle.std.specs.Prelude.{IfOk}
use Rattle.std.proofs.lemmas.List.Elements.{All-map}
use Rattle.std.proofs.lemmas.Option.{none-some}
use Rattle.std.specs.declared.alloc.AllocError.{AllocError}
use Rattle.mcv_cert.specs.Pair.{PlaceValue}
use Rattle.mcv_pools.specs.Symbol.{SymbolValue}
use Rattle.mcv_route.specs.Aliases.{first_alias}
use Rattle.mcv_route.proofs.FirstAlias.{has-alias}
use Rattle.mcv_witness.specs.Breaks.{BreaksCoverage}
use Rattle.mcv_witness.specs.Finding.{finding_of}
use Rattle.mcv_witness.specs.declared.finding.Finding.{Finding}
use Rattle.mcv_make.specs.Place.{IsAtGap}
use Rattle.mcv_make.specs.ShownFinding.{IsShown, IsShownWith}
use Rattle.mcv_make.proofs.Finding.{breaks-at}
use Rattle.mcv_make.proofs.Gaps.{entry, numbered}
use Rattle.mcv_make.proofs.finder.find.Goals as goal

both : (x : Result Finding AllocError) (P Q R : Finding → Type 0) → ((f : Finding) → P f → Q f → R f) → IfOk x P → IfOk x Q → IfOk x R
both (Ok f) P Q R h p q = h f p q
both (Err e) P Q R h p q = p

pub unreachable-requires : goal.unreachable-requires
unreachable-requires c =
    let r = c.args.routes.now in
    let g = c.args.gap.now in
    let first = has-alias r g.place.route (entry r g c.requires.gap) c.first_alias.ensures.selected (numbered r g c.requires.gap) in
    none-some first.0 (c.in_default.ensures.value ∙ first.1)

pub returns-clause-breaks : goal.returns-clause-breaks
returns-clause-breaks c =
    let r = c.args.routes.now in
    let g = c.args.gap.now in
    let prefix = c.in-Some.prefix.now in
    both c.find_behind.result (λ f. IsAtGap g (finding_of f)) (λ f. IsShownWith r prefix (finding_of f)) (λ f. BreaksCoverage r (finding_of f))
    (λ f at_gap shown. breaks-at r c.servers-servers.ensures.sound c.servers-servers.ensures.limits (All-map (λ (n : ℕ). 0 < n) (λ (s : SymbolValue). s.n) r.symbols c.symbols-symbols.ensures.some) g (finding_of f) prefix c.requires.gap at_gap c.first_alias.ensures.selected (sym c.in-Some.ensures.value) shown)
    c.find_behind.ensures.at_gap c.find_behind.ensures.shown

pub returns-clause-shown : goal.returns-clause-shown
returns-clause-shown c =
    let r = c.args.routes.now in
    let g = c.args.gap.now in
    let prefix = c.in-Some.prefix.now in
    both c.find_behind.result (λ f. IsAtGap g (finding_of f)) (λ f. IsShownWith r prefix (finding_of f)) (λ f. IsShown r (finding_of f))
    (λ f at_gap shown. (prefix, ap (λ (p : PlaceValue). first_alias r p.spot.route) at_gap.place ∙ sym c.in-Some.ensures.value, shown)) c.find_behind.ensures.at_gap c.find_behind.ensures.shown
