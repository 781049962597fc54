use Rattle.std.proofs.Common.{◌∙◌, ◌∷◌, [], ℕ, List, ap, length, length-append, subst, sym, arith}
use Rattle.std.proofs.lemmas.List.{length-map, map-append}
use Rattle.std.proofs.lemmas.Option.{slice_get-get_or}
use Rattle.mcv_alike.proofs.Numbers.{grown}
use Rattle.mcv_gaps.specs.Gaps.{WantedValue, wanted_of, wanteds_of}
use Rattle.mcv_needs.specs.Wanted.{AreWantedByEra, IsWantedIn}
use Rattle.mcv_gaps.specs.declared.gaps.Wanted.{Wanted}
use Rattle.mcv_needs.proofs.EraSets.{none_yet}
use Rattle.mcv_needs.proofs.wanted.wanted_in_each.Goals as goal

pub loop-era-init : goal.loop-era-init
loop-era-init c =
    let items = c.in_ok-all.ensures.items in
    record { many = ap length items; each = λ r d is from nears. subst (λ (ws : List Wanted). AreWantedByEra r d (wanteds_of ws)) (sym items) (none_yet (IsWantedIn r d)) }

pub wanted_in-requires-clause-own : goal.wanted_in-requires-clause-own
wanted_in-requires-clause-own c = (c.requires c.loop-era.era _ (slice_get-get_or c.args.nears.now c.loop-era.era (record { first = 0; end = 0 }) c.loop-era-test.true)).0

pub wanted_in-requires-clause-ordered : goal.wanted_in-requires-clause-ordered
wanted_in-requires-clause-ordered c = (c.requires c.loop-era.era _ (slice_get-get_or c.args.nears.now c.loop-era.era (record { first = 0; end = 0 }) c.loop-era-test.true)).1

pub wanted_in-requires-clause-within : goal.wanted_in-requires-clause-within
wanted_in-requires-clause-within c = (c.requires c.loop-era.era _ (slice_get-get_or c.args.nears.now c.loop-era.era (record { first = 0; end = 0 }) c.loop-era-test.true)).2

pub loop-era-preserved : goal.loop-era-preserved
loop-era-preserved c =
    let era = c.loop-era.era in
    let old = c.loop-era.all.items in
    let x = c.in_ok-wanted.wanted in
    let items = c.in_ok-push.ensures.items in
    let many = c.loop-era.invariant.many in
    let there = slice_get-get_or c.args.nears.now era (record { first = 0; end = 0 }) c.loop-era-test.true in
    record {
      many = ap length items ∙ omega (arith, length-append old (x ∷ []), many);
      each = λ r d is from nears.
          subst (λ (ws : List WantedValue). AreWantedByEra r d ws) (sym (ap wanteds_of items ∙ map-append wanted_of old (x ∷ [])))
          (grown (IsWantedIn r d) (wanteds_of old) (wanted_of x) (c.loop-era.invariant.each r d is from nears)
          (subst (λ (k : ℕ). IsWantedIn r d k (wanted_of x)) (sym (length-map old wanted_of ∙ many)) (c.in_ok-wanted.ensures r d is from (nears era _ there))));
    }
