use Rattle.std.proofs.Common.{◌≡◌, ◌<◌, ◌+◌, ◌∙◌, ℕ, [], List, drop, sym, ap, subst}
use Rattle.std.specs.List.{All}
use Rattle.std.proofs.lemmas.List.Elements.{All-map}
use Rattle.std.proofs.lemmas.Result.{err_from_is_err_and}
use Rattle.mcv_cert.specs.Pair.{CertificateValue, IsCertificate}
use Rattle.mcv_cert.specs.declared.pair.Pair.{Pair}
use Rattle.mcv_pools.specs.Symbol.{SymbolValue}
use Rattle.mcv_judge.specs.PairsInMemory.{pairs_of}
use Rattle.mcv_blocks.specs.Blocks.{IsJustifiedBy}
use Rattle.mcv_blocks.specs.Places.{AreRouteClasses, IsRouteClass}
use Rattle.mcv_blocks.specs.Spots.{AreNears, classes_in_eras, eras_near}
use Rattle.mcv_blocks.proofs.SpotsInTurn.{classes_done, classes_next}
use Rattle.mcv_certify.specs.PickedReasons.{IsPickedOf}
use Rattle.mcv_certify.specs.BlockSteps.{AddsFor, ReportsGapIn}
use Rattle.mcv_certify.proofs.SpotBySpot.{AddsUpTo, adds_all, adds_next, adds_start, reports_next}
use Rattle.mcv_certify.proofs.AnsweringPairsJustify.{are_picked, is_certificate, is_justified}
use Rattle.mcv_certify.proofs.GapReports.{if_lost}
use Rattle.mcv_certify.proofs.Verdicts.{known, only_memory, right}
use Rattle.mcv_certify.proofs.making.certify.Goals as goal

pub loop-class-init : goal.loop-class-init
loop-class-init c =
    let all = classes_in_eras c.deref-class-items.result.now c.as_slice-near.result.now in
    subst (λ (ps : List Pair). AddsUpTo c.args.routes.now all all [] (pairs_of ps)) (sym c.new-pairs.ensures.items) (adds_start c.args.routes.now all [])

pub push_class-requires : goal.push_class-requires
push_class-requires c =
    let r = c.args.routes.now in
    let k = c.loop-class.class-index in
    let class = c.class-item.result in
    let are = subst (AreRouteClasses r) (sym c.deref-class-items.ensures.value) c.in_ok-classes.ensures in
    record {
      sound = c.servers-servers.ensures.sound;
      class = subst (IsRouteClass r) (sym c.class-item.is) (are.only k class c.loop-class-test.true);
      nears = subst (AreNears r) (sym c.as_slice-near.ensures.value) c.in_ok-nears.ensures;
    }

pub loop-class-preserved : goal.loop-class-preserved
loop-class-preserved c =
    let cs = c.deref-class-items.result.now in
    let xs = c.as_slice-near.result.now in
    let k = c.loop-class.class-index in
    let class = c.class-item.result in
    adds_next c.args.routes.now (classes_in_eras cs xs) [] (eras_near class 0 xs) (classes_in_eras (drop (k + 1) cs) xs) (classes_in_eras (drop k cs) xs) (pairs_of c.loop-class.pairs.items) (pairs_of c.push_class.new.pairs.items)
    (classes_next cs k class xs c.loop-class-test.true c.class-item.is) c.loop-class.invariant c.in_ok-push_class.ensures.added

pub returns-in_err-push_class : goal.returns-in_err-push_class
returns-in_err-push_class c =
    let r = c.args.routes.now in
    let cs = c.deref-class-items.result.now in
    let xs = c.as_slice-near.result.now in
    let k = c.loop-class.class-index in
    let class = c.class-item.result in
    let sound = c.servers-servers.ensures.sound in
    let are = subst (AreRouteClasses r) (sym c.deref-class-items.ensures.value) c.in_ok-classes.ensures in
    let near = subst (AreNears r) (sym c.as_slice-near.ensures.value) c.in_ok-nears.ensures in
    let reported = if_lost _ (ReportsGapIn r (eras_near class 0 xs)) (ReportsGapIn r (classes_in_eras cs xs))
    (λ f h. reports_next r (classes_in_eras cs xs) [] (eras_near class 0 xs) (classes_in_eras (drop (k + 1) cs) xs) (classes_in_eras (drop k cs) xs) (pairs_of c.loop-class.pairs.items) f (classes_next cs k class xs c.loop-class-test.true c.class-item.is) c.loop-class.invariant h)
    c.in_err-push_class.ensures.lost in
    let p = err_from_is_err_and c.from_residual-in_err-push_class.result c.from_residual-in_err-push_class.ensures.1 in
    rw (p.1, p.2) (record {
      justified = tt;
      picked = tt;
      lost = right r cs xs sound are near _ reported;
      known = known r cs xs sound are near _ reported;
      covered = λ covered. only_memory r cs xs sound are near (All-map (λ (n : ℕ). 0 < n) (λ (s : SymbolValue). s.n) r.symbols c.symbols-symbols.ensures.some) covered _ reported;
    })

pub of-requires : goal.of-requires
of-requires c =
    let r = c.args.routes.now in
    let cs = c.deref-class-items.result.now in
    let xs = c.as_slice-near.result.now in
    let are = subst (AreRouteClasses r) (sym c.deref-class-items.ensures.value) c.in_ok-classes.ensures in
    let near = subst (AreNears r) (sym c.as_slice-near.ensures.value) c.in_ok-nears.ensures in
    let all : AddsFor r (classes_in_eras cs xs) [] (pairs_of c.loop-class.pairs.items) = adds_all r (classes_in_eras cs xs) [] (classes_in_eras (drop c.loop-class.class-index cs) xs) (pairs_of c.loop-class.pairs.items) (classes_done cs c.loop-class.class-index xs c.loop-class-test.false) c.loop-class.invariant in
    subst (λ (w : ℕ). IsCertificate (record { window = w; pairs = pairs_of c.loop-class.pairs.items })) (sym c.window-window.ensures) (is_certificate r cs xs (pairs_of c.loop-class.pairs.items) c.servers-servers.ensures.sound are near all)

pub returns-clause-justified : goal.returns-clause-justified
returns-clause-justified c =
    let r = c.args.routes.now in
    let cs = c.deref-class-items.result.now in
    let xs = c.as_slice-near.result.now in
    let are = subst (AreRouteClasses r) (sym c.deref-class-items.ensures.value) c.in_ok-classes.ensures in
    let near = subst (AreNears r) (sym c.as_slice-near.ensures.value) c.in_ok-nears.ensures in
    let all : AddsFor r (classes_in_eras cs xs) [] (pairs_of c.loop-class.pairs.items) = adds_all r (classes_in_eras cs xs) [] (classes_in_eras (drop c.loop-class.class-index cs) xs) (pairs_of c.loop-class.pairs.items) (classes_done cs c.loop-class.class-index xs c.loop-class-test.false) c.loop-class.invariant in
    let made : c.of.result ≡ record { window = r.window; pairs = pairs_of c.loop-class.pairs.items } = c.of.ensures ∙ ap (λ (w : ℕ). record { window = w; pairs = pairs_of c.loop-class.pairs.items }) c.window-window.ensures in
    subst (IsJustifiedBy r) (sym made) (is_justified r cs xs (pairs_of c.loop-class.pairs.items) c.servers-servers.ensures.sound are near all)

pub returns-clause-picked : goal.returns-clause-picked
returns-clause-picked c =
    let r = c.args.routes.now in
    let cs = c.deref-class-items.result.now in
    let xs = c.as_slice-near.result.now in
    let all : AddsFor r (classes_in_eras cs xs) [] (pairs_of c.loop-class.pairs.items) = adds_all r (classes_in_eras cs xs) [] (classes_in_eras (drop c.loop-class.class-index cs) xs) (pairs_of c.loop-class.pairs.items) (classes_done cs c.loop-class.class-index xs c.loop-class-test.false) c.loop-class.invariant in
    subst (λ (k : CertificateValue). All (IsPickedOf r) k.pairs) (sym c.of.ensures) (are_picked r cs xs (pairs_of c.loop-class.pairs.items) all)
