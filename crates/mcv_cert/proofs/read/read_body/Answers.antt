use Rattle.std.proofs.Common.{◌≡◌, ◌∙◌, ◌+◌, ◌&&◌, refl, ap, sym, subst}
use Rattle.std.proofs.lemmas.List.Elements.{All-nil}
use Rattle.std.proofs.lemmas.Result.{MatchResult-weaker}
use Rattle.mcv_cert.specs.Pair.{CertificateValue, has_eras, names_legs, pair_of, reason_of}
use Rattle.mcv_cert.specs.Place.{place_of}
use Rattle.mcv_cert.specs.Reading.{Reads, at_end, breaks, broken, ended, falls, pairs, unordered}
use Rattle.mcv_cert.proofs.Lines.{IsSoFar, high_is, low_is, so_far_more, stopped, fault_of_reading}
use Rattle.mcv_cert.proofs.read.read_body.Goals as goal

pub returns-then-not-takes-clause-faulty : goal.returns-then-not-takes-clause-faulty
returns-then-not-takes-clause-faulty c =
    let w = c.args.window in
    let front = rw c.in-Line.is at c.in_ok-pair.ensures in
    let eras = ap (λ v. has_eras v (place_of c.in-Line.pair.place).spot) c.loop-buffers.invariant.window ∙ front.0.eras in
    let low = low_is _ _ _ c.takes.result eras front.0.legs c.takes.ensures c.if-not-takes.true in
    subst (λ n. Reads w c.args.body.now (unordered (n + 2))) (sym c.len.ensures.value)
    (stopped w c.args.body.now c.loop-buffers.rest.now c.loop-buffers.certificate.pairs _ c.loop-buffers.invariant.so_far (falls (pair_of c.in-Line.pair) c.in-Line.later.now front.0 front.1 low))

pub loop-buffers-preserved : goal.loop-buffers-preserved
loop-buffers-preserved c =
    let front = rw c.in-Line.is at c.in_ok-pair.ensures in
    let high = high_is (has_eras c.loop-buffers.certificate.window (place_of c.in-Line.pair.place).spot) (names_legs (reason_of c.in-Line.pair.reason)) _ c.takes.result c.takes.ensures c.if-not-takes.false in
    record {
      so_far =
          subst (λ (x : CertificateValue). IsSoFar c.args.window c.args.body.now x.pairs c.in-Line.later.now) (sym c.in_ok-push-in-Line.ensures.added)
          (so_far_more c.args.window c.args.body.now c.loop-buffers.rest.now c.in-Line.later.now c.loop-buffers.certificate.pairs (pair_of c.in-Line.pair) c.loop-buffers.invariant.so_far front.0 front.1 high);
      window = ap (λ (x : CertificateValue). x.window) c.in_ok-push-in-Line.ensures.added ∙ c.loop-buffers.invariant.window;
    }

pub returns-in-Last-clause-read : goal.returns-in-Last-clause-read
returns-in-Last-clause-read c =
    let w = c.args.window in
    let front = rw c.in-Last.is at c.in_ok-pair.ensures in
    let certificate = c.loop-buffers.certificate in
    let reads = stopped w c.args.body.now c.loop-buffers.rest.now certificate.pairs _ c.loop-buffers.invariant.so_far (ended c.in-Last.later.now front) in
    let there = subst (λ v. Reads w c.args.body.now (at_end v certificate.pairs c.in-Last.later.now)) (sym c.loop-buffers.invariant.window) reads in
    MatchResult-weaker c.ended.result c.ended.ensures (λ u is. subst (λ v. Reads w c.args.body.now (pairs v certificate.pairs)) c.loop-buffers.invariant.window (subst (Reads w c.args.body.now) is there)) (λ f reported. tt)

pub returns-in-Last-clause-faulty : goal.returns-in-Last-clause-faulty
returns-in-Last-clause-faulty c =
    let w = c.args.window in
    let front = rw c.in-Last.is at c.in_ok-pair.ensures in
    let certificate = c.loop-buffers.certificate in
    let reads = stopped w c.args.body.now c.loop-buffers.rest.now certificate.pairs _ c.loop-buffers.invariant.so_far (ended c.in-Last.later.now front) in
    let there = subst (λ v. Reads w c.args.body.now (at_end v certificate.pairs c.in-Last.later.now)) (sym c.loop-buffers.invariant.window) reads in
    MatchResult-weaker c.ended.result c.ended.ensures (λ u is. tt) (λ f reported. fault_of_reading f (at_end certificate.window certificate.pairs c.in-Last.later.now) (Reads w c.args.body.now) reported there)

pub returns-in-Nothing-clause-faulty : goal.returns-in-Nothing-clause-faulty
returns-in-Nothing-clause-faulty c =
    let front = rw c.in-Nothing.is at c.in_ok-pair.ensures in
    subst (λ n. Reads c.args.window c.args.body.now (broken (n + 2))) (sym c.len-in-Nothing.ensures.value)
    (stopped c.args.window c.args.body.now c.loop-buffers.rest.now c.loop-buffers.certificate.pairs _ c.loop-buffers.invariant.so_far (breaks front))
