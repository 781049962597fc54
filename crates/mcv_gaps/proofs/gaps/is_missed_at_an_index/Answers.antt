use Rattle.std.proofs.Common.{◌≡◌, ◌<◌, ◌∙◌, below_more, length, refl, sym, true≢false, arith}
use Rattle.mcv_judge.specs.PairsInMemory.{leg_of}
use Rattle.mcv_judge.proofs.Servers.{servers_counted}
use Rattle.mcv_gaps.specs.Gaps.{IsAnsweredBy}
use Rattle.mcv_gaps.proofs.gaps.is_missed_at_an_index.Goals as goal

pub loop-index-preserved : goal.loop-index-preserved
loop-index-preserved c = λ sizes sized.
    below_more (λ k. IsAnsweredBy sizes c.args.picks.now (leg_of c.args.leaf.now) k) c.loop-index.index (c.loop-index.invariant sizes sized) ((c.in_ok-answered.ensures sizes sized).0 c.if-not-answered.false)

pub returns-then-not-answered : goal.returns-then-not-answered
returns-then-not-answered c = λ sizes sized.
    let count = servers_counted c.args.leaf.now.servers.now in
    let lt = c.loop-index-test.true in
    let within : c.loop-index.index < length (leg_of c.args.leaf.now).servers = omega arith in
    (λ _. (c.loop-index.index, within, λ a. true≢false (sym ((c.in_ok-answered.ensures sizes sized).1 a) ∙ c.if-not-answered.true)), λ _. refl)

pub returns : goal.returns
returns c = λ sizes sized.
    let count = servers_counted c.args.leaf.now.servers.now in
    let past = c.loop-index-test.false in
    (λ e. absurd (true≢false (sym e)), λ m. absurd (m.2 (c.loop-index.invariant sizes sized m.0 (let lt = m.1 in omega arith))))
