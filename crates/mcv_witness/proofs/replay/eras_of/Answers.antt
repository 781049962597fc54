use Rattle.std.proofs.Common.{option_map, sym, ◌∙◌, arith}
use Rattle.std.proofs.lemmas.Bool.{true≢false}
use Rattle.mcv_witness.proofs.replay.eras_of.Goals as goal

pub returns-then-era-count : goal.returns-then-era-count
returns-then-era-count c = λ since get_since h.
    let low = (c.era_count-count.ensures c.args.finding.now.place.era).1 (since, h.era) in
    let past = c.if-era-count.true in
    omega (arith, low, past)

pub returns-then-get_era-count : goal.returns-then-get_era-count
returns-then-get_era-count c = λ since get_since h.
    let low = (c.era_count-count.ensures c.args.finding.now.place.get_era).1 (get_since, h.get_era) in
    let past = c.if-get_era-count.true in
    omega (arith, low, past)

pub returns-then-not-near : goal.returns-then-not-near
returns-then-not-near c = λ since get_since h. true≢false (sym ((c.near.ensures since get_since h.era h.get_era).1 h.near) ∙ c.if-not-near.true)

pub returns : goal.returns
returns c =
    let era = c.opened.ensures.some ((c.era_count-count.ensures c.args.finding.now.place.era).0 c.if-era-count.false) in
    let get_era = c.opened-2.ensures.some ((c.era_count-count.ensures c.args.finding.now.place.get_era).0 c.if-get_era-count.false) in
    record {
      era = era;
      get_era = get_era;
      near = (c.near.ensures (option_map (λ m. m.0) c.opened.result) (option_map (λ m. m.0) c.opened-2.result) era get_era).0 c.if-not-near.false;
    }
