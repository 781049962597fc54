use Rattle.std.proofs.Common.{◌++◌, ap, subst, ◌∙◌}
use Rattle.std.proofs.lemmas.Result.{on_ok_weaker}
use Rattle.mcv_witness.specs.Finding.{finding_of}
use Rattle.mcv_witness.proofs.EraLine.{one_era, two_eras}
use Rattle.mcv_witness.proofs.text.push_eras.Goals as goal

pub returns-then-window-eq0 : goal.returns-then-window-eq0
returns-then-window-eq0 c =
    let f = finding_of c.args.finding.now in
    on_ok_weaker c.push_number_line.result (λ e. e ∙ ap (λ l. c.args.text.now.items ++ l) (one_era f.window f.place.spot c.if-window-eq0.true)) c.push_number_line.ensures

pub returns : goal.returns
returns c =
    let f = finding_of c.args.finding.now in
    two_eras f.window f.place.spot _ _ _ _ _ _ c.if-window-eq0.false c.in_ok-extend_from_slice.ensures.items c.in_ok-push_number.ensures c.in_ok-extend_from_slice-2.ensures.items c.in_ok-push_number-2.ensures c.in_ok-extend_from_slice-3.ensures.items
