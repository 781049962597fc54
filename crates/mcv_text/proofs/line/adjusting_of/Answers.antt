use Rattle.std.proofs.Common.{◌<◌, ◌∙◌, [], arith, map, length, sym, Bor, List, ℕ}
use Rattle.std.proofs.lemmas.List.{length-map}
use Rattle.mcv_text.proofs.Lines.{adjusting_numberless, adjusting_optionless, adjusting_short}
use Rattle.mcv_text.proofs.line.adjusting_of.Goals as goal

pub returns-in_default-clause-means : goal.returns-in_default-clause-means
returns-in_default-clause-means c =
    let words : List (List ℕ) = map (λ (word : Bor (List ℕ)). word.now) c.args.arguments.now in
    let short : length words < 2 = omega (arith, c.in_default.len_below, length-map c.args.arguments.now (λ (word : Bor (List ℕ)). word.now)) in
    adjusting_short c.args.op words short

pub returns-in_default-number64-clause-means : goal.returns-in_default-number64-clause-means
returns-in_default-number64-clause-means c = adjusting_numberless c.args.op c.args.arguments.now (record { ref_ptr = (0, 0); now = [] }) c.in-len2-up.len_at_least (sym c.number64.ensures ∙ c.in_default-number64.is)

pub returns-in_default-noreply-clause-means : goal.returns-in_default-noreply-clause-means
returns-in_default-noreply-clause-means c = adjusting_optionless c.args.op c.args.arguments.now (record { ref_ptr = (0, 0); now = [] }) c.in-len2-up.len_at_least c.in-Some.delta (sym c.number64.ensures ∙ c.in-Some.is) (sym c.noreply.ensures ∙ c.in_default-noreply.is)
