use Rattle.std.proofs.Common.{◌<◌, ◌∙◌, [], arith, map, length, sym, Bor, List, ℕ}
use Rattle.std.proofs.lemmas.List.{length-map}
use Rattle.mcv_text.proofs.Lines.{touch_momentless, touch_optionless, touch_short}
use Rattle.mcv_text.proofs.line.touch_of.Goals as goal

pub returns-in_default-clause-means : goal.returns-in_default-clause-means
returns-in_default-clause-means c =
    let words : List (List ℕ) = map (λ (word : Bor (List ℕ)). word.now) c.args.arguments.now in
    let short : length words < 2 = omega (arith, c.in_default.len_below, length-map c.args.arguments.now (λ (word : Bor (List ℕ)). word.now)) in
    touch_short words short

pub returns-in_default-signed-clause-means : goal.returns-in_default-signed-clause-means
returns-in_default-signed-clause-means c = touch_momentless c.args.arguments.now (record { ref_ptr = (0, 0); now = [] }) c.in-len2-up.len_at_least (sym c.signed.ensures ∙ c.in_default-signed.is)

pub returns-in_default-noreply-clause-means : goal.returns-in_default-noreply-clause-means
returns-in_default-noreply-clause-means c = touch_optionless c.args.arguments.now (record { ref_ptr = (0, 0); now = [] }) c.in-len2-up.len_at_least c.in-Some.exptime (sym c.signed.ensures ∙ c.in-Some.is) (sym c.noreply.ensures ∙ c.in_default-noreply.is)
