use Rattle.std.proofs.Common.{◌≡◌, ◌<◌, ◌∙◌, [], IfOk, arith, map, length, sym, subst, Bor, List, ℕ}
use Rattle.std.proofs.lemmas.List.{length-map}
use Rattle.mcv_text.proofs.Lines.{storing_numberless, storing_optionless, storing_short, storing_whole}
use Rattle.mcv_text.specs.Line.{LineValue}
use Rattle.mcv_text.specs.ParsedLine.{line_value}
use Rattle.mcv_text.proofs.line.storing_of.Goals as goal

pub returns-in_default-clause-means : goal.returns-in_default-clause-means
returns-in_default-clause-means c =
    let words : List (List ℕ) = map (λ (word : Bor (List ℕ)). word.now) c.args.arguments.now in
    let short : length words < 4 = omega (arith, c.in_default.len_below, length-map c.args.arguments.now (λ (word : Bor (List ℕ)). word.now)) in
    storing_short c.args.op words short

pub returns-in_default-numbers_of-clause-means : goal.returns-in_default-numbers_of-clause-means
returns-in_default-numbers_of-clause-means c =
    storing_numberless c.args.op c.args.arguments.now (record { ref_ptr = (0, 0); now = [] }) c.in-len4-up.len_at_least (sym c.numbers_of.ensures ∙ c.in_default-numbers_of.is)

pub returns-in_default-noreply-clause-means : goal.returns-in_default-noreply-clause-means
returns-in_default-noreply-clause-means c =
    storing_optionless c.args.op c.args.arguments.now (record { ref_ptr = (0, 0); now = [] }) c.in-len4-up.len_at_least c.in-Some.numbers
    (sym c.numbers_of.ensures ∙ c.in-Some.is) (sym c.noreply.ensures ∙ c.in_default-noreply.is)

pub returns-clause-means : goal.returns-clause-means
returns-clause-means c =
    let line = storing_whole c.args.op c.args.arguments.now (record { ref_ptr = (0, 0); now = [] }) c.in-len4-up.len_at_least c.in-Some.numbers c.in-Some-noreply.noreply
    (sym c.numbers_of.ensures ∙ c.in-Some.is) (sym c.noreply.ensures ∙ c.in-Some-noreply.is) in
    subst (λ (v : LineValue). IfOk c.storing_with.result (λ m. line_value m ≡ v)) line c.storing_with.ensures.means
