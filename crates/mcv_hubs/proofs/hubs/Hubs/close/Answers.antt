use Rattle.std.proofs.Common.{◌∙◌, [], ◌∷◌, ap, refl, sym, true≢false}
use Rattle.mcv_hubs.specs.Reports.{both, known, unknown}
use Rattle.mcv_hubs.proofs.Counting.{same_eight}
use Rattle.mcv_hubs.proofs.hubs.Hubs.close.Goals as goal

pub returns-clause-closing : goal.returns-clause-closing
returns-clause-closing g c =
    let total0 = c.both-total.ensures in
    let total1 = c.both-total-2.ensures ∙ ap (λ x. both x c.close_one-answer1.result) total0 in
    let total2 = c.both-total-3.ensures ∙ ap (λ x. both x c.close_one-answer2.result) total1 in
    let total3 = c.both-total-4.ensures ∙ ap (λ x. both x c.close_one-answer3.result) total2 in
    let total4 = c.both-total-5.ensures ∙ ap (λ x. both x c.close_one-answer4.result) total3 in
    let total5 = c.both-total-6.ensures ∙ ap (λ x. both x c.close_one-answer5.result) total4 in
    let total6 = c.both-total-7.ensures ∙ ap (λ x. both x c.close_one-answer6.result) total5 in
    let total7 = c.both-total-8.ensures ∙ ap (λ x. both x c.close_one-answer7.result) total6 in
    rw (← c.seats.view_is)
    (known (c.are_of_hubs.ensures.0 c.if-not-are_of_hubs.false) (c.close_one-answer0.result ∷ c.close_one-answer1.result ∷ c.close_one-answer2.result ∷ c.close_one-answer3.result ∷ c.close_one-answer4.result ∷ c.close_one-answer5.result ∷ c.close_one-answer6.result ∷ c.close_one-answer7.result ∷ [])
    (c.close_one-answer0.ensures.answer, (c.close_one-answer1.ensures.answer, (c.close_one-answer2.ensures.answer, (c.close_one-answer3.ensures.answer, (c.close_one-answer4.ensures.answer, (c.close_one-answer5.ensures.answer, (c.close_one-answer6.ensures.answer, (c.close_one-answer7.ensures.answer, tt))))))))
    total7)

pub returns-clause-same : goal.returns-clause-same
returns-clause-same g c = rw (← c.seats.view_is) (same_eight _ _ _ _ _ _ _ _ _ _ _ _ _ _ _ _ c.close_one-answer0.ensures.same c.close_one-answer1.ensures.same c.close_one-answer2.ensures.same c.close_one-answer3.ensures.same c.close_one-answer4.ensures.same c.close_one-answer5.ensures.same c.close_one-answer6.ensures.same c.close_one-answer7.ensures.same)

-- some receipt names no hub
pub returns-then-not-are_of_hubs-clause-closing : goal.returns-then-not-are_of_hubs-clause-closing
returns-then-not-are_of_hubs-clause-closing g c = unknown (λ all. true≢false (sym (c.are_of_hubs.ensures.1 all) ∙ c.if-not-are_of_hubs.true)) refl
