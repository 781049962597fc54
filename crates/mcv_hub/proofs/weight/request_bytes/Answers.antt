use Rattle.std.proofs.Common.{◌≡◌, ◌∙◌, ◌+◌, ◌-◌, ◌^◌, Global, List, Vec, ap, subst, sym, ℕ}
use Rattle.std.specs.Arc.{arc_value}
use Rattle.std.specs.Prelude.{min, sum_by, vec_len}
use Rattle.mcv_plan.specs.Counts.{capped}
use Rattle.mcv_hub.specs.Weights.{request_bytes}
use Rattle.mcv_hub.proofs.AddedWeights.{capped_more}
use Rattle.mcv_hub.proofs.weight.request_bytes.Goals as goal

pub returns-in-Ask : goal.returns-in-Ask
returns-in-Ask c =
    let ask = c.in-Ask.ask in
    let words : c.words_bytes-words.result ≡ capped (sum_by (λ word. vec_len word) ask.keys.items) = c.words_bytes-words.ensures ∙ ap (λ (ws : List (Vec ℕ Global)). capped (sum_by (λ word. vec_len word) ws)) c.as_slice.ensures.value in
    let body : c.len.result ≡ vec_len (arc_value ask.body) = c.len.ensures ∙ ap (λ (v : Vec ℕ Global). vec_len v) c.deref.ensures in
    subst (λ r. c.saturating_add.result ≡ capped (request_bytes r)) (sym c.in-Ask.is)
    (capped_more (sum_by (λ word. vec_len word) ask.keys.items) (vec_len (arc_value ask.body)) c.words_bytes-words.result c.saturating_add.result words
    (c.saturating_add.ensures ∙ ap (λ n. min (c.words_bytes-words.result + n) (2 ^ 64 - 1)) body))
