use Rattle.std.proofs.Common.{◌∙◌, ℕ, List, Vec, Global, SFits, ap, map, option_to_list, rules, slice_get, to_z-of_z, w64}
use Rattle.std.specs.Arc.{arc_value}
use Rattle.mcv_desks.proofs.OneKeys.{with_words}
use Rattle.mcv_desks.proofs.one_key.ask_of_key.Goals as goal

pub returns : goal.returns
returns c =
    let ask = c.args.ask.now in
    let words = λ (xs : List (Vec ℕ Global)). option_to_list (slice_get (map (λ (word : Vec ℕ Global). word.items) xs) c.args.key) in
    let fits : SFits w64 ask.exptime = search rules in
    rw (to_z-of_z fits)
    (with_words ask (map (λ (word : Vec ℕ Global). word.items) c.in_ok-keys.keys.items) (words ask.keys.items) (arc_value c.in_ok-body.body) (c.in_ok-keys.ensures ∙ ap words c.as_slice.ensures.value) c.in_ok-body.ensures)
