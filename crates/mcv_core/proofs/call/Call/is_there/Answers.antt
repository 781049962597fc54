use Rattle.std.proofs.Common.{◌≡◌, ◌<◌, ◌≤◌, ◌∙◌, length, refl, sym, ap, rules, arith, Some, option_map}
use Rattle.std.specs.Prelude.{is_some, option_and_then, slice_get}
use Rattle.std.proofs.lemmas.Option.{slice_get_read}
use Rattle.mcv_base.specs.Reply.{part_value}
use Rattle.mcv_core.proofs.HandedParts
use Rattle.mcv_core.proofs.call.Call.is_there.Goals as goal

pub returns-then-place-len : goal.returns-then-place-len
returns-then-place-len c =
    let xs = c.args.self.now.recorded.items in
    let low : c.args.place < length xs = search rules in
    let at : slice_get xs c.args.place ≡ Some c.index.result.now = slice_get_read xs (length xs) c.args.place c.index.result.now refl low c.index.ensures in
    let test : c.is_some.result ≡ is_some c.index.result.now.taken = search rules in
    test ∙ sym (ap (λ o. is_some (option_and_then (λ h. option_map part_value h.taken) o)) at ∙ HandedParts.some_mapped c.index.result.now.taken)

pub returns-else-place-len : goal.returns-else-place-len
returns-else-place-len c =
    let xs = c.args.self.now.recorded.items in
    let high : length xs ≤ c.args.place = search rules in
    sym (ap is_some (HandedParts.none_past xs c.args.place (λ low. omega (arith, low, high))))
