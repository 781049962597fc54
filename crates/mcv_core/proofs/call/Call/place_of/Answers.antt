use Rattle.std.proofs.Common.{◌<◌, ◌≤◌, length, refl, sym, ap, rules}
use Rattle.std.specs.Prelude.{option_and_then}
use Rattle.std.proofs.lemmas.Option.{slice_get_past, slice_get_read}
use Rattle.mcv_core.proofs.call.Call.place_of.Goals as goal

pub returns-then-entry-len : goal.returns-then-entry-len
returns-then-entry-len c =
    let xs = c.args.self.now.entries.items in
    let low : c.args.entry < length xs = search rules in
    sym (ap (option_and_then (λ x. x.place)) (slice_get_read xs (length xs) c.args.entry c.index.result.now refl low c.index.ensures))

pub returns-else-entry-len : goal.returns-else-entry-len
returns-else-entry-len c =
    let xs = c.args.self.now.entries.items in
    let high : length xs ≤ c.args.entry = search rules in
    sym (ap (option_and_then (λ x. x.place)) (slice_get_past xs c.args.entry high))
