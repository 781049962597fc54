use Rattle.std.proofs.Common.{◌≡◌, ◌∙◌, length, refl, sym, ap, rules, Some, option_map, true, false, true≢false}
use Rattle.std.specs.Prelude.{is_some, option_and_then, slice_get}
use Rattle.std.proofs.lemmas.Option.{slice_get_read}
use Rattle.mcv_base.specs.Reply.{part_value}
use Rattle.mcv_core.specs.Launching.{places_of}
use Rattle.mcv_core.specs.Rows.{taken_at}
use Rattle.mcv_core.specs.Taking.{kept_of}
use Rattle.mcv_core.proofs.HandedParts
use Rattle.mcv_core.proofs.call.Call.hand_out.Goals as goal

pub index_mut-requires : goal.index_mut-requires
index_mut-requires c =
    let there : is_some (taken_at c.args.self.now.recorded.items c.in-Some.place) ≡ true = search rules in
    let low = HandedParts.there_low c.args.self.now.recorded.items c.in-Some.place there in
    search rules

pub returns-clause-kept : goal.returns-clause-kept
returns-clause-kept c =
    let xs = c.args.self.now.recorded.items in
    let place = c.in-Some.place in
    let there : is_some (taken_at xs place) ≡ true = search rules in
    let low = HandedParts.there_low xs place there in
    let at : slice_get xs place ≡ Some c.index_mut.result.now = slice_get_read xs (length xs) place c.index_mut.result.now refl low c.index_mut.ensures.value in
    record { items = HandedParts.kept_set xs place c.index_mut.result.now c.hand_out.new.self at (ap kept_of c.hand_out.ensures.same); capacity = refl }

pub returns-clause-value : goal.returns-clause-value
returns-clause-value c =
    let xs = c.args.self.now.recorded.items in
    let place = c.in-Some.place in
    let there : is_some (taken_at xs place) ≡ true = search rules in
    let low = HandedParts.there_low xs place there in
    let at : slice_get xs place ≡ Some c.index_mut.result.now = slice_get_read xs (length xs) place c.index_mut.result.now refl low c.index_mut.ensures.value in
    let here : places_of c.args.self.now.entries.items c.args.entry ≡ Some place = sym c.place_of.ensures ∙ c.in-Some.is in
    ap (option_map part_value) c.hand_out.ensures.part ∙ sym (ap (option_and_then (taken_at xs)) here ∙ ap (option_and_then (λ h. option_map part_value h.taken)) at)

pub returns-clause-none : goal.returns-clause-none
returns-clause-none c none =
    let xs = c.args.self.now.recorded.items in
    let place = c.in-Some.place in
    let there : is_some (taken_at xs place) ≡ true = search rules in
    let low = HandedParts.there_low xs place there in
    let at : slice_get xs place ≡ Some c.index_mut.result.now = slice_get_read xs (length xs) place c.index_mut.result.now refl low c.index_mut.ensures.value in
    absurd (true≢false (sym there ∙ ap is_some (ap (option_and_then (λ h. option_map part_value h.taken)) at ∙ ap (option_map part_value) (sym c.hand_out.ensures.part ∙ none))))

pub returns-then-not-is_there-clause-value : goal.returns-then-not-is_there-clause-value
returns-then-not-is_there-clause-value c =
    let xs = c.args.self.now.recorded.items in
    let place = c.in-Some.place in
    let gone : is_some (taken_at xs place) ≡ false = search rules in
    let here : places_of c.args.self.now.entries.items c.args.entry ≡ Some place = sym c.place_of.ensures ∙ c.in-Some.is in
    sym (ap (option_and_then (taken_at xs)) here ∙ HandedParts.not_there (taken_at xs place) gone)
