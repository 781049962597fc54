use Rattle.std.proofs.Common.{◌≡◌, ◌∙◌, ap, refl, subst, sym}
use Rattle.clap.specs.Words.{Text, found_of, one_of, rows_of}
use Rattle.std.specs.Str.Parse.{ParsesUnsigned, ExplainsUnsignedError, HasUnsignedDigitsIfOk}
use Rattle.clap.proofs.WalkLemmas.{one_text-rows}
use Rattle.mcv_words.specs.Table.{NumberOption}
use Rattle.mcv_words.specs.Words.{IsNumberOf}
use Rattle.mcv_words.proofs.Matches.{none_found, not_unread, number_found, read_in_range}
use Rattle.mcv_words.proofs.words.number_of.Goals as goal

pub returns-in-Some-clause-number : goal.returns-in-Some-clause-number
returns-in-Some-clause-number g c =
    let found = found_of c.args.found.now in
    let name = g.T.InRange.option.name in
    let named : c.row.result.name.now ≡ name = ap (λ (o : NumberOption). o.name) c.row.ensures in
    let same = one_text-rows found c.row.result.name.now ∙ ap (λ (text : Text). one_of text (rows_of found)) named in
    let none = rw c.in-Ok-Some.field-0-is at c.in-Ok-Some.ensures.none in
    let value = rw c.in-Ok-Some.field-0-is at c.in-Ok-Some.ensures.value in
    subst (λ n. IsNumberOf name (rows_of found) n) (sym c.in-Some.ensures.value)
    (number_found (λ bs r. ParsesUnsigned 64 10 bs r × ExplainsUnsignedError 10 bs r × HasUnsignedDigitsIfOk bs r) name (rows_of found) (one_of name (rows_of found))
    c.in-Ok-Some.number (λ t x h. h.0) refl (λ is. none (same ∙ is)) (λ t is. value t (same ∙ is)))

pub returns-in-None-clause-ok : goal.returns-in-None-clause-ok
returns-in-None-clause-ok g c given =
    let found = found_of c.args.found.now in
    let name = g.T.InRange.option.name in
    let named : c.row.result.name.now ≡ name = ap (λ (o : NumberOption). o.name) c.row.ensures in
    let same = one_text-rows found c.row.result.name.now ∙ ap (λ (text : Text). one_of text (rows_of found)) named in
    let none = rw c.in-Ok-Some.field-0-is at c.in-Ok-Some.ensures.none in
    let value = rw c.in-Ok-Some.field-0-is at c.in-Ok-Some.ensures.value in
    let number = number_found (λ bs r. ParsesUnsigned 64 10 bs r × ExplainsUnsignedError 10 bs r × HasUnsignedDigitsIfOk bs r) name (rows_of found) (one_of name (rows_of found))
    c.in-Ok-Some.number (λ t x h. h.0) refl (λ is. none (same ∙ is)) (λ t is. value t (same ∙ is)) in
    c.in-None.ensures.some.1 (read_in_range g.T.InRange.option (rows_of found) c.in-Ok-Some.number number given)

pub returns-in-Ok-None-clause-number : goal.returns-in-Ok-None-clause-number
returns-in-Ok-None-clause-number g c =
    let found = found_of c.args.found.now in
    let name = g.T.InRange.option.name in
    let named : c.row.result.name.now ≡ name = ap (λ (o : NumberOption). o.name) c.row.ensures in
    let same = one_text-rows found c.row.result.name.now ∙ ap (λ (text : Text). one_of text (rows_of found)) named in
    let value = rw c.in-Ok-None.field-0-is at c.in-Ok-None.ensures.value in
    none_found (λ bs r. ParsesUnsigned 64 10 bs r × ExplainsUnsignedError 10 bs r × HasUnsignedDigitsIfOk bs r) name (rows_of found) (one_of name (rows_of found)) refl (λ t is. value t (same ∙ is))

pub returns-in-Err-clause-ok : goal.returns-in-Err-clause-ok
returns-in-Err-clause-ok g c given =
    let found = found_of c.args.found.now in
    let name = g.T.InRange.option.name in
    let named : c.row.result.name.now ≡ name = ap (λ (o : NumberOption). o.name) c.row.ensures in
    let same = one_text-rows found c.row.result.name.now ∙ ap (λ (text : Text). one_of text (rows_of found)) named in
    absurd (not_unread (λ bs r. ParsesUnsigned 64 10 bs r × ExplainsUnsignedError 10 bs r × HasUnsignedDigitsIfOk bs r) g.T.InRange.option (rows_of found)
    c.in-Err.field-0 (λ t x h. h.0) (λ is. c.in-Err.ensures.none (same ∙ is)) (λ t is. c.in-Err.ensures.value t (same ∙ is)) given)
