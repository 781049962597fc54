use Rattle.std.proofs.Common.{◌≡◌, ◌++◌, ◌∙◌, ℕ, List, take, refl, sym, ap, subst, arith}
use Rattle.std.proofs.lemmas.Grind.{common_steps}
use Rattle.mcv_text.proofs.Ends.{empty_line, part_short, right_value, value_goes_on, wrong_value}
use Rattle.mcv_text.specs.Request.{asking, header_value, with_body}
use Rattle.mcv_text.specs.Stream.{Held, IsValuePart}
use Rattle.mcv_text.proofs.reader.value_step.Goals as goal

pub returns-in-Wrong-clause-steps : goal.returns-in-Wrong-clause-steps
returns-in-Wrong-clause-steps c =
    let seen-is : c.as_slice.result.now ≡ c.args.value.body.items ++ take c.min-used.result c.args.piece.now = grind (arith, common_steps, c.as_slice.ensures.value, c.in_ok-extend_from_slice.ensures.items) in
    wrong_value c.args.line.now.items c.args.value.body.items c.args.piece.now c.as_slice.result.now c.min-used.result c.args.value.size (header_value c.args.value.header) c.requires.kept.0 c.requires.kept.2 seen-is c.in-Wrong.ensures

pub returns-in_ok-request-in-Whole-clause-steps : goal.returns-in_ok-request-in-Whole-clause-steps
returns-in_ok-request-in-Whole-clause-steps c =
    let seen-is : c.as_slice.result.now ≡ c.args.value.body.items ++ take c.min-used.result c.args.piece.now = grind (arith, common_steps, c.as_slice.ensures.value, c.in_ok-extend_from_slice.ensures.items) in
    let body-is = ap (λ (v : List ℕ). asking (with_body (header_value c.args.value.header) (take c.args.value.size v))) (sym c.as_slice.ensures.value) in
    right_value c.args.line.now.items c.args.value.body.items c.args.piece.now c.as_slice.result.now c.min-used.result c.args.value.size (header_value c.args.value.header) c.requires.kept.0 c.requires.kept.2 seen-is
    (take c.args.value.size c.as_slice.result.now) c.clear.new.self.items _ c.in-Whole.ensures.0 c.in-Whole.ensures.1 refl c.clear.ensures.items (c.in_ok-request-in-Whole.ensures ∙ body-is)

pub returns-in-Part-clause-used : goal.returns-in-Part-clause-used
returns-in-Part-clause-used c =
    let short = part_short c.args.value.size c.args.value.body.items c.requires.kept.3 in
    (omega (arith, short, c.args.value.body.ok.0), omega arith)

pub returns-in-Part-clause-kept : goal.returns-in-Part-clause-kept
returns-in-Part-clause-kept c = (c.requires.kept.0, c.requires.kept.1, c.requires.kept.2, subst (IsValuePart c.args.value.size) c.as_slice.ensures.value c.in-Part.ensures)

pub returns-in-Part-clause-steps : goal.returns-in-Part-clause-steps
returns-in-Part-clause-steps c =
    let seen-is : c.as_slice.result.now ≡ c.args.value.body.items ++ take c.min-used.result c.args.piece.now = grind (arith, common_steps, c.as_slice.ensures.value, c.in_ok-extend_from_slice.ensures.items) in
    ap Held (value_goes_on c.args.line.now.items c.args.value.body.items c.args.piece.now c.as_slice.result.now c.min-used.result c.args.value.size (header_value c.args.value.header) c.requires.kept.0 c.requires.kept.2 seen-is
    c.extend_from_slice.new.self.items c.as_slice.ensures.value)

pub returns-in-Wrong-clause-used : goal.returns-in-Wrong-clause-used
returns-in-Wrong-clause-used c = (c.requires.some, omega arith)

pub returns-in-Wrong-clause-kept : goal.returns-in-Wrong-clause-kept
returns-in-Wrong-clause-kept c = tt

pub returns-in_ok-request-in-Whole-clause-used : goal.returns-in_ok-request-in-Whole-clause-used
returns-in_ok-request-in-Whole-clause-used c =
    let short = part_short c.args.value.size c.args.value.body.items c.requires.kept.3 in
    (omega (arith, short, c.args.value.body.ok.0), omega arith)

pub returns-in_ok-request-in-Whole-clause-kept : goal.returns-in_ok-request-in-Whole-clause-kept
returns-in_ok-request-in-Whole-clause-kept c = empty_line c.clear.new.self.items c.clear.ensures.items
