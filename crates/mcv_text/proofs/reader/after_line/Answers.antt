use Rattle.std.proofs.Common.{ℕ, List, ◌∷◌, ◌++◌, length, refl, ap, sym, subst, ◌∙◌, append_assoc, arith, inl}
use Rattle.mcv_text.specs.Line.{meaning}
use Rattle.mcv_text.specs.ParsedLine.{IsSmall, line_value}
use Rattle.mcv_text.specs.Stream.{Held}
use Rattle.mcv_text.proofs.Ends.{empty_line, line_item, nil_front}
use Rattle.mcv_text.proofs.reader.after_line.Goals as goal

pub returns-in-Whole-clause-steps : goal.returns-in-Whole-clause-steps
returns-in-Whole-clause-steps c = λ more. line_item c.args.line.now.items more _ _ _ c.requires (ap line_value (sym c.in-Whole.is) ∙ c.in_ok-header.ensures.means ∙ ap meaning c.as_slice.ensures.value) (refl, ap Held (nil_front c.clear.new.self.items more c.clear.ensures.items))

pub returns-in-Unknown-clause-steps : goal.returns-in-Unknown-clause-steps
returns-in-Unknown-clause-steps c = λ more. line_item c.args.line.now.items more _ _ _ c.requires (ap line_value (sym c.in-Unknown.is) ∙ c.in_ok-header.ensures.means ∙ ap meaning c.as_slice.ensures.value) (refl, ap Held (nil_front c.clear-in-Unknown.new.self.items more c.clear-in-Unknown.ensures.items))

pub returns-in-Bad-clause-steps : goal.returns-in-Bad-clause-steps
returns-in-Bad-clause-steps c = λ more. line_item c.args.line.now.items more _ _ _ c.requires (ap line_value (sym c.in-Bad.is) ∙ c.in_ok-header.ensures.means ∙ ap meaning c.as_slice.ensures.value) (refl, refl)

pub returns-in-TooLarge-clause-steps : goal.returns-in-TooLarge-clause-steps
returns-in-TooLarge-clause-steps c = λ more. line_item c.args.line.now.items more _ _ _ c.requires (ap line_value (sym c.in-TooLarge.is) ∙ c.in_ok-header.ensures.means ∙ ap meaning c.as_slice.ensures.value) (refl, refl)

pub returns-in_ok-body-in-Stores-clause-used : goal.returns-in_ok-body-in-Stores-clause-used
returns-in_ok-body-in-Stores-clause-used c = refl

pub returns-in_ok-body-in-Stores-clause-kept : goal.returns-in_ok-body-in-Stores-clause-kept
returns-in_ok-body-in-Stores-clause-kept c = (
  c.requires,
  subst IsSmall c.in-Stores.is c.in_ok-header.ensures.fits,
  sym (ap line_value (sym c.in-Stores.is) ∙ c.in_ok-header.ensures.means ∙ ap meaning c.as_slice.ensures.value),
  inl (omega (arith, ap length c.in_ok-body-in-Stores.ensures.items)),
)

pub returns-in_ok-body-in-Stores-clause-steps : goal.returns-in_ok-body-in-Stores-clause-steps
returns-in_ok-body-in-Stores-clause-steps c = λ more. ap Held (append_assoc c.args.line.now.items (10 ∷ c.in_ok-body-in-Stores.body.items) more ∙ ap (λ (t : List ℕ). c.args.line.now.items ++ (10 ∷ t)) (nil_front c.in_ok-body-in-Stores.body.items more c.in_ok-body-in-Stores.ensures.items))

pub returns-in-Whole-clause-used : goal.returns-in-Whole-clause-used
returns-in-Whole-clause-used c = refl

pub returns-in-Whole-clause-kept : goal.returns-in-Whole-clause-kept
returns-in-Whole-clause-kept c = empty_line c.clear.new.self.items c.clear.ensures.items

pub returns-in-Unknown-clause-used : goal.returns-in-Unknown-clause-used
returns-in-Unknown-clause-used c = refl

pub returns-in-Unknown-clause-kept : goal.returns-in-Unknown-clause-kept
returns-in-Unknown-clause-kept c = empty_line c.clear-in-Unknown.new.self.items c.clear-in-Unknown.ensures.items

pub returns-in-Bad-clause-used : goal.returns-in-Bad-clause-used
returns-in-Bad-clause-used c = refl

pub returns-in-Bad-clause-kept : goal.returns-in-Bad-clause-kept
returns-in-Bad-clause-kept c = tt

pub returns-in-TooLarge-clause-used : goal.returns-in-TooLarge-clause-used
returns-in-TooLarge-clause-used c = refl

pub returns-in-TooLarge-clause-kept : goal.returns-in-TooLarge-clause-kept
returns-in-TooLarge-clause-kept c = (omega arith, c.clear-in-TooLarge.ensures.items)
