use Rattle.std.proofs.Common.{◌≡◌, ℕ, List, [], Result, Ok, Err, IfOk, length, drop, sym, subst, arith}
use Rattle.std.proofs.lemmas.List.{drop_all}
use Rattle.std.proofs.lemmas.Result.{IfOk-weaker}
use Rattle.mcv_text.specs.declared.reader.Step.{Step}
use Rattle.mcv_text.specs.Stream.{Held}
use Rattle.mcv_text.specs.Reader.{Steps, awaits_of}
use Rattle.mcv_text.proofs.reader.line_step.Goals as goal

-- a step that used the whole piece leaves nothing of it
used_up : {E : Type 0} (r : Result Step E) (line left piece : List ℕ) → IfOk r (λ s. s.used ≡ length piece) → IfOk r (λ s. Steps (Held line) piece s.item (awaits_of left s.state) []) → IfOk r (λ s. Steps (Held line) piece s.item (awaits_of left s.state) (drop s.used piece))
used_up (Ok s) line left piece all steps = subst (λ (t : List ℕ). Steps (Held line) piece s.item (awaits_of left s.state) t) (sym (drop_all s.used piece (omega arith))) steps
used_up (Err e) line left piece all steps = tt

pub returns-in-None-clause-used : goal.returns-in-None-clause-used
returns-in-None-clause-used c = IfOk-weaker c.line_goes_on.result _ _ (λ s e. (omega arith, omega arith)) c.line_goes_on.ensures.used

pub returns-in-None-clause-kept : goal.returns-in-None-clause-kept
returns-in-None-clause-kept c = c.line_goes_on.ensures.kept

pub returns-in-None-clause-steps : goal.returns-in-None-clause-steps
returns-in-None-clause-steps c = used_up c.line_goes_on.result c.args.line.now.items c.line_goes_on.new.line.items c.args.piece.now c.line_goes_on.ensures.used c.line_goes_on.ensures.steps

pub returns-in-Some-clause-used : goal.returns-in-Some-clause-used
returns-in-Some-clause-used c = c.line_ends.ensures.used

pub returns-in-Some-clause-kept : goal.returns-in-Some-clause-kept
returns-in-Some-clause-kept c = c.line_ends.ensures.kept

pub returns-in-Some-clause-steps : goal.returns-in-Some-clause-steps
returns-in-Some-clause-steps c = c.line_ends.ensures.steps
