use Rattle.std.proofs.Common.{◌≡◌, ◌+◌, ◌∙◌, ℕ, take, drop, ◌++◌, ◌∷◌, List, Result, Ok, Err, IfOk, MatchOption, ap, sym, subst, append_assoc, arith}
use Rattle.std.proofs.lemmas.List.{length-take}
use Rattle.std.proofs.lemmas.Result.{IfOk-weaker}
use Rattle.mcv_text.specs.Request.{item_value, refused}
use Rattle.mcv_text.specs.declared.item.Refusal.TheVariants as refusals
use Rattle.mcv_text.specs.Stream.{Begins, Failed, First, Held, followed}
use Rattle.mcv_text.specs.Reader.{EndsAt, Steps, awaits_of}
use Rattle.mcv_text.specs.declared.reader.Step.{Step}
use Rattle.mcv_text.proofs.Ends.{too_long_begins, cut_at_end}
use Rattle.mcv_text.proofs.reader.line_ends.Goals as goal

pub returns-then-end-len-clause-steps : goal.returns-then-end-len-clause-steps
returns-then-end-len-clause-steps c =
    let piece = c.args.piece.now in
    let cut = cut_at_end piece c.args.end c.requires.ends in
    subst (λ (t : List ℕ). Begins (c.args.line.now.items ++ t) (refused refusals.BadLine) Failed) (sym cut)
    (too_long_begins c.args.line.now.items (take c.args.end piece) (10 ∷ drop (c.args.end + 1) piece) c.requires.line c.requires.ends.before (omega (arith, length-take c.args.end piece, c.requires.ends.within)))

-- a step from the end of the line on, seen from the whole piece
line_cut : {E : Type 0} (r : Result Step E) (line ext left piece : List ℕ) (end : ℕ) → EndsAt piece end → ext ≡ line ++ take end piece → IfOk r (λ s. s.used ≡ end + 1)
    → IfOk r (λ s. (more : List ℕ) → Steps (Held ext) (10 ∷ more) s.item (awaits_of left s.state) more)
    → IfOk r (λ s. Steps (Held line) piece s.item (awaits_of left s.state) (drop s.used piece))
line_cut (Ok s) line ext left piece end ends is used steps =
    let more : List ℕ = drop (end + 1) piece in
    let whole : ext ++ (10 ∷ more) ≡ line ++ piece = ap (λ (t : List ℕ). t ++ (10 ∷ more)) is ∙ append_assoc line (take end piece) (10 ∷ more) ∙ ap (λ (t : List ℕ). line ++ t) (sym (cut_at_end piece end ends)) in
    subst (λ (n : ℕ). Steps (Held line) piece s.item (awaits_of left s.state) (drop n piece)) (sym used)
    (subst (λ (t : List ℕ). MatchOption s.item (followed (awaits_of left s.state) more ≡ Held t) (λ i. First (Held t) (item_value i) (followed (awaits_of left s.state) more))) whole (steps more))
line_cut (Err e) line ext left piece end ends is used steps = tt

pub returns-clause-used : goal.returns-clause-used
returns-clause-used c = IfOk-weaker c.after_line.result _ _ (λ s e. (omega arith, omega (arith, c.requires.ends.within))) c.after_line.ensures.used

pub returns-clause-kept : goal.returns-clause-kept
returns-clause-kept c = c.after_line.ensures.kept

pub returns-clause-steps : goal.returns-clause-steps
returns-clause-steps c =
    line_cut c.after_line.result c.args.line.now.items c.extend_from_slice.new.self.items c.after_line.new.line.items c.args.piece.now c.args.end c.requires.ends c.in_ok-extend_from_slice.ensures.items
    c.after_line.ensures.used c.after_line.ensures.steps
