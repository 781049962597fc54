use Rattle.std.proofs.Common.{◌∙◌, ℕ, Vec, Global, map, sym}
use Rattle.std.proofs.lemmas.List.{append-nil}
use Rattle.mcv_draw.proofs.DrawnInTurn.{seen_last}
use Rattle.mcv_picture.proofs.notes.push_line.Goals as goal

pub returns-then-is_empty : goal.returns-then-is_empty
returns-then-is_empty c = rw (sym c.is_empty.ensures ∙ c.if-is_empty.true) (sym (append-nil (map (λ (v : Vec ℕ Global). v.items) c.args.lines.now.items)))

pub returns : goal.returns
returns c =
    rw (sym c.is_empty.ensures ∙ c.if-is_empty.false)
    (seen_last (λ (v : Vec ℕ Global). v.items) c.args.lines.now.items c.push.new.self.items c.in_ok-copied.copied c.args.line.now c.in_ok-push.ensures.items c.in_ok-copied.ensures.items)
