use Rattle.std.proofs.Common.{sym, subst, ◌∙◌}
use Rattle.std.specs.List.{Contains}
use Rattle.std.proofs.lemmas.Slice.Eq.{bytes_eq-Decides}
use Rattle.mcv_classes.proofs.LastWord.{word-itself}
use Rattle.mcv_classes.proofs.table.ClassTable.contains.Goals as goal

pub returns : goal.returns
returns c =
    let table = c.args.self.now in
    let bytes = c.args.bytes.now in
    let word = c.longest.result.now in (
      λ e. subst (Contains table) ((bytes_eq-Decides word bytes).0 (sym c.eq.ensures ∙ e)) c.longest.ensures.listed,
      λ h. c.eq.ensures ∙ (bytes_eq-Decides word bytes).1 (word-itself table bytes word c.longest.ensures h),
    )
