use Rattle.std.proofs.Common.{◌≡◌, ◌∙◌, take, Some, Err, sym, ap, subst}
use Rattle.std.proofs.lemmas.Result.{err_from_is_err_and}
use Rattle.std.specs.Io.KnownBytes.{Appends}
use Rattle.mcv_spool.specs.File.{damage, slots}
use Rattle.mcv_records.specs.Text.{slot_lines}
use Rattle.mcv_records.specs.declared.fault.RecordsFault.TheVariants.{Damaged}
use Rattle.mcv_records.proofs.Listing.{same_fault}
use Rattle.mcv_records.proofs.list.write_records.Goals as goal

pub returns-in_err-counts-clause-damaged : goal.returns-in_err-counts-clause-damaged
returns-in_err-counts-clause-damaged g c = λ model k h.
    let gone = err_from_is_err_and c.from_residual-in_err-counts.result c.from_residual-in_err-counts.ensures.1 in
    subst (λ file. (damage 0 (slots file) ≡ Some k) × Appends (g.W.Write.contents c.args.writer.now) (g.W.Write.contents c.write_slots.new.writer) (slot_lines c.args.shown 0 (take k (slots file))))
    (c.len.ensures.quiet model).same
    (c.in_err-counts.ensures.damaged model k (ap Err (sym gone.2 ∙ same_fault c.from_residual-in_err-counts.result gone.0 (Damaged k) gone.1 h)))
