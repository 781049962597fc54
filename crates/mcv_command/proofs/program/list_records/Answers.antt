use Rattle.std.proofs.Common.{◌≡◌, ℕ, List, None, Some, Err, ap, refl, sym, subst, take}
use Rattle.std.proofs.lemmas.Result.{err_from_is_err_and}
use Rattle.std.specs.Io.KnownBytes.{Appends}
use Rattle.mcv_spool.specs.File.{damage, slots}
use Rattle.mcv_records.specs.Text.{records_text, slot_lines}
use Rattle.mcv_records.specs.declared.list.Shown.{Shown}
use Rattle.mcv_command.specs.Program.{IsListingStop, shown_of}
use Rattle.mcv_command.specs.declared.stop.Stop.{Stop}
use Rattle.mcv_command.proofs.ProgramEnds.{damaged_records, listed_whole, records_stop, run_is_whole}
use Rattle.mcv_command.proofs.program.list_records.Goals as goal

pub returns-in_err-view-clause-stop : goal.returns-in_err-view-clause-stop
returns-in_err-view-clause-stop g c =
    let gone = err_from_is_err_and c.from_residual.result c.from_residual.ensures.1 in
    rw (gone.1) (subst (λ (stop : Stop). IsListingStop stop) (sym gone.2) c.in_err-view.ensures.fault)

pub returns-in_err-view-clause-listed : goal.returns-in_err-view-clause-listed
returns-in_err-view-clause-listed g c = λ slot is.
    let gone = err_from_is_err_and c.from_residual.result c.from_residual.ensures.1 in
    absurd (run_is_whole _ gone.0 _ slot gone.1 gone.2 is)

pub returns-in-Ok-clause-done : goal.returns-in-Ok-clause-done
returns-in-Ok-clause-done g c =
    let old = g.W.Write.contents c.args.writer.now in
    let new = g.W.Write.contents c.write_records.new.writer in
    let shown = shown_of c.args.options.all in
    let seen = g.F.View.Disk.seen c.in_ok-view.view in (
      listed_whole (g.F.NamedFiles.held c.args.files.now c.args.options.file.now) g.F.View.Disk.keeps_model seen
          (λ (file : List ℕ). (damage 0 (slots file) ≡ None) × Appends old new (records_text shown file)) c.in_ok-view.ensures.shows
          (λ model. (c.in-Ok.ensures.sound model, subst (λ (s : Shown). Appends old new (records_text s seen)) c.shown_of.ensures (c.in-Ok.ensures.written model))),
      refl,
    )

pub returns-clause-stop : goal.returns-clause-stop
returns-clause-stop g c = records_stop c.in-Err.fault c.from.result c.from.ensures

pub returns-clause-listed : goal.returns-clause-listed
returns-clause-listed g c = λ slot is.
    let old = g.W.Write.contents c.args.writer.now in
    let new = g.W.Write.contents c.write_records.new.writer in
    let shown = shown_of c.args.options.all in
    let seen = g.F.View.Disk.seen c.in_ok-view.view in
    let damaged = damaged_records (Err c.from.result) c.in-Err.fault c.from.result slot refl c.from.ensures is in
    listed_whole (g.F.NamedFiles.held c.args.files.now c.args.options.file.now) g.F.View.Disk.keeps_model seen
    (λ (file : List ℕ). (damage 0 (slots file) ≡ Some slot) × Appends old new (slot_lines shown 0 (take slot (slots file)))) c.in_ok-view.ensures.shows
    (λ model.
    let listed = c.in-Err.ensures.damaged model slot (ap Err damaged) in
    (listed.0, subst (λ (s : Shown). Appends old new (slot_lines s 0 (take slot (slots seen)))) c.shown_of.ensures listed.1))
