use Rattle.std.proofs.Common.{◌∙◌, List, None, Some, ap, inl, inr, map, refl, sym, subst}
use Rattle.std.specs.Prelude.{codes}
use Rattle.std.proofs.lemmas.Result.{IfErr-weaker, IfOk-weaker, err_from_is_err_and}
use Rattle.clap.specs.Words.{Text}
use Rattle.mcv_command.specs.Program.{IsStop}
use Rattle.mcv_command.specs.declared.stop.Stop.{Stop}
use Rattle.mcv_command.specs.declared.stop.Stop.TheVariants.{Run}
use Rattle.mcv_command.proofs.ProgramEnds.{drawing_stop, drawn_whole, json_asked, json_of_check, judged_whole, judging_stop, listing_stop, mended_whole, mending_stop, outside_unreported, run_is_whole, running_stop, silent_unless_json}
use Rattle.mcv_words.specs.Words.{order_of, spool_order_of}
use Rattle.mcv_command.proofs.program.run_words.Goals as goal

pub returns-in_err-run_legs-in-Ok-Legs-clause-stop : goal.returns-in_err-run_legs-in-Ok-Legs-clause-stop
returns-in_err-run_legs-in-Ok-Legs-clause-stop g c =
    let words : List Text = map (λ w. w.now) c.args.words.now in
    let held = g.F.NamedFiles.held c.args.files.now in
    let asks = rw c.in-Ok-Legs.field-0-is at c.in-Ok-Legs.ensures.job in
    let gone = err_from_is_err_and c.from_residual.result c.from_residual.ensures.1 in
    rw (gone.1)
    (subst (λ (stop : Stop). IsStop words held (g.R.Read.remaining c.args.reader.now) stop) (sym gone.2)
    (inr (inl (c.in-Ok-Legs.at, asks, c.in_err-run_legs-in-Ok-Legs.ensures.fault))))

pub returns-in_err-run_legs-in-Ok-Legs-clause-silent : goal.returns-in_err-run_legs-in-Ok-Legs-clause-silent
returns-in_err-run_legs-in-Ok-Legs-clause-silent g c =
    let gone = err_from_is_err_and c.from_residual.result c.from_residual.ensures.1 in
    rw (gone.1) (λ no_device unasked unlisted unreported. c.in_err-run_legs-in-Ok-Legs.ensures.silent (λ device. no_device (gone.2 ∙ ap Run device)))

pub returns-in_err-write_text-in-Err-Help-clause-stop : goal.returns-in_err-write_text-in-Err-Help-clause-stop
returns-in_err-write_text-in-Err-Help-clause-stop g c =
    let words : List Text = map (λ w. w.now) c.args.words.now in
    let held = g.F.NamedFiles.held c.args.files.now in
    let gone = err_from_is_err_and c.from_residual-in_err-write_text-in-Err-Help.result c.from_residual-in_err-write_text-in-Err-Help.ensures.1 in
    rw (gone.1)
    (subst (λ (stop : Stop). IsStop words held (g.R.Read.remaining c.args.reader.now) stop) (sym gone.2) (inl (inr c.in_err-write_text-in-Err-Help.ensures.fault)))

pub returns-in_err-write_text-in-Err-Version-clause-stop : goal.returns-in_err-write_text-in-Err-Version-clause-stop
returns-in_err-write_text-in-Err-Version-clause-stop g c =
    let words : List Text = map (λ w. w.now) c.args.words.now in
    let held = g.F.NamedFiles.held c.args.files.now in
    let gone = err_from_is_err_and c.from_residual-in_err-write_text-in-Err-Version.result c.from_residual-in_err-write_text-in-Err-Version.ensures.1 in
    rw (gone.1)
    (subst (λ (stop : Stop). IsStop words held (g.R.Read.remaining c.args.reader.now) stop) (sym gone.2) (inl (inr c.in_err-write_text-in-Err-Version.ensures.fault)))

pub returns-in-Err-Memory-clause-stop : goal.returns-in-Err-Memory-clause-stop
returns-in-Err-Memory-clause-stop g c = inl (inl refl)

pub returns-in-Ok-Check-None-default-clause-done : goal.returns-in-Ok-Check-None-default-clause-done
returns-in-Ok-Check-None-default-clause-done g c =
    let held = g.F.NamedFiles.held c.args.files.now in
    let asks = rw (c.in-Ok-Check-None-default.field-0-is, c.in-Ok-Check-None-default.field-0-0-is) at c.in-Ok-Check-None-default.ensures.job in
    IfOk-weaker c.judge.result _ _ (λ ending judged. inr (inr (inl (None, c.in-Ok-Check-None-default.options, asks, judged)))) (c.judge.ensures.done held)

pub returns-in-Ok-Check-None-default-clause-stop : goal.returns-in-Ok-Check-None-default-clause-stop
returns-in-Ok-Check-None-default-clause-stop g c =
    let words : List Text = map (λ w. w.now) c.args.words.now in
    let held = g.F.NamedFiles.held c.args.files.now in
    let known = g.R.Read.remaining c.args.reader.now in
    let asks = rw (c.in-Ok-Check-None-default.field-0-is, c.in-Ok-Check-None-default.field-0-0-is) at c.in-Ok-Check-None-default.ensures.job in
    IfErr-weaker c.judge.result _ _ (λ stop holds. judging_stop words held known None c.in-Ok-Check-None-default.options stop asks holds) (c.judge.ensures.stop held)

pub returns-in-Ok-Check-None-default-clause-silent : goal.returns-in-Ok-Check-None-default-clause-silent
returns-in-Ok-Check-None-default-clause-silent g c =
    let asks = rw (c.in-Ok-Check-None-default.field-0-is, c.in-Ok-Check-None-default.field-0-0-is) at c.in-Ok-Check-None-default.ensures.job in
    silent_unless_json (map (λ w. w.now) c.args.words.now) c.in-Ok-Check-None-default.options.json c.judge.result _ (λ json. (None, c.in-Ok-Check-None-default.options, asks, json)) c.judge.ensures.silent

pub returns-in-Ok-Check-Some-default-clause-silent : goal.returns-in-Ok-Check-Some-default-clause-silent
returns-in-Ok-Check-Some-default-clause-silent g c =
    let asks = rw (c.in-Ok-Check-Some-default.field-0-is, c.in-Ok-Check-Some-default.field-0-0-is) at c.in-Ok-Check-Some-default.ensures.job in
    silent_unless_json (map (λ w. w.now) c.args.words.now) c.in-Ok-Check-Some-default.options.json c.judge_by.result _ (λ json. (Some c.in-Ok-Check-Some-default.name.now, c.in-Ok-Check-Some-default.options, asks, json)) c.judge_by.ensures.silent

pub returns-in-Ok-Draw-clause-done : goal.returns-in-Ok-Draw-clause-done
returns-in-Ok-Draw-clause-done g c =
    let asks = rw c.in-Ok-Draw.field-0-is at c.in-Ok-Draw.ensures.job in
    IfOk-weaker c.draw.result _ _ (λ ending drawn. inr (inr (inr (inr (inr (inr (c.in-Ok-Draw.dot, asks, drawn))))))) c.draw.ensures.done

pub returns-in-Ok-Draw-clause-stop : goal.returns-in-Ok-Draw-clause-stop
returns-in-Ok-Draw-clause-stop g c =
    let words : List Text = map (λ w. w.now) c.args.words.now in
    let held = g.F.NamedFiles.held c.args.files.now in
    let known = g.R.Read.remaining c.args.reader.now in
    let asks = rw c.in-Ok-Draw.field-0-is at c.in-Ok-Draw.ensures.job in
    IfErr-weaker c.draw.result _ _ (λ stop holds. drawing_stop words held known c.in-Ok-Draw.dot stop asks holds) c.draw.ensures.stop

pub returns-in-Ok-Draw-clause-silent : goal.returns-in-Ok-Draw-clause-silent
returns-in-Ok-Draw-clause-silent g c = IfErr-weaker c.draw.result _ _ (λ stop silent no_device unasked unlisted unreported. silent no_device) c.draw.ensures.silent

pub returns-in-Ok-Draw-clause-listed : goal.returns-in-Ok-Draw-clause-listed
returns-in-Ok-Draw-clause-listed g c = λ slot is. absurd (drawn_whole _ (g.R.Read.remaining c.args.reader.now) slot c.draw.ensures.stop is)

pub returns-in-Ok-Mend-clause-done : goal.returns-in-Ok-Mend-clause-done
returns-in-Ok-Mend-clause-done g c =
    let asks = rw c.in-Ok-Mend.field-0-is at c.in-Ok-Mend.ensures.job in
    IfOk-weaker c.mend.result _ _ (λ ending mended. inr (inr (inr (inl (c.in-Ok-Mend.patch, asks, mended))))) c.mend.ensures.done

pub returns-in-Ok-Mend-clause-stop : goal.returns-in-Ok-Mend-clause-stop
returns-in-Ok-Mend-clause-stop g c =
    let words : List Text = map (λ w. w.now) c.args.words.now in
    let held = g.F.NamedFiles.held c.args.files.now in
    let known = g.R.Read.remaining c.args.reader.now in
    let asks = rw c.in-Ok-Mend.field-0-is at c.in-Ok-Mend.ensures.job in
    IfErr-weaker c.mend.result _ _ (λ stop holds. mending_stop words held known c.in-Ok-Mend.patch stop asks holds) c.mend.ensures.stop

pub returns-in-Ok-Mend-clause-silent : goal.returns-in-Ok-Mend-clause-silent
returns-in-Ok-Mend-clause-silent g c = IfErr-weaker c.mend.result _ _ (λ stop silent no_device unasked unlisted unreported. silent no_device) c.mend.ensures.silent

pub returns-in-Ok-Mend-clause-listed : goal.returns-in-Ok-Mend-clause-listed
returns-in-Ok-Mend-clause-listed g c = λ slot is. absurd (mended_whole _ (g.R.Read.remaining c.args.reader.now) slot c.mend.ensures.stop is)

pub returns-in-Ok-Run-clause-done : goal.returns-in-Ok-Run-clause-done
returns-in-Ok-Run-clause-done g c =
    let held = g.F.NamedFiles.held c.args.files.now in
    let asks = rw c.in-Ok-Run.field-0-is at c.in-Ok-Run.ensures.job in
    IfOk-weaker c.serve.result _ _ (λ ending served. inr (inr (inr (inr (inl (order_of c.in-Ok-Run.options, asks, served)))))) (c.serve.ensures.done held)

pub returns-in-Ok-Run-clause-stop : goal.returns-in-Ok-Run-clause-stop
returns-in-Ok-Run-clause-stop g c =
    let words : List Text = map (λ w. w.now) c.args.words.now in
    let held = g.F.NamedFiles.held c.args.files.now in
    let known = g.R.Read.remaining c.args.reader.now in
    let asks = rw c.in-Ok-Run.field-0-is at c.in-Ok-Run.ensures.job in
    IfErr-weaker c.serve.result _ _ (λ stop holds. running_stop words held known (order_of c.in-Ok-Run.options) stop asks holds) (c.serve.ensures.stop held)

pub returns-in-Ok-Run-clause-silent : goal.returns-in-Ok-Run-clause-silent
returns-in-Ok-Run-clause-silent g c =
    let asks = rw c.in-Ok-Run.field-0-is at c.in-Ok-Run.ensures.job in
    IfErr-weaker c.serve.result _ _ (λ stop silent no_device unasked unlisted unreported. silent no_device (λ memory. unasked memory (order_of c.in-Ok-Run.options, asks))) c.serve.ensures.silent

pub returns-in-Ok-Check-Some-default-clause-done : goal.returns-in-Ok-Check-Some-default-clause-done
returns-in-Ok-Check-Some-default-clause-done g c =
    let asks = rw (c.in-Ok-Check-Some-default.field-0-is, c.in-Ok-Check-Some-default.field-0-0-is) at c.in-Ok-Check-Some-default.ensures.job in
    IfOk-weaker c.judge_by.result _ _ (λ ending judged. inr (inr (inl (Some c.in-Ok-Check-Some-default.name.now, c.in-Ok-Check-Some-default.options, asks, judged)))) c.judge_by.ensures.done

pub returns-in-Ok-Check-Some-default-clause-stop : goal.returns-in-Ok-Check-Some-default-clause-stop
returns-in-Ok-Check-Some-default-clause-stop g c =
    let words : List Text = map (λ w. w.now) c.args.words.now in
    let held = g.F.NamedFiles.held c.args.files.now in
    let known = g.R.Read.remaining c.args.reader.now in
    let asks = rw (c.in-Ok-Check-Some-default.field-0-is, c.in-Ok-Check-Some-default.field-0-0-is) at c.in-Ok-Check-Some-default.ensures.job in
    IfErr-weaker c.judge_by.result _ _ (λ stop holds. judging_stop words held known (Some c.in-Ok-Check-Some-default.name.now) c.in-Ok-Check-Some-default.options stop asks holds) c.judge_by.ensures.stop

pub returns-in-Ok-Spool-clause-done : goal.returns-in-Ok-Spool-clause-done
returns-in-Ok-Spool-clause-done g c =
    let asks = rw c.in-Ok-Spool.field-0-is at c.in-Ok-Spool.ensures.job in
    IfOk-weaker c.list_records.result _ _ (λ ending listed. inr (inr (inr (inr (inr (inl (spool_order_of c.in-Ok-Spool.options, asks, listed.0, listed.1))))))) c.list_records.ensures.done

pub returns-in-Ok-Spool-clause-stop : goal.returns-in-Ok-Spool-clause-stop
returns-in-Ok-Spool-clause-stop g c =
    let words : List Text = map (λ w. w.now) c.args.words.now in
    let held = g.F.NamedFiles.held c.args.files.now in
    let known = g.R.Read.remaining c.args.reader.now in
    let asks = rw c.in-Ok-Spool.field-0-is at c.in-Ok-Spool.ensures.job in
    IfErr-weaker c.list_records.result _ _ (λ stop holds. listing_stop words held known (spool_order_of c.in-Ok-Spool.options) stop asks holds) c.list_records.ensures.stop

pub returns-in-Ok-Spool-clause-silent : goal.returns-in-Ok-Spool-clause-silent
returns-in-Ok-Spool-clause-silent g c =
    let asks = rw c.in-Ok-Spool.field-0-is at c.in-Ok-Spool.ensures.job in
    IfErr-weaker c.list_records.result _ _ (λ stop holds no_device unasked unlisted unreported. absurd (unlisted (spool_order_of c.in-Ok-Spool.options, asks))) c.list_records.ensures.stop

pub returns-in-Ok-Spool-clause-listed : goal.returns-in-Ok-Spool-clause-listed
returns-in-Ok-Spool-clause-listed g c = λ slot is.
    (spool_order_of c.in-Ok-Spool.options, rw c.in-Ok-Spool.field-0-is at c.in-Ok-Spool.ensures.job, c.list_records.ensures.listed slot is)

pub returns-in_err-run_legs-in-Ok-Legs-clause-listed : goal.returns-in_err-run_legs-in-Ok-Legs-clause-listed
returns-in_err-run_legs-in-Ok-Legs-clause-listed g c = λ slot is.
    let gone = err_from_is_err_and c.from_residual.result c.from_residual.ensures.1 in
    absurd (run_is_whole _ gone.0 _ slot gone.1 gone.2 is)

pub returns-in_err-write_text-in-Err-Help-clause-listed : goal.returns-in_err-write_text-in-Err-Help-clause-listed
returns-in_err-write_text-in-Err-Help-clause-listed g c = λ slot is.
    let gone = err_from_is_err_and c.from_residual-in_err-write_text-in-Err-Help.result c.from_residual-in_err-write_text-in-Err-Help.ensures.1 in
    absurd (run_is_whole _ gone.0 _ slot gone.1 gone.2 is)

pub returns-in_err-write_text-in-Err-Version-clause-listed : goal.returns-in_err-write_text-in-Err-Version-clause-listed
returns-in_err-write_text-in-Err-Version-clause-listed g c = λ slot is.
    let gone = err_from_is_err_and c.from_residual-in_err-write_text-in-Err-Version.result c.from_residual-in_err-write_text-in-Err-Version.ensures.1 in
    absurd (run_is_whole _ gone.0 _ slot gone.1 gone.2 is)

pub returns-in-Ok-Check-None-default-clause-listed : goal.returns-in-Ok-Check-None-default-clause-listed
returns-in-Ok-Check-None-default-clause-listed g c = λ slot is.
    let held = g.F.NamedFiles.held c.args.files.now in
    absurd (judged_whole _ held None c.in-Ok-Check-None-default.options.window.seconds (g.R.Read.remaining c.args.reader.now) slot (c.judge.ensures.stop held) is)

pub returns-in-Ok-Check-Some-default-clause-listed : goal.returns-in-Ok-Check-Some-default-clause-listed
returns-in-Ok-Check-Some-default-clause-listed g c = λ slot is.
    let held = g.F.NamedFiles.held c.args.files.now in
    absurd (judged_whole _ held (Some c.in-Ok-Check-Some-default.name.now) c.in-Ok-Check-Some-default.options.window.seconds (g.R.Read.remaining c.args.reader.now) slot c.judge_by.ensures.stop is)

pub returns-in-Ok-Run-clause-listed : goal.returns-in-Ok-Run-clause-listed
returns-in-Ok-Run-clause-listed g c = λ slot is.
    let held = g.F.NamedFiles.held c.args.files.now in
    absurd (judged_whole _ held None c.in-Ok-Run.options.settings.window.seconds (g.R.Read.remaining c.args.reader.now) slot (c.serve.ensures.stop held) is)

-- ---- reports

pub returns-in_err-run_legs-in-Ok-Legs-clause-reported : goal.returns-in_err-run_legs-in-Ok-Legs-clause-reported
returns-in_err-run_legs-in-Ok-Legs-clause-reported g c = λ gives.
    let words : List Text = map (λ w. w.now) c.args.words.now in
    let asks = rw c.in-Ok-Legs.field-0-is at c.in-Ok-Legs.ensures.job in
    absurd (json_of_check words (codes "legs") asks.1 gives asks.2 refl)

pub returns-in_err-write_text-in-Err-Help-clause-reported : goal.returns-in_err-write_text-in-Err-Help-clause-reported
returns-in_err-write_text-in-Err-Help-clause-reported g c =
    let gone = err_from_is_err_and c.from_residual-in_err-write_text-in-Err-Help.result c.from_residual-in_err-write_text-in-Err-Help.ensures.1 in
    rw (gone.1) (λ gives. outside_unreported _ _ _ gone.0 c.in_err-write_text-in-Err-Help.field-0.0 gone.2 (inr c.in_err-write_text-in-Err-Help.ensures.fault))

pub returns-in_err-write_text-in-Err-Version-clause-reported : goal.returns-in_err-write_text-in-Err-Version-clause-reported
returns-in_err-write_text-in-Err-Version-clause-reported g c =
    let gone = err_from_is_err_and c.from_residual-in_err-write_text-in-Err-Version.result c.from_residual-in_err-write_text-in-Err-Version.ensures.1 in
    rw (gone.1) (λ gives. outside_unreported _ _ _ gone.0 c.in_err-write_text-in-Err-Version.field-0.0 gone.2 (inr c.in_err-write_text-in-Err-Version.ensures.fault))

pub returns-in-Err-Memory-clause-reported : goal.returns-in-Err-Memory-clause-reported
returns-in-Err-Memory-clause-reported g c = λ gives no_memory no_device. absurd (no_memory refl)

pub returns-in-Ok-Check-None-default-clause-reported : goal.returns-in-Ok-Check-None-default-clause-reported
returns-in-Ok-Check-None-default-clause-reported g c = λ gives.
    let words : List Text = map (λ w. w.now) c.args.words.now in
    let asks = rw (c.in-Ok-Check-None-default.field-0-is, c.in-Ok-Check-None-default.field-0-0-is) at c.in-Ok-Check-None-default.ensures.job in
    c.judge.ensures.reported (json_asked words None c.in-Ok-Check-None-default.options asks gives)

pub returns-in-Ok-Check-Some-default-clause-reported : goal.returns-in-Ok-Check-Some-default-clause-reported
returns-in-Ok-Check-Some-default-clause-reported g c = λ gives.
    let words : List Text = map (λ w. w.now) c.args.words.now in
    let asks = rw (c.in-Ok-Check-Some-default.field-0-is, c.in-Ok-Check-Some-default.field-0-0-is) at c.in-Ok-Check-Some-default.ensures.job in
    c.judge_by.ensures.reported (json_asked words (Some c.in-Ok-Check-Some-default.name.now) c.in-Ok-Check-Some-default.options asks gives)

pub returns-in-Ok-Draw-clause-reported : goal.returns-in-Ok-Draw-clause-reported
returns-in-Ok-Draw-clause-reported g c = λ gives.
    let words : List Text = map (λ w. w.now) c.args.words.now in
    let asks = rw c.in-Ok-Draw.field-0-is at c.in-Ok-Draw.ensures.job in
    absurd (json_of_check words (codes "draw") asks.1 gives asks.2 refl)

pub returns-in-Ok-Mend-clause-reported : goal.returns-in-Ok-Mend-clause-reported
returns-in-Ok-Mend-clause-reported g c = λ gives.
    let words : List Text = map (λ w. w.now) c.args.words.now in
    let asks = rw c.in-Ok-Mend.field-0-is at c.in-Ok-Mend.ensures.job in
    absurd (json_of_check words (codes "mend") asks.1 gives asks.2 refl)

pub returns-in-Ok-Run-clause-reported : goal.returns-in-Ok-Run-clause-reported
returns-in-Ok-Run-clause-reported g c = λ gives.
    let words : List Text = map (λ w. w.now) c.args.words.now in
    let asks = rw c.in-Ok-Run.field-0-is at c.in-Ok-Run.ensures.job in
    absurd (json_of_check words (codes "run") asks.1 gives asks.2 refl)

pub returns-in-Ok-Spool-clause-reported : goal.returns-in-Ok-Spool-clause-reported
returns-in-Ok-Spool-clause-reported g c = λ gives.
    let words : List Text = map (λ w. w.now) c.args.words.now in
    let asks = rw c.in-Ok-Spool.field-0-is at c.in-Ok-Spool.ensures.job in
    absurd (json_of_check words (codes "spool") asks.1 gives asks.2 refl)
