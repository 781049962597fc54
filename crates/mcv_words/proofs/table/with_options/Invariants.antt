use Rattle.std.proofs.Common.{◌≡◌, drop, false, fold, map}
use Rattle.clap.specs.Words.{app_of, with_rule}
use Rattle.clap.specs.declared.builder.command.Command.TheViews.{out-Command as fields_of}
use Rattle.mcv_words.specs.Words.{row_rule}
use Rattle.mcv_words.proofs.table.with_options.Given as goal

abbrev pub invariant-loop-row : goal.invariant-loop-row
invariant-loop-row l =
    (fold with_rule (app_of l.command) (map row_rule (drop l.row-index l.rows)) ≡ fold with_rule (app_of l.fn.command) (map row_rule l.fn.rows))
    × ((fields_of l.fn.command).has_globals ≡ false → (fields_of l.command).has_globals ≡ false)
