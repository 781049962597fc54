use Rattle.std.proofs.Common.{◌≡◌, ◌∙◌, ◌+◌, ◌<◌, ℕ, List, add-one, ap, drop, drop-cons, drop_of_length-le, fold, get_or, length, map, subst, sym}
use Rattle.clap.specs.Words.{App, app_of, with_rule}
use Rattle.mcv_words.specs.declared.table.OptionRow.{OptionRow}
use Rattle.mcv_words.specs.Words.{row_rule}
use Rattle.mcv_words.proofs.table.with_options.Goals as goal

abbrev with_rows : App → List OptionRow → App
with_rows app rows = fold with_rule app (map row_rule rows)

-- one row more is told
told : (rows : List OptionRow) (i : ℕ) (d : OptionRow) (app next all : App) → i < length rows → next ≡ with_rule app (row_rule (get_or rows i d))
    → with_rows app (drop i rows) ≡ all → with_rows next (drop (i + 1) rows) ≡ all
told rows i d app next all inside is before =
    let after : with_rows (with_rule app (row_rule (get_or rows i d))) (drop (i + 1) rows) ≡ all =
    rw (add-one i) (rw (drop-cons rows i d inside) at before) in
    subst (λ (a : App). with_rows a (drop (i + 1) rows) ≡ all) (sym is) after

pub loop-row-preserved : goal.loop-row-preserved
loop-row-preserved c = (
  told c.args.rows.now c.loop-row.row-index _ (app_of c.loop-row.command) (app_of c.in_ok-command.command) _ c.loop-row-test.true
      (c.in_ok-command.ensures.shape c.option.ensures.local ∙ ap (with_rule (app_of c.loop-row.command)) c.option.ensures.rule) c.loop-row.invariant.0,
  λ none. rw (c.in_ok-command.ensures.globals, c.loop-row.invariant.1 none) c.option.ensures.local,
)

pub returns-clause-app : goal.returns-clause-app
returns-clause-app c = rw (drop_of_length-le c.args.rows.now c.loop-row-test.false) at c.loop-row.invariant.0

pub returns-clause-local : goal.returns-clause-local
returns-clause-local c = c.loop-row.invariant.1
