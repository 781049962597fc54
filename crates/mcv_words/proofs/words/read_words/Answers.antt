use Rattle.std.proofs.Common.{◌≡◌, ◌∙◌, ◌<◌, ◌^◌, ℕ, inl, inr, List, sym, subst, true, ap, map, refl, codes, true≢false}
use Rattle.clap.specs.Words.{App, Text, HasKind, fault_of, found_of, is_simple, is_simple_and_free, kind_of, rows_of, subcommand_of}
use Rattle.std.specs.Str.Parse.{ParsesUnsigned, ExplainsUnsignedError, HasUnsignedDigitsIfOk}
use Rattle.clap.proofs.WalkLemmas.{one_text-rows}
use Rattle.clap.proofs.OnLiterals.{clap_on_literals}
use Rattle.mcv_words.specs.Table.{at_option}
use Rattle.mcv_words.specs.Words.{mcv_app}
use Rattle.mcv_words.proofs.OptionValues.{check_values, legs_values, run_values, spool_values}
use Rattle.mcv_words.proofs.Matches.{check_asked, draw_asked, fault_of_kind, named_rows, name_of_rows, no_number, number_of, run_asked, spool_asked, mend_asked}
use Rattle.mcv_words.proofs.CommandIsNamed.{taken}
use Rattle.mcv_words.proofs.words.read_words.Goals as goal

simple : is_simple mcv_app ≡ true
unfolding clap_on_literals
simple = refl

free : is_simple_and_free mcv_app ≡ true
unfolding clap_on_literals
free = refl

pub returns-in-Err-clause-fault : goal.returns-in-Err-clause-fault
returns-in-Err-clause-fault c =
    let words : List Text = map (λ w. w.now) c.args.words.now in
    let kinds = subst (λ (a : App). HasKind (fault_of a words) c.in-Err.error) c.in_ok-command.ensures
    (c.in-Err.ensures.kinds (ap is_simple_and_free c.in_ok-command.ensures ∙ free)) in
    fault_of_kind words (kind_of c.in-Err.error) c.line_fault.result kinds c.line_fault.ensures

pub returns-in_default-check_job-clause-fault : goal.returns-in_default-check_job-clause-fault
returns-in_default-check_job-clause-fault c =
    let words : List Text = map (λ w. w.now) c.args.words.now in
    let held = (c.in-Ok.ensures.matches (ap is_simple c.in_ok-command.ensures ∙ simple)).1 ∙ ap (λ (a : App). subcommand_of a words) c.in_ok-command.ensures in
    let none = sym (ap (λ (a : App). fault_of a words) c.in_ok-command.ensures) ∙ c.in-Ok.ensures.kinds (ap is_simple_and_free c.in_ok-command.ensures ∙ free) in
    let found = found_of c.in-Some.found.now in
    let check = sym held ∙ named_rows c.in-Ok.matches (codes "check") (rows_of found) (c.in-Some.ensures.found.0 refl) c.in-Some.ensures.rows in
    absurd (true≢false (sym (c.in_default-check_job.ensures.ok (check_values words (rows_of found) none check))))

pub returns-in-Some-clause-job : goal.returns-in-Some-clause-job
returns-in-Some-clause-job c =
    let words : List Text = map (λ w. w.now) c.args.words.now in
    let held = (c.in-Ok.ensures.matches (ap is_simple c.in_ok-command.ensures ∙ simple)).1 ∙ ap (λ (a : App). subcommand_of a words) c.in_ok-command.ensures in
    let none = sym (ap (λ (a : App). fault_of a words) c.in_ok-command.ensures) ∙ c.in-Ok.ensures.kinds (ap is_simple_and_free c.in_ok-command.ensures ∙ free) in
    let found = found_of c.in-Some.found.now in
    let check = sym held ∙ named_rows c.in-Ok.matches (codes "check") (rows_of found) (c.in-Some.ensures.found.0 refl) c.in-Some.ensures.rows in
    check_asked words (rows_of found) c.in-Ok-check_job.job none check c.in-Ok-check_job.ensures.job

pub returns-in-Some-subcommand_matches-clause-job : goal.returns-in-Some-subcommand_matches-clause-job
returns-in-Some-subcommand_matches-clause-job c =
    let words : List Text = map (λ w. w.now) c.args.words.now in
    let held = (c.in-Ok.ensures.matches (ap is_simple c.in_ok-command.ensures ∙ simple)).1 ∙ ap (λ (a : App). subcommand_of a words) c.in_ok-command.ensures in
    let none = sym (ap (λ (a : App). fault_of a words) c.in_ok-command.ensures) ∙ c.in-Ok.ensures.kinds (ap is_simple_and_free c.in_ok-command.ensures ∙ free) in
    let found = found_of c.in-Some-subcommand_matches.mending.now in
    let mend = sym held ∙ named_rows c.in-Ok.matches (codes "mend") (rows_of found) (c.in-Some-subcommand_matches.ensures.found.0 refl) c.in-Some-subcommand_matches.ensures.rows in
    mend_asked words (rows_of found) c.mend_job.result none mend c.mend_job.ensures

pub returns-in_default-run_job-clause-fault : goal.returns-in_default-run_job-clause-fault
returns-in_default-run_job-clause-fault c =
    let words : List Text = map (λ w. w.now) c.args.words.now in
    let held = (c.in-Ok.ensures.matches (ap is_simple c.in_ok-command.ensures ∙ simple)).1 ∙ ap (λ (a : App). subcommand_of a words) c.in_ok-command.ensures in
    let none = sym (ap (λ (a : App). fault_of a words) c.in_ok-command.ensures) ∙ c.in-Ok.ensures.kinds (ap is_simple_and_free c.in_ok-command.ensures ∙ free) in
    let found = found_of c.in-Some-subcommand_matches-2.found.now in
    let run = sym held ∙ named_rows c.in-Ok.matches (codes "run") (rows_of found) (c.in-Some-subcommand_matches-2.ensures.found.0 refl) c.in-Some-subcommand_matches-2.ensures.rows in
    absurd (true≢false (sym (c.in_default-run_job.ensures.ok (run_values words (rows_of found) none run))))

pub returns-in-Some-subcommand_matches-2-clause-job : goal.returns-in-Some-subcommand_matches-2-clause-job
returns-in-Some-subcommand_matches-2-clause-job c =
    let words : List Text = map (λ w. w.now) c.args.words.now in
    let held = (c.in-Ok.ensures.matches (ap is_simple c.in_ok-command.ensures ∙ simple)).1 ∙ ap (λ (a : App). subcommand_of a words) c.in_ok-command.ensures in
    let none = sym (ap (λ (a : App). fault_of a words) c.in_ok-command.ensures) ∙ c.in-Ok.ensures.kinds (ap is_simple_and_free c.in_ok-command.ensures ∙ free) in
    let found = found_of c.in-Some-subcommand_matches-2.found.now in
    let run = sym held ∙ named_rows c.in-Ok.matches (codes "run") (rows_of found) (c.in-Some-subcommand_matches-2.ensures.found.0 refl) c.in-Some-subcommand_matches-2.ensures.rows in
    run_asked words (rows_of found) c.in-Ok-run_job.job none run c.in-Ok-run_job.ensures.job

pub returns-in_default-spool_job-clause-fault : goal.returns-in_default-spool_job-clause-fault
returns-in_default-spool_job-clause-fault c =
    let words : List Text = map (λ w. w.now) c.args.words.now in
    let held = (c.in-Ok.ensures.matches (ap is_simple c.in_ok-command.ensures ∙ simple)).1 ∙ ap (λ (a : App). subcommand_of a words) c.in_ok-command.ensures in
    let none = sym (ap (λ (a : App). fault_of a words) c.in_ok-command.ensures) ∙ c.in-Ok.ensures.kinds (ap is_simple_and_free c.in_ok-command.ensures ∙ free) in
    let found = found_of c.in-Some-subcommand_matches-3.found.now in
    let spool = sym held ∙ named_rows c.in-Ok.matches (codes "spool") (rows_of found) (c.in-Some-subcommand_matches-3.ensures.found.0 refl) c.in-Some-subcommand_matches-3.ensures.rows in
    absurd (true≢false (sym (c.in_default-spool_job.ensures.ok (spool_values words (rows_of found) none spool))))

pub returns-in-Some-subcommand_matches-3-clause-job : goal.returns-in-Some-subcommand_matches-3-clause-job
returns-in-Some-subcommand_matches-3-clause-job c =
    let words : List Text = map (λ w. w.now) c.args.words.now in
    let held = (c.in-Ok.ensures.matches (ap is_simple c.in_ok-command.ensures ∙ simple)).1 ∙ ap (λ (a : App). subcommand_of a words) c.in_ok-command.ensures in
    let none = sym (ap (λ (a : App). fault_of a words) c.in_ok-command.ensures) ∙ c.in-Ok.ensures.kinds (ap is_simple_and_free c.in_ok-command.ensures ∙ free) in
    let found = found_of c.in-Some-subcommand_matches-3.found.now in
    let spool = sym held ∙ named_rows c.in-Ok.matches (codes "spool") (rows_of found) (c.in-Some-subcommand_matches-3.ensures.found.0 refl) c.in-Some-subcommand_matches-3.ensures.rows in
    spool_asked words (rows_of found) c.in-Ok-spool_job.job none spool c.in-Ok-spool_job.ensures.job

pub returns-in-Some-subcommand_matches-4-clause-job : goal.returns-in-Some-subcommand_matches-4-clause-job
returns-in-Some-subcommand_matches-4-clause-job c =
    let words : List Text = map (λ w. w.now) c.args.words.now in
    let held = (c.in-Ok.ensures.matches (ap is_simple c.in_ok-command.ensures ∙ simple)).1 ∙ ap (λ (a : App). subcommand_of a words) c.in_ok-command.ensures in
    let none = sym (ap (λ (a : App). fault_of a words) c.in_ok-command.ensures) ∙ c.in-Ok.ensures.kinds (ap is_simple_and_free c.in_ok-command.ensures ∙ free) in
    let found = found_of c.in-Some-subcommand_matches-4.drawing.now in
    let draw = sym held ∙ named_rows c.in-Ok.matches (codes "draw") (rows_of found) (c.in-Some-subcommand_matches-4.ensures.found.0 refl) c.in-Some-subcommand_matches-4.ensures.rows in
    draw_asked words (rows_of found) c.draw_job.result none draw c.draw_job.ensures

pub returns-in_default-subcommand_matches-5-clause-fault : goal.returns-in_default-subcommand_matches-5-clause-fault
returns-in_default-subcommand_matches-5-clause-fault c =
    let words : List Text = map (λ w. w.now) c.args.words.now in
    let held = (c.in-Ok.ensures.matches (ap is_simple c.in_ok-command.ensures ∙ simple)).1 ∙ ap (λ (a : App). subcommand_of a words) c.in_ok-command.ensures in
    let none = sym (ap (λ (a : App). fault_of a words) c.in_ok-command.ensures) ∙ c.in-Ok.ensures.kinds (ap is_simple_and_free c.in_ok-command.ensures ∙ free) in
    absurd (elim (taken words none) [
      | inl check ↦ true≢false (sym (c.in_default.ensures.found.1 (name_of_rows c.in-Ok.matches (codes "check") check.0 (held ∙ check.1))))
      | inr (inl draw) ↦ true≢false (sym (c.in_default-subcommand_matches-4.ensures.found.1 (name_of_rows c.in-Ok.matches (codes "draw") draw.0 (held ∙ draw.1))))
      | inr (inr (inl legs)) ↦ true≢false (sym (c.in_default-subcommand_matches-5.ensures.found.1 (name_of_rows c.in-Ok.matches (codes "legs") legs.0 (held ∙ legs.1))))
      | inr (inr (inr (inl mend))) ↦ true≢false (sym (c.in_default-subcommand_matches.ensures.found.1 (name_of_rows c.in-Ok.matches (codes "mend") mend.0 (held ∙ mend.1))))
      | inr (inr (inr (inr (inl run)))) ↦ true≢false (sym (c.in_default-subcommand_matches-2.ensures.found.1 (name_of_rows c.in-Ok.matches (codes "run") run.0 (held ∙ run.1))))
      | inr (inr (inr (inr (inr spool)))) ↦ true≢false (sym (c.in_default-subcommand_matches-3.ensures.found.1 (name_of_rows c.in-Ok.matches (codes "spool") spool.0 (held ∙ spool.1))))
    ])

pub returns-in_default-get_one-clause-fault : goal.returns-in_default-get_one-clause-fault
returns-in_default-get_one-clause-fault c =
    let words : List Text = map (λ w. w.now) c.args.words.now in
    let held = (c.in-Ok.ensures.matches (ap is_simple c.in_ok-command.ensures ∙ simple)).1 ∙ ap (λ (a : App). subcommand_of a words) c.in_ok-command.ensures in
    let none = sym (ap (λ (a : App). fault_of a words) c.in_ok-command.ensures) ∙ c.in-Ok.ensures.kinds (ap is_simple_and_free c.in_ok-command.ensures ∙ free) in
    let found = found_of c.in-Some-subcommand_matches-5.found.now in
    let legs = sym held ∙ named_rows c.in-Ok.matches (codes "legs") (rows_of found) (c.in-Some-subcommand_matches-5.ensures.found.0 refl) c.in-Some-subcommand_matches-5.ensures.rows in
    let at = legs_values words (rows_of found) none legs in
    let number = at.1 in
    absurd (no_number (λ bs r. ParsesUnsigned 64 10 bs r × ExplainsUnsignedError 10 bs r × HasUnsignedDigitsIfOk bs r) number.0 (λ t x h. h.0) number.2
    (subst (λ (n : ℕ). n < 2 ^ 64) number.3 at.4) (c.in_default-get_one.ensures.value number.0 (one_text-rows found at_option.name ∙ number.1)))

pub returns-clause-job : goal.returns-clause-job
returns-clause-job c =
    let words : List Text = map (λ w. w.now) c.args.words.now in
    let held = (c.in-Ok.ensures.matches (ap is_simple c.in_ok-command.ensures ∙ simple)).1 ∙ ap (λ (a : App). subcommand_of a words) c.in_ok-command.ensures in
    let none = sym (ap (λ (a : App). fault_of a words) c.in_ok-command.ensures) ∙ c.in-Ok.ensures.kinds (ap is_simple_and_free c.in_ok-command.ensures ∙ free) in
    let found = found_of c.in-Some-subcommand_matches-5.found.now in
    let legs = sym held ∙ named_rows c.in-Ok.matches (codes "legs") (rows_of found) (c.in-Some-subcommand_matches-5.ensures.found.0 refl) c.in-Some-subcommand_matches-5.ensures.rows in
    let number = (legs_values words (rows_of found) none legs).1 in (
      none,
      rows_of found,
      legs,
      number_of (λ bs r. ParsesUnsigned 64 10 bs r × ExplainsUnsignedError 10 bs r × HasUnsignedDigitsIfOk bs r) at_option.name (rows_of found) number.0 c.in-Some-get_one.at (λ t x h. h.0) number.1
          (c.in-Some-get_one.ensures.value number.0 (one_text-rows found at_option.name ∙ number.1)),
    )
