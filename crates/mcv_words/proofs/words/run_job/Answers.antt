use Rattle.std.proofs.Common.{◌≡◌, ◌∙◌, None, Option, codes, subst, sym}
use Rattle.std.specs.Prelude.{IsSome}
use Rattle.clap.specs.Words.{Text, first_of, found_of, rows_of}
use Rattle.clap.proofs.WalkLemmas.{first_value-rows}
use Rattle.mcv_words.proofs.words.run_job.Goals as goal

pub returns-in_default-clause-ok : goal.returns-in_default-clause-ok
returns-in_default-clause-ok c can =
    let found = found_of c.args.found.now in
    let none : None ≡ first_of (codes "listen") (rows_of found) = c.in_default.ensures ∙ first_value-rows found (codes "listen") in
    subst (λ (o : Option Text). IsSome o) (sym none) can.listen

pub returns-in_default-get_str-clause-ok : goal.returns-in_default-get_str-clause-ok
returns-in_default-get_str-clause-ok c can =
    let found = found_of c.args.found.now in
    let none : None ≡ first_of (codes "spool") (rows_of found) = c.in_default-get_str.ensures ∙ first_value-rows found (codes "spool") in
    subst (λ (o : Option Text). IsSome o) (sym none) can.spool

pub returns-clause-job : goal.returns-clause-job
returns-clause-job c =
    let found = found_of c.args.found.now in
    record {
      listen = sym (c.in-Some.ensures ∙ first_value-rows found (codes "listen"));
      spool = sym (c.in-Some-get_str.ensures ∙ first_value-rows found (codes "spool"));
      admin = c.get_str-admin.ensures ∙ first_value-rows found (codes "admin");
      settings = record {
        sessions = c.in_ok-sessions.ensures.number;
        hubs = rw c.in-Some-2.is at c.in_ok-hubs.ensures.number;
        window = rw c.in-Some-3.is at c.in_ok-window.ensures.number;
        server_timeout = c.in_ok-server_timeout.ensures.number;
        client_timeout = c.in_ok-client_timeout.ensures.number;
        max_clients = c.in_ok-max_clients.ensures.number;
        answer_bytes = rw c.in-Some-4.is at c.in_ok-answer_bytes.ensures.number;
      };
    }
