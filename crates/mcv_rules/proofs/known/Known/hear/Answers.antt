use Rattle.std.proofs.Common.{rules, ◌≡◌, ◌+◌, ℕ, cond, true, false, Some, refl, ap, ap₂, ◌∙◌, add-one}
use Rattle.std.specs.Prelude.{is_some}
use Rattle.std.specs.Str.{bytes_eq}
use Rattle.mcv_base.specs.declared.reply.Outcome.{Outcome}
use Rattle.std.proofs.lemmas.Map.Text.{hash_map_updates_str}
use Rattle.mcv_rules.specs.Arrivals.{found_in}
use Rattle.mcv_rules.specs.declared.status.Source.TheVariants.{Outcome as placed}
use Rattle.mcv_rules.proofs.known.Known.hear.Goals as goal

-- a position that has an outcome keeps it
pub returns-then-contains_key-clause-found : goal.returns-then-contains_key-clause-found
returns-then-contains_key-clause-found c = λ p.
    let there : is_some (found_in c.args.self.now c.args.answered.now.position) ≡ true = search rules in
    rw there refl

pub returns-clause-found : goal.returns-clause-found
returns-clause-found c = λ p.
    let absent : is_some (found_in c.args.self.now c.args.answered.now.position) ≡ false = search rules in
    let put = hash_map_updates_str c.steps-position.result.now c.args.self.now.arrivals c.insert.new.self _ c.in_ok-insert.ensures.updates p in
    let it = λ (o : Outcome) (n : ℕ). Some (record { answer = Some (record { outcome = o; source = placed c.args.place }); came = n }) in
    rw absent
    (put
    ∙ ap (λ q. cond (bytes_eq q p) (it c.outcome.result (c.args.self.now.count + 1)) (found_in c.args.self.now p)) c.steps-position.ensures
    ∙ ap₂ (λ o n. cond (bytes_eq c.args.answered.now.position p) (it o n) (found_in c.args.self.now p)) c.outcome.ensures (add-one c.args.self.now.count))
