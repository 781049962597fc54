use Rattle.std.proofs.Common.{◌≡◌, ◌∙◌, option_map, sym, ap, subst}
use Rattle.std.proofs.lemmas.Result.{err_from_is_err_and}
use Rattle.mcv_legs.specs.Fault.{IsRunFault}
use Rattle.mcv_route.specs.NamedRoutes.{routes_named}
use Rattle.mcv_route.specs.Routes.{RoutesValue}
use Rattle.mcv_route.specs.View.{view}
use Rattle.mcv_legs.specs.Answer.{entry_for, shipped_choice, situation_at, text_of}
use Rattle.mcv_legs.proofs.AnswersOfTexts.{refused_so, text_is_answer, the_entry}
use Rattle.mcv_legs.proofs.legs.answer_text.Goals as goal

pub returns-in_err-routes-clause-fault : goal.returns-in_err-routes-clause-fault
returns-in_err-routes-clause-fault c =
    let asked = c.in-Some.asked in
    let gone = err_from_is_err_and c.from_residual.result c.from_residual.ensures.1 in
    rw (gone.1) (subst (IsRunFault c.args.input.now) (sym gone.2)
    (refused_so c.args.input.now asked.op asked.prefix asked.rest asked.configuration.now c.in-Some.ensures c.in_err-routes.field-0.0 c.in_err-routes.ensures.fault))

pub returns-clause-ok : goal.returns-clause-ok
returns-clause-ok c =
    let asked = c.in-Some.asked in
    let named = c.in_ok-routes.ensures.named in
    let found = the_entry (entry_for asked.prefix c.in_ok-routes.routes) (view c.in-Some-route_for.route.now) c.in-Some-route_for.ensures in
    let answer_is =
    text_is_answer c.in_ok-first_text.field-0.items c.servers.result.now c.in_ok-eval.eval c.in_ok-routes.routes found.0
    c.args.moment.0 asked.op asked.rest (view c.in-Some-route_for.route.now) (option_map (λ m. m.0) c.since-since.result) c.in_ok-choice.choice c.symbols.result.now c.hashed_part.result.now
    c.in_ok-first_text.ensures c.servers.ensures.value c.in_ok-eval.ensures found.2 c.since-since.ensures c.in_ok-choice.ensures.value c.symbols.ensures.value c.hashed_part.ensures in
    let config = named.0 in
    let is : c.in_ok-routes.routes ≡ routes_named config = named.2 in
    record {
      op = asked.op;
      prefix = asked.prefix;
      rest = asked.rest;
      configuration = asked.configuration.now;
      asks = c.in-Some.ensures;
      config = config;
      names = named.1;
      entry = found.0;
      selected = ap (entry_for asked.prefix) (sym is) ∙ found.1;
      is = answer_is ∙ ap (λ (r : RoutesValue). text_of r.servers found.0.tree (situation_at c.args.moment.0 r asked.op asked.rest) (shipped_choice r asked.rest)) is;
    }

pub returns-in_err-first_text-clause-fault : goal.returns-in_err-first_text-clause-fault
returns-in_err-first_text-clause-fault c =
    let gone = err_from_is_err_and c.from_residual-in_err-first_text.result c.from_residual-in_err-first_text.ensures.1 in
    rw (gone.1) (subst (IsRunFault c.args.input.now) (sym gone.2) tt)
