use Rattle.std.proofs.Common.{◌∙◌, ◌∷◌, refl, sym, ap, map}
use Rattle.std.proofs.lemmas.Result.{IfOk-weaker}
use Rattle.mcv_text.specs.Request.{item_value, asked, request_value}
use Rattle.mcv_session.specs.Exchange.{by_version, by_quit, by_refusal, ends}
use Rattle.mcv_session.proofs.Turning.{own_taken}
use Rattle.mcv_session.proofs.machine.Machine.turn.Goals as goal

pub returns-in-Refused-clause-ok : goal.returns-in-Refused-clause-ok
returns-in-Refused-clause-ok c =
    let view = sym c.self.view_is in
    let is = ap item_value c.in-Refused.is in
    IfOk-weaker c.pass.result _ _
    (λ turn p. own_taken c.args.self.now _ (by_refusal c.in-Refused.refusal) _ _ turn _ (ap (λ m. m.waiting) view ∙ ap (map item_value) c.in-Some.ensures.items ∙ ap (λ i. i ∷ map item_value c.take_first.new.waiting.items) is) (sym (ap (λ m. m.reader) view)) (sym (ap (λ m. m.output) view)) (sym (ap (λ m. m.phase) view) ∙ c.requires.open) tt
    (c.ends-is_last.ensures ∙ ap ends is) (c.text.ensures) p)
    c.pass.ensures.ok

pub returns-in-Asked-Version-clause-ok : goal.returns-in-Asked-Version-clause-ok
returns-in-Asked-Version-clause-ok c =
    let view = sym c.self.view_is in
    let is = ap item_value c.in-Asked-Version.is ∙ ap (λ r. asked (request_value r)) c.in-Asked-Version.field-0-is in
    IfOk-weaker c.pass-in-Asked-Version.result _ _
    (λ turn p. own_taken c.args.self.now _ by_version _ _ turn _ (ap (λ m. m.waiting) view ∙ ap (map item_value) c.in-Some.ensures.items ∙ ap (λ i. i ∷ map item_value c.take_first.new.waiting.items) is) (sym (ap (λ m. m.reader) view)) (sym (ap (λ m. m.output) view)) (sym (ap (λ m. m.phase) view) ∙ c.requires.open) tt
    (c.ends-is_last.ensures ∙ ap ends is) (refl) p)
    c.pass-in-Asked-Version.ensures.ok

pub returns-in-Asked-Quit-clause-ok : goal.returns-in-Asked-Quit-clause-ok
returns-in-Asked-Quit-clause-ok c =
    let view = sym c.self.view_is in
    let is = ap item_value c.in-Asked-Quit.is ∙ ap (λ r. asked (request_value r)) c.in-Asked-Quit.field-0-is in
    IfOk-weaker c.pass-in-Asked-Quit.result _ _
    (λ turn p. own_taken c.args.self.now _ by_quit _ _ turn _ (ap (λ m. m.waiting) view ∙ ap (map item_value) c.in-Some.ensures.items ∙ ap (λ i. i ∷ map item_value c.take_first.new.waiting.items) is) (sym (ap (λ m. m.reader) view)) (sym (ap (λ m. m.output) view)) (sym (ap (λ m. m.phase) view) ∙ c.requires.open) tt
    (c.ends-is_last.ensures ∙ ap ends is) (refl) p)
    c.pass-in-Asked-Quit.ensures.ok
