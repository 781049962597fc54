use Rattle.std.proofs.Common.{Option, Result, refl, subst, sym}
use Rattle.std.specs.Io.KnownBytes.{Appends}
use Rattle.mcv_http.specs.declared.request.Refusal.{Refusal}
use Rattle.mcv_http.specs.declared.request.Request.{Request}
use Rattle.mcv_admin.specs.Serving.{IsAnswerTo}
use Rattle.mcv_admin.proofs.Coming.{none_left}
use Rattle.mcv_admin.proofs.serve.respond.Goals as goal

pub returns-in_default : goal.returns-in_default
returns-in_default g c =
    let panel = c.args.panel.now in
    let written = g.O.Write.contents c.args.writer.now in
    subst (λ (known : Option (Result Request Refusal)). IsAnswerTo g.P.Panel.has_counted g.P.Panel.is_in g.P.Panel.drains panel panel written written known) (sym (none_left c.args.known c.in_default.not-Some)) (refl, refl)

pub returns : goal.returns
returns g c =
    let old = g.O.Write.contents c.args.writer.now in
    let new = g.O.Write.contents c.write.new.writer in
    subst (λ (known : Option (Result Request Refusal)). IsAnswerTo g.P.Panel.has_counted g.P.Panel.is_in g.P.Panel.drains c.args.panel.now c.answer.new.panel old new known) (sym c.in-Some.is)
    (c.in_ok-bytes.bytes.items, c.in_ok-bytes.ensures.replies, c.answer.ensures.asked, subst (Appends old new) c.as_slice.ensures.value c.in_ok-write.ensures)
