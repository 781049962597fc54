use Rattle.std.proofs.Common.{◌≡◌, Some}
use Rattle.std.proofs.lemmas.Bool.{false≢true}
use Rattle.mcv_text.specs.Request.{request_value}
use Rattle.mcv_turn.specs.Answers.{word_at}
use Rattle.mcv_turn.proofs.Routed.{asked_at, is_for_asked, not_for_unrouted}
use Rattle.mcv_turn.proofs.keys.is_for.Goals as goal

pub returns-in-Ok : goal.returns-in-Ok
returns-in-Ok c =
    let r = c.args.routes.now in
    let request = request_value c.args.request.now in
    let t = c.args.taken.now in
    let op = c.in-Some.op in
    let word = c.in-Some.word.now in
    let route = c.in-Ok.routed.route in
    let rest = c.in-Ok.routed.rest in
    let e : word_at request c.args.key ≡ Some (op, word) = cc (c.in-Some.ensures, c.in-Some.op-is, c.in-Some.word-is) in (
      λ b. is_for_asked r request c.args.key t op word route rest e c.in-Ok.ensures.routed (c.has_asked.ensures.0 b),
      λ f. c.has_asked.ensures.1 (asked_at c.key_words_have_one_reading.ensures.one r request c.args.key t op word route rest e c.in-Ok.ensures.routed f),
    )

pub returns-in-Err : goal.returns-in-Err
returns-in-Err c =
    let r = c.args.routes.now in
    let request = request_value c.args.request.now in
    let t = c.args.taken.now in
    let op = c.in-Some.op in
    let word = c.in-Some.word.now in
    let e : word_at request c.args.key ≡ Some (op, word) = cc (c.in-Some.ensures, c.in-Some.op-is, c.in-Some.word-is) in (
      λ b. absurd (false≢true b),
      λ f. absurd (not_for_unrouted c.key_words_have_one_reading.ensures.one c.key_words_have_one_reading.ensures.no_rest r request c.args.key t op word c.in-Err.field-0 e c.in-Err.ensures.err f),
    )
