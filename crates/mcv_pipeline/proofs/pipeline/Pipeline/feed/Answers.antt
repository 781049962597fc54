use Rattle.std.proofs.Common.{◌≡◌, ◌∙◌, ◌++◌, List, true, length, map, sym, ap, subst, arith}
use Rattle.std.proofs.lemmas.List.{length-map}
use Rattle.mcv_base.specs.declared.reply.Reply.{Reply}
use Rattle.mcv_base.specs.Reply.{reply_value}
use Rattle.mcv_pipeline.specs.declared.landed.Landed.{Landed}
use Rattle.mcv_pipeline.specs.Pipeline.{Lands, PipelineValue}
use Rattle.mcv_reply.specs.Replies.{is_open}
use Rattle.mcv_pipeline.proofs.Landing.{lands_all}
use Rattle.mcv_pipeline.proofs.Numbers.{numbers_few, numbers_left}
use Rattle.mcv_pipeline.proofs.pipeline.Pipeline.feed.Goals as goal

pub land-requires-clause-legs : goal.land-requires-clause-legs
land-requires-clause-legs c =
    let f = c.feed-outcome.ensures in
    let now : is_open c.self.inside.replies ≡ true = sym c.is_open.ensures ∙ c.if-not-is_open.false in
    let few = numbers_few c.self.inside.replies c.self.inside.legs.items c.args.piece.now (map reply_value f.0) c.feed-outcome.result c.feed-outcome.new.self now c.self.invariant f.2 in
    let given = length-map f.0 reply_value in
    let same = ap length (f.1 ∙ ap (λ (t : List Reply). t ++ f.0) c.new-replies.ensures.items) in
    omega (arith, few, given, same)

pub invariant_of-self-2 : goal.invariant_of-self-2
invariant_of-self-2 c =
    let f = c.feed-outcome.ensures in
    let old = c.self.inside.replies in
    let new = c.feed-outcome.new.self in
    let piece = c.args.piece.now in
    let same = f.1 ∙ ap (λ (t : List Reply). t ++ f.0) c.new-replies.ensures.items in
    let l = lands_all _ _ old new piece f.0 _ _ _ c.feed-outcome.result same f.2 c.land.ensures in
    numbers_left old new c.self.inside.legs.items c.land.new.legs.items piece l.0 c.feed-outcome.result c.self.invariant l.2.receives l.2.legs

pub returns : goal.returns
returns c =
    let f = c.feed-outcome.ensures in
    let new = c.feed-outcome.new.self in
    let piece = c.args.piece.now in
    let same = f.1 ∙ ap (λ (t : List Reply). t ++ f.0) c.new-replies.ensures.items in
    let l = lands_all _ _ c.self.inside.replies new piece f.0 _ _ _ c.feed-outcome.result same f.2 c.land.ensures in
    let lands = subst (λ (v : PipelineValue). Lands v piece l.0 c.feed-outcome.result (record { legs = c.land.new.legs.items; connection = new })) c.self.view_is l.2 in
    (l.0, l.1 ∙ ap (λ (t : List Landed). t ++ l.0) c.reserve.ensures.items, lands)
