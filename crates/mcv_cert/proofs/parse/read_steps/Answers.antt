use Rattle.std.proofs.Common.{◌≡◌, ◌==◌, ◌∙◌, ◌+◌, ◌∷◌, [], ◌++◌, length, get_or, take, refl, ap, arith, rules}
use borrow.Author.Tests.{tests}
use Rattle.std.proofs.lemmas.List.{length_push}
use Rattle.std.proofs.lemmas.Iterator.Consumers.{YieldsList-at, YieldsList-turn, YieldsList-end}
use Rattle.std.proofs.lemmas.Iterator.Splits.{YieldsList-from_slice_split}
use Rattle.mcv_cert.proofs.Meant.{all_taken, more_taken, not_some, part_is, some_is}
use Rattle.mcv_cert.proofs.parse.read_steps.Goals as goal

pub returns-in_default : goal.returns-in_default
returns-in_default c = λ ns fits is.
    let turn = YieldsList-turn
    (YieldsList-at c.into_iter-part-iterator.ensures.into_iter_gives
    (YieldsList-from_slice_split _ (λ b. b == 46) c.args.word.now c.split-part-items.ensures.rest c.split-part-items.ensures.done c.split-part-items.ensures.closure (λ x b q k. search (rules, tests))))
    c.loop-part.yielded _ c.loop-part.yielded_by _ _ c.in-Some.part c.in-Some.is c.next.ensures.steps in
    let part = part_is _ ns (length c.loop-part.yielded) c.in-Some.part.now fits is turn.0 turn.1 in
    not_some c.read_number.result (get_or ns (length c.loop-part.yielded) 0) c.in_default.is (c.read_number.ensures (get_or ns (length c.loop-part.yielded) 0) part.1 part.2)

pub loop-part-preserved : goal.loop-part-preserved
loop-part-preserved c = record {
  can = search rules;
  finite = search rules;
  meant = λ ns fits is.
      let turn = YieldsList-turn
      (YieldsList-at c.into_iter-part-iterator.ensures.into_iter_gives
      (YieldsList-from_slice_split _ (λ b. b == 46) c.args.word.now c.split-part-items.ensures.rest c.split-part-items.ensures.done c.split-part-items.ensures.closure (λ x b q k. search (rules, tests))))
      c.loop-part.yielded _ c.loop-part.yielded_by _ _ c.in-Some.part c.in-Some.is c.next.ensures.steps in
      let k = length c.loop-part.yielded in
      let part = part_is _ ns k c.in-Some.part.now fits is turn.0 turn.1 in
      let step = some_is c.in-Some-read_number.step (get_or ns k 0) (c.in-Some-read_number.ensures (get_or ns k 0) part.1 part.2) in
      let one_more : k + 1 ≡ length (c.loop-part.yielded ++ c.in-Some.part ∷ []) = omega (arith, length_push c.loop-part.yielded c.in-Some.part) in
      c.in_ok-push.ensures.items ∙ more_taken ns c.loop-part.steps.items k c.in-Some-read_number.step 0 part.0 (c.loop-part.invariant.meant ns fits is) step ∙ ap (λ n. take n ns) one_more;
}

pub returns : goal.returns
returns c = λ ns fits is.
    let end = YieldsList-end
    (YieldsList-at c.into_iter-part-iterator.ensures.into_iter_gives
    (YieldsList-from_slice_split _ (λ b. b == 46) c.args.word.now c.split-part-items.ensures.rest c.split-part-items.ensures.done c.split-part-items.ensures.closure (λ x b q k. search (rules, tests))))
    c.loop-part.yielded _ c.loop-part.yielded_by _ _ c.in-None.is c.next.ensures.steps in
    (refl, all_taken ns c.loop-part.steps.items _ (length c.loop-part.yielded) (c.loop-part.invariant.meant ns fits is) end.1 is)
