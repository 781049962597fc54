use Rattle.std.proofs.Common.{◌<◌, List, ℕ, length, map, not, nat_eq, ap, ◌∙◌, arith, rules}
use Rattle.std.proofs.lemmas.Iterator.Consumers.{YieldsList-from_filter, YieldsList-at, YieldsList-turn, YieldsList-end}
use Rattle.std.proofs.lemmas.Iterator.Splits.{YieldsList-from_slice_split}
use borrow.Author.Tests.{tests}
use Rattle.mcv_text.specs.Words.{is_space, words}
use Rattle.mcv_text.proofs.words.words_of.Goals as goal

-- the words before this one are fewer than the words of the line
pub push_reserved-requires : goal.push_reserved-requires
push_reserved-requires c =
    let turn = YieldsList-turn
    (YieldsList-at c.into_iter-word-iterator.ensures.into_iter_gives
    (YieldsList-from_filter _ (λ (word : List ℕ). not (nat_eq (length word) 0))
    (YieldsList-at c.filter-word-items.ensures.source
    (YieldsList-from_slice_split _ is_space c.args.line.now c.split.ensures.rest c.split.ensures.done c.split.ensures.closure (λ x b q k. search (rules, tests))))
    c.filter-word-items.ensures.closure (λ x b q k. search (rules, tests))))
    c.loop-word.yielded _ c.loop-word.yielded_by _ _ c.in-Some.word c.in-Some.is c.next.ensures.steps in
    let fewer : length c.loop-word.yielded < length (words c.args.line.now) = turn.0 in
    omega (arith, c.loop-word.invariant.room, c.loop-word.invariant.kept, fewer)

-- the loop has seen all of them
pub returns : goal.returns
returns c =
    let end = YieldsList-end
    (YieldsList-at c.into_iter-word-iterator.ensures.into_iter_gives
    (YieldsList-from_filter _ (λ (word : List ℕ). not (nat_eq (length word) 0))
    (YieldsList-at c.filter-word-items.ensures.source
    (YieldsList-from_slice_split _ is_space c.args.line.now c.split.ensures.rest c.split.ensures.done c.split.ensures.closure (λ x b q k. search (rules, tests))))
    c.filter-word-items.ensures.closure (λ x b q k. search (rules, tests))))
    c.loop-word.yielded _ c.loop-word.yielded_by _ _ c.in-None.is c.next.ensures.steps in
    ap (map (λ word. word.now)) c.loop-word.invariant.same ∙ end.0
