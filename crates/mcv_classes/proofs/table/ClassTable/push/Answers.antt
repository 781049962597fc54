use Rattle.std.proofs.Common.{arith, sym, subst}
use Rattle.mcv_classes.specs.Table.{IsLinked}
use Rattle.mcv_classes.proofs.Links.{below-last, grown-at}
use Rattle.mcv_classes.proofs.table.ClassTable.push.Goals as goal

pub longest_up_to-shorter-requires-clause-before : goal.longest_up_to-shorter-requires-clause-before
longest_up_to-shorter-requires-clause-before c =
    below-last c.args.self.now c.self.inside.words.items c.args.word.items c.as_slice-3.result.now c.len-last.result
    c.self.view_is c.self.invariant (omega (arith, c.len-last.ensures, c.self.inside.words.ok.0)) c.requires c.as_slice-3.ensures.value

-- the table with the new word, linked with the one that was found
linked : (c : goal.In_ok-push) → IsLinked c.push.new.self.items
linked c =
    subst IsLinked (sym c.in_ok-push.ensures.items)
    (grown-at c.args.self.now c.self.inside.words.items c.index.result.now (record { text = c.args.word; shorter = c.longest_up_to-shorter.result }) c.as_slice.result.now c.as_slice-2.result.now c.as_slice-3.result.now c.eq.result c.len-last.result
    c.self.view_is c.self.invariant (omega (arith, c.len-last.ensures, c.self.inside.words.ok.0)) c.requires c.index.ensures c.as_slice.ensures.value c.as_slice-2.ensures.value c.eq.ensures c.if-eq.false c.as_slice-3.ensures.value
    c.longest_up_to-shorter.ensures.inside c.longest_up_to-shorter.ensures.longest)

pub invariant_of-self-2 : goal.invariant_of-self-2
invariant_of-self-2 c = linked c

pub returns-clause-rising : goal.returns-clause-rising
returns-clause-rising c = (linked c).rising
