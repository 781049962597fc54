use Rattle.std.proofs.Common.{nat_le, sym, rules}
use Rattle.std.proofs.lemmas.Fn.{filter_same}
use Rattle.mcv_turn.proofs.Receipts.{none_goes}
use Rattle.mcv_turn.proofs.kept.drop_older.Goals as goal

pub returns-then-chapter-oldest-clause-items : goal.returns-then-chapter-oldest-clause-items
returns-then-chapter-oldest-clause-items c = sym (none_goes c.args.chapter c.args.oldest c.args.receipts.now.items c.requires c.if-chapter-oldest.true)

pub returns-clause-items : goal.returns-clause-items
returns-clause-items c = filter_same _ (λ r. nat_le c.args.chapter r.chapter) _ (λ x b f' k. search rules) _ _ c.retain.ensures.filtered
