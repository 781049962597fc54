use Rattle.std.proofs.Common.{◌≤◌, List, sym, subst}
use Rattle.std.specs.List.{All}
use Rattle.mcv_hub.specs.declared.receipts.Receipt.{Receipt}
use Rattle.mcv_turn.proofs.Receipts.{all_current}
use Rattle.mcv_turn.proofs.kept.Kept.enter.Goals as goal

pub invariant_of-self : goal.invariant_of-self
invariant_of-self c =
    let P : List Receipt → Type 0 = λ xs. All (λ r. c.args.chapter ≤ r.chapter) xs in
    record { current = subst P (sym c.drop_older.ensures.items) (all_current c.args.chapter c.args.self.now.receipts.items) }
