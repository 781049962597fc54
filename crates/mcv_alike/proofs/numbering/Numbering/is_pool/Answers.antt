use Rattle.std.proofs.Common.{subst, sym}
use Rattle.mcv_judge.specs.PairsInMemory.{numbers}
use Rattle.mcv_judge.proofs.Servers.{servers_counted}
use Rattle.mcv_alike.specs.Numbers.{IsOver}
use Rattle.mcv_alike.proofs.Numbers.{one_pool}
use Rattle.mcv_alike.proofs.numbering.Numbering.is_pool.Goals as goal

pub returns : goal.returns
returns c = λ r n numbered is.
    let olds = c.args.olds.now in
    one_pool r n c.args.old c.args.new (numbers olds) (numbers c.args.news.now) (c.is_symbol.ensures r n numbered c.if-not-is_symbol.false)
    (subst (IsOver r c.args.old) (sym (servers_counted olds)) (c.is_over.ensures r n numbered c.if-not-is_over.false)) (c.are_servers.ensures r n numbered is)
