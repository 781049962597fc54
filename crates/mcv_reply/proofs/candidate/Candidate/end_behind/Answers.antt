use Rattle.std.proofs.Common.{length, sym, ap, arith}
use Rattle.mcv_reply.proofs.Ending.{not_in_word, not_before_value}
use Rattle.mcv_reply.proofs.candidate.Candidate.end_behind.Goals as goal

pub returns-then-at-text : goal.returns-then-at-text
returns-then-at-text c = λ has key. not_in_word has key c.args.self c.args.at c.requires (omega (arith, ap length c.text.ensures))

pub returns-in-Value : goal.returns-in-Value
returns-in-Value c = λ has key. not_before_value has key c.args.self c.args.at c.requires (sym c.in-Value.ensures)
