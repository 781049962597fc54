use Rattle.std.proofs.Common.{◌∙◌, sym}
use Rattle.std.proofs.lemmas.Result.{IfOk-weaker}
use Rattle.mcv_mend.proofs.run.is_right.Goals as goal

pub is_mended-requires-clause-aliases : goal.is_mended-requires-clause-aliases
is_mended-requires-clause-aliases c = sym c.requires.also ∙ c.are_same_aliases.ensures c.if-not-are_same_aliases.false ∙ c.requires.aliases

pub returns-clause-covered : goal.returns-clause-covered
returns-clause-covered c = IfOk-weaker c.is_mended.result _ _ (λ fine is. λ _. c.in_ok-covered.ensures.covered c.if-not-covered.false) c.is_mended.ensures
