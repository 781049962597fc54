use Rattle.std.proofs.Common.{sym, subst, List, ℕ, []}
use Rattle.std.proofs.lemmas.List.{append-nil}
use Rattle.mcv_reply.specs.Reply.{Spells}
use Rattle.mcv_reply.proofs.Words.{key_clean}
use Rattle.mcv_reply.proofs.Spelling.{replies_one}
use Rattle.mcv_reply.proofs.laws.one_reply.Goals as goal

pub returns-clause-one : goal.returns-clause-one
returns-clause-one c = λ op key bytes reply other is x y. (replies_one op key (key_clean key is) bytes [] reply other x (subst (λ (t : List ℕ). Spells op key t other) (sym (append-nil bytes)) y)).1

pub returns-clause-no_front : goal.returns-clause-no_front
returns-clause-no_front c = λ op key bytes more reply other is x y. (replies_one op key (key_clean key is) bytes more reply other x y).0
