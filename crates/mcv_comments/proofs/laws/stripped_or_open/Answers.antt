use Rattle.mcv_comments.proofs.StrippedOrOpen.{each_text}
use Rattle.mcv_comments.proofs.laws.stripped_or_open.Goals as goal

pub returns : goal.returns
returns c = λ text. each_text text
