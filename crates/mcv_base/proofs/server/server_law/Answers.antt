use Rattle.mcv_base.proofs.Colon.{server_has_parts, parts_make_server}
use Rattle.mcv_base.proofs.server.server_law.Goals as goal

pub returns : goal.returns
returns c = λ text. (server_has_parts text, parts_make_server text)
