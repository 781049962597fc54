use Rattle.std.proofs.Common.{sym, subst}
use Rattle.std.specs.Str.{IsUtf8}
use Rattle.mcv_core.proofs.OpenedCores.{server_utf8}
use Rattle.mcv_core.proofs.opening.server_of.Goals as goal

-- a server's text is ASCII
pub returns-in-Err : goal.returns-in-Err
returns-in-Err c = absurd (c.in-Err.ensures.cases.0 (subst IsUtf8 (sym c.as_bytes.ensures.value) (server_utf8 c.args.delete.now.server c.as_bytes.ensures.valid)))
