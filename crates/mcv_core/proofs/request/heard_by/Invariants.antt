use Rattle.std.proofs.Common.{◌≡◌, ◌++◌, drop, map}
use Rattle.mcv_asks.specs.Hits.{heard_of}
use Rattle.mcv_core.specs.Rows.{recorded_one}
use Rattle.mcv_core.proofs.request.heard_by.Given as goal

-- those so far, and those to come
abbrev pub invariant-loop-reply : goal.invariant-loop-reply
invariant-loop-reply l = map heard_of l.heard.items ++ map (recorded_one l.launches) (drop l.reply-index l.recorded) ≡ map (recorded_one l.launches) l.recorded
