use Rattle.std.proofs.Common.{◌≡◌, ◌+◌, ◌*◌, ◌^◌, ◌≤◌, take}
use Rattle.mcv_base.specs.Server.{number}
use Rattle.mcv_http.proofs.request.number.Given as goal

abbrev pub invariant-loop-digit : goal.invariant-loop-digit
invariant-loop-digit l = record { counted : l.n ≡ number (take l.digit-index l.digits); small : l.n + 23 ≤ 23 * 10 ^ l.digit-index }
