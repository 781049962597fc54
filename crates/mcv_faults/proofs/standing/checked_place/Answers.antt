use Rattle.std.proofs.Common.{◌-◌, arith}
use Rattle.mcv_faults.proofs.standing.checked_place.Goals as goal

pub returns-then-is_there : goal.returns-then-is_there
returns-then-is_there c =
    let read = c.in_ok-is_there.ensures c.if-is_there.true in
    let start = c.args.span.start in
    (start, c.args.span.end - start, omega arith, c.place_at.ensures.line, c.place_at.ensures.column, read.0, read.1, read.2)
