use Rattle.std.proofs.Common.{◌++◌, arith}
use Rattle.mcv_spool.specs.File.{slots}
use Rattle.mcv_spool.proofs.Histories.{found_kept, not_damaged, sound}
use Rattle.mcv_spool.proofs.history.what_was_reported_is_kept.Goals as goal

pub returns-clause-kept : goal.returns-clause-kept
returns-clause-kept g c = λ model reported w so_far.
    (sound g.D.Disk.seen g.D.Disk.may_leave g.D.Disk.moment g.D.Disk.left_since (g.met.D.Disk.read_may_stay model) (g.met.D.Disk.counts_now model) (g.met.D.Disk.only_now model) reported w so_far).crash

pub returns-clause-found : goal.returns-clause-found
returns-clause-found g c = λ model reported w records new so_far finds.
    let known = sound g.D.Disk.seen g.D.Disk.may_leave g.D.Disk.moment g.D.Disk.left_since (g.met.D.Disk.read_may_stay model) (g.met.D.Disk.counts_now model) (g.met.D.Disk.only_now model) reported w so_far in
    found_kept reported (g.D.Disk.seen w.disk) records (known.crash (g.D.Disk.seen w.disk) (g.met.D.Disk.read_may_stay model w.disk)) finds.reads

pub returns-clause-undamaged : goal.returns-clause-undamaged
returns-clause-undamaged g c = λ model reported w so_far file left.
    let known = sound g.D.Disk.seen g.D.Disk.may_leave g.D.Disk.moment g.D.Disk.left_since (g.met.D.Disk.read_may_stay model) (g.met.D.Disk.counts_now model) (g.met.D.Disk.only_now model) reported w so_far in
    let kept = known.crash file left in
    not_damaged 0 (slots file) (reported.found ++ reported.stored ++ kept.more) kept.records (omega (arith, kept.few))
