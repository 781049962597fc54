use Rattle.std.proofs.Common.{◌∙◌}
use Rattle.mcv_spool.specs.File.{slots}
use Rattle.mcv_spool.specs.Version.{IsBeforeOrAfter}
use Rattle.mcv_spool.proofs.Appends.{both_written, first_fits, first_write, second_fits, second_write}
use Rattle.mcv_spool.proofs.Moments.{after_run, weaker}
use Rattle.mcv_spool.proofs.write.write_record.Goals as goal

pub write_through-requires : goal.write_through-requires
write_through-requires g c = λ model.
    let closed = (c.requires.crash model (g.D.Disk.seen c.args.disk.now) (g.met.D.Disk.read_may_stay model c.args.disk.now)).closed in
    first_fits (g.D.Disk.seen c.args.disk.now) closed c.args.delete.now c.spelled-bytes.ensures.size c.as_slice.result.now (c.as_slice.ensures.value ∙ c.spelled-bytes.ensures.bytes) c.args.end (c.requires.end model)

pub returns-in_err-write_through-clause-any_moment : goal.returns-in_err-write_through-clause-any_moment
returns-in_err-write_through-clause-any_moment g c = λ model.
    let file = g.D.Disk.seen c.args.disk.now in
    let closed = (c.requires.crash model file (g.met.D.Disk.read_may_stay model c.args.disk.now)).closed in
    let bytes_are = c.as_slice.ensures.value ∙ c.spelled-bytes.ensures.bytes in
    weaker g.D.Disk.seen g.D.Disk.may_leave g.D.Disk.moment g.D.Disk.left_since c.args.disk.now c.write_through.new.disk _ (IsBeforeOrAfter (slots file) c.args.delete.now) (c.write_through.ensures.any_moment model)
    (first_write file closed c.args.delete.now c.spelled-bytes.ensures.size c.as_slice.result.now bytes_are c.args.end (c.requires.end model) (g.D.Disk.may_leave c.args.disk.now) (c.requires.crash model))

pub write_through-requires-2 : goal.write_through-requires-2
write_through-requires-2 g c = λ model.
    let file = g.D.Disk.seen c.args.disk.now in
    let closed = (c.requires.crash model file (g.met.D.Disk.read_may_stay model c.args.disk.now)).closed in
    let bytes_are = c.as_slice.ensures.value ∙ c.spelled-bytes.ensures.bytes in
    second_fits file closed c.args.delete.now c.spelled-bytes.ensures.size c.as_slice.result.now bytes_are c.args.end (c.requires.end model) (g.D.Disk.seen c.write_through.new.disk) (c.in_ok-write_through.ensures.written model)

pub returns-in_err-write_through-2-clause-any_moment : goal.returns-in_err-write_through-2-clause-any_moment
returns-in_err-write_through-2-clause-any_moment g c = λ model.
    let file = g.D.Disk.seen c.args.disk.now in
    let closed = (c.requires.crash model file (g.met.D.Disk.read_may_stay model c.args.disk.now)).closed in
    let bytes_are = c.as_slice.ensures.value ∙ c.spelled-bytes.ensures.bytes in
    let P = IsBeforeOrAfter (slots file) c.args.delete.now in
    let mid = c.write_through.new.disk in
    let first = weaker g.D.Disk.seen g.D.Disk.may_leave g.D.Disk.moment g.D.Disk.left_since c.args.disk.now mid _ P (c.write_through.ensures.any_moment model)
    (first_write file closed c.args.delete.now c.spelled-bytes.ensures.size c.as_slice.result.now bytes_are c.args.end (c.requires.end model) (g.D.Disk.may_leave c.args.disk.now) (c.requires.crash model)) in
    after_run g.D.Disk.seen g.D.Disk.may_leave g.D.Disk.moment g.D.Disk.left_since c.args.disk.now mid c.write_through-2.new.disk P _ first (c.write_through-2.ensures.any_moment model)
    (second_write file closed c.args.delete.now c.spelled-bytes.ensures.size c.as_slice.result.now bytes_are c.args.end (c.requires.end model) (g.D.Disk.seen mid) (c.in_ok-write_through.ensures.written model) (g.D.Disk.may_leave mid) (c.in_ok-write_through.ensures.durable model))

pub returns-clause-any_moment : goal.returns-clause-any_moment
returns-clause-any_moment g c = λ model.
    let file = g.D.Disk.seen c.args.disk.now in
    let closed = (c.requires.crash model file (g.met.D.Disk.read_may_stay model c.args.disk.now)).closed in
    let bytes_are = c.as_slice.ensures.value ∙ c.spelled-bytes.ensures.bytes in
    let P = IsBeforeOrAfter (slots file) c.args.delete.now in
    let mid = c.write_through.new.disk in
    let first = weaker g.D.Disk.seen g.D.Disk.may_leave g.D.Disk.moment g.D.Disk.left_since c.args.disk.now mid _ P (c.write_through.ensures.any_moment model)
    (first_write file closed c.args.delete.now c.spelled-bytes.ensures.size c.as_slice.result.now bytes_are c.args.end (c.requires.end model) (g.D.Disk.may_leave c.args.disk.now) (c.requires.crash model)) in
    after_run g.D.Disk.seen g.D.Disk.may_leave g.D.Disk.moment g.D.Disk.left_since c.args.disk.now mid c.write_through-2.new.disk P _ first (c.write_through-2.ensures.any_moment model)
    (second_write file closed c.args.delete.now c.spelled-bytes.ensures.size c.as_slice.result.now bytes_are c.args.end (c.requires.end model) (g.D.Disk.seen mid) (c.in_ok-write_through.ensures.written model) (g.D.Disk.may_leave mid) (c.in_ok-write_through.ensures.durable model))

pub returns-clause-slots : goal.returns-clause-slots
returns-clause-slots g c = λ model.
    let file = g.D.Disk.seen c.args.disk.now in
    let closed = (c.requires.crash model file (g.met.D.Disk.read_may_stay model c.args.disk.now)).closed in
    let bytes_are = c.as_slice.ensures.value ∙ c.spelled-bytes.ensures.bytes in
    (both_written file closed c.args.delete.now c.spelled-bytes.ensures.size c.as_slice.result.now bytes_are c.args.end (c.requires.end model) (g.D.Disk.seen c.write_through.new.disk) (c.in_ok-write_through.ensures.written model) (g.D.Disk.seen c.write_through-2.new.disk) (c.in_ok-write_through-2.ensures.written model)).0

pub returns-clause-closed : goal.returns-clause-closed
returns-clause-closed g c = λ model.
    let file = g.D.Disk.seen c.args.disk.now in
    let closed = (c.requires.crash model file (g.met.D.Disk.read_may_stay model c.args.disk.now)).closed in
    let bytes_are = c.as_slice.ensures.value ∙ c.spelled-bytes.ensures.bytes in
    (both_written file closed c.args.delete.now c.spelled-bytes.ensures.size c.as_slice.result.now bytes_are c.args.end (c.requires.end model) (g.D.Disk.seen c.write_through.new.disk) (c.in_ok-write_through.ensures.written model) (g.D.Disk.seen c.write_through-2.new.disk) (c.in_ok-write_through-2.ensures.written model)).1
