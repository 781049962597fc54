use Rattle.std.proofs.Common.{◌≡◌, ◌+◌, ◌*◌, [], ◌∷◌, ◌∙◌, ap, arith}
use Rattle.std.proofs.lemmas.Result.{on_ok_weaker}
use Rattle.mcv_spool.specs.File.{marked, slots}
use Rattle.mcv_spool.specs.Version.{IsVersion}
use Rattle.mcv_spool.specs.Disk.{Torn, written}
use Rattle.mcv_spool.proofs.Marks.{inside, marked_version, one_written, set_closed}
use Rattle.mcv_spool.proofs.Moments.{after_change, started}
use Rattle.mcv_spool.proofs.Slots.{parts}
use Rattle.mcv_spool.proofs.write.write_done.Goals as goal

pub write_at-requires : goal.write_at-requires
write_at-requires g c = λ model.
    let file = g.D.Disk.seen c.args.disk.now in
    let closed = (c.requires.crash model file (g.met.D.Disk.read_may_stay model c.args.disk.now)).closed in
    let there = inside file c.args.seq closed (c.requires.there model) in
    omega (arith, there)

pub returns-clause-crash : goal.returns-clause-crash
returns-clause-crash g c = λ model f left.
    let file = g.D.Disk.seen c.args.disk.now in
    let from = (c.write_at.ensures.changes model).crash f left in
    marked_version (slots file) c.args.seq from.0 f (parts file).all (c.requires.there model) (c.requires.crash model from.0 from.1) from.2

pub returns-clause-any_moment : goal.returns-clause-any_moment
returns-clause-any_moment g c = λ model.
    let file = g.D.Disk.seen c.args.disk.now in
    let P = IsVersion (marked c.args.seq (slots file)) in
    after_change g.D.Disk.seen g.D.Disk.may_leave g.D.Disk.moment g.D.Disk.left_since (Torn (640 * c.args.seq + 1) 1) c.args.disk.now c.args.disk.now c.write_at.new.self P
    (started g.D.Disk.seen g.D.Disk.may_leave g.D.Disk.moment g.D.Disk.left_since c.args.disk.now P) (c.write_at.ensures.changes model)
    (λ f left.
    let from = (c.write_at.ensures.changes model).crash f left in
    marked_version (slots file) c.args.seq from.0 f (parts file).all (c.requires.there model) (c.requires.crash model from.0 from.1) from.2)

pub returns-clause-slots : goal.returns-clause-slots
returns-clause-slots g c = λ model.
    let file = g.D.Disk.seen c.args.disk.now in
    let closed = (c.requires.crash model file (g.met.D.Disk.read_may_stay model c.args.disk.now)).closed in
    let there = inside file c.args.seq closed (c.requires.there model) in
    let marks = (set_closed file c.args.seq 1 closed (c.requires.there model)).0 in
    on_ok_weaker c.write_at.result
    (λ (is : g.D.Disk.seen c.write_at.new.self ≡ written file (640 * c.args.seq + 1) (1 ∷ [])). ap slots (is ∙ one_written file (640 * c.args.seq + 1) 1 there) ∙ marks)
    (c.write_at.ensures.written model)
