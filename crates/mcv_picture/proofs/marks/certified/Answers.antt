use Rattle.std.proofs.Common.{map}
use Rattle.mcv_cert.specs.Pair.{pair_of}
use Rattle.mcv_draw.specs.Marks.{marks_of}
use Rattle.mcv_picture.proofs.Marking.{marked_by}
use Rattle.mcv_picture.proofs.marks.certified.Goals as goal

pub returns : goal.returns
returns c =
    marked_by (marks_of c.unshown.result) c.args.certificate.now c.args.number (map pair_of c.pairs-pairs.result.now) c.in_ok-deletes.deletes.items c.in_ok-readable.readable.items
    c.unshown.ensures c.in_ok-deletes.ensures c.in_ok-readable.ensures c.pairs-pairs.ensures.value
