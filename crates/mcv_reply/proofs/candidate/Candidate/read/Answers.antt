use Rattle.std.proofs.Common.{arith, refl}
use Rattle.mcv_reply.proofs.Reading.{reads_more, reads_wrong, reads_all}
use Rattle.mcv_reply.proofs.candidate.Candidate.read.Goals as goal

pub loop-byte-init : goal.loop-byte-init
loop-byte-init c = record { on = λ head more o. o; back = λ head more o. o; first = refl; valid = c.requires.valid }

pub step-requires-clause-valid : goal.step-requires-clause-valid
step-requires-clause-valid c = c.loop-byte.invariant.valid

pub returns-in_err-candidate : goal.returns-in_err-candidate
returns-in_err-candidate c = rw c.from_residual.ensures (reads_wrong c.args.cas c.args.key.now c.args.self c.args.bytes.now c.loop-byte.byte-index c.loop-byte.candidate c.loop-byte.invariant (omega arith) c.in_err-candidate.ensures)

pub loop-byte-preserved : goal.loop-byte-preserved
loop-byte-preserved c = reads_more c.args.cas c.args.key.now c.args.self c.args.bytes.now c.loop-byte.byte-index c.loop-byte.candidate c.loop-byte.invariant c.in_ok-candidate.candidate (omega arith) c.in_ok-candidate.ensures

pub returns : goal.returns
returns c = reads_all c.args.cas c.args.key.now c.args.self c.args.bytes.now c.loop-byte.byte-index c.loop-byte.candidate c.loop-byte.invariant (omega arith)
