use Rattle.std.proofs.Common.{◌≡◌, ◌<◌, ◌+◌, ◌^◌, ◌++◌, drop, take}
use Rattle.mcv_witness.specs.Finding.{outcomes_of}
use Rattle.mcv_witness.specs.Walk.{behind, front}
use Rattle.mcv_witness.proofs.known.lead.Given as goal

-- all so far are in front
abbrev pub invariant-loop-place : goal.invariant-loop-place
invariant-loop-place l = record {
  front : front l.depth l.number (outcomes_of l.legs) ≡ outcomes_of (take l.place l.legs) ++ front l.depth l.number (outcomes_of (drop l.place l.legs));
  behind : behind l.depth l.number (outcomes_of l.legs) ≡ behind l.depth l.number (outcomes_of (drop l.place l.legs));
  room : 0 < l.place → l.depth + 1 < 2 ^ 64;
}
