use Rattle.std.proofs.Common.{List, length, ◌++◌, map}
use Rattle.mcv_text.specs.Request.{ItemValue, item_value}
use Rattle.mcv_text.specs.Stream.{Awaits, Reads, followed}
use Rattle.mcv_text.specs.Reader.{awaits_of, IsKept}
use Rattle.mcv_text.proofs.reader.read.Given as goal

-- the items so far and those of what is left are those of the whole
abbrev pub invariant-loop-rest : goal.invariant-loop-rest
invariant-loop-rest l = record {
  kept : IsKept l.line.items l.state;
  so_far : (later : List ItemValue) (to : Awaits) → Reads (followed (awaits_of l.line.items l.state) l.rest) later to → Reads (followed (awaits_of l.fn.line.items l.fn.state) l.fn.piece) (map item_value l.items.items ++ later) to;
}

abbrev pub decreases-loop-rest : goal.decreases-loop-rest
decreases-loop-rest l = length l.rest
