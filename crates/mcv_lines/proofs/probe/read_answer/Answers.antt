use Rattle.mcv_lines.proofs.probe.read_answer.Goals as goal

-- the server answers
pub returns-in-Ok-Some-clause-reads : goal.returns-in-Ok-Some-clause-reads
returns-in-Ok-Some-clause-reads g c =
    (c.in-Bytes.count, c.in-Ok-Some.field-0-0, c.in-Bytes.ensures.gives.0, record { feeds = rw c.in-Ok-Some.field-0-is at c.in-Ok-Some.ensures; left = c.in-Bytes.ensures.gives.1 })
