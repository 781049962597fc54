use Rattle.mcv_command.proofs.program.mend.Goals as goal

pub returns-then-patch-clause-done : goal.returns-then-patch-clause-done
returns-then-patch-clause-done g c = rw c.if-patch.true c.write_patch.ensures.done

pub returns-else-patch-clause-done : goal.returns-else-patch-clause-done
returns-else-patch-clause-done g c = rw c.if-patch.false c.write_mended.ensures.done
