use Rattle.mcv_mend.proofs.drafting.+shared_child.Given as goal

abbrev pub decreases-shared_child : goal.decreases-shared_child
decreases-shared_child l = l.level
