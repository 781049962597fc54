use Rattle.mcv_mend.proofs.drafting.+push_changes.Given as goal

abbrev pub decreases-push_changes : goal.decreases-push_changes
decreases-push_changes l = l.level
