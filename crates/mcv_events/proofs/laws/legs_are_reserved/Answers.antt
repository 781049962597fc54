use Rattle.mcv_events.proofs.Reservations
use Rattle.mcv_events.proofs.laws.legs_are_reserved.Goals as goal

pub returns-clause-began : goal.returns-clause-began
returns-clause-began c = Reservations.beginning_reserves

pub returns-clause-recorded : goal.returns-clause-recorded
returns-clause-recorded c = Reservations.recording_spends

pub returns-clause-taken : goal.returns-clause-taken
returns-clause-taken c = Reservations.taking_reserves
