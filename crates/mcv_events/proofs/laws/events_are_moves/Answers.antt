use Rattle.mcv_events.proofs.EventsAreMoves
use Rattle.mcv_events.proofs.laws.events_are_moves.Goals as goal

pub returns-clause-began : goal.returns-clause-began
returns-clause-began c = EventsAreMoves.began_moves

pub returns-clause-answered : goal.returns-clause-answered
returns-clause-answered c = EventsAreMoves.answered_moves

pub returns-clause-spooled : goal.returns-clause-spooled
returns-clause-spooled c = EventsAreMoves.spooled_moves

pub returns-clause-refused : goal.returns-clause-refused
returns-clause-refused c = EventsAreMoves.refused_moves

pub returns-clause-performed : goal.returns-clause-performed
returns-clause-performed c = EventsAreMoves.performed_moves

pub returns-clause-era : goal.returns-clause-era
returns-clause-era c = EventsAreMoves.era_moves

pub returns-clause-taken : goal.returns-clause-taken
returns-clause-taken c = EventsAreMoves.taken_moves

pub returns-clause-no_moves : goal.returns-clause-no_moves
returns-clause-no_moves c = EventsAreMoves.states_are_no_moves

pub returns-clause-states : goal.returns-clause-states
returns-clause-states c = EventsAreMoves.states_keep_cores
