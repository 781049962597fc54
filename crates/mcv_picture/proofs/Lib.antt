mod RoutesInTurn
mod Verdicts
mod Marking
mod Reaching
