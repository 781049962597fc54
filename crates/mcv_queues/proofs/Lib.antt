pub mod Places
pub mod LinkChanges
pub mod MeldsAreForests
pub mod RootIsLeast
pub mod RemovedNumbers
pub mod RootsAreSet
pub mod GroupsAreHeaps
pub mod EnteredNumbers
pub mod SeenRows
pub mod LegsInFlight
pub mod WaitingLegs
pub mod QueuesStaySound
pub mod UnseenChanges
mod Examples
