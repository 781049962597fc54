pub mod Levels
pub mod Lists
pub mod NameSets
pub mod SoundPools
pub mod LaterPools
pub mod SoundRoutes
pub mod RoutingPrefixes
pub mod SoundAliases
pub mod SoundEntries
pub mod SoundConfigs
pub mod HandleRoom
pub mod LimitsOfFields
pub mod LimitsOfPools
pub mod LimitsOfRoutes
pub mod Limits
mod Examples
