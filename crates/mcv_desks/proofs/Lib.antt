pub mod KeysOfHubs
pub mod OneKeys
pub mod EightDesks
pub mod AskedAtHubs
pub mod MixedReplies
pub mod LimitedAnswers
pub mod MixedRequests
pub mod OpenDesks
