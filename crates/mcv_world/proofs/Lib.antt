pub mod Numbers
pub mod CallsLegs
pub mod Replies
pub mod MovesKeepWorlds
pub mod DeletesAreKept
pub mod ForgetsSafely
pub mod WhatIsThereStays
pub mod Choices
mod Examples
