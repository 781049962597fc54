pub mod ClassMended
pub mod SameClasses
pub mod EachOperation
pub mod AskedWell
pub mod NeedMet
