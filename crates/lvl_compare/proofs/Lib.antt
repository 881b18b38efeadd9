pub mod After
pub mod Finding
pub mod InStrips
pub mod InGroups
pub mod InWindows
pub mod InLists
pub mod InListed
