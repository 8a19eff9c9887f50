pub mod Ends
pub mod OneMonth
pub mod Logged
pub mod WriteLaws
pub mod MemberEnds
pub mod Drafted
