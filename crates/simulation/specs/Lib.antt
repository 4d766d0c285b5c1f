pub mod Grammar
pub mod Replies
