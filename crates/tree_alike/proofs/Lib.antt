pub mod SunUnread
pub mod TreesSun
