pub mod Asking
pub mod FourWalk
pub mod Listed
pub mod Numbers
