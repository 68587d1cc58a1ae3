pub mod Dialling
pub mod Forms
pub mod Links
pub mod Sockets
pub mod Telling
