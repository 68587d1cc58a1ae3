pub mod Answers
pub mod Finding
pub mod Lines
pub mod Nas
pub mod PacketLines
pub mod UserForm
pub mod Users
pub mod Views
