pub mod Dynamic
pub mod Running
