pub mod Hmac
pub mod Pieces
