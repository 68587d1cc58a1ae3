pub mod Headers
pub mod ImageSizes
pub mod MessageImages
