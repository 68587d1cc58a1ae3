pub mod TextEnds
