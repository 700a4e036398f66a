pub mod Flat
pub mod Apart
pub mod ApartLaw
pub mod FlatLaw
