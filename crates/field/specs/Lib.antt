-- What the field's contracts are written with.
pub mod Field
pub mod Element
pub mod Words
pub mod Sums
