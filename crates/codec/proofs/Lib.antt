-- Laws of the layouts.
pub mod Layouts
