-- What byte layouts are written with, and the sizes of keys and packets.
pub mod Layout
pub mod Sizes
