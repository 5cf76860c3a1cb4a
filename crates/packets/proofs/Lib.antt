-- Demand 3 and demand 2 about keys and packets.
pub mod Opening
pub mod Products
pub mod Delivery
pub mod Canonical
pub mod Keys
