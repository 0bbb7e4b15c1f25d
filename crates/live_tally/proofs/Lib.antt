pub mod Picking
pub mod Opening
pub mod Totals
pub mod Owing
