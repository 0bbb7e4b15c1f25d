pub mod Exit
pub mod Form
