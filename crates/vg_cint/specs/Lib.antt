pub mod Tests
pub mod Types
pub mod Values
pub mod Operators
pub mod Expressions
pub mod Formulas
