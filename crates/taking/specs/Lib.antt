-- Taking a piece (L8): what it answers and leaves, that it is taken well, demand 1, examples.
pub mod Taking
pub mod Inside
pub mod TakenWell
pub mod Demand1
pub mod Bench
