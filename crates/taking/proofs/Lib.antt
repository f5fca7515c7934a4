-- Laws, in the order in which they lean on one another.
pub mod OneTaking
pub mod Bench
pub mod Written
pub mod Found
pub mod Outcomes
pub mod Answers
pub mod Demand1
pub mod TakenWell
