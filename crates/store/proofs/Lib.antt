-- Laws of the store, each file named after its subject: bytes moved; what the code tests; the pieces that stand there.
pub mod Moved
pub mod Ways
pub mod Tests
pub mod Turns
pub mod There
pub mod OneStore
pub mod GoodStore
pub mod Belonging
pub mod Added
pub mod Closed
pub mod Newest
pub mod Room
