pub mod LastWrites
