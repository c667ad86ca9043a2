-- Lists of workers.
pub mod List
-- What a queue's three numbers hold.
pub mod Digits
