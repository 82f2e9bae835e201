pub mod Parts
pub mod Log
pub mod Statement
pub mod Answer
