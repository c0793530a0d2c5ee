-- What holds of each of a list; the order of parts; lists of parts, and what is counted over them
pub mod EachOf
pub mod PartOrder
pub mod PartLists
pub mod Measures
pub mod Limits
-- What every list of calls keeps
pub mod Keeping
pub mod FineParts
pub mod Stepping
pub mod Taking
pub mod Entering
pub mod Runs
-- The law, and that a step has one outcome
pub mod Counts
pub mod Law
pub mod Answering
-- What the code needs: codes compared from the highest down
pub mod FromTheTop
pub mod PartsHeld
pub mod PlaceOf
pub mod Tallies
pub mod Refusals
pub mod TakenAt
pub mod Replacing
pub mod Pieces
