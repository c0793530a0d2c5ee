-- The bytes that are read
pub mod ReadingBytes
pub mod Beginning
-- Steps until no part is open, in one way
pub mod Settling
pub mod StepLoop
-- Records worked in their order
pub mod Working
-- Of every list of bytes there comes one answer, and a listing is the only splitting
pub mod OneOutcome
pub mod Promise
-- The text
pub mod Texts
pub mod TextExamples
