pub mod Matrix
pub mod Echelon
pub mod Kept
pub mod Splitting
pub mod FixedRows
pub mod Kinds
pub mod Calls
pub mod Sieve
-- A lemma that a fact of a type rests on: it has to stand here, and no clause cites it
pub mod Laws
