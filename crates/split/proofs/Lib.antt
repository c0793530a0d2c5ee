-- Elimination in a scratch of codes: where rows lie, what a step leaves as it was, what it keeps true
pub mod Rows
pub mod Parts
pub mod Leads
pub mod Frames
pub mod Carrier
pub mod Independence
pub mod Steps
pub mod Filled
-- Fixed polynomials, and the four kinds of splitting: what each gives, and that there is one only
pub mod Fixed
pub mod Splittings
pub mod OneSplitting
-- What the search for a dependent row tells of fixed polynomials
pub mod Modulo
pub mod FixedByRows
pub mod WholeSplitting
-- Results in buffers, kind by kind
pub mod Buffers
pub mod RootKind
pub mod Residues
pub mod MatrixRows
pub mod Taking
pub mod Unrefused
pub mod Shifting
pub mod ExactDivision
pub mod SimpleKinds
pub mod Sieving
pub mod PowerFilling
pub mod Relations
pub mod SieveKinds
pub mod FoundRow
