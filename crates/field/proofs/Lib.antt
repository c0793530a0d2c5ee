-- Powers, factors and common divisors of polynomials over codes
pub mod Squaring
pub mod Factors
pub mod CommonDivisors
-- Rows of codes in memory, and sums of terms
pub mod Totals
pub mod Rows
pub mod Writing
pub mod RowPolynomials
pub mod Divisions
-- Inverses by powers, and the list of primes
pub mod PowerInverses
pub mod PrimeList
-- Quotients by a polynomial, extensions, the symbol field
pub mod Remainders
pub mod RowSteps
pub mod RowProducts
pub mod RowDigits
pub mod RowCodes
pub mod Extensions
pub mod Unsplittable
pub mod SymbolLaws
pub mod SymbolSums
pub mod AlphaPowers
pub mod TableEntries
