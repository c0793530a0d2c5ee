-- Rings: laws, a solver for equations, divisors, powers, lists
pub mod Laws
pub mod Solver
pub mod Lists
pub mod Divides
pub mod Powers
-- Polynomials over any ring with decided equality
pub mod Seq
pub mod Bounds
pub mod Division
pub mod Poly
pub mod Terms
pub mod Value
pub mod Combination
pub mod Low
pub mod Remainder
-- Polynomials over a field: degrees, common divisors, unique factorisation, the derivative
pub mod Size
pub mod Gcd
pub mod Monic
pub mod Irreducible
pub mod Derivative
pub mod Linear
pub mod Independence
pub mod Echelon
-- Characteristic p, finite fields, Berlekamp's method
pub mod Characteristic
pub mod Frobenius
pub mod Finite
pub mod Root
pub mod Berlekamp
pub mod FixedSpace
pub mod Cases
pub mod Factorisation
-- Quotients by a polynomial
pub mod Quotient
pub mod Sieve
