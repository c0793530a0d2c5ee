-- The first bytes of a job: the count of its levels and the first of them.
-- Main statements: levels_refused, base_refused, gives_symbol, gives_prime.
use Rattle.std.proofs.Common.{◌≡◌, ℕ, ◌-◌, Bool, true, false, eqb, List, Ok, Err, Result, refl, ap, ◌∙◌, subst}
use Rattle.field.specs.Faults.{prime_refusal}
use Rattle.field.specs.Residues.{prime_field}
use Rattle.field.specs.Symbol.{symbol_field}
use Rattle.job.specs.declared.fault.JobFault.{JobFault}
use Rattle.job.specs.declared.reader.Base.{Base}
use Rattle.job.specs.declared.reader.Base.TheVariants.{Prime, Symbols}
use Rattle.job.specs.Reading.{Reading, prime, symbol, refused, byte, given, judged, levels_from, first_level, reading}
use Rattle.job.specs.Reader.{base_at}
use Rattle.job.specs.Outcome.{Outcome}
use Rattle.job.specs.Job.{AfterLevel, Climbs, Starts, Gives}
use Rattle.job.proofs.ReadingBytes.{carried, given_carried, judged_carried, judged_after, counted}

module _ (bytes : List ℕ) where
  pub levels_refused : (e : JobFault) → Err e ≡ judged Err bytes 0 1 3 (Ok (byte bytes 0)) → Gives bytes (Err e)
  levels_refused e h = subst (λ (x : Reading). Starts x (Err e)) (judged_after refused _ bytes 0 1 3 _ (Err e) h) refl

  module _ (n : ℕ) where
    -- what is read from the first level on
    abbrev from_base : Base → Reading
    from_base (Prime p) = prime 1 p (levels_from bytes 3 n)
    from_base Symbols = symbol (levels_from bytes 2 n)

    by_kind : (b : Bool) → carried refused from_base (elim b [ true ↦ given Err bytes 3 (Ok (Prime (byte bytes 2))) | false ↦ Ok Symbols ])
        ≡ elim b [ true ↦ given refused bytes 3 (prime 1 (byte bytes 2) (levels_from bytes 3 n)) | false ↦ symbol (levels_from bytes 2 n) ]
    by_kind true = given_carried refused from_base bytes (Ok (Prime (byte bytes 2))) 3
    by_kind false = refl

    first_after : (r : Result Base JobFault) → r ≡ base_at bytes 1 → carried refused from_base r ≡ judged refused bytes 1 1 2 (first_level bytes n)
    unfolding first_level
    first_after r e = ap (carried refused from_base) e ∙ judged_carried refused from_base bytes _ 1 1 2 ∙ ap (judged refused bytes 1 1 2) (by_kind (eqb (byte bytes 1) 1))

  module _ (n : ℕ) (levels : Ok n ≡ judged Err bytes 0 1 3 (Ok (byte bytes 0))) where
    begun : (r : Result Base JobFault) → r ≡ base_at bytes 1 → carried refused (from_base (n - 1)) r ≡ reading bytes
    begun r e =
        first_after (n - 1) r e ∙ ap (λ (x : ℕ). judged refused bytes 1 1 2 (first_level bytes (x - 1))) (counted bytes 0 1 3 n levels).0
        ∙ judged_after refused _ bytes 0 1 3 _ (Ok n) levels

    pub base_refused : (e : JobFault) → Err e ≡ base_at bytes 1 → Gives bytes (Err e)
    base_refused e h = subst (λ (x : Reading). Starts x (Err e)) (begun (Err e) h) refl

    pub gives_symbol : Ok Symbols ≡ base_at bytes 1 → (r : Result Outcome JobFault) → Climbs symbol_field (levels_from bytes 2 (n - 1)) r → Gives bytes r
    gives_symbol h r w = subst (λ (x : Reading). Starts x r) (begun (Ok Symbols) h) w

    pub gives_prime : (p : ℕ) → Ok (Prime p) ≡ base_at bytes 1 → (r : Result Outcome JobFault) → AfterLevel 1 (prime_refusal p) (Climbs (prime_field p) (levels_from bytes 3 (n - 1)) r) r → Gives bytes r
    gives_prime p h r w = subst (λ (x : Reading). Starts x r) (begun (Ok (Prime p)) h) w
