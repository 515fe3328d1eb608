-- A property of each class of ports holds of the class of a port.
use Rattle.std.proofs.{Common.{◌≡◌, ◌≢◌, ℕ, ◌%◌, ◌<◌, ◌==◌, Bool, true, false, cond, nat_lt, refl, arith}, lemmas.Bool.Decides.nat_tests}
use Rattle.napt_table.specs.{declared.candidate_class.CandidateClass.CandidateClass, Classes.port_class}

odd : (p : ℕ) → (p % 2 == 1) ≡ true → p % 2 ≡ 1
odd p e = grind (arith, nat_tests, e)

even : (p : ℕ) → (p % 2 == 1) ≡ false → p % 2 ≡ 0
even p e = let differs : p % 2 ≢ 1 = grind (arith, nat_tests, e) in
    let small : p % 2 < 2 = omega arith in
    omega (arith, differs, small)

abbrev low_class : Bool → CandidateClass
low_class v = cond v (record { least = 1; count = 512; step = 2 }) (record { least = 2; count = 511; step = 2 })

abbrev high_class : Bool → CandidateClass
high_class v =
    cond v (record { least = 1025; count = 32256; step = 2 }) (record { least = 1024; count = 32256; step = 2 })

pub by_class : (P : CandidateClass → Type 0) (p : ℕ) →
    (nat_lt p 1024 ≡ true → p % 2 ≡ 1 → P (record { least = 1; count = 512; step = 2 })) →
    (nat_lt p 1024 ≡ true → p % 2 ≡ 0 → P (record { least = 2; count = 511; step = 2 })) →
    (nat_lt p 1024 ≡ false → p % 2 ≡ 1 → P (record { least = 1025; count = 32256; step = 2 })) →
    (nat_lt p 1024 ≡ false → p % 2 ≡ 0 → P (record { least = 1024; count = 32256; step = 2 })) → P (port_class true p)
by_class P p low_odd low_even high_odd high_even =
    elim (nat_lt p 1024) as (λ v. nat_lt p 1024 ≡ v → P (cond v (low_class (p % 2 == 1)) (high_class (p % 2 == 1)))) [
      | true ↦ λ e. elim (p % 2 == 1) as (λ v. (p % 2 == 1) ≡ v → P (low_class v))
          [ true ↦ λ f. low_odd e (odd p f) | false ↦ λ f. low_even e (even p f) ] refl
      | false ↦ λ e. elim (p % 2 == 1) as (λ v. (p % 2 == 1) ≡ v → P (high_class v))
          [ true ↦ λ f. high_odd e (odd p f) | false ↦ λ f. high_even e (even p f) ] refl
    ] refl
