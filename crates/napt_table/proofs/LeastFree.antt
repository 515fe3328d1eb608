-- The least free number, by the first free places of even and of odd numbers.
use Rattle.std.proofs.Common.{◌≡◌, ℕ, ◌<◌, Bool, Option, Some, None, sym, ◌∙◌, arith}
use Rattle.napt_collections.specs.BitSets.{IsFirstAbsent}

-- Two tests that agree below the end have the same first absent number.
pub first_agrees : (p q : ℕ → Bool) (from end : ℕ) → ((n : ℕ) → n < end → p n ≡ q n) → (o : Option ℕ) →
    IsFirstAbsent p from end o → IsFirstAbsent q from end o
first_agrees p q from end agree None h = λ j le lt. sym (agree j lt) ∙ h j le lt
first_agrees p q from end agree (Some k) h = (
  h.0,
  h.1,
  sym (agree k h.1) ∙ h.2,
  λ j le lt. sym (agree j (omega (arith, h.1, lt))) ∙ h.3 j le lt,
)
