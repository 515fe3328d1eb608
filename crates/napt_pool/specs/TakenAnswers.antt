-- The answers that one call takes.
use Rattle.std.specs.Prelude.{◌≡◌, ◌⊎◌, List, [], ◌∷◌, Option, None, Some}
use Rattle.napt_pool.specs.declared.taken_answers.TakenAnswers.{TakenAnswers, TheVariants.{One, All}}

module _ {I A : Type 0} where
  abbrev pub answers_in : TakenAnswers I A → List A
  answers_in (One x) = x ∷ []
  answers_in (All b) = b.answers.items

  abbrev pub answers_if : Option (TakenAnswers I A) → List A
  answers_if None = []
  answers_if (Some t) = answers_in t

  -- A call that returns a stored answer removes it. With any other result, no answer is stored before or after it.
  abbrev pub LeavesAtHand : Option (TakenAnswers I A) → List A → List A → Type 0
  LeavesAtHand (Some (One x)) old new = (old ≡ x ∷ new) ⊎ ((old ≡ []) × (new ≡ []))
  LeavesAtHand _ old new = (old ≡ []) × (new ≡ [])
