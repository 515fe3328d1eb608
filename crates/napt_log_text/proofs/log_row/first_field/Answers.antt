-- first_field: the first field of two or more ends at the first comma.
use Rattle.std.proofs.Common.{ℕ, ◌≡◌, ◌∙◌, ◌<◌, List, [], ◌∷◌, length, Option, Some, None, MatchOption, sym, ap, lit<, arith}
use Rattle.std.proofs.lemmas.List.{Sums.{fails_before_first}, Splits.{slice_split_first, slice_split_none}}
use Rattle.std.specs.List.{position_or_len, before_first, after_first}
use Rattle.std.specs.Prelude.{unwrap_or}
use Rattle.napt_log_text.specs.LogRows.{fields_in, is_comma}
use Rattle.napt_log_text.proofs.log_row.first_field.Goals as goal

abbrev head : List (List ℕ) → List ℕ
head [] = []
head (text ∷ texts) = text

abbrev tail : List (List ℕ) → List (List ℕ)
tail [] = []
tail (text ∷ texts) = texts

module _ (row field next : List ℕ) (others : List (List ℕ)) (is : fields_in row ≡ field ∷ next ∷ others) where
  alone : position_or_len is_comma row ≡ length row → ⊥
  alone at =
      let whole = slice_split_none is_comma row (λ k e m. fails_before_first is_comma row k e (omega (arith, at, m))) in
      omega (arith, ap length (sym whole ∙ is))

  cut : {A : Type 0} (v : A → List ℕ) (r : Option (A × A)) (d : A × A) →
      MatchOption r (position_or_len is_comma row ≡ length row) (λ x. (v x.0 ≡ before_first is_comma row)
      × (v x.1 ≡ after_first is_comma row) × (position_or_len is_comma row < length row)) →
      (v (unwrap_or r d).0 ≡ field) × (fields_in (v (unwrap_or r d).1) ≡ next ∷ others)
  cut v None d at = absurd (alone at)
  cut v (Some x) d (first, rest, within) =
      let both = sym (slice_split_first is_comma row 0 within) ∙ is in
      (first ∙ ap head both, ap fields_in rest ∙ ap tail both)

pub returns : goal.returns
returns c field next others is =
    let both = cut c.args.row.now field next others is (λ x. x.now) c.split_once.result _
    (c.split_once.ensures.byte (lit< tt) (λ w o found. found)) in
    (ap (λ x. x.0.now) c.unwrap_or.ensures ∙ both.0, ap (λ x. fields_in x.1.now) c.unwrap_or.ensures ∙ both.1)
