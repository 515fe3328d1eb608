-- The last row of a text.
use Rattle.std.proofs.Common.{◌≡◌, ◌≢◌, ◌∙◌, ℕ, ◌+◌, ◌<◌, ◌≤◌, Bool, true, false, List, [], ◌∷◌, ◌++◌, length, get_or, take, drop, Option, Some, None, All, ap, refl, subst, sym, arith, length-drop, take-append-drop}
use Rattle.std.specs.{Prelude.unwrap_or, List.{last_or, onto_first, slice_split}}
use Rattle.std.proofs.lemmas.{Bool.ne_eqb, List.{drop_more, get_or-drop}, List.Elements.All-from_get_or, List.Splits.{slice_split-cons_no, slice_split-cons_yes, slice_split_none}}
use Rattle.napt_program.specs.LogFiles.{is_line_feed, last_row}

abbrev pub IsOfRow : ℕ → Type 0
IsOfRow byte = is_line_feed byte ≡ false

-- These parts end with one, and have another before it.
abbrev pub EndWith : List ℕ → List (List ℕ) → Type 0
EndWith part all = (first : List ℕ) × (parts : List (List ℕ)) × (all ≡ first ∷ (parts ++ part ∷ []))

last_pushed : (before : Option (List ℕ)) (parts : List (List ℕ)) (part : List ℕ) →
    last_or before (parts ++ part ∷ []) ≡ Some part
last_pushed before [] part = refl
last_pushed before (first ∷ parts) part = last_pushed (Some first) parts part

one_more : (byte : ℕ) (text part : List ℕ) (ends : Bool) → is_line_feed byte ≡ ends →
    EndWith part (slice_split is_line_feed text) → EndWith part (slice_split is_line_feed (byte ∷ text))
one_more byte text part true is all =
    ([], all.0 ∷ all.1, slice_split-cons_yes is_line_feed byte text is ∙ ap (λ (l : List (List ℕ)). [] ∷ l) all.2)
one_more byte text part false is all = (
  byte ∷ all.0,
  all.1,
  slice_split-cons_no is_line_feed byte text is
      ∙ ap (λ (l : List (List ℕ)). onto_first byte l) all.2,
)

split_ends : (before after : List ℕ) → All IsOfRow after →
    EndWith after (slice_split is_line_feed (before ++ 10 ∷ after))
split_ends [] after none = (
  [],
  [],
  slice_split-cons_yes is_line_feed 10 after refl
      ∙ ap (λ (l : List (List ℕ)). [] ∷ l) (slice_split_none is_line_feed after none),
)
split_ends (byte ∷ before) after none =
    one_more byte (before ++ 10 ∷ after) after (is_line_feed byte) refl (split_ends before after none)

last_row_at : (before after text : List ℕ) → text ≡ before ++ 10 ∷ after → All IsOfRow after →
    last_row text ≡ after
last_row_at before after text is none =
    let all = split_ends before after none in
    ap (λ (l : List ℕ). unwrap_or (last_or None (slice_split is_line_feed l)) text) is
    ∙ ap (λ (l : List (List ℕ)). unwrap_or (last_or None l) text) all.2
    ∙ ap (λ (l : Option (List ℕ)). unwrap_or l text) (last_pushed (Some all.0) all.1 after)

-- A text without a line feed is a row.
pub last_row_whole : (text : List ℕ) → ((k : ℕ) → k < length text → get_or text k 0 ≢ 10) → last_row text ≡ text
last_row_whole text none =
    ap (λ (l : List (List ℕ)). unwrap_or (last_or None l) text)
    (slice_split_none is_line_feed text (All-from_get_or IsOfRow text 0 (λ k inside. ne_eqb _ 10 (none k inside))))

-- The bytes after the last line feed are the last row.
pub last_row_behind : (text : List ℕ) (place : ℕ) → place < length text → get_or text place 0 ≡ 10
    → ((k : ℕ) → place + 1 ≤ k → k < length text → get_or text k 0 ≢ 10) → last_row text ≡ drop (place + 1) text
last_row_behind text place inside here behind =
    last_row_at (take place text) (drop (place + 1) text) text
    (sym (take-append-drop place text)
    ∙ ap (λ l. take place text ++ l)
    (drop_more text place 0 inside ∙ ap (λ b. b ∷ drop (place + 1) text) here))
    (All-from_get_or IsOfRow (drop (place + 1) text) 0 (λ k within.
    subst IsOfRow (sym (get_or-drop (place + 1) text k 0))
    (ne_eqb _ 10 (behind (place + 1 + k) (omega arith) (omega (arith, length-drop (place + 1) text))))))
