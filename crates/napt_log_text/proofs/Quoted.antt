-- A text between quotes is appended in three pieces: a quote, the text, and a quote.
use Rattle.std.proofs.Common.{◌≡◌, ◌++◌, ℕ, List, codes, append_assoc}
use Rattle.napt_log_text.specs.Objects.{quoted}

pub quoted_between : (first second third last before text after : List ℕ) → second ≡ first ++ (before ++ codes "\"") →
    third ≡ second ++ text → last ≡ third ++ (codes "\"" ++ after) → last ≡ first ++ (before ++ (quoted text ++ after))
unfolding quoted
quoted_between first second third last before text after one two three = rw (three, two, one) (simp append_assoc)

pub quoted_behind : (first second third last before text : List ℕ) → second ≡ first ++ (before ++ codes "\"") →
    third ≡ second ++ text → last ≡ third ++ codes "\"" → last ≡ first ++ (before ++ quoted text)
unfolding quoted
quoted_behind first second third last before text one two three = rw (three, two, one) (simp append_assoc)
