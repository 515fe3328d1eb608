-- A text in UTF-8 is parsed as TOML, and any other text has no table.
use Rattle.std.proofs.{Common.{◌≡◌, ℕ, Bool, true, false, List, None, refl}, lemmas.Str.{is_utf8-from_IsUtf8, IsUtf8-from_is_utf8}}
use Rattle.std.specs.Str.{IsUtf8, is_utf8}
use Rattle.toml.specs.Parse.{parse_document}
use Rattle.napt_config.specs.Configured.{document_of}

pub document_of-utf8 : (text : List ℕ) → IsUtf8 text → document_of text ≡ parse_document text
unfolding document_of
document_of-utf8 text utf8 = rw (is_utf8-from_IsUtf8 text utf8)

false_or : (b : Bool) → ¬ (b ≡ true) → b ≡ false
false_or true other = absurd (other refl)
false_or false other = refl

pub document_of-other : (text : List ℕ) → ¬ (IsUtf8 text) → document_of text ≡ None
unfolding document_of
document_of-other text other = rw (false_or (is_utf8 text) (λ yes. other (IsUtf8-from_is_utf8 text yes)))
