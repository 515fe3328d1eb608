-- Checking the keys of a table gives the same result as checking the members of its view.
use Rattle.std.{proofs.Common.{◌≡◌, ℕ, Bool, List, [], ◌∷◌, map, Bor, String, Global, string_bytes, refl, bytes_eq}, specs.List.{list_any, list_all}}
use Rattle.std.specs.Map.{keys_of}
use Rattle.toml.specs.{declared.value.Value.Value, View.members_view}
use Rattle.napt_config.specs.Configured.{only_keys}

abbrev pub texts : List (Bor (List ℕ)) → List (List ℕ)
texts names = map (λ name. name.now) names

-- Returns whether each key is one of the names.
abbrev pub all_among : List (Bor (List ℕ)) → List (String Global) → Bool
all_among names keys = list_all (λ key. list_any (λ name. bytes_eq name.now (string_bytes key)) names) keys

among_texts : (key : List ℕ) (names : List (Bor (List ℕ))) → list_any (λ name. bytes_eq name.now key) names
    ≡ list_any (λ name. bytes_eq name key) (texts names)
among_texts key [] = refl
among_texts key (name ∷ names) = rw (among_texts key names)

pub only_keys_by_list : (names : List (Bor (List ℕ))) (es : List (String Global × Value)) →
    only_keys (texts names) (members_view es) ≡ all_among names (keys_of es)
only_keys_by_list names [] = refl
only_keys_by_list names (e ∷ es) = rw (among_texts (string_bytes e.0) names, only_keys_by_list names es)
