-- The words that a `Rewrite` replaces, in the order in which they are written.
use Rattle.std.specs.Prelude.{ℕ, ◌+◌, ◌≤◌, List, [], ◌∷◌, ◌++◌, All, length, option_to_list}
use Rattle.napt_wire.specs.declared.header_rewrite.{AddressRewrite.AddressRewrite, Change.Change, ErrorRewrite.ErrorRewrite, Rewrite.Rewrite}

abbrev pub address_changes_of : AddressRewrite → List Change
address_changes_of r = r.header_check ∷ r.high ∷ r.low ∷ []

abbrev pub changes_of : Rewrite → List Change
changes_of r = option_to_list r.number ++ option_to_list r.transport_check ++ address_changes_of r.address

abbrev pub error_changes_of : ErrorRewrite → List Change
error_changes_of r = changes_of r.quoted ++ r.check ∷ address_changes_of r.address

-- Each word that is replaced lies within the bytes.
abbrev pub AreWordsThere : List Change → List ℕ → Type 0
AreWordsThere changes bytes = All (λ (c : Change). c.place + 2 ≤ length bytes) changes
