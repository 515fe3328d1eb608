-- Relations between a text and what was read from it, for contracts.
use Rattle.napt_state.specs.StateFiles.{StateFileModel}
use Rattle.std.specs.Prelude.{◌≡◌, ◌⊎◌, ℕ, List, [], ◌∷◌, ◌++◌, Option, Some, None, Result, Ok, Err}
use Rattle.napt_rules.specs.{Prelude.Binding, declared.Flow.Flow}
use Rattle.napt_state.specs.declared.line.StateLine.TheVariants as lines
use Rattle.napt_state.specs.declared.{line.StateLine.StateLine, fault.{StateFault.StateFault, StateReason.{StateReason, TheVariants.{Unread, Memory}}}}
use Rattle.napt_state.specs.StateText.{line_text, lines_between, counts_of, earlier_log, end, saved_text}
use Rattle.napt_state.specs.declared.saved_bindings.SavedBinding.{SavedBinding}
use Rattle.napt_state.specs.declared.saved_bindings.SavedBinding.TheVariants as bindings
use Rattle.napt_account.specs.declared.account.Account.{Account}

-- The fact holds, unless a read failed or memory was refused.
abbrev pub unless_for : StateReason → Type 0 → Type 0
unless_for (Unread _) fact = Unit {0}
unless_for Memory fact = Unit {0}
unless_for _ fact = fact

abbrev pub StateUnlessUnread : {A : Type 0} → Result A StateReason → Type 0 → Type 0
StateUnlessUnread (Ok _) fact = fact
StateUnlessUnread (Err reason) fact = unless_for reason fact

-- The fact holds, unless a text that is read as a whole could not be read or memory was refused.
abbrev pub UnlessFailed : {A : Type 0} → Result A StateFault → Type 0 → Type 0
UnlessFailed (Ok _) fact = fact
UnlessFailed (Err fault) fact = unless_for fault.reason fact

-- The bytes begin with this line, and the unread rest is what follows it.
abbrev pub IsFirstLine : StateLine → List ℕ → Option (List ℕ) → Type 0
IsFirstLine entry all left = (rest : List ℕ) × (all ≡ line_text entry ++ rest) × (left ≡ Some rest)

-- Returns the contents after the line of the clock alone.
abbrev pub empty_contents : ℕ → StateFileModel
empty_contents clock = record { clock = clock; log = None; bindings = [] }

-- The line is added to the contents.
pub record IsAdded (line : StateLine) (old new : StateFileModel) : Type 0 where
  pub clock : new.clock ≡ old.clock
  pub lines : lines_between new ≡ lines_between old ++ line ∷ []

-- The last binding gets one more flow.
pub record IsAddedFlow (flow : Flow) (old new : List SavedBinding) : Type 0 where
  pub before : List SavedBinding
  pub last : Binding
  pub account : Option Account
  pub is : old ≡ before ++ bindings.Live last account ∷ []
  pub now : new ≡ before ++ bindings.Live (record last { flows = last.flows ++ flow ∷ [] }) account ∷ []

-- The last binding, if there is one, is not live.
abbrev pub LastIsNotLive : List SavedBinding → Type 0
LastIsNotLive list = (before : List SavedBinding) (last : Binding) (account : Option Account) →
    ¬ (list ≡ before ++ bindings.Live last account ∷ [])

-- The text has the log of a state in the form of earlier versions.
abbrev pub IsEarlier : List ℕ → Type 0
IsEarlier text = (front rest : List ℕ) × (made length : ℕ) ×
    (text ≡ front ++ (line_text (earlier_log made length) ++ rest))

-- The text is exactly that of the contents that were read, unless an earlier version wrote it.
abbrev pub IsReadAs : List ℕ → StateFileModel → Type 0
IsReadAs text saved = (text ≡ saved_text saved) ⊎ IsEarlier text

abbrev pub IsNoEnd : StateLine → Type 0
IsNoEnd (lines.End counts) = ⊥
IsNoEnd _ = Unit {0}

-- Some text has this line, which is not its last, directly after the lines so far.
pub record CanFollow (line : StateLine) (so_far : StateFileModel) : Type 0 where
  pub other : IsNoEnd line
  pub whole : StateFileModel
  pub more : List StateLine
  pub split : lines_between whole ++ end (counts_of whole) ∷ [] ≡ lines_between so_far ++ line ∷ more
