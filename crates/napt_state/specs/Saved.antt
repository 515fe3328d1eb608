-- The contents of a state and its log that a run saves, and the state with which another run continues.
--
-- An external number is held for a time after its binding has ended (RFC 6888, REQ-8). A binding that has ended is
-- therefore saved with its end. Whatever timers the next run has, it is not live again, and its number is held from
-- that end on.
use Rattle.napt_state.specs.StateFiles.{StateFileModel}
use Rattle.std.specs.Prelude.{◌≡◌, ℕ, ◌-◌, ◌*◌, ◌^◌, ◌≤◌, nat_le, Bool, true, false, ◌&&◌, cond, List, [], ◌∷◌, map, flat_map, Option, Some, None, Result, Ok, Err}
use Rattle.napt_config.specs.Rules.{Rules}
use Rattle.napt_wire.specs.declared.Protocol.{Protocol, TheVariants.{Icmp, Tcp, Udp}}
use Rattle.napt_rules.specs.{Prelude.{AreTimers, Binding, Each, IsStateInOrder, State, Timers, is_live, ns_per_second}, Misfits.misfit, Marks.no_marks, declared.{Flow.Flow, Misfit.Misfit, Row.Row}}
use Rattle.napt_binding.specs.Ends.{end_by_protocol, end_of}
use Rattle.napt_account.specs.LogStarts.{SavedLogStateModel, are_accounts, is_saved_log_state, with_account}
use Rattle.napt_account.specs.declared.account.Account.{Account}
use Rattle.napt_state.specs.declared.{line.{LogEnd.LogEnd, LogPosition.LogPosition}, saved_bindings.SavedBinding.SavedBinding, state_contents.TakenState.TakenState}
use Rattle.napt_state.specs.declared.saved_bindings.SavedBinding.TheVariants as bindings
use Rattle.napt_state.specs.{EndedMisfits.{misfit_count, without_misfits}, StateText.{IsStateLine, saved_lines}}

-- THE SAVED CONTENTS, by a run under these timers

abbrev pub saved_binding : Timers → ℕ → Binding → Option Account → SavedBinding
saved_binding timers clock b account = cond (is_live timers clock b) (bindings.Live b account)
    (bindings.Ended b.row (end_by_protocol b.row.protocol timers b))

-- Returns the bindings as they are saved, each with its account. Those past the last account have none.
abbrev pub saved_bindings : Timers → ℕ → List Binding → List (Option Account) → List SavedBinding
saved_bindings timers clock [] accounts = []
saved_bindings timers clock (b ∷ list) [] = saved_binding timers clock b None ∷ saved_bindings timers clock list []
saved_bindings timers clock (b ∷ list) (account ∷ accounts) =
    saved_binding timers clock b account ∷ saved_bindings timers clock list accounts

abbrev pub accounts_of : Option (SavedLogStateModel × LogEnd) → List (Option Account)
accounts_of (Some log) = log.0.accounts
accounts_of None = []

abbrev pub position_of : Option (SavedLogStateModel × LogEnd) → Option LogPosition
position_of (Some log) = Some (record { made = log.0.made; end = log.1 })
position_of None = None

abbrev pub contents_of : Rules → State → Option (SavedLogStateModel × LogEnd) → StateFileModel
contents_of rules state log = record {
  clock = state.clock;
  log = position_of log;
  bindings = saved_bindings rules.timers state.clock state.list (accounts_of log);
}

-- A file has the state after a run, in the order in which it is saved, and the saved part of the run's log, if any.
pub record IsSavedState (rules : Rules) (state : State) (file : StateFileModel) : Type 0 where
  pub ordered : State
  pub order : IsStateInOrder rules state ordered
  pub log : Option (SavedLogStateModel × LogEnd)
  pub contents : file ≡ contents_of rules ordered log

-- CONTENTS THAT CAN BE SAVED: accounts of one log, and ends by the clock

abbrev pub accounted_in : List SavedBinding → List (Binding × Account)
accounted_in [] = []
accounted_in (bindings.Live b account ∷ more) = with_account b account (accounted_in more)
accounted_in (bindings.Ended row end ∷ more) = accounted_in more

abbrev pub made_so_far : Option LogPosition → ℕ
made_so_far (Some position) = position.made
made_so_far None = 0

-- Returns the end of the text of the log; every number in it is 0 if there is no log.
abbrev pub log_end : Option LogPosition → LogEnd
log_end (Some position) = position.end
log_end None = record { piece = 0; length = 0; row = 0 }

abbrev pub have_ended : ℕ → List SavedBinding → Bool
have_ended clock [] = true
have_ended clock (bindings.Live b account ∷ more) = have_ended clock more
have_ended clock (bindings.Ended row end ∷ more) = nat_le end clock && have_ended clock more

abbrev pub has_accounts : StateFileModel → Bool
has_accounts saved = nat_le (made_so_far saved.log) (2 ^ 61) && (have_ended saved.clock saved.bindings
    && are_accounts (made_so_far saved.log) saved.clock [] (accounted_in saved.bindings))

abbrev pub HasAccounts : StateFileModel → Type 0
HasAccounts saved = has_accounts saved ≡ true

abbrev pub IsSaved : StateFileModel → Type 0
IsSaved saved = Each IsStateLine (saved_lines saved) × HasAccounts saved

-- THE STATE FROM THE CONTENTS under these timers

-- Returns the timer of a binding, in seconds; for TCP, that of a flow that is not established.
abbrev pub timer_of : Protocol → Timers → ℕ
timer_of Icmp timers = timers.icmp
timer_of Tcp timers = timers.transitory
timer_of Udp timers = timers.udp

abbrev pub one_flow : Protocol → ℕ → List Flow
one_flow Tcp last = record { remote = record { address = 0; number = 0 }; last = last; marks = no_marks } ∷ []
one_flow _ last = []

-- Returns a binding that was last used at such a time that it ends at the given time, in ns.
abbrev pub binding_until : Timers → Row → ℕ → Binding
binding_until timers row end =
    let last : ℕ = end - timer_of row.protocol timers * ns_per_second in
    record { row = row; last = last; flows = one_flow row.protocol last }

-- Returns no binding if the end is so early, less than the timer, that the binding would be live at the clock.
abbrev pub taken_binding : Timers → ℕ → SavedBinding → List (Binding × Option Account)
taken_binding timers clock (bindings.Live b account) = (b, account) ∷ []
taken_binding timers clock (bindings.Ended row end) =
    cond (is_live timers clock (binding_until timers row end)) [] ((binding_until timers row end, None) ∷ [])

abbrev pub taken_if : Option Binding → List (Binding × Option Account)
taken_if (Some b) = (b, None) ∷ []
taken_if None = []

abbrev pub taken_bindings : Timers → StateFileModel → List (Binding × Option Account)
taken_bindings timers saved = flat_map (taken_binding timers saved.clock) saved.bindings

abbrev pub state_taken : Timers → StateFileModel → State
state_taken timers saved =
    record { clock = saved.clock; list = map (λ it. it.0) (taken_bindings timers saved) }

abbrev pub log_taken : Timers → StateFileModel → SavedLogStateModel
log_taken timers saved =
    record { made = made_so_far saved.log; accounts = map (λ it. it.1) (taken_bindings timers saved) }

-- If misfits are to end at the start, they end in the state; the log still has the account of each binding.
abbrev pub starting : Bool → Rules → TakenState → TakenState
starting false rules taken = taken
starting true rules taken = record taken {
  state = without_misfits rules taken.state;
  ended = misfit_count rules taken.state;
}

abbrev pub taken_whole : Timers → StateFileModel → TakenState
taken_whole timers saved =
    record { state = state_taken timers saved; log = log_taken timers saved; ended = 0 }

abbrev pub taken_of : Bool → Rules → StateFileModel → TakenState
taken_of ends rules saved = starting ends rules (taken_whole rules.timers saved)

-- A state is accepted if its bindings fit, and a log can begin with its accounts if they are valid.
pub record IsTakenFrom (ends : Bool) (rules : Rules) (saved : StateFileModel) (taken : TakenState) : Type 0 where
  pub whole : taken ≡ taken_of ends rules saved
  pub fits : misfit rules taken.state ≡ None
  pub accounts : HasAccounts saved → is_saved_log_state taken.state taken.log ≡ true

abbrev pub IsTaken : Bool → Rules → StateFileModel → Result TakenState (Row × Misfit) → Type 0
IsTaken ends rules saved (Ok taken) = IsTakenFrom ends rules saved taken
IsTaken ends rules saved (Err found) = misfit rules (taken_of ends rules saved).state ≡ Some found

-- LAW: a binding that had ended when it was saved is not live in the run that continues, whatever its timers, and its
-- number is held as long as under the earlier timers

pub record StaysEnded (timers : Timers) (clock : ℕ) (row : Row) (end : ℕ) : Type 0 where
  pub dead : Each (λ it. is_live timers clock it.0 ≡ false) (taken_binding timers clock (bindings.Ended row end))
  pub held : timer_of row.protocol timers * ns_per_second ≤ end → row.fixed ≡ false → end ≤ clock →
      Each (λ it. end_of timers it.0 ≡ Some end) (taken_binding timers clock (bindings.Ended row end))

abbrev pub EndedBindingsStayEnded : Type 0
EndedBindingsStayEnded = (timers : Timers) → AreTimers timers → (clock : ℕ) (row : Row) (end : ℕ) →
    StaysEnded timers clock row end
