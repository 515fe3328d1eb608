-- The bindings of a state that end at the start of a run, so that its configuration can accept the others.
--
-- A configuration may have another pool than the one before, other inside prefixes or other redirects. A binding that
-- does not fit it ends at the clock of the state, and its number is free. All others continue unchanged.
use Rattle.std.specs.Prelude.{◌≡◌, ℕ, ◌+◌, ◌*◌, ◌≤◌, Bool, false, not, ◌&&◌, cond, List, [], ◌∷◌, Option, Some, None}
use Rattle.napt_config.specs.Rules.{Rules, AreTimers}
use Rattle.napt_rules.specs.{Prelude.{Binding, State, Timers, dynamic_bindings, hold_ago, is_live, misfit, ns_per_second, with_live_flows}, Misfits.misfit_of, declared.Misfit.Misfit}
use Rattle.napt_account.specs.{LogStarts.resumed_entry, LogParts.is_open, declared.account.Account.Account}

-- BINDINGS THAT FIT

abbrev pub before_fitting : Binding → Option Misfit → List Binding → List Binding
before_fitting b None others = b ∷ others
before_fitting b (Some why) others = others

-- Returns the bindings that fit, in order; each is compared with the later ones that fit.
abbrev pub fitting : Rules → ℕ → List Binding → List Binding
fitting rules clock [] = []
fitting rules clock (b ∷ rest) =
    before_fitting b (misfit_of rules clock b (fitting rules clock rest)) (fitting rules clock rest)

-- Returns whether a binding is not a redirect and is live at a time, in ns.
abbrev pub goes_on : Timers → ℕ → Binding → Bool
goes_on timers now b = not b.row.fixed && is_live timers now b

-- Returns why a binding ends, given the later ones that fit, or none if it fits or does not continue.
abbrev pub why_ended : Rules → ℕ → Binding → List Binding → Option Misfit
why_ended rules clock b others =
    let held : ℕ = hold_ago rules.timers clock in
    cond (goes_on rules.timers held b) (misfit_of rules clock (with_live_flows rules.timers held b) others) None

-- Returns the bindings of a list that continue at a clock, in ns, and fit.
abbrev pub fitting_in : Rules → ℕ → List Binding → List Binding
fitting_in rules clock list =
    fitting rules clock (dynamic_bindings rules (record { clock = clock; list = list }))

-- BINDINGS THAT END

-- Returns the binding as one that ended long ago: its last use is at time 0, and it has no flow.
abbrev pub ended_long_ago : Binding → Binding
ended_long_ago b = record b { last = 0; flows = [] }

abbrev pub ended_long_ago_if : Option Misfit → Binding → Binding
ended_long_ago_if None b = b
ended_long_ago_if (Some why) b = ended_long_ago b

abbrev pub ended_misfits : Rules → ℕ → List Binding → List Binding
ended_misfits rules clock [] = []
ended_misfits rules clock (b ∷ rest) =
    ended_long_ago_if (why_ended rules clock b (fitting_in rules clock rest)) b ∷ ended_misfits rules clock rest

abbrev pub one_if : Option Misfit → ℕ
one_if None = 0
one_if (Some why) = 1

abbrev pub misfits_in : Rules → ℕ → List Binding → ℕ
misfits_in rules clock [] = 0
misfits_in rules clock (b ∷ rest) =
    one_if (why_ended rules clock b (fitting_in rules clock rest)) + misfits_in rules clock rest

-- Returns the state after its misfits have ended. `misfit_count` is their number.
abbrev pub without_misfits : Rules → State → State
without_misfits rules state = record state { list = ended_misfits rules state.clock state.list }

abbrev pub misfit_count : Rules → State → ℕ
misfit_count rules state = misfits_in rules state.clock state.list

-- LAWS

-- The clock is at least the timer of ICMP or of UDP plus the hold, as any present date is, so that a binding that was
-- last used at time 0 is not held.
abbrev pub IsLate : Timers → ℕ → Type 0
IsLate timers clock = ((timers.icmp + timers.hold) * ns_per_second ≤ clock)
    × ((timers.udp + timers.hold) * ns_per_second ≤ clock)

-- After its misfits have ended, a state continues with exactly the bindings that fit, and the configuration accepts it.
-- The log entry of each misfit ends at the start.
pub record EndsMisfits (rules : Rules) (state : State) : Type 0 where
  pub rest : dynamic_bindings rules (without_misfits rules state)
      ≡ fitting_in rules state.clock state.list
  pub fits : misfit rules (without_misfits rules state) ≡ None
  pub told : (b : Binding) → b.row.fixed ≡ false → (account : Account) →
      is_open state.clock (resumed_entry rules state.clock (ended_long_ago b, account)) ≡ false

abbrev pub MisfitsEnd : Type 0
MisfitsEnd = (rules : Rules) → AreTimers rules.timers → (state : State) → IsLate rules.timers state.clock →
    EndsMisfits rules state
