-- The states in a run's files.
use Rattle.std.specs.Prelude.{◌≡◌, ℕ, List, [], Bool, true, false, Some}
use Rattle.napt_config.specs.Rules.{Rules}
use Rattle.napt_rules.specs.{Prelude.{misfit}, declared.Row.Row}
use Rattle.napt_account.specs.LogStarts.{no_saved_log}
use Rattle.napt_state.specs.{Saved.{log_end, taken_of}, StateContents.IsReadAs, StateFiles.{StateFileModel}}
use Rattle.napt_state.specs.declared.state_contents.TakenState.{TakenState}
use Rattle.napt_state.specs.declared.fault.StateReason.{StateReason, TheVariants.NotUtf8}
use Rattle.napt_program.specs.declared.{state_reading.ResumedState.ResumedState, stop.{StateRefusal.StateRefusal, Stop.Stop, TheConstants.MEMORY}}
use Rattle.napt_program.specs.declared.role.FileRole.TheVariants as role
use Rattle.napt_program.specs.declared.stop.Stop.TheVariants as stop
use Rattle.napt_program.specs.declared.stop.StateRefusal.TheVariants as refusal

-- The state has no bindings, its clock is 0, and it has no log.
abbrev pub IsNewRun : ResumedState → Type 0
IsNewRun it = (it.state ≡ record { clock = 0; list = [] }) × (it.saved ≡ no_saved_log)

abbrev pub taken_start : ResumedState → TakenState
taken_start it = record { state = it.state; log = it.saved; ended = it.ended }

-- The state is that of the text under the rules: the text is that of these contents, unless an earlier version wrote
-- its log. Misfits expire if that is requested.
abbrev pub IsStateOf : Bool → Rules → List ℕ → ResumedState → Type 0
IsStateOf ends rules text it = (told : StateFileModel) × IsReadAs text told
    × (taken_start it ≡ taken_of ends rules told) × (it.log ≡ log_end told.log)

-- If the stop refuses a binding, the text is that of a state whose first misfit under the rules has the stop's reason.
abbrev pub ReportsMisfit : Bool → Rules → List ℕ → Stop → Type 0
ReportsMisfit ends rules text (stop.State (refusal.Binding why)) = (told : StateFileModel) × IsReadAs text told
    × (row : Row) × (misfit rules (taken_of ends rules told).state ≡ Some (row, why))
ReportsMisfit ends rules text other = Unit {0}

-- The stop refuses a line.
abbrev pub is_bad_line : Stop → Bool
is_bad_line (stop.State (refusal.Line number)) = true
is_bad_line (stop.State (refusal.NotUtf8 number)) = true
is_bad_line other = false

-- Returns the refusal of a line, by the mistake in it.
abbrev pub line_refusal : StateReason → ℕ → StateRefusal
line_refusal NotUtf8 number = refusal.NotUtf8 number
line_refusal _ number = refusal.Line number

-- The state is refused, or its file if one is named, or memory was refused.
abbrev pub IsStateStop : Bool → Stop → Type 0
IsStateStop named (stop.State why) = named ≡ true
IsStateStop named (stop.File role.Resume) = named ≡ true
IsStateStop named (stop.Run fault) = stop.Run fault ≡ MEMORY
IsStateStop named other = ⊥

-- The new file could not be created, if there is to be one, or memory was refused.
abbrev pub IsNewStop : Bool → Stop → Type 0
IsNewStop named (stop.File role.Save) = named ≡ true
IsNewStop named (stop.Run fault) = stop.Run fault ≡ MEMORY
IsNewStop named other = ⊥

-- The state after the run could not be written, or memory was refused.
abbrev pub IsSaveStop : Stop → Type 0
IsSaveStop stop.Save = Unit {0}
IsSaveStop (stop.Run fault) = stop.Run fault ≡ MEMORY
IsSaveStop other = ⊥
