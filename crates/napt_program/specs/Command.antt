-- The stops of a program: by its arguments, by the files that it opens, or by its run.
use Rattle.std.specs.Prelude.{◌≡◌, ◌||◌, Bool, true, false, not, is_some, if◌then◌else◌}
use Rattle.napt_program.specs.{CommandLine.{CommandLineFiles, CommandLineMeaning, files, help, mistake, version}, Standard.names_file, declared.role.FileRole.FileRole}
use Rattle.napt_program.specs.declared.{stop.{Stop.Stop, TheConstants.MEMORY}, streams.StandardStreams.StandardStreams}
use Rattle.napt_program.specs.declared.options.LineFault.{LineFault}
use Rattle.napt_program.specs.declared.options.LineFault.TheVariants as fault
use Rattle.napt_program.specs.declared.role.FileRole.TheVariants as role
use Rattle.napt_program.specs.declared.stop.Stop.TheVariants as stop
use Rattle.napt_records.specs.{Faults.is_shut_gate_fault, declared.{Fault.{Fault, TheVariants.{Capture, Write}}, Which.TheVariants.{Log}}}
use Rattle.napt_wire.specs.declared.Side.TheVariants.{Outside}

-- A file of this role can fail: it is named, or its standard stream is closed.
abbrev pub can_fail : StandardStreams → CommandLineFiles → FileRole → Bool
can_fail streams named role.Inside = is_some named.inside || not streams.input
can_fail streams named role.ToOutside = is_some named.to_outside || not streams.output
can_fail streams named other = names_file named other

-- A fault of the outside capture requires that one is named.
abbrev pub IsOfNamedCapture : CommandLineFiles → Fault → Type 0
IsOfNamedCapture named (Capture Outside fault) = is_some named.outside ≡ true
IsOfNamedCapture named other = Unit {0}

-- A fault of the log comes only if a log is named.
abbrev pub IsOfLog : CommandLineFiles → Fault → Type 0
IsOfLog named (Write Log fault) = is_some named.log ≡ true
IsOfLog named other = Unit {0}

-- Returns the stop after a fault of a run over these files. The device in place of an outside capture that is not named
-- has no fault of its own, so memory was refused.
abbrev pub stop_after : CommandLineFiles → Fault → Stop
stop_after named (Capture Outside fault) = if is_some named.outside then stop.Run (Capture Outside fault) else MEMORY
stop_after named fault = stop.Run fault

-- The stop may come from a run over these files, under a gate that is always open.
abbrev pub IsRunStop : StandardStreams → CommandLineFiles → Stop → Type 0
IsRunStop streams named stop.LineMemory = Unit {0}
IsRunStop streams named (stop.Config fault) = Unit {0}
IsRunStop streams named (stop.File role) = can_fail streams named role ≡ true
IsRunStop streams named (stop.LogFile refusal) = is_some named.log ≡ true
IsRunStop streams named stop.Log = is_some named.log ≡ true
IsRunStop streams named (stop.State refusal) = is_some named.resume ≡ true
IsRunStop streams named stop.Save = is_some named.save ≡ true
IsRunStop streams named (stop.Run fault) =
    (is_shut_gate_fault fault ≡ false) × IsOfNamedCapture named fault × IsOfLog named fault
IsRunStop streams named other = ⊥

-- The text of the help or the version could not be made or printed.
abbrev pub IsHelpStop : Stop → Type 0
IsHelpStop stop.LineMemory = Unit {0}
IsHelpStop stop.Help = Unit {0}
IsHelpStop other = ⊥

abbrev pub IsUsageStop : Stop → Type 0
IsUsageStop stop.LineMemory = Unit {0}
IsUsageStop stop.Usage = Unit {0}
IsUsageStop other = ⊥

-- Help or the version was requested.
abbrev pub HelpIsRequested : LineFault → Type 0
HelpIsRequested (fault.Help text) = Unit {0}
HelpIsRequested (fault.Version text) = Unit {0}
HelpIsRequested other = ⊥

-- This is the stop of the program if the command line does not request a run.
abbrev pub IsLineAnswer : LineFault → Stop → Type 0
IsLineAnswer (fault.Help text) s = s ≡ stop.Help
IsLineAnswer (fault.Version text) s = s ≡ stop.Help
IsLineAnswer fault.Usage s = s ≡ stop.Usage
IsLineAnswer fault.Memory s = s ≡ stop.LineMemory

-- The stop may come from this command line.
abbrev pub IsLineStop : StandardStreams → CommandLineMeaning → Stop → Type 0
IsLineStop streams (files named) s = IsRunStop streams named s
IsLineStop streams help s = IsHelpStop s
IsLineStop streams version s = IsHelpStop s
IsLineStop streams mistake s = IsUsageStop s

-- The arguments were understood.
abbrev pub LineIsAccepted : CommandLineMeaning → Type 0
LineIsAccepted mistake = ⊥
LineIsAccepted other = Unit {0}

-- The stop is not due to a shut gate.
abbrev pub IsStopUnderOpenGate : Stop → Type 0
IsStopUnderOpenGate (stop.Run fault) = is_shut_gate_fault fault ≡ false
IsStopUnderOpenGate other = Unit {0}
