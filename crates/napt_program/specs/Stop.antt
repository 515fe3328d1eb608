-- The fault line and the exit status of a program that stops early.
use Rattle.std.specs.Prelude.{ℕ, List, ◌++◌, Bool, true, Option, Some, None, Result, Ok, Err, codes, decimal}
use Rattle.napt_program.specs.{CommandLine.role_name, declared.{role.FileRole.FileRole, stop.{Stop.Stop, StateRefusal.StateRefusal}}}
use Rattle.napt_program.specs.declared.role.FileRole.TheVariants as role
use Rattle.napt_program.specs.declared.stop.Stop.TheVariants as stop
use Rattle.napt_program.specs.declared.stop.StateRefusal.TheVariants as state
use Rattle.napt_rules.specs.declared.Misfit.{Misfit}
use Rattle.napt_rules.specs.declared.Misfit.TheVariants as misfit
use Rattle.napt_wire.specs.declared.Side.{Side}
use Rattle.napt_wire.specs.declared.Side.TheVariants as side
use Rattle.napt_records.specs.declared.{Fault.Fault, Which.Which}
use Rattle.napt_records.specs.declared.Fault.TheVariants as run
use Rattle.napt_sequential.specs.declared.RunFault.{RunFault}
use Rattle.napt_sequential.specs.declared.RunFault.TheVariants as refused
use Rattle.napt_pool.specs.declared.PoolFault.TheVariants as pool
use Rattle.napt_records.specs.declared.Which.TheVariants as output
use Rattle.napt_capture.specs.declared.CaptureFault.{CaptureFault}
use Rattle.napt_capture.specs.declared.CaptureFault.TheVariants as capture
use Rattle.napt_config.specs.declared.ConfigFault.{ConfigFault}
use Rattle.napt_config.specs.declared.ConfigFault.TheVariants as config

abbrev pub Text : Type 0
Text = List ℕ

-- Returns the exit status: 2 for the command line, 3 for the configuration, 4 for a capture, 5 for the run or memory, 8
-- for a state, and 6 for a file and other output.
abbrev pub status_of_fault : Fault → ℕ
status_of_fault (run.Capture side fault) = 4
status_of_fault (run.Run fault) = 5
status_of_fault (run.Write which fault) = 6

abbrev pub status_of : Stop → ℕ
status_of stop.Usage = 2
status_of stop.LineMemory = 5
status_of (stop.Config fault) = 3
status_of (stop.Run fault) = status_of_fault fault
status_of (stop.State refusal) = 8
status_of _ = 6

-- Returns the name of a fault of the configuration, in lower case with hyphens between its words.
abbrev pub config_name : ConfigFault → Text
config_name config.NotToml = codes "not-toml"
config_name config.UnknownKey = codes "unknown-key"
config_name config.Missing = codes "missing"
config_name config.BadShape = codes "bad-shape"
config_name config.TooMany = codes "too-many"
config_name config.BadAddress = codes "bad-address"
config_name config.BadPrefix = codes "bad-prefix"
config_name config.BadNumber = codes "bad-number"
config_name config.BadWord = codes "bad-word"
config_name config.BadSeed = codes "bad-seed"
config_name config.SeedUnused = codes "seed-unused"
config_name config.DuplicateAddress = codes "double-address"
config_name config.PoolInside = codes "pool-inside"
config_name config.PrefixesOverlap = codes "prefixes-overlap"
config_name config.BlockTooLarge = codes "block-too-large"
config_name config.PairWithBlock = codes "pair-with-block"
config_name config.HoldWithBlock = codes "hold-with-block"
config_name config.DuplicatePair = codes "double-pair"
config_name config.NotInPool = codes "not-in-pool"
config_name config.NotInside = codes "not-inside"
config_name config.RedirectInBlock = codes "redirect-in-block"
config_name config.DuplicateRedirect = codes "double-redirect"
config_name config.TimerTooShort = codes "timer-too-short"
config_name config.Memory = codes "memory"

-- Returns the name of a fault of a capture, followed by the number of its record if it has one.
abbrev pub capture_name : CaptureFault → Text
capture_name capture.NoHeader = codes "no-header"
capture_name capture.BadMagic = codes "bad-magic"
capture_name capture.BadVersion = codes "bad-version"
capture_name capture.BadLink = codes "bad-link"
capture_name (capture.BadFraction record_number) = codes "bad-fraction " ++ decimal record_number
capture_name (capture.TooLong record_number) = codes "too-long " ++ decimal record_number
capture_name capture.TooLarge = codes "too-large"
capture_name capture.Read = codes "read"
capture_name capture.Memory = codes "memory"

abbrev pub side_name : Side → Text
side_name side.Inside = codes "inside"
side_name side.Outside = codes "outside"

abbrev pub run_name : RunFault → Text
run_name refused.Memory = codes "memory"
run_name refused.TooMany = codes "too-many"
run_name (refused.Pool pool.Memory) = codes "memory"
run_name (refused.Pool pool.NoThread) = codes "no-thread"
run_name (refused.Pool (pool.GateShut worker)) = codes "gate-shut " ++ decimal worker
run_name (refused.Pool pool.Ring) = codes "ring"

-- Returns the role of the file to which an output is written.
abbrev pub output_role : Which → FileRole
output_role output.Outside = role.ToOutside
output_role output.Inside = role.ToInside
output_role output.Report = role.Report
output_role output.Log = role.Log

abbrev pub fault_text : Fault → Text
fault_text (run.Capture side fault) = codes "capture " ++ side_name side ++ codes " " ++ capture_name fault
fault_text (run.Run fault) = codes "run " ++ run_name fault
fault_text (run.Write which fault) = codes "write " ++ role_name (output_role which)

abbrev pub misfit_name : Misfit → Text
misfit_name misfit.NotInside = codes "not-inside"
misfit_name misfit.NotPaired = codes "not-paired"
misfit_name misfit.BadNumber = codes "not-its-number"
misfit_name misfit.UsedLater = codes "used-later"
misfit_name misfit.FlowsShareRemote = codes "flows-share"
misfit_name misfit.Redirected = codes "redirected"
misfit_name misfit.EndpointShared = codes "shared"

abbrev pub state_name : StateRefusal → Text
state_name (state.Line line_number) = codes "bad-line " ++ decimal line_number
state_name (state.NotUtf8 line_number) = codes "not-utf-8 " ++ decimal line_number
state_name (state.Binding why) = misfit_name why

-- Returns the fault line after the program's name.
abbrev pub stop_text : Stop → Text
stop_text stop.Usage = codes "usage"
stop_text stop.LineMemory = codes "run memory"
stop_text stop.Help = codes "write " ++ role_name role.ToOutside
stop_text (stop.Config fault) = codes "config " ++ config_name fault
stop_text (stop.File role) = codes "file " ++ role_name role
stop_text (stop.LogFile refusal) = codes "file " ++ role_name role.Log
stop_text (stop.Run fault) = fault_text fault
stop_text stop.Log = codes "write " ++ role_name role.Log
stop_text (stop.State refusal) = codes "state " ++ state_name refusal
stop_text stop.Save = codes "write " ++ role_name role.Save

-- Returns the fault line of the program with this name, without its line feed.
abbrev pub line_of : Text → Stop → Text
line_of name s = name ++ codes ": " ++ stop_text s

-- Returns the exit status of a program that succeeded or stopped.
abbrev pub status_at_end : {A : Type 0} → Result A Stop → ℕ
status_at_end (Ok done) = 0
status_at_end (Err s) = status_of s

-- Returns the line of the program on standard error, if that is open and the program stopped.
abbrev pub line_at_end : {A : Type 0} → Text → Bool → Result A Stop → Option Text
line_at_end name true (Err s) = Some (line_of name s)
line_at_end _ _ _ = None
