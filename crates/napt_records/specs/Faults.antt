-- The faults of a run over captures.
use Rattle.std.specs.Prelude.{Bool, false}
use Rattle.napt_sequential.specs.Faults.{is_run_gate_fault}
use Rattle.napt_records.specs.declared.fault.Fault.{Fault, TheVariants.Run}

-- Returns whether a fault says that the gate was shut.
abbrev pub is_shut_gate_fault : Fault → Bool
is_shut_gate_fault (Run fault) = is_run_gate_fault fault
is_shut_gate_fault _ = false
