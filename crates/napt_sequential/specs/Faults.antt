-- The faults of a run over inputs.
use Rattle.std.specs.Prelude.{⊤, Bool, false}
use Rattle.napt_pool.specs.Faults.{is_shut}
use Rattle.napt_sequential.specs.declared.fault.RunFault.{RunFault}
use Rattle.napt_sequential.specs.declared.fault.RunFault.TheVariants as faults

-- The fault may come in a run without workers.
abbrev pub IsOneThreadFault : RunFault → Type 0
IsOneThreadFault (faults.Pool fault) = ⊥
IsOneThreadFault _ = ⊤

-- Returns whether a fault says that the gate was shut.
abbrev pub is_run_gate_fault : RunFault → Bool
is_run_gate_fault (faults.Pool fault) = is_shut fault
is_run_gate_fault _ = false
