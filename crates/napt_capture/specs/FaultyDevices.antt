-- What contracts see of a device with an injected fault.
use Rattle.std.specs.Prelude.{◌≡◌, ℕ, ◌-◌, ◌==◌, List, length, Option, Some, None, Result, Ok, OnOk, if◌then◌else◌}
use Rattle.napt_capture.specs.declared.faulty_device.{Faulty.Faulty, FaultPlan.FaultPlan, InjectedFault.{InjectedFault, TheVariants.{Fails, TakesNone}}}

-- The underlying device.
abbrev pub device_of : {D : Type 0} → Faulty D → D
device_of f = f.device

-- The plan for the calls to come.
abbrev pub plan_of : {D : Type 0} → Faulty D → FaultPlan
plan_of f = f.plan

-- The number of failed calls that the plan caused, without those that failed in the underlying device.
abbrev pub own_failed : {D : Type 0} → Faulty D → ℕ
own_failed f = length f.failures.items

-- The fault that the next call meets, if it meets one.
abbrev pub fault_of_plan : FaultPlan → Option InjectedFault
fault_of_plan plan = if plan.failing_call == 1 then Some plan.fault else None

-- A read or a write fails, or returns 0, as the injected fault says.
abbrev pub GoesWrong : {E : Type 0} → InjectedFault → Result ℕ E → Type 0
GoesWrong Fails result = OnOk result ⊥
GoesWrong TakesNone result = result ≡ Ok 0

-- The plan after one more call.
abbrev pub after_a_call : FaultPlan → FaultPlan
after_a_call plan = record plan { failing_call = plan.failing_call - 1 }

-- The bytes that reads will return, if known. They are not known if a read may return 0 before the end.
abbrev pub faulty_known_bytes : InjectedFault → Option (List ℕ) → Option (List ℕ)
faulty_known_bytes Fails known = known
faulty_known_bytes TakesNone known = None
