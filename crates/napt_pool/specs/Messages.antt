-- The texts of faults and of refused offers.
use Rattle.std.specs.Prelude.{ℕ, List, ◌++◌, codes, decimal}
use Rattle.napt_pool.specs.declared.fault.{PoolFault.PoolFault, OfferRefused.OfferRefused}
use Rattle.napt_pool.specs.declared.fault.PoolFault.TheVariants as Fault
use Rattle.napt_pool.specs.declared.fault.OfferRefused.TheVariants as Refused

abbrev pub fault_message : PoolFault → List ℕ
fault_message Fault.Memory = codes "out of memory"
fault_message Fault.NoThread = codes "no thread can be started"
fault_message (Fault.GateShut worker) = codes "the gate is shut to worker " ++ decimal worker
fault_message Fault.Ring = codes "the ends of a ring do not agree"

abbrev pub refusal_message : {I : Type 0} → OfferRefused I → List ℕ
refusal_message (Refused.Full item) = codes "the worker owes as many answers as it may"
refusal_message (Refused.Memory item) = codes "out of memory"
refusal_message (Refused.Ring item) = codes "the ends of a ring do not agree"
