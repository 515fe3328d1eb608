-- The log of a gateway, which may have a name.
use Rattle.std.specs.Prelude.{ℕ, List, Option, Some, None}
use Rattle.napt_program.specs.declared.gateway_log.GatewayLog.{GatewayLog}

abbrev pub unless_named : {A : Type 0} → Option A → Option (List ℕ) → Option (List ℕ)
unless_named None contents = contents
unless_named (Some row) contents = None

-- The bytes that were written to a log, from those of its device. With rows of the gateway they are not known.
abbrev pub gateway_contents : {W : Type 0} → (W → Option (List ℕ)) → GatewayLog W → Option (List ℕ)
gateway_contents contents log = unless_named log.begin (contents log.device)
