-- only_keys: all keys are names if and only if the remaining ones are.
use Rattle.std.{proofs.Common.◌≡◌, specs.Map.keys_of}
use Rattle.napt_config.proofs.KnownKeys.{all_among}
use Rattle.napt_config.proofs.keys.only_keys.Given as goal

abbrev pub invariant-loop-key : goal.invariant-loop-key
invariant-loop-key l = all_among l.names l.key-iterator ≡ all_among l.names (keys_of l.table.entries)
