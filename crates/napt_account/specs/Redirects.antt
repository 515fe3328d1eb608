-- The redirects of a configuration, as they are looked up for the bindings of a state.
use Rattle.std.specs.Prelude.{ℕ, ◌==◌, Bool, ◌&&◌, cond, Option, Some, None}
use Rattle.std.specs.HashSet as hash
use denote.Enum.Bare.{sameb}
use Rattle.napt_config.specs.declared.settings.Timers.{Timers}
use Rattle.napt_wire.specs.contracts.Protocol.{the_type}
use Rattle.napt_rules.specs.{Bindings.Binding, declared.Row.Row}
use Rattle.napt_binding.specs.Ends.{end_of}
use Rattle.napt_account.specs.{declared.{account.Account.Account, binding_end.{BindingKey.BindingKey, Redirects.Redirects}, log.LogEntry.LogEntry}, LogStarts.entry_by_account}

abbrev pub binding_key : Row → BindingKey
binding_key row = record {
  protocol = row.protocol;
  inside = row.inside.address;
  inside_number = row.inside.number;
  external = row.external.address;
  external_number = row.external.number;
}

-- Returns whether two keys of a set are equal.
abbrev pub binding_key_eq : BindingKey → BindingKey → Bool
binding_key_eq a b = sameb the_type a.protocol b.protocol
    && ((a.inside == b.inside) && ((a.inside_number == b.inside_number)
    && ((a.external == b.external) && (a.external_number == b.external_number))))

abbrev pub is_among : Redirects → Row → Bool
is_among redirects row = hash.contains binding_key_eq redirects.keys (binding_key row)

abbrev pub end_among : Redirects → Timers → ℕ → Binding → Option ℕ
end_among redirects timers clock binding =
    cond binding.row.fixed (cond (is_among redirects binding.row) None (Some clock)) (end_of timers binding)

abbrev pub entry_among : Redirects → Timers → ℕ → Binding → Account → LogEntry
entry_among redirects timers clock binding account =
    entry_by_account binding.row (end_among redirects timers clock binding) account
