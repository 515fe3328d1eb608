-- The contents of an index: bindings by number and by inside endpoint, the numbers in use, and the counts by host.
use Rattle.std.specs.{Prelude.{◌≡◌, ℕ, ◌<◌, ◌^◌, min, true, Option, Some}, Option.is_some, HashMap.spare, Map.lookup}
use Rattle.napt_wire.specs.declared.{Protocol.Protocol, Endpoint.Endpoint}
use Rattle.napt_rules.specs.Prelude.{Binding}
use Rattle.napt_table.specs.{declared.bindings.{keys.ExternalNumberKey.ExternalNumberKey, binding_index.BindingIndex.TheInside.Inside}, Counts.{are_counted, count_in, host_room}}
use Rattle.napt_table.specs.{BindingIndexes.{BindingIndexModel, held_binding, count_all, HasInside, IsNamed}, NumbersInUse.{is_in_use, AreByProtocol}, Keys.{inside_eq, inside_key}}

abbrev pub holdings_of : Inside → BindingIndexModel
holdings_of it = record {
  address = it.address;
  assignment = it.assignment;
  entries = it.by_number.entries;
  room = min (spare it.by_number) (min (spare it.by_inside) (host_room it.hosts));
}

-- Returns the number that the index has for the inside endpoint, if there is one.
abbrev pub number_of_inside : Inside → Protocol → Endpoint → Option ℕ
number_of_inside it protocol inside = lookup (inside_eq (inside_key protocol inside)) it.by_inside.entries

-- Each binding is found by number and by inside endpoint, its number is in use, and the counts of hosts are right.
pub record IsHeld (it : Inside) : Type 0 where
  pub named : IsNamed (holdings_of it)
  pub inside_is : (key : ExternalNumberKey) (b : Binding) → held_binding (holdings_of it) key ≡ Some b →
      number_of_inside it key.protocol b.row.inside ≡ Some key.number
  pub number_is : (protocol : Protocol) (inside : Endpoint) (number : ℕ) →
      number_of_inside it protocol inside ≡ Some number → HasInside (holdings_of it) protocol inside number
  pub by_protocol : AreByProtocol it.numbers
  pub used_is : (key : ExternalNumberKey) → key.number < 2 ^ 16 →
      is_in_use it.numbers key ≡ is_some (held_binding (holdings_of it) key)
  pub counting : are_counted it.hosts ≡ is_some it.assignment.quota
  pub counted : are_counted it.hosts ≡ true → (host : ℕ) → count_in it.hosts host ≡ count_all (holdings_of it) host
