-- `from_builder`: the table's list, without any event, agrees with the stored bindings.
use Rattle.std.proofs.Common.{map, ap, sym, subst}
use Rattle.napt_table.specs.{Events.list_after_events, Tables.{IsTable}}
use Rattle.napt_table.proofs.TableBuilders.{begun_keeps_its_list}
use Rattle.napt_table.proofs.table.Table.from_builder.Goals as goal

pub invariant_of-result : goal.invariant_of-result
invariant_of-result c =
    let it = c.beginning.inside in
    let begins = map (λ e. e.1) it.list.items in
    begun_keeps_its_list _ begins (ap (λ es. list_after_events it.bindings.timers it.bindings.held.assignment it.inbound
    it.bindings.held.address es begins) c.new.ensures) (subst IsTable (sym c.beginning.view_is) c.requires)
    c.beginning.invariant
