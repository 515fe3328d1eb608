-- from_table: what `block` and `redirects` require holds, and the configuration satisfies its rules.
use Rattle.std.proofs.Common.{◌≡◌, Ok, rules}
use Rattle.toml.specs.View.{table_view}
use Rattle.napt_config.specs.Configured.{configured, each_in_order, pool_in, inside_in, block_size_in}
use Rattle.napt_config.proofs.Laws.{configured-keeps, pool_in-keeps, inside_in-keeps, blocks-keep}
use Rattle.napt_config.proofs.config.Config.from_table.Goals as goal

pub block-requires : goal.block-requires
block-requires c =
    let table = table_view c.args.table.now in
    let pool_is : pool_in each_in_order table ≡ Ok c.in_ok-pool.pool.items = search rules in
    let inside_is : inside_in c.in_ok-pool.pool.items table ≡ Ok c.in_ok-inside.inside.items = search rules in
    let of_pool = pool_in-keeps table _ pool_is in
    record {
      some = rw c.deref-2.ensures.value of_pool.some;
      few_addresses = rw c.deref-2.ensures.value of_pool.few;
      few = rw c.deref-3.ensures.value (inside_in-keeps _ table _ inside_is).0.few;
    }

pub redirects-requires : goal.redirects-requires
redirects-requires c =
    let table = table_view c.args.table.now in
    let pool_is : pool_in each_in_order table ≡ Ok c.in_ok-pool.pool.items = search rules in
    let inside_is : inside_in c.in_ok-pool.pool.items table ≡ Ok c.in_ok-inside.inside.items = search rules in
    let block_is : block_size_in c.in_ok-pool.pool.items c.in_ok-inside.inside.items c.in_ok-timers.timers.hold table
    ≡ Ok c.in_ok-block.block = search rules in
    let of_pool = pool_in-keeps table _ pool_is in
    record {
      some = rw c.deref-7.ensures.value of_pool.some;
      few = rw c.deref-6.ensures.value (inside_in-keeps _ table _ inside_is).0.few;
      blocks = rw (c.deref-6.ensures.value, c.deref-7.ensures.value)
          (blocks-keep table _ _ _ _ of_pool.some block_is);
    }

pub invariant_of-result : goal.invariant_of-result
unfolding configured
invariant_of-result c = configured-keeps (table_view c.args.table.now) _ (search rules)

pub returns-clause-kept : goal.returns-clause-kept
unfolding configured
returns-clause-kept c = configured-keeps (table_view c.args.table.now) _ (search rules)
