-- pair: the external address of a host is in the pool.
use Rattle.std.proofs.Common.{◌≡◌, ℕ, true, sym, subst, rules}
use Rattle.napt_config.{specs.Rules.{contains_address, paired_address}, proofs.Pools.{paired_in_pool, position_of_member}}
use Rattle.napt_config.proofs.config.Config.pair.Goals as goal

pub returns-clause-in_pool : goal.returns-clause-in_pool
returns-clause-in_pool c =
    let config = c.self.inside in
    let member = paired_in_pool config.block config.inside.items config.pool.items config.pairs.entries c.args.host
    c.self.invariant.pool.some c.self.invariant.pairs.externals in
    let external = paired_address config.block config.inside.items config.pool.items config.pairs.entries c.args.host in
    let is : c.pair.result ≡ external = search rules in
    let P : ℕ → Type 0 = λ address. contains_address config.pool.items address ≡ true in
    rw (← c.self.view_is) (position_of_member config.pool.items c.pair.result (subst P (sym is) member))
