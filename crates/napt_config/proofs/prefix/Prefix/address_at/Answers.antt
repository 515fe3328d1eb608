-- address_at: the address fits 32 bits.
use Rattle.std.proofs.Common.{◌<◌, ◌+◌, ◌^◌, subst, sym, arith}
use Rattle.napt_config.{specs.Prefixes.{PrefixModel, prefix_size}, proofs.Indices.address_fits}
use Rattle.napt_config.proofs.prefix.Prefix.address_at.Goals as goal

pub overflow_cast-result : goal.overflow_cast-result
overflow_cast-result c =
    let prefix = c.self.inside in
    let network : PrefixModel = record { address = prefix.address; bits = prefix.bits } in
    let IsWithin : PrefixModel → Type 0 = λ of. c.args.place < prefix_size of in
    let within = subst IsWithin (sym c.self.view_is) c.requires.within in
    let fits : prefix.address + c.args.place < 2 ^ 32 = address_fits network c.args.place c.self.invariant within in
    omega (arith, fits, c.from.ensures)
