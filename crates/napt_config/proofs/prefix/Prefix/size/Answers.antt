-- size: a prefix has at most 2 ^ 32 addresses.
use Rattle.std.proofs.{Common.{◌≤◌, ◌^◌, ◌-◌, arith}, Math.Pow.pow_mono}
use Rattle.napt_config.proofs.prefix.Prefix.size.Goals as goal

pub returns-clause-few : goal.returns-clause-few
returns-clause-few c =
    let shorter : 32 - c.self.inside.bits ≤ 32 = omega arith in
    let most : 2 ^ (32 - c.self.inside.bits) ≤ 2 ^ 32 = pow_mono {i = 32 - c.self.inside.bits} {j = 32} shorter in
    omega (arith, most)
