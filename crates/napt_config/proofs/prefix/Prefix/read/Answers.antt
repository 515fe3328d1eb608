-- read: a text without a slash is not a prefix.
use Rattle.std.{proofs.Common.{◌≡◌, length, sym, rules}, specs.List.position_or_len}
use Rattle.napt_config.{specs.Text.is_slash, proofs.Splits.network_of-whole}
use Rattle.napt_config.proofs.prefix.Prefix.read.Goals as goal

pub returns-in_err-address : goal.returns-in_err-address
returns-in_err-address c =
    let none : position_or_len is_slash c.args.text.now ≡ length c.args.text.now = search rules in
    rw c.from_residual.ensures (sym (network_of-whole c.args.text.now none))
