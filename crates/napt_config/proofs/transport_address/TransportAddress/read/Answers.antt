-- read: a text without a colon is not a transport address.
use Rattle.std.{proofs.Common.{◌≡◌, length, sym, rules}, specs.List.position_or_len}
use Rattle.napt_config.{specs.Text.is_colon, proofs.Splits.socket_of-whole}
use Rattle.napt_config.proofs.transport_address.TransportAddress.read.Goals as goal

pub returns-in_err-address : goal.returns-in_err-address
returns-in_err-address c =
    let none : position_or_len is_colon c.args.text.now ≡ length c.args.text.now = search rules in
    rw c.from_residual.ensures (sym (socket_of-whole c.args.text.now none))
