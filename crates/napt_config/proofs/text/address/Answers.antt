-- address: the result is the address that the text is in dotted decimal, or `None`.
use Rattle.std.{proofs.Common.{◌∙◌, sym, ap, Some}, specs.Net.Addr.ipv4_bits}
use Rattle.napt_config.proofs.Addresses.{address_of-dotted, address_of-none}
use Rattle.napt_config.proofs.text.address.Goals as goal

pub returns-in-Ok : goal.returns-in-Ok
unfolding ipv4_bits
returns-in-Ok c = ap Some c.to_bits.ensures
    ∙ sym (address_of-dotted c.args.text.now c.in-Ok.address.octets c.in-Ok.ensures.value)

pub returns-in-Err : goal.returns-in-Err
returns-in-Err c =
    sym (address_of-none c.args.text.now (λ octets dotted. c.in-Err.ensures.value (record { octets = octets }) dotted))
