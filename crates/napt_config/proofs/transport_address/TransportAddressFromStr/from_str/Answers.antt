-- from_str: the result is the transport address whose spelling is the text, or `BadAddress`.
use Rattle.std.proofs.Common.{sym, ap, ◌∙◌, subst, ok_or}
use Rattle.napt_config.{specs.Prelude.{BadAddress, IsTransportAddress, transport_address_text, IsReadBack}, proofs.Spellings.sockets_read_back}
use Rattle.napt_config.proofs.transport_address.TransportAddressFromStr.from_str.Goals as goal

pub returns : goal.returns
returns c =
    let gives = c.ok_or.ensures.value ∙ ap (λ o. ok_or o BadAddress) c.read.ensures in
    subst (IsReadBack transport_address_text IsTransportAddress BadAddress c.args.text.now) (sym gives)
    (sockets_read_back BadAddress c.args.text.now)
