-- packets_keep_their_way: replacing the inside end leaves the destination address unchanged.
use Rattle.napt_wire.proofs.ReplacedEnds.{reverted-destination, with_source-destination}
use Rattle.napt_wire.proofs.laws.packets_keep_their_way.Goals as goal

pub returns-clause-packets : goal.returns-clause-packets
returns-clause-packets c = with_source-destination

pub returns-clause-errors : goal.returns-clause-errors
returns-clause-errors c = reverted-destination
