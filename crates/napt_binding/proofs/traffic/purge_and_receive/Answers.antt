-- purge_and_receive: after the purge, too, no flow was used after the packet's time.
use Rattle.napt_binding.proofs.LastUses.{live_flows_used}
use Rattle.napt_binding.proofs.traffic.purge_and_receive.Goals as goal

pub receive-requires : goal.receive-requires
receive-requires c = rw c.purge_flows.ensures (live_flows_used c.args.timers c.args.packet.now
    c.args.binding.now.row.protocol c.args.binding.now.flows c.requires)
