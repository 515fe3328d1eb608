-- `blocks_have_one_host`: the number of a block gives its host, and no other host has it.
use Rattle.napt_laws.proofs.Holders.{blocks_tell, hosts_have, blocks_apart}
use Rattle.napt_laws.proofs.hosts.blocks_have_one_host.Goals as goal

pub returns-clause-told : goal.returns-clause-told
returns-clause-told c = blocks_tell

pub returns-clause-own : goal.returns-clause-own
returns-clause-own c = hosts_have

pub returns-clause-apart : goal.returns-clause-apart
returns-clause-apart c = blocks_apart
