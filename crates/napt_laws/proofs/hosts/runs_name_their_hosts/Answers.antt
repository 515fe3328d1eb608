-- `runs_name_their_hosts`: the external endpoint of each binding after a run gives its inside host.
use Rattle.napt_laws.proofs.Holders.{runs_tell}
use Rattle.napt_laws.proofs.hosts.runs_name_their_hosts.Goals as goal

pub returns : goal.returns
returns c = runs_tell c.taken_states_are_kept.ensures.sound c.taken_states_are_kept.ensures.blocks
