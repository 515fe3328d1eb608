-- `runs_keep_to_blocks`: after any inputs, each binding except redirects is in its host's block.
use Rattle.napt_laws.proofs.RunsBlocks.{runs_keep_to_blocks}
use Rattle.napt_laws.proofs.runs.runs_keep_to_blocks.Goals as goal

pub returns : goal.returns
returns c = runs_keep_to_blocks
