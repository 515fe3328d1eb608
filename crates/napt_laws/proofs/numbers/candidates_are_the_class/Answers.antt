-- `candidates_are_the_class`: the candidates are the class, or the block, each once, with the right one first.
use Rattle.napt_laws.proofs.Classes.{candidates_begin, candidates_are_those, candidates_differ}
use Rattle.napt_laws.proofs.Blocks.{block_begins, block_is_those, block_differs, block_keeps_parity}
use Rattle.napt_laws.proofs.numbers.candidates_are_the_class.Goals as goal

pub returns-clause-begin : goal.returns-clause-begin
returns-clause-begin c = candidates_begin

pub returns-clause-those : goal.returns-clause-those
returns-clause-those c = candidates_are_those

pub returns-clause-differ : goal.returns-clause-differ
returns-clause-differ c = candidates_differ

pub returns-clause-block_begins : goal.returns-clause-block_begins
returns-clause-block_begins c = block_begins

pub returns-clause-block_is_those : goal.returns-clause-block_is_those
returns-clause-block_is_those c = block_is_those

pub returns-clause-block_differs : goal.returns-clause-block_differs
returns-clause-block_differs c = block_differs

pub returns-clause-block_parity : goal.returns-clause-block_parity
returns-clause-block_parity c = block_keeps_parity
