-- merge_until_fault: each law is a lemma on merging until a fault.
use Rattle.napt_records.proofs.MergeSteps.{merge_ends, merge_meets, merges_before, merges_front, merges_whole, tells_inside_first}
use Rattle.napt_records.proofs.merge_laws.merge_until_fault.Goals as goal

pub returns-clause-front : goal.returns-clause-front
returns-clause-front c = merges_front

pub returns-clause-whole : goal.returns-clause-whole
returns-clause-whole c = merges_whole

pub returns-clause-ends : goal.returns-clause-ends
returns-clause-ends c = merge_ends

pub returns-clause-meets : goal.returns-clause-meets
returns-clause-meets c = merge_meets

pub returns-clause-before : goal.returns-clause-before
returns-clause-before c = merges_before

pub returns-clause-inside_first : goal.returns-clause-inside_first
returns-clause-inside_first c = tells_inside_first
