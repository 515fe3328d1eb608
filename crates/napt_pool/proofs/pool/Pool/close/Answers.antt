-- close: the results for all workers follow from how each of them ended.
use Rattle.std.proofs.Common.{arith, vec_items}
use Rattle.napt_pool.proofs.JoinedWorkers.{machines_if_ok, taken_at, least_if_err, answers_if_ok, settled_at, fault_if_err, gate_if_err, told_is, received_on_ok}
use Rattle.napt_pool.proofs.pool.Pool.close.Goals as goal

pub returns-clause-machines : goal.returns-clause-machines
returns-clause-machines g c =
    machines_if_ok g.M.Machine g.G.Gate.is_open vec_items c.all_ended.result _ _ _ _ c.join_all-ends.ensures.ends
    c.close_all-closing.ensures.machines c.close_all-closing.ensures.accepted c.all_ended.ensures.ended

pub returns-clause-taken : goal.returns-clause-taken
returns-clause-taken g c =
    taken_at g.M.Machine g.G.Gate.is_open _ _ _ _ _ c.join_all-ends.ensures.ends
    c.close_all-closing.ensures.machines c.close_all-closing.ensures.accepted c.close_all-closing.ensures.taken

pub returns-clause-answers : goal.returns-clause-answers
returns-clause-answers g c =
    answers_if_ok g.M.Machine g.G.Gate.is_open vec_items c.all_ended.result _ _ _ _ c.join_all-ends.ensures.ends
    c.close_all-closing.ensures.machines c.close_all-closing.ensures.accepted _ c.close_all-closing.ensures.taken
    c.all_ended.ensures.ended

pub returns-clause-settled : goal.returns-clause-settled
returns-clause-settled g c = λ same.
    settled_at g.M.Machine g.G.Gate.is_open vec_items _ _ _ _ c.join_all-ends.ensures.ends
    c.close_all-closing.ensures.machines c.close_all-closing.ensures.accepted _ c.all_ended.result
    c.close_all-closing.ensures.taken same c.all_ended.ensures.ended

pub returns-clause-least : goal.returns-clause-least
returns-clause-least g c = grind (arith, least_if_err)

pub returns-clause-fault : goal.returns-clause-fault
returns-clause-fault g c =
    fault_if_err g.M.Machine g.G.Gate.is_open _ _ _ c.all_ended.result c.join_all-ends.ensures.ends
    c.close_all-closing.ensures.machines c.all_ended.ensures.least

pub returns-clause-gate : goal.returns-clause-gate
returns-clause-gate g c = λ is_open.
    gate_if_err g.M.Machine g.G.Gate.is_open _ _ c.all_ended.result c.join_all-ends.ensures.ends is_open
    c.all_ended.ensures.least

pub returns-clause-told : goal.returns-clause-told
returns-clause-told g c = λ w fault told.
    told_is g.M.Machine g.G.Gate.is_open c.args.self vec_items _ _ c.join_all-ends.ensures.ends
    c.close_all-closing.ensures.heard
    c.all_ended.result c.all_ended.ensures.ended c.all_ended.ensures.least w fault told

pub returns-clause-received : goal.returns-clause-received
returns-clause-received g c =
    received_on_ok g.M.Machine g.G.Gate.is_open vec_items _ _ _ _ c.join_all-ends.ensures.ends
    c.close_all-closing.ensures.thread_states c.close_all-closing.ensures.accepted c.all_ended.result
    c.all_ended.ensures.ended
