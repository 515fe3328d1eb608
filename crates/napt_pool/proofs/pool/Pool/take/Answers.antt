-- take: the answer is that of worker w, and the values of the other workers are unchanged.
use Rattle.std.proofs.{lemmas.{Bool.Decides.nat_tests, Grind.common_steps}, Common.{arith, ◌<◌, length}}
use Rattle.napt_pool.specs.{declared.message.Reply.TheVariants.Done, Workers.{machine_of, accepted_of, taken_of, heard_of}}
use Rattle.napt_pool.proofs.Lists.{map-kept, map-grown, grown_if_some}
use Rattle.napt_pool.proofs.pool.Pool.take.Goals as goal

pub returns-in-Ok-clause-starts : goal.returns-in-Ok-clause-starts
returns-in-Ok-clause-starts g c = map-kept machine_of _ _ _ _ c.index_mut-worker.ensures.value c.take.ensures.machine

pub returns-in-Err-clause-starts : goal.returns-in-Err-clause-starts
returns-in-Err-clause-starts g c = map-kept machine_of _ _ _ _ c.index_mut-worker.ensures.value c.take.ensures.machine

pub returns-in-Ok-clause-accepts : goal.returns-in-Ok-clause-accepts
returns-in-Ok-clause-accepts g c = map-kept accepted_of _ _ _ _ c.index_mut-worker.ensures.value c.take.ensures.accepted

pub returns-in-Err-clause-accepts : goal.returns-in-Err-clause-accepts
returns-in-Err-clause-accepts g c =
    map-kept accepted_of _ _ _ _ c.index_mut-worker.ensures.value c.take.ensures.accepted

pub returns-in-Ok-clause-some : goal.returns-in-Ok-clause-some
returns-in-Ok-clause-some g c =
    let below : c.args.w < length c.args.self.now.workers.items = grind (arith, common_steps) in
    grown_if_some taken_of c.args.self.now.workers.items c.args.w c.take.new.self c.index_mut-worker.result.now
    c.index_mut-worker.ensures.value (λ a. a) c.in-Ok.answer below c.in-Ok.ensures.some

pub returns-in-Ok-clause-silent : goal.returns-in-Ok-clause-silent
returns-in-Ok-clause-silent g c =
    let below : c.args.w < length c.args.self.now.workers.items = grind (arith, common_steps) in
    grown_if_some heard_of c.args.self.now.workers.items c.args.w c.take.new.self c.index_mut-worker.result.now
    c.index_mut-worker.ensures.value (λ a. Done a) c.in-Ok.answer below c.in-Ok.ensures.heard

pub returns-in-Err-clause-err : goal.returns-in-Err-clause-err
returns-in-Err-clause-err g c = map-kept taken_of _ _ _ _ c.index_mut-worker.ensures.value c.in-Err.ensures.err

pub returns-in-Err-clause-told : goal.returns-in-Err-clause-told
returns-in-Err-clause-told g c = grind (arith, common_steps, nat_tests, map-grown)
