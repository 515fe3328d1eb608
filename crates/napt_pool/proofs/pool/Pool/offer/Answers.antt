-- offer: the item is accepted by worker w, and the values of the other workers are unchanged.
use Rattle.std.proofs.{lemmas.{Bool.Decides.nat_tests, Grind.common_steps}, Common.{arith, ◌≡◌}}
use Rattle.napt_pool.{specs.{Faults.returned_item, Workers.{machine_of, accepted_of, taken_of, heard_of}}, proofs.Lists.{map-kept, grown_on_ok, kept_if_err}}
use Rattle.napt_pool.proofs.pool.Pool.offer.Goals as goal

pub returns-clause-starts : goal.returns-clause-starts
returns-clause-starts g c = map-kept machine_of _ _ _ _ c.index_mut-worker.ensures.value c.offer.ensures.machine

pub returns-clause-takes : goal.returns-clause-takes
returns-clause-takes g c = map-kept taken_of _ _ _ _ c.index_mut-worker.ensures.value c.offer.ensures.taken

pub returns-clause-heard : goal.returns-clause-heard
returns-clause-heard g c = map-kept heard_of _ _ _ _ c.index_mut-worker.ensures.value c.offer.ensures.heard

pub returns-clause-accepted : goal.returns-clause-accepted
returns-clause-accepted g c = grind (arith, common_steps, nat_tests, grown_on_ok)

pub returns-clause-refused : goal.returns-clause-refused
returns-clause-refused g c =
    kept_if_err accepted_of c.args.self.now.workers.items c.args.w c.offer.new.self c.index_mut-worker.result.now
    c.index_mut-worker.ensures.value (λ e. returned_item e ≡ c.args.item) c.offer.result c.offer.ensures.refused
