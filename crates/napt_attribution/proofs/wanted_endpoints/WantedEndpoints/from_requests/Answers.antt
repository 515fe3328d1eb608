-- from_requests: the set contains the addresses and the endpoints that the requests name, and no others.
use Rattle.std.proofs.Common.{Some, None, arith}
use Rattle.napt_attribution.proofs.RequestParties.{all_named, one_more}
use Rattle.napt_attribution.proofs.wanted_endpoints.WantedEndpoints.from_requests.Goals as goal

pub loop-one-preserved : goal.loop-one-preserved
loop-one-preserved c = λ address number. one_more c.args.asked.now c.loop-one.one-index _ (omega arith) _ _ address
    number
    (c.loop-one.invariant address number) (c.in_ok-insert.ensures.updates.0 (address, number))

pub returns : goal.returns
returns c = λ external. all_named c.args.asked.now c.loop-one.one-index c.loop-one-test.false _ _ external
    (c.loop-one.invariant external.address None) (c.loop-one.invariant external.address (Some external.number))
