-- insert: a row clashes with the new endpoints if it does with the old ones or with the binding that is added.
use Rattle.napt_state.proofs.TakenBindings.{clash_more}
use Rattle.napt_state.proofs.endpoints.Endpoints.insert.Goals as goal

pub returns : goal.returns
returns c = clash_more c.args.self.now (record { external = c.insert.new.self; inside = c.insert-2.new.self })
    c.args.row.now _ _ c.external_key.ensures c.inside_key.ensures
    c.in_ok-insert.ensures.updates.0 c.in_ok-insert-2.ensures.updates.0
