-- run_into: the devices of both outputs are left as the outputs leave them.
use Rattle.std.proofs.Common.{sym, ◌∙◌, ap}
use Rattle.napt_run.proofs.PassesAll.{told_inside, told_outside, told_tally}
use Rattle.napt_run.proofs.start.RunSetting.run_into.Goals as goal

pub returns-clause-to_outside : goal.returns-clause-to_outside
returns-clause-to_outside g c =
    let is = ap (λ l. l.to_outside) c.over-both.ensures.leaving ∙ c.into-leaving.ensures.to_outside in
    told_outside _ _ c.over-both.result.leaving c.write_all-told.new.both.leaving c.write_all-told.result
    c.write_all-told.ensures.ok _ _ (ap (λ o. o.device.now) is ∙ c.over-ours.ensures.device)
    (λ same. c.to_outside-1.given.1 (sym c.over-ours.ensures.same_reference
    ∙ ap (λ o. o.device.ghost_name) (sym is) ∙ sym same))

pub returns-clause-to_inside : goal.returns-clause-to_inside
returns-clause-to_inside g c =
    let is = ap (λ l. l.to_inside) c.over-both.ensures.leaving ∙ c.into-leaving.ensures.to_inside in
    told_inside _ _ c.over-both.result.leaving c.write_all-told.new.both.leaving c.write_all-told.result
    c.write_all-told.ensures.ok _ _ (ap (λ o. o.device.now) is ∙ c.over-theirs.ensures.device)
    (λ same. c.to_inside-1.given.1 (sym c.over-theirs.ensures.same_reference
    ∙ ap (λ o. o.device.ghost_name) (sym is) ∙ sym same))

pub returns-clause-tally : goal.returns-clause-tally
returns-clause-tally g c =
    told_tally _ _ c.over-both.result.leaving c.write_all-told.new.both.leaving c.write_all-told.result
    c.write_all-told.ensures.ok
