-- from_config: the keys of all redirects are those by which a redirect is found.
use Rattle.std.proofs.Common.{◌≤◌, List, length, ◌∙◌, subst}
use Rattle.std.proofs.lemmas.List.{take_all}
use Rattle.napt_table.specs.declared.TimedRow.{TimedRow}
use Rattle.napt_account.proofs.Redirects.{AreKeys, keys_all}
use Rattle.napt_account.proofs.binding_end.Redirects.from_config.Goals as goal

pub returns : goal.returns
returns c = λ wanted.
    let items : List TimedRow = c.deref-timed-items.result.now in
    let past : length items ≤ c.loop-timed.timed-index = c.loop-timed-test.false in
    keys_all c.args.config.now items (c.deref-timed-items.ensures.value ∙ c.in_ok-all.ensures.all) c.loop-timed.keys
    (subst (λ (rows : List TimedRow). AreKeys rows c.loop-timed.keys) (take_all c.loop-timed.timed-index items past)
    c.loop-timed.invariant) wanted
