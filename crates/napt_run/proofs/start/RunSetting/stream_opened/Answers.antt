-- stream_opened: each output has its part of its text, and the log its rows.
use Rattle.std.proofs.Common.{sym, ◌∙◌, ap, rules, subst}
use Rattle.napt_run.{specs.OutcomeWriters.IsNewOutcomeWriter, proofs.BytesAtEnd.of_device}
use Rattle.napt_run.proofs.start.RunSetting.stream_opened.Goals as goal

pub begin_and_run-told-requires-clause-new : goal.begin_and_run-told-requires-clause-new
begin_and_run-told-requires-clause-new g c =
    let into = c.into-leaving.ensures in
    let is_new = subst IsNewOutcomeWriter (sym c.over-both.ensures.leaving) (record {
      sound = (
        ap (λ o. o.is_broken) into.to_outside ∙ c.over-ours.ensures.sound,
        ap (λ o. o.is_broken) into.to_inside ∙ c.over-theirs.ensures.sound,
      );
      none_outside = ap (λ o. o.written) into.to_outside ∙ c.over-ours.ensures.written;
      none_inside = ap (λ o. o.written) into.to_inside ∙ c.over-theirs.ensures.written;
      counts = into.counts;
    }) in
    search (rules, is_new)

pub returns-clause-to_outside : goal.returns-clause-to_outside
returns-clause-to_outside g c =
    let is = ap (λ l. l.to_outside) c.over-both.ensures.leaving ∙ c.into-leaving.ensures.to_outside in
    of_device _ _ _ _ _ _ _ c.begin_and_run-told.ensures.runs.to_outside _ _
    (ap (λ o. o.device.now) is ∙ c.over-ours.ensures.device)
    (λ same. c.to_outside-1.given.1 (sym c.over-ours.ensures.same_reference
    ∙ ap (λ o. o.device.ghost_name) (sym is) ∙ sym same))

pub returns-clause-to_inside : goal.returns-clause-to_inside
returns-clause-to_inside g c =
    let is = ap (λ l. l.to_inside) c.over-both.ensures.leaving ∙ c.into-leaving.ensures.to_inside in
    of_device _ _ _ _ _ _ _ c.begin_and_run-told.ensures.runs.to_inside _ _
    (ap (λ o. o.device.now) is ∙ c.over-theirs.ensures.device)
    (λ same. c.to_inside-1.given.1 (sym c.over-theirs.ensures.same_reference
    ∙ ap (λ o. o.device.ghost_name) (sym is) ∙ sym same))

pub returns-clause-told : goal.returns-clause-told
returns-clause-told g c = c.begin_and_run-told.ensures.runs.told

pub returns-clause-readings : goal.returns-clause-readings
returns-clause-readings g c not_run = c.begin_and_run-told.ensures.readings not_run

pub returns-clause-logs : goal.returns-clause-logs
returns-clause-logs g c = rw (
  c.log-1.given.1 (sym c.over-both.ensures.log_name ∙ sym c.begin_and_run-told.ensures.same),
  sym c.over-both.ensures.log,
)
    c.begin_and_run-told.ensures.logs
