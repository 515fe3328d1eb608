-- initial_state: a run from a state without bindings begins with the opening list, and its log with the redirects.
use Rattle.std.proofs.Common.{◌≡◌, List, [], ap, append-nil, ◌∙◌}
use Rattle.napt_config.specs.Rules.{Rules}
use Rattle.napt_rules.specs.Prelude.{Binding, opening}
use Rattle.napt_run.specs.{Captures.texts_from, Origins.{OriginModel, initial_origin, resumed_origin}}
use Rattle.napt_run.proofs.SavedLogStarts.{texts_begin}
use Rattle.napt_run.proofs.initial.initial_state.Goals as goal

begins : (rules : Rules) (items : List Binding) → items ≡ [] →
    resumed_origin rules (record { clock = 0; list = items }) ≡ initial_origin rules
begins rules items none = ap (λ (l : List Binding). resumed_origin rules (record { clock = 0; list = l })) none
    ∙ ap (λ (l : List Binding). let o : OriginModel =
    record { rules = rules; state = record { clock = 0; list = l } } in o)
    (append-nil (opening rules))

pub returns-clause-opens : goal.returns-clause-opens
returns-clause-opens c rules = begins rules _ c.new.ensures.items

pub returns-clause-texts : goal.returns-clause-texts
returns-clause-texts c rules inside outside =
    ap (λ (o : OriginModel). texts_from o inside outside) (begins rules _ c.new.ensures.items)

pub returns-clause-log : goal.returns-clause-log
returns-clause-log c rules saved none =
    texts_begin c.started_logs_go_on.ensures.anew rules c.new.result.items saved c.new.ensures.items none
