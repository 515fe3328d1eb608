-- from_config: a run from the empty state is the new run of the definition.
use Rattle.std.proofs.Common.{[], false, append-nil, ◌∙◌}
use Rattle.napt_rules.specs.Prelude.{Rules, opening, with_redirects}
use Rattle.napt_account.specs.LogStarts.{log_started}
use Rattle.napt_account.proofs.logged_run.LoggedRun.from_config.Goals as goal

pub returns : goal.returns
returns c =
    let rules : Rules = c.args.config.now in
    let list = c.new.ensures.items in
    let saved = c.none-saved.ensures in
    let begun = append-nil (opening rules) in
    let anew = c.started_logs_go_on.ensures.anew rules in
    c.in_ok-resumed.ensures.run
    ∙ ((λ i. record {
      rules = rules;
      state = with_redirects rules (record { clock = 0; list = list i });
      log = log_started rules (record { clock = 0; list = list i }) (saved i);
      inputs = [];
      is_stopped = false;
    }) ∙ (λ i. record {
      rules = rules;
      state = record { clock = 0; list = begun i };
      log = anew i;
      inputs = [];
      is_stopped = false;
    }))
