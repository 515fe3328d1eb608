-- logged_run: the run continues from the state of the start, with the log that the state contains.
use Rattle.std.proofs.Common.{◌≡◌, [], false, IfOk, subst}
use Rattle.napt_rules.specs.Prelude.{with_redirects}
use Rattle.napt_account.specs.LogStarts.{log_started}
use Rattle.napt_commands.specs.Starts.{RunStartModel}
use Rattle.napt_commands.proofs.start.RunStart.logged_run.Goals as goal

-- src/start.rt:74:5
pub returns : goal.returns
returns c =
    subst (λ (v : RunStartModel). IfOk c.resume.result (λ from. from.run ≡ record {
      rules = v.rules;
      state = with_redirects v.rules v.state;
      log = log_started v.rules v.state v.saved;
      inputs = [];
      is_stopped = false;
    })) c.self.view_is c.resume.ensures.run
