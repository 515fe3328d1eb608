-- resume: before the first input the invariant holds of the state and its log.
use Rattle.std.proofs.Common.{◌≡◌, ℕ, false, [], ◌∷◌, ◌++◌, List, refl, sym, ◌∙◌, ap, subst}
use Rattle.napt_rules.specs.Prelude.{Arrival, Rules, State, with_redirects}
use Rattle.napt_account.specs.{Log.log_on, LogBuilders.{LogBuilderModel, taken_in}, LogStarts.{SavedLogStateModel, log_started}, LoggedRuns.{IsLoggedRun, log_begun, state_begun}}
use Rattle.napt_account.proofs.logged_run.LoggedRun.resume.Goals as goal

pub invariant_of-result : goal.invariant_of-result
unfolding log_on
invariant_of-result c = λ going.
    let rules : Rules = c.args.config.now in
    let state : State = c.args.state.now in
    let saved : SavedLogStateModel = c.args.saved.now in
    let begun : c.and.result.items ≡ (0, state) ∷ [] =
    c.and.ensures ∙ ap (λ (l : List (ℕ × State)). l ++ (0, state) ∷ []) c.new.ensures in
    let kept : c.and-2.result.items ≡ (0, saved) ∷ [] =
    c.and-2.ensures ∙ ap (λ (l : List (ℕ × SavedLogStateModel)). l ++ (0, saved) ∷ []) c.new-2.ensures in
    let none : taken_in c.new-3.result.items ≡ [] = ap (λ (l : List (ℕ × Arrival)). taken_in l) c.new-3.ensures in
    subst (λ (inputs : List Arrival). IsLoggedRun (state_begun c.in_ok-resumed.resumed.log.rules c.and.result.items)
    (log_begun c.in_ok-resumed.resumed.log.rules c.and.result.items c.and-2.result.items) inputs
    c.in_ok-run.run' c.in_ok-resumed.resumed.log) (sym none)
    (subst (λ (l : List (ℕ × State)). IsLoggedRun (state_begun c.in_ok-resumed.resumed.log.rules l)
    (log_begun c.in_ok-resumed.resumed.log.rules l c.and-2.result.items) []
    c.in_ok-run.run' c.in_ok-resumed.resumed.log) (sym begun)
    (subst (λ (l : List (ℕ × SavedLogStateModel)). IsLoggedRun (with_redirects c.in_ok-resumed.resumed.log.rules state)
    (log_begun c.in_ok-resumed.resumed.log.rules ((0, state) ∷ []) l) []
    c.in_ok-run.run' c.in_ok-resumed.resumed.log) (sym kept)
    (subst (λ (log : LogBuilderModel). IsLoggedRun (with_redirects log.rules state) (log_started log.rules state saved)
    []
    c.in_ok-run.run' log) (sym c.in_ok-resumed.ensures.log)
    (record {
      keeps = c.resume.ensures.kept;
      stands = c.in_ok-run.ensures.begun;
      come = c.effects_are_the_log.ensures.come rules c.resume.ensures.kept state c.requires.taken
          (log_started rules state saved)
          (c.started_logs_go_on.ensures.states rules c.resume.ensures.kept state c.requires.taken saved
          c.requires.saved).0;
      clock = refl;
      log_is = refl;
      taken = refl;
      goes_on = refl;
    }))))

pub returns-clause-run : goal.returns-clause-run
returns-clause-run c =
    let state : State = c.args.state.now in
    let saved : SavedLogStateModel = c.args.saved.now in
    let begun : c.and.result.items ≡ (0, state) ∷ [] =
    c.and.ensures ∙ ap (λ (l : List (ℕ × State)). l ++ (0, state) ∷ []) c.new.ensures in
    let kept : c.and-2.result.items ≡ (0, saved) ∷ [] =
    c.and-2.ensures ∙ ap (λ (l : List (ℕ × SavedLogStateModel)). l ++ (0, saved) ∷ []) c.new-2.ensures in
    let none : taken_in c.new-3.result.items ≡ [] = ap (λ (l : List (ℕ × Arrival)). taken_in l) c.new-3.ensures in
    let log = c.in_ok-resumed.ensures.log in
    λ i. record {
      rules = (log i).rules;
      state = state_begun (log i).rules (begun i);
      log = log_begun (log i).rules (begun i) (kept i);
      inputs = none i;
      is_stopped = false;
    }
