-- The reasons for which a text gives no state.
use Rattle.std.proofs.{lemmas.{Grind.common_steps, Bool.Decides.nat_tests}, Common.{◌≡◌, Bool, true, false, Option, is_some, arith}}
use Rattle.clap.specs.Words.{Text}
use Rattle.napt_program.specs.{CommandLine.{files_of, files_with_log}, Command.IsRunStop, State.{IsNewStop, IsSaveStop}}
use Rattle.napt_program.specs.declared.{options.RunOptions.RunOptions, options_with_log.OptionsWithLog.OptionsWithLog, stop.Stop.Stop, streams.StandardStreams.StandardStreams}
use Rattle.napt_state.specs.{StateContents.unless_for, declared.fault.StateReason.{StateReason, TheVariants.{Unread, Memory}}}

-- A text was not read if a fact that reading it would imply is false.
pub unread : (reason : StateReason) (fact : Type 0) (told : Bool) → (fact → ⊥) → unless_for reason fact
    → (unless_for reason ⊥ → told ≡ false) → told ≡ false
unread (Unread error) fact told not is told_so = told_so is
unread Memory fact told not is told_so = told_so is
unread other fact told not is told_so = told_so (not is)

-- A stop by creating the new file is a stop of the run.
pub new_stop : (s : StandardStreams) (o : RunOptions) (log : Option Text) (stop : Stop) →
    IsNewStop (is_some o.save) stop
    → IsRunStop s (record (files_of o) { log = log }) stop
new_stop s o log stop is = grind (arith, common_steps, nat_tests)

-- A stop by saving a state is a stop of a run that saves one.
pub save_stop : (s : StandardStreams) (o : OptionsWithLog) (stop : Stop) → is_some o.files.save ≡ true →
    IsSaveStop stop →
    IsRunStop s (files_with_log o) stop
save_stop s o stop named is = grind (arith, common_steps, nat_tests)
