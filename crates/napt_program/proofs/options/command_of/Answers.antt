-- command_of: one more of the remaining options is added.
use Rattle.std.proofs.Common.{◌∙◌, ap}
use Rattle.clap.specs.Words.{Rule, app_of, with_rule}
use Rattle.napt_program.proofs.OptionLemmas.{option_added}
use Rattle.napt_program.proofs.options.command_of.Goals as goal

pub loop-name-preserved : goal.loop-name-preserved
loop-name-preserved c =
    option_added (λ option. option.0.now) _ c.loop-name.name-index _ (app_of c.loop-name.command)
    (app_of c.in_ok-command.command) c.loop-name-test.true c.loop-name.invariant
    (c.in_ok-command.ensures.shape c.plain_arg.ensures.local
    ∙ ap (λ (r : Rule). with_rule (app_of c.loop-name.command) r) c.plain_arg.ensures.rule)
