-- command_of: the command with the remaining options is the command of the definition.
use Rattle.std.proofs.Common.{◌≡◌, map, drop}
use Rattle.clap.specs.Words.{app_of}
use Rattle.napt_program.specs.CommandLine.{napt_app, with_options}
use Rattle.napt_program.proofs.options.command_of.Given as goal

abbrev pub invariant-loop-name : goal.invariant-loop-name
invariant-loop-name l =
    with_options (app_of l.command) (map (λ option. option.0.now) (drop l.name-index l.name-items)) ≡ napt_app
