-- options_in: the options are the files in clap's matches.
use Rattle.std.proofs.Common.{sym}
use Rattle.napt_program.proofs.LineLemmas.{files_read}
use Rattle.napt_program.proofs.options.options_in.Goals as goal

pub returns : goal.returns
returns c =
    sym (files_read c.args.matches.now _ _ _ _ _ _ _ _ c.in_ok-value_of.ensures c.in_ok-value_of-2.ensures
    c.in_ok-value_of-3.ensures c.in_ok-value_of-4.ensures c.in_ok-value_of-5.ensures c.in_ok-value_of-6.ensures
    c.in_ok-value_of-7.ensures c.in_ok-value_of-8.ensures)
