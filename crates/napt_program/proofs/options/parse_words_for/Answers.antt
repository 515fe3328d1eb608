-- parse_words_for: each answer of clap is the meaning of the command line.
use Rattle.std.proofs.Common.{[], rules, ◌∙◌, option_map, string_bytes, ap, sym}
use Rattle.clap.specs.Words.{app_of, found_of, rows_of}
use Rattle.napt_program.{specs.CommandLine.{files, line_by}, proofs.LineLemmas.{help_line, log_read, mistaken_line, misused_line, some_second, taken_line, used_line, version_line, with_log}}
use Rattle.napt_program.proofs.options.parse_words_for.Goals as goal

pub returns-in-Ok-clause-ok : goal.returns-in-Ok-clause-ok
returns-in-Ok-clause-ok c =
    let read = log_read c.args.takes_log (rows_of (found_of c.in-Ok.matches)) _ _ _ c.in_ok-files-in-Ok.ensures
    c.in_ok-log-in-Ok.ensures.value c.seconds_in-seconds.ensures.value in
    let line = with_log c.in_ok-files-in-Ok.files (option_map string_bytes c.in_ok-log-in-Ok.log)
    c.seconds_in-seconds.result in
    let used = sym c.is_misused.ensures ∙ c.if-is_misused.false in
    rw (← c.as_slice.ensures.value)
    (taken_line c.args.takes_log (app_of c.in_ok-command.command) _ c.in-Ok.matches c.in_ok-command.ensures
    c.in-Ok.ensures.matches c.in-Ok.ensures.kinds ∙ ap (line_by []) read ∙ used_line line used
    ∙ ap (λ s. files (with_log c.in_ok-files-in-Ok.files (option_map string_bytes c.in_ok-log-in-Ok.log) s))
    (sym (c.non_zero.ensures.same (some_second line used))))

pub returns-then-is_misused-clause-usage : goal.returns-then-is_misused-clause-usage
returns-then-is_misused-clause-usage c _ =
    let read = log_read c.args.takes_log (rows_of (found_of c.in-Ok.matches)) _ _ _ c.in_ok-files-in-Ok.ensures
    c.in_ok-log-in-Ok.ensures.value c.seconds_in-seconds.ensures.value in
    let line = with_log c.in_ok-files-in-Ok.files (option_map string_bytes c.in_ok-log-in-Ok.log)
    c.seconds_in-seconds.result in
    rw (← c.as_slice.ensures.value)
    (taken_line c.args.takes_log (app_of c.in_ok-command.command) _ c.in-Ok.matches c.in_ok-command.ensures
    c.in-Ok.ensures.matches c.in-Ok.ensures.kinds ∙ ap (line_by []) read
    ∙ misused_line line (sym c.is_misused.ensures ∙ c.if-is_misused.true))

pub returns-clause-help : goal.returns-clause-help
returns-clause-help c asked =
    rw (← c.as_slice.ensures.value)
    (help_line c.args.takes_log (app_of c.in_ok-command.command) _ c.in-Err.error c.in_ok-command.ensures
    c.in-Err.ensures.kinds (c.in_ok-fault_of-in-Err.ensures.help asked))

pub returns-clause-version : goal.returns-clause-version
returns-clause-version c asked =
    rw (← c.as_slice.ensures.value)
    (version_line c.args.takes_log (app_of c.in_ok-command.command) _ c.in-Err.error c.in_ok-command.ensures
    c.in-Err.ensures.kinds (c.in_ok-fault_of-in-Err.ensures.version asked))

pub returns-clause-usage : goal.returns-clause-usage
returns-clause-usage c is_usage =
    let causes = c.in_ok-fault_of-in-Err.ensures.usage (search rules) in
    rw (← c.as_slice.ensures.value)
    (mistaken_line c.args.takes_log (app_of c.in_ok-command.command) _ c.in-Err.error c.in_ok-command.ensures
    c.in-Err.ensures.kinds causes.0 causes.1 causes.2)
