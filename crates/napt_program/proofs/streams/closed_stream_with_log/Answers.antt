-- closed_stream_with_log: a closed stream of an option before the log is the first.
use Rattle.std.proofs.Common.{◌∙◌, sym}
use Rattle.napt_program.proofs.LogLemmas.{closed_kept}
use Rattle.napt_program.proofs.streams.closed_stream_with_log.Goals as goal

pub returns-in-Some-clause-first : goal.returns-in-Some-clause-first
returns-in-Some-clause-first c =
    sym (closed_kept c.args.streams c.args.options.now c.in-Some.role
    (sym c.closed_stream.ensures.first ∙ c.in-Some.is))
