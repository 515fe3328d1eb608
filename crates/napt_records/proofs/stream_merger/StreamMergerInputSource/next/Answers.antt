-- next: the next input is returned, the end is reached, or the fault is that of the unread part.
use Rattle.std.proofs.lemmas.Result.{err_from_is_err_and}
use Rattle.napt_records.proofs.HandedInputs.{Hands-any}
use Rattle.napt_records.proofs.stream_merger.StreamMergerInputSource.next.Goals as goal

pub returns : goal.returns
returns g c =
    Hands-any c.args.self.now
    c.read_ahead.new.self c.pop.new.self c.pop.result c.read_ahead.ensures.same c.in_ok-read_ahead.ensures.looks
    c.pop.ensures.takes
    c.pop.ensures.inside c.pop.ensures.outside

pub returns-in_err-read_ahead : goal.returns-in_err-read_ahead
returns-in_err-read_ahead g c =
    let p = err_from_is_err_and c.from_residual.result c.from_residual.ensures.1 in
    rw (p.1, p.2) (c.read_ahead.ensures.same, c.in_err-read_ahead.ensures.looks)
