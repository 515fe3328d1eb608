-- first_clear_over: the next word that is not full has the first clear bit, if there is one.
use Rattle.std.proofs.Common.{arith}
use Rattle.napt_collections.proofs.Rows.{over_none, over_some}
use Rattle.napt_collections.proofs.word.first_clear_over.Goals as goal

pub returns-in_err-next : goal.returns-in_err-next
returns-in_err-next c =
    rw c.from_residual.ensures (over_none c.args.words.now c.args.full.now c.requires.marked c.args.from _
    c.requires.within c.in_default.ensures c.in_err-next.ensures)

pub returns : goal.returns
returns c = rw c.trailing_ones.ensures (over_some c.args.words.now c.args.full.now c.requires.marked c.args.from _
    c.requires.within c.in_default.ensures c.in_ok-next.next _ c.in_ok-next.ensures (omega arith))
