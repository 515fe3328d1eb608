-- count: the merged list has as many inputs as both sides have records.
use Rattle.std.proofs.Common.{◌≡◌, ◌+◌, length, sym, ap, ◌∙◌, arith}
use Rattle.napt_records.proofs.MergeSteps.{as_many}
use Rattle.napt_records.proofs.record_merger.RecordMerger.count.Goals as goal

pub returns : goal.returns
returns c =
    let ins = c.self.inside.inside.items in
    let outs = c.self.inside.outside.items in
    let many : length c.args.self.now ≡ length ins + length outs =
    ap length (sym c.self.view_is) ∙ as_many ins outs c.self.inside.clock in
    omega (arith, many, c.len.ensures, c.len-2.ensures, c.self.inside.inside.ok, c.self.inside.outside.ok)
