-- pop: the input is the first of the merged list, or both sides are empty.
use Rattle.std.proofs.Common.{Some, refl, sym, subst}
use Rattle.napt_capture.specs.Contents.{RecordModel}
use Rattle.napt_records.{specs.RecordMerging.TakesRecord, proofs.MergeSteps.hands}
use Rattle.napt_records.proofs.record_merger.RecordMerger.pop.Goals as goal

pub returns-in_err-side : goal.returns-in_err-side
returns-in_err-side c =
    let none = c.in_err-side.ensures in
    rw (c.from_residual.ensures, ← c.self.view_is, none.0.0, none.0.1, none.1.0, none.1.1) (refl, refl)

pub returns : goal.returns
returns c =
    let entry : RecordModel = record {
      time = c.record.inside.time;
      bytes = c.record.inside.bytes.items;
      original =
          c.record.inside.original;
    } in
    let taken : TakesRecord c.self.inside.inside.items c.self.inside.outside.items (Some (c.in_ok-side.side, entry))
    c.take_next.new.inside.items c.take_next.new.outside.items =
    subst (λ (e : RecordModel). TakesRecord c.self.inside.inside.items c.self.inside.outside.items
    (Some (c.in_ok-side.side, e))
    c.take_next.new.inside.items c.take_next.new.outside.items) (sym c.record.view_is) c.in_ok-side.ensures in
    rw (← c.self.view_is, c.max-self-inside.ensures)
    (hands c.self.inside.inside.items c.self.inside.outside.items c.take_next.new.inside.items
    c.take_next.new.outside.items c.self.inside.clock c.in_ok-side.side entry taken)
