-- merge: one more input is moved from the remaining ones, of which there are none at the end.
use Rattle.std.proofs.Common.{◌≡◌, length, refl, sym, ◌∙◌, ap, arith, append-nil, append_assoc, [], ◌∷◌}
use Rattle.napt_records.proofs.MergeSteps.{none_left}
use Rattle.napt_records.proofs.record_merger.merge.Goals as goal

pub loop-input-init : goal.loop-input-init
loop-input-init c = rw c.in_ok-inputs.ensures.items refl

pub loop-input-smaller : goal.loop-input-smaller
loop-input-smaller c = omega (arith, ap length c.in-Some.ensures)

pub loop-input-preserved : goal.loop-input-preserved
loop-input-preserved c =
    rw (
      c.in_ok-push.ensures.items,
      append_assoc c.loop-input.inputs.items (c.in-Some.input ∷ []) c.pop.new.self,
      ← c.in-Some.ensures,
    ) c.loop-input.invariant

pub returns-clause-merged : goal.returns-clause-merged
returns-clause-merged c =
    let none = none_left c.loop-input.merged c.pop.new.self c.pop.result c.in_default.not-Some c.pop.ensures in
    let all : c.loop-input.inputs.items ≡ c.new-merged.result =
    sym (append-nil c.loop-input.inputs.items) ∙ (rw none at c.loop-input.invariant) in
    all ∙ c.new-merged.ensures.merged

pub returns-clause-timely : goal.returns-clause-timely
returns-clause-timely c first second =
    let none = none_left c.loop-input.merged c.pop.new.self c.pop.result c.in_default.not-Some c.pop.ensures in
    let all : c.loop-input.inputs.items ≡ c.new-merged.result =
    sym (append-nil c.loop-input.inputs.items) ∙ (rw none at c.loop-input.invariant) in
    rw all (c.new-merged.ensures.timely first second)
