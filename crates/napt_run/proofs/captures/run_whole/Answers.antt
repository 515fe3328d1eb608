-- run_whole: each output gets its share of the texts, by the call that failed, and the fault is explained.
use Rattle.std.proofs.{Common.{◌≡◌, ℕ, List, Option, Err, refl}, lemmas.Result.err_from_is_err_and}
use Rattle.napt_records.specs.declared.{Fault.Fault, Which.{Which, TheVariants.{Outside, Inside, Report}}}
use Rattle.napt_run.{specs.Captures.{GetsFrom, IsWriteFaultOf, OutputReceives, OutputShare, whole}, proofs.captures.run_whole.{Given.Over, Goals.In_ok-outputs}}
use Rattle.napt_run.proofs.DeviceClauses.{Answered, AreMade, answered_inside, answered_outside, answered_run, answered_write, answers_ok, before_inside, before_report, leaves, received, text_of, texts_known}
use Rattle.napt_run.specs.Origins.{origin_of}
use Rattle.napt_run.proofs.captures.run_whole.Goals as goal

-- WHAT THE RETURNS SHARE

-- After the outputs were made.
known : (g : Over) (c : In_ok-outputs g) →
    AreMade (origin_of c.args.start) (g.R.Source.remaining c.args.inside.now) (g.Q.Source.remaining c.args.outside.now)
    (record { inside = c.in_ok-inside.inside; outside = c.in_ok-outside.outside })
known g c =
    texts_known c.in_ok-outputs.outputs (origin_of c.args.start) _ _
    (record { inside = c.in_ok-inside.inside; outside = c.in_ok-outside.outside }) c.in_ok-inside.ensures.ok
    c.in_ok-outside.ensures.ok c.in_ok-outputs.ensures.too_many.1

-- An output that received a share of its text meets its clause.
got : (g : Over) (c : In_ok-outputs g) (which : Which) (share : OutputShare) {told : List ℕ}
    (old new : Option (List ℕ)) →
    told ≡ text_of which c.in_ok-outputs.outputs → OutputReceives share told old new →
    GetsFrom (origin_of c.args.start) which share (g.R.Source.remaining c.args.inside.now)
    (g.Q.Source.remaining c.args.outside.now) old new
got g c which share old new is kept =
    received which share _ _ _ _ _ _ _ _ (known g c) c.in_ok-outputs.ensures.ok is kept

-- The answer if writing an output failed.
unwritten : (g : Over) (c : In_ok-outputs g) (which : Which) (fault : Fault) → IsWriteFaultOf which fault →
    Answered (origin_of c.args.start) (g.R.Source.remaining c.args.inside.now) (g.Q.Source.remaining c.args.outside.now)
    (Err fault)
unwritten g c which fault is =
    answered_write which (origin_of c.args.start) _ _
    (record { inside = c.in_ok-inside.inside; outside = c.in_ok-outside.outside }) fault c.in_ok-inside.ensures.ok
    c.in_ok-outside.ensures.ok is (known g c)

pub returns-in_err-inside-clause-answer : goal.returns-in_err-inside-clause-answer
returns-in_err-inside-clause-answer g c =
    let p = err_from_is_err_and c.from_residual.result c.from_residual.ensures.1 in
    rw (p.1, p.2) (answered_inside (origin_of c.args.start) (g.R.Source.remaining c.args.inside.now)
    (g.Q.Source.remaining c.args.outside.now) c.in_err-inside.field-0.0 c.in_err-inside.ensures.err).answer

pub returns-in_err-inside-clause-fault : goal.returns-in_err-inside-clause-fault
returns-in_err-inside-clause-fault g c =
    let p = err_from_is_err_and c.from_residual.result c.from_residual.ensures.1 in
    rw (p.1, p.2) (answered_inside (origin_of c.args.start) (g.R.Source.remaining c.args.inside.now)
    (g.Q.Source.remaining c.args.outside.now) c.in_err-inside.field-0.0 c.in_err-inside.ensures.err).fault

pub returns-in_err-outside-clause-answer : goal.returns-in_err-outside-clause-answer
returns-in_err-outside-clause-answer g c =
    let p = err_from_is_err_and c.from_residual-in_err-outside.result c.from_residual-in_err-outside.ensures.1 in
    rw (p.1, p.2) (answered_outside (origin_of c.args.start) (g.R.Source.remaining c.args.inside.now)
    (g.Q.Source.remaining c.args.outside.now) c.in_ok-inside.inside
    c.in_err-outside.field-0.0 c.in_ok-inside.ensures.ok c.in_err-outside.ensures.err).answer

pub returns-in_err-outside-clause-fault : goal.returns-in_err-outside-clause-fault
returns-in_err-outside-clause-fault g c =
    let p = err_from_is_err_and c.from_residual-in_err-outside.result c.from_residual-in_err-outside.ensures.1 in
    rw (p.1, p.2) (answered_outside (origin_of c.args.start) (g.R.Source.remaining c.args.inside.now)
    (g.Q.Source.remaining c.args.outside.now) c.in_ok-inside.inside
    c.in_err-outside.field-0.0 c.in_ok-inside.ensures.ok c.in_err-outside.ensures.err).fault

pub returns-in_err-outputs-clause-answer : goal.returns-in_err-outputs-clause-answer
returns-in_err-outputs-clause-answer g c =
    let p = err_from_is_err_and c.from_residual-in_err-outputs.result c.from_residual-in_err-outputs.ensures.1 in
    rw (p.1, p.2) (answered_run (origin_of c.args.start) (g.R.Source.remaining c.args.inside.now)
    (g.Q.Source.remaining c.args.outside.now)
    (record { inside = c.in_ok-inside.inside; outside = c.in_ok-outside.outside }) c.in_err-outputs.field-0.0
    c.in_ok-inside.ensures.ok c.in_ok-outside.ensures.ok c.in_err-outputs.ensures.too_many.0
    c.in_err-outputs.ensures.too_many.1).answer

pub returns-in_err-outputs-clause-fault : goal.returns-in_err-outputs-clause-fault
returns-in_err-outputs-clause-fault g c =
    let p = err_from_is_err_and c.from_residual-in_err-outputs.result c.from_residual-in_err-outputs.ensures.1 in
    rw (p.1, p.2) (answered_run (origin_of c.args.start) (g.R.Source.remaining c.args.inside.now)
    (g.Q.Source.remaining c.args.outside.now)
    (record { inside = c.in_ok-inside.inside; outside = c.in_ok-outside.outside }) c.in_err-outputs.field-0.0
    c.in_ok-inside.ensures.ok c.in_ok-outside.ensures.ok c.in_err-outputs.ensures.too_many.0
    c.in_err-outputs.ensures.too_many.1).fault

pub returns-in_err-write_side-clause-answer : goal.returns-in_err-write_side-clause-answer
returns-in_err-write_side-clause-answer g c =
    let p = (let from = c.from_residual-in_err-write_side in err_from_is_err_and from.result from.ensures.1) in
    let made = (goal.at.returns-in_err-write_side-clause-answer g c).In_ok-outputs in
    rw (p.1, p.2) (unwritten g made Outside _ c.in_err-write_side.ensures.fault).answer

pub returns-in_err-write_side-clause-fault : goal.returns-in_err-write_side-clause-fault
returns-in_err-write_side-clause-fault g c =
    let p = (let from = c.from_residual-in_err-write_side in err_from_is_err_and from.result from.ensures.1) in
    let made = (goal.at.returns-in_err-write_side-clause-fault g c).In_ok-outputs in
    rw (p.1, p.2) (unwritten g made Outside _ c.in_err-write_side.ensures.fault).fault

pub returns-in_err-write_side-clause-to_outside : goal.returns-in_err-write_side-clause-to_outside
returns-in_err-write_side-clause-to_outside g c =
    let p = (let from = c.from_residual-in_err-write_side in err_from_is_err_and from.result from.ensures.1) in
    let made = (goal.at.returns-in_err-write_side-clause-to_outside g c).In_ok-outputs in
    rw (p.1, p.2) (got g made Outside _ _ _ refl c.in_err-write_side.ensures.bytes)

pub returns-in_err-write_side-2-clause-answer : goal.returns-in_err-write_side-2-clause-answer
returns-in_err-write_side-2-clause-answer g c =
    let p = (let from = c.from_residual-in_err-write_side-2 in err_from_is_err_and from.result from.ensures.1) in
    let made = (goal.at.returns-in_err-write_side-2-clause-answer g c).In_ok-outputs in
    rw (p.1, p.2) (unwritten g made Inside _ c.in_err-write_side-2.ensures.fault).answer

pub returns-in_err-write_side-2-clause-fault : goal.returns-in_err-write_side-2-clause-fault
returns-in_err-write_side-2-clause-fault g c =
    let p = (let from = c.from_residual-in_err-write_side-2 in err_from_is_err_and from.result from.ensures.1) in
    let made = (goal.at.returns-in_err-write_side-2-clause-fault g c).In_ok-outputs in
    rw (p.1, p.2) (unwritten g made Inside _ c.in_err-write_side-2.ensures.fault).fault

pub returns-in_err-write_side-2-clause-to_outside : goal.returns-in_err-write_side-2-clause-to_outside
returns-in_err-write_side-2-clause-to_outside g c =
    let p = (let from = c.from_residual-in_err-write_side-2 in err_from_is_err_and from.result from.ensures.1) in
    let made = (goal.at.returns-in_err-write_side-2-clause-to_outside g c).In_ok-outputs in
    rw (p.1, p.2, before_inside c.in_err-write_side-2.field-0.0 c.in_err-write_side-2.ensures.fault)
    (got g made Outside whole _ _ refl c.in_ok-write_side.ensures.bytes)

pub returns-in_err-write_side-2-clause-to_inside : goal.returns-in_err-write_side-2-clause-to_inside
returns-in_err-write_side-2-clause-to_inside g c =
    let p = (let from = c.from_residual-in_err-write_side-2 in err_from_is_err_and from.result from.ensures.1) in
    let made = (goal.at.returns-in_err-write_side-2-clause-to_inside g c).In_ok-outputs in
    rw (p.1, p.2) (got g made Inside _ _ _ refl c.in_err-write_side-2.ensures.bytes)

pub returns-in_err-write_report-clause-answer : goal.returns-in_err-write_report-clause-answer
returns-in_err-write_report-clause-answer g c =
    let p = (let from = c.from_residual-in_err-write_report in err_from_is_err_and from.result from.ensures.1) in
    let made = (goal.at.returns-in_err-write_report-clause-answer g c).In_ok-outputs in
    rw (p.1, p.2) (unwritten g made Report _ c.in_err-write_report.ensures.fault).answer

pub returns-in_err-write_report-clause-fault : goal.returns-in_err-write_report-clause-fault
returns-in_err-write_report-clause-fault g c =
    let p = (let from = c.from_residual-in_err-write_report in err_from_is_err_and from.result from.ensures.1) in
    let made = (goal.at.returns-in_err-write_report-clause-fault g c).In_ok-outputs in
    rw (p.1, p.2) (unwritten g made Report _ c.in_err-write_report.ensures.fault).fault

pub returns-in_err-write_report-clause-to_outside : goal.returns-in_err-write_report-clause-to_outside
returns-in_err-write_report-clause-to_outside g c =
    let p = (let from = c.from_residual-in_err-write_report in err_from_is_err_and from.result from.ensures.1) in
    let made = (goal.at.returns-in_err-write_report-clause-to_outside g c).In_ok-outputs in
    rw (p.1, p.2, (before_report c.in_err-write_report.field-0.0 c.in_err-write_report.ensures.fault).0)
    (got g made Outside whole _ _ refl c.in_ok-write_side.ensures.bytes)

pub returns-in_err-write_report-clause-to_inside : goal.returns-in_err-write_report-clause-to_inside
returns-in_err-write_report-clause-to_inside g c =
    let p = (let from = c.from_residual-in_err-write_report in err_from_is_err_and from.result from.ensures.1) in
    let made = (goal.at.returns-in_err-write_report-clause-to_inside g c).In_ok-outputs in
    rw (p.1, p.2, (before_report c.in_err-write_report.field-0.0 c.in_err-write_report.ensures.fault).1)
    (got g made Inside whole _ _ refl c.in_ok-write_side-2.ensures.bytes)

pub returns-in_err-write_report-clause-report : goal.returns-in_err-write_report-clause-report
returns-in_err-write_report-clause-report g c =
    let p = (let from = c.from_residual-in_err-write_report in err_from_is_err_and from.result from.ensures.1) in
    let made = (goal.at.returns-in_err-write_report-clause-report g c).In_ok-outputs in
    rw (p.1, p.2) (got g made Report _ _ _ c.deref.ensures c.in_err-write_report.ensures.bytes)

pub returns-clause-to_outside : goal.returns-clause-to_outside
returns-clause-to_outside g c =
    got g (goal.at.returns-clause-to_outside g c).In_ok-outputs Outside whole _ _ refl c.in_ok-write_side.ensures.bytes

pub returns-clause-to_inside : goal.returns-clause-to_inside
returns-clause-to_inside g c =
    got g (goal.at.returns-clause-to_inside g c).In_ok-outputs Inside whole _ _ refl c.in_ok-write_side-2.ensures.bytes

pub returns-clause-report : goal.returns-clause-report
returns-clause-report g c =
    got g (goal.at.returns-clause-report g c).In_ok-outputs Report whole _ _ c.deref.ensures
    c.in_ok-write_report.ensures.bytes

pub returns-clause-answer : goal.returns-clause-answer
returns-clause-answer g c =
    answers_ok (origin_of c.args.start) _ _
    (record { inside = c.in_ok-inside.inside; outside = c.in_ok-outside.outside })
    (known g (goal.at.returns-clause-answer g c).In_ok-outputs)

pub returns-clause-left : goal.returns-clause-left
returns-clause-left g c =
    leaves (origin_of c.args.start) _ _ (record { inside = c.in_ok-inside.inside; outside = c.in_ok-outside.outside })
    c.in_ok-outputs.outputs.summary c.in_ok-inside.ensures.ok c.in_ok-outside.ensures.ok
    c.in_ok-outputs.ensures.ok.leaves
