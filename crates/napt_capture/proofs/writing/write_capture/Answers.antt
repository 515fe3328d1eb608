-- write_capture: after each step the text so far is written, or a prefix of it.
use Rattle.std.{proofs.{Common.{arith, ◌+◌, sym, rules}, lemmas.{Grind.common_steps, Bool.Decides.nat_tests, Result.err_from_is_err_and}}, specs.List.flat_map}
use Rattle.napt_capture.specs.Text.{file_header, record_text, text}
use Rattle.napt_capture.proofs.PutSteps.{flushed_ok, flushed_err, PutsFront-append, PutsFront-longer, PutsFront-fault, PutsFront-same, text_of_first, text_of_first-more, text_of_first-all, text_of_first-room, text-split}
use Rattle.napt_capture.proofs.writing.write_capture.Goals as goal

pub returns-in_err-written-clause-err : goal.returns-in_err-written-clause-err
unfolding text file_header
returns-in_err-written-clause-err g c =
    let p = err_from_is_err_and c.from_residual.result c.from_residual.ensures.1 in
    let front = PutsFront-longer file_header (flat_map record_text c.args.records.now) c.in_err-written.ensures.puts in
    rw (p.1, p.2) (PutsFront-fault (text c.args.records.now) front)

pub loop-packet-init : goal.loop-packet-init
unfolding file_header
loop-packet-init g c = (c.in_ok-written.ensures.puts, search rules)

pub append_record-requires-clause-room : goal.append_record-requires-clause-room
append_record-requires-clause-room g c =
    text_of_first-room c.loop-packet.packet-index c.args.records.now c.packet-item.result _ c.loop-packet-test.true
    c.packet-item.is c.requires.few c.requires.writable c.loop-packet.invariant.0.counted

pub returns-in_err-written-2-clause-err : goal.returns-in_err-written-2-clause-err
returns-in_err-written-2-clause-err g c =
    let i = c.loop-packet.packet-index in
    let all = c.args.records.now in
    let p = err_from_is_err_and c.from_residual-in_err-written-2.result c.from_residual-in_err-written-2.ensures.1 in
    let both = PutsFront-append (text_of_first i all) (record_text c.packet-item.result) c.loop-packet.invariant.0
    c.in_err-written-2.ensures.puts in
    let more = PutsFront-same (text_of_first-more i all c.packet-item.result c.loop-packet-test.true c.packet-item.is)
    both in
    let front = PutsFront-same (sym (text-split (i + 1) all)) (PutsFront-longer (text_of_first (i + 1) all) _ more) in
    rw (p.1, p.2) (PutsFront-fault (text all) front)

pub loop-packet-preserved : goal.loop-packet-preserved
loop-packet-preserved g c = grind (arith, common_steps, nat_tests, text_of_first, text_of_first-more)

pub returns-clause-ok : goal.returns-clause-ok
returns-clause-ok g c = grind (arith, common_steps, nat_tests, text_of_first-all, flushed_ok)

pub returns-clause-err : goal.returns-clause-err
returns-clause-err g c = grind (arith, common_steps, nat_tests, text_of_first-all, flushed_err)
