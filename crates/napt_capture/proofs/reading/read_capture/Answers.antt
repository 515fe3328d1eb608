-- read_capture: at each exit the result is that of reading the file.
use Rattle.std.proofs.{lemmas.{Grind.common_steps, Bool.Decides.nat_tests, Result.err_from_is_err_and}, Common.{arith, length-append}}
use Rattle.napt_capture.proofs.WholeReading.{asked_joined, for_records, header_refused, reads_end, reads_fault, reads_on, refuses, starts}
use Rattle.napt_capture.proofs.reading.read_capture.Goals as goal

pub returns-in_err-format-clause-answer : goal.returns-in_err-format-clause-answer
returns-in_err-format-clause-answer g c =
    let p = err_from_is_err_and c.from_residual.result c.from_residual.ensures.1 in
    rw (p.1, p.2) (refuses _ _ c.in_err-format.field-0.0 c.in_err-format.ensures.header)

pub loop-records-init : goal.loop-records-init
loop-records-init g c = grind (arith, common_steps, nat_tests, starts)

pub returns-in_err-record-clause-answer : goal.returns-in_err-record-clause-answer
returns-in_err-record-clause-answer g c = grind (arith, common_steps, nat_tests, err_from_is_err_and, reads_fault)

pub loop-records-preserved : goal.loop-records-preserved
loop-records-preserved g c = grind (arith, common_steps, nat_tests, reads_on, asked_joined, length-append)

pub loop-records-smaller : goal.loop-records-smaller
loop-records-smaller g c = grind (arith, common_steps, nat_tests)

pub returns-in-End-clause-answer : goal.returns-in-End-clause-answer
returns-in-End-clause-answer g c = grind (arith, common_steps, nat_tests, reads_end)

pub returns-in_err-format-clause-memory : goal.returns-in_err-format-clause-memory
returns-in_err-format-clause-memory g c =
    let p = err_from_is_err_and c.from_residual.result c.from_residual.ensures.1 in
    rw (p.1, p.2) (header_refused (g.R.Source.remaining c.args.reader.now) c.in_err-format.field-0.0
    c.in_err-format.ensures.memory)

pub returns-in_err-record-clause-memory : goal.returns-in_err-record-clause-memory
returns-in_err-record-clause-memory g c = grind (arith, common_steps, nat_tests, err_from_is_err_and, for_records)

pub returns-in_err-push-in-Whole-clause-memory : goal.returns-in_err-push-in-Whole-clause-memory
returns-in_err-push-in-Whole-clause-memory g c =
    grind (arith, common_steps, nat_tests, err_from_is_err_and, for_records)
