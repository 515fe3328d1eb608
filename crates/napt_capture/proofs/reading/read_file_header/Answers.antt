-- read_file_header: the bytes that filled the buffer are the header, or the whole file if it is shorter.
use Rattle.std.proofs.Common.{arith}
use Rattle.napt_capture.proofs.{FillSteps.{Gives-map, Says-fact, filled_by}, Header.{file_short, file_whole}}
use Rattle.napt_capture.proofs.reading.read_file_header.Goals as goal

pub returns-then-filled-lt-FILE_HEADER-clause-header : goal.returns-then-filled-lt-FILE_HEADER-clause-header
returns-then-filled-lt-FILE_HEADER-clause-header g c =
    let read = filled_by _ _ c.in_ok-filled.filled c.fill.new.buffer c.in_ok-filled.ensures.bound
    c.in_ok-filled.ensures.bytes c.in_ok-filled.ensures.end in
    Gives-map _ _ (λ bytes left p. file_short c.in_ok-filled.filled c.fill.new.buffer bytes left
    (omega (arith, c.fill.auto.buffer)) (omega (arith, c.if-filled-lt-FILE_HEADER.true)) p) read

pub returns-clause-header : goal.returns-clause-header
returns-clause-header g c =
    let read = filled_by _ _ c.in_ok-filled.filled c.fill.new.buffer c.in_ok-filled.ensures.bound
    c.in_ok-filled.ensures.bytes c.in_ok-filled.ensures.end in
    Says-fact c.format_of_file.result (Gives-map _ _ (λ bytes left p.
    file_whole c.in_ok-filled.filled c.fill.new.buffer bytes left c.format_of_file.result
    (omega (arith, c.fill.auto.buffer)) (omega (arith, c.if-filled-lt-FILE_HEADER.false))
    c.format_of_file.ensures.is p) read)
