-- read_record: the bytes of the first fill are the header, and those of the second one are the captured bytes.
use Rattle.std.proofs.{lemmas.{Grind.common_steps, Bool.Decides.nat_tests, Result.err_from_is_err_and, List.with_items_is}, Common.{Err, arith}}
use Rattle.napt_capture.{specs.Prelude.NextRead, proofs.FillSteps.{Gives-both, Gives-map, Says-fact, filled_by}}
use Rattle.napt_capture.proofs.Header.{header_read, next_all, next_bad, next_early, next_large, next_none, next_part}
use Rattle.napt_capture.proofs.reading.read_record.Goals as goal

pub returns-then-asked-clause-next : goal.returns-then-asked-clause-next
returns-then-asked-clause-next g c = grind (arith, common_steps, nat_tests, next_none)

pub returns-then-filled-lt-RECORD_HEADER-clause-next : goal.returns-then-filled-lt-RECORD_HEADER-clause-next
returns-then-filled-lt-RECORD_HEADER-clause-next g c =
    let read = filled_by _ _ c.in_ok-filled.filled c.fill.new.buffer c.in_ok-filled.ensures.bound
    c.in_ok-filled.ensures.bytes c.in_ok-filled.ensures.end in
    Gives-map _ _ (λ text left p. next_early c.args.format c.args.asked c.args.number c.in_ok-filled.filled
    c.fill.new.buffer text left (omega (arith, c.fill.auto.buffer)) (omega (arith, c.if-filled-lt-RECORD_HEADER.true))
    (omega (arith, c.if-asked.false, c.requires.within)) p) read

pub returns-in_err-fields-clause-next : goal.returns-in_err-fields-clause-next
returns-in_err-fields-clause-next g c =
    let p = err_from_is_err_and c.from_residual-in_err-fields.result c.from_residual-in_err-fields.ensures.1 in
    let fault = c.in_err-fields.field-0.0 in
    let read = filled_by _ _ c.in_ok-filled.filled c.fill.new.buffer c.in_ok-filled.ensures.bound
    c.in_ok-filled.ensures.bytes c.in_ok-filled.ensures.end in
    rw (p.1, p.2) (Says-fact {T = NextRead} (Err fault) (Gives-map _ _ (λ text left p.
    next_bad c.args.format c.args.asked c.args.number c.fill.new.buffer text left fault
    (omega (arith, c.if-asked.false, c.requires.within))
    (header_read c.in_ok-filled.filled c.fill.new.buffer text left (omega (arith, c.fill.auto.buffer))
    (omega (arith, c.if-filled-lt-RECORD_HEADER.false)) p) c.in_err-fields.ensures.err) read))

pub returns-then-asked-fields-clause-next : goal.returns-then-asked-fields-clause-next
returns-then-asked-fields-clause-next g c =
    let read = filled_by _ _ c.in_ok-filled.filled c.fill.new.buffer c.in_ok-filled.ensures.bound
    c.in_ok-filled.ensures.bytes c.in_ok-filled.ensures.end in
    Gives-map _ _ (λ text left p.
    next_large c.args.format c.args.asked c.args.number c.fill.new.buffer text left c.in_ok-fields.fields
    (omega (arith, c.if-asked.false, c.requires.within))
    (omega (arith, c.if-asked.false, c.if-asked-fields.true, c.requires.within))
    (header_read c.in_ok-filled.filled c.fill.new.buffer text left (omega (arith, c.fill.auto.buffer))
    (omega (arith, c.if-filled-lt-RECORD_HEADER.false)) p) c.in_ok-fields.ensures.ok) read

pub returns-then-filled-len-clause-next : goal.returns-then-filled-len-clause-next
returns-then-filled-len-clause-next g c =
    let read = filled_by _ _ c.in_ok-filled.filled c.fill.new.buffer c.in_ok-filled.ensures.bound
    c.in_ok-filled.ensures.bytes c.in_ok-filled.ensures.end in
    let body = filled_by _ _ c.in_ok-filled-2.filled c.fill-2.new.buffer c.in_ok-filled-2.ensures.bound
    c.in_ok-filled-2.ensures.bytes c.in_ok-filled-2.ensures.end in
    Gives-both _ _ _ (λ text mid left p q.
    next_part c.args.format c.args.asked c.args.number c.in_ok-filled-2.filled c.fill.new.buffer c.fill-2.new.buffer
    text mid left c.in_ok-fields.fields (omega (arith, c.if-asked.false, c.if-asked-fields.false, c.requires.within))
    (header_read c.in_ok-filled.filled c.fill.new.buffer text mid (omega (arith, c.fill.auto.buffer))
    (omega (arith, c.if-filled-lt-RECORD_HEADER.false)) p) c.in_ok-fields.ensures.ok
    (omega (arith, c.fill-2.auto.buffer, c.deref_mut.ensures.len, c.in_ok-bytes.ensures.len))
    (omega (arith, c.if-filled-len.true, c.len.ensures, c.in_ok-bytes.ensures.len)) q) read body

pub returns-clause-next : goal.returns-clause-next
returns-clause-next g c =
    let read = filled_by _ _ c.in_ok-filled.filled c.fill.new.buffer c.in_ok-filled.ensures.bound
    c.in_ok-filled.ensures.bytes c.in_ok-filled.ensures.end in
    let body = filled_by _ _ c.in_ok-filled-2.filled c.fill-2.new.buffer c.in_ok-filled-2.ensures.bound
    c.in_ok-filled-2.ensures.bytes c.in_ok-filled-2.ensures.end in
    let items = with_items_is c.in_ok-bytes.bytes c.fill-2.new.buffer
    (omega (arith, c.fill-2.auto.buffer, c.deref_mut.ensures.len)) in
    Gives-both _ _ _ (λ text mid left p q.
    next_all c.args.format c.args.asked c.args.number c.in_ok-filled-2.filled c.fill.new.buffer c.fill-2.new.buffer
    text mid left _ c.in_ok-fields.fields (omega (arith, c.if-asked.false, c.if-asked-fields.false, c.requires.within))
    (header_read c.in_ok-filled.filled c.fill.new.buffer text mid (omega (arith, c.fill.auto.buffer))
    (omega (arith, c.if-filled-lt-RECORD_HEADER.false)) p) c.in_ok-fields.ensures.ok
    (omega (arith, c.fill-2.auto.buffer, c.deref_mut.ensures.len, c.in_ok-bytes.ensures.len))
    (omega (arith, c.if-filled-len.false, c.len.ensures, c.in_ok-bytes.ensures.len)) q items) read body

pub returns-in_err-fields-clause-memory : goal.returns-in_err-fields-clause-memory
returns-in_err-fields-clause-memory g c taken = grind (arith, common_steps, nat_tests, filled_by, header_read)

pub returns-in_err-bytes-clause-memory : goal.returns-in_err-bytes-clause-memory
returns-in_err-bytes-clause-memory g c taken = grind (arith, common_steps, nat_tests, filled_by, header_read)

pub returns-clause-memory : goal.returns-clause-memory
returns-clause-memory g c taken = grind (arith, common_steps, nat_tests, filled_by, header_read)
