-- write_to: the bytes written so far fit 64 bits, and after a fault they are a prefix of all bytes.
use Rattle.std.{proofs.{Common.{◌≡◌, ◌<◌, ◌≤◌, ◌^◌, ◌++◌, arith, flat_map, length, take, ap, subst}, lemmas.Result.err_from_is_err_and}, specs.Prelude.get_or}
use Rattle.std.specs.Io.KnownBytes.{Appends}
use Rattle.napt_capture.specs.Writing.{PutErr}
use Rattle.napt_run.proofs.PieceWrites.{last_fails, more_fails, room_for_last, room_for_more}
use Rattle.napt_run.proofs.buffered_text.BufferedText.write_to.Goals as goal

pub write_piece-requires : goal.write_piece-requires
write_piece-requires g c =
    let same = c.deref-piece-items.ensures.value in
    let few : length (flat_map (λ piece. piece.items) c.self.inside.full.items ++ c.self.inside.last.items) < 2 ^ 64 =
    omega (arith, c.self.invariant.0, c.self.invariant.1) in
    let room = room_for_more c.self.inside.full.items (λ piece. piece.items) c.self.inside.last.items
    c.loop-piece.piece-index c.piece-item.result c.loop-piece.written
    (subst (λ l. c.loop-piece.piece-index < length l) same c.loop-piece-test.true)
    (subst (λ l. c.piece-item.result ≡ get_or l c.loop-piece.piece-index c.piece-item.result) same c.piece-item.is)
    few c.loop-piece.invariant.0.counted in
    omega (arith, room, ap (λ l. length l) c.deref.ensures.value)

pub returns-in_err-written-clause-err : goal.returns-in_err-written-clause-err
returns-in_err-written-clause-err g c =
    let p = err_from_is_err_and c.from_residual.result c.from_residual.ensures.1 in
    let same = c.deref-piece-items.ensures.value in
    let fault = c.in_err-written.field-0.0 in
    let says = more_fails c.self.inside.full.items (λ piece. piece.items) c.self.inside.last.items
    c.loop-piece.piece-index (g.W.Sink.contents c.args.device.now) (g.W.Sink.contents c.loop-piece.device)
    (g.W.Sink.contents c.write_piece.new.device) c.piece-item.result c.loop-piece.written fault
    (subst (λ l. c.loop-piece.piece-index < length l) same c.loop-piece-test.true)
    (subst (λ l. c.piece-item.result ≡ get_or l c.loop-piece.piece-index c.piece-item.result) same c.piece-item.is)
    c.loop-piece.invariant.0 (subst (λ l. PutErr c.loop-piece.written (g.W.Sink.contents c.loop-piece.device)
    (g.W.Sink.contents c.write_piece.new.device) l fault) c.deref.ensures.value c.in_err-written.ensures.puts) in
    rw (p.1, p.2) (subst (λ l. (fault.written ≤ length l)
    × Appends (g.W.Sink.contents c.args.device.now) (g.W.Sink.contents c.write_piece.new.device)
    (take fault.written l)) c.self.view_is says)

pub write_piece-requires-2 : goal.write_piece-requires-2
write_piece-requires-2 g c =
    let same = c.deref-piece-items.ensures.value in
    let few : length (flat_map (λ piece. piece.items) c.self.inside.full.items ++ c.self.inside.last.items) < 2 ^ 64 =
    omega (arith, c.self.invariant.0, c.self.invariant.1) in
    let past : length c.self.inside.full.items ≤ c.loop-piece.piece-index =
    subst (λ l. length l ≤ c.loop-piece.piece-index) same c.loop-piece-test.false in
    let room = room_for_last c.self.inside.full.items (λ piece. piece.items) c.self.inside.last.items
    c.loop-piece.piece-index c.loop-piece.written past few c.loop-piece.invariant.0.counted in
    omega (arith, room, ap (λ l. length l) c.deref-2.ensures.value)

pub returns-in_err-write_piece-clause-err : goal.returns-in_err-write_piece-clause-err
returns-in_err-write_piece-clause-err g c =
    let p = err_from_is_err_and c.from_residual-in_err-write_piece.result
    c.from_residual-in_err-write_piece.ensures.1 in
    let same = c.deref-piece-items.ensures.value in
    let fault = c.in_err-write_piece.field-0.0 in
    let past : length c.self.inside.full.items ≤ c.loop-piece.piece-index =
    subst (λ l. length l ≤ c.loop-piece.piece-index) same c.loop-piece-test.false in
    let says = last_fails c.self.inside.full.items (λ piece. piece.items) c.self.inside.last.items
    c.loop-piece.piece-index (g.W.Sink.contents c.args.device.now) (g.W.Sink.contents c.loop-piece.device)
    (g.W.Sink.contents c.write_piece-2.new.device) c.loop-piece.written fault past c.loop-piece.invariant.0
    (subst (λ l. PutErr c.loop-piece.written (g.W.Sink.contents c.loop-piece.device)
    (g.W.Sink.contents c.write_piece-2.new.device) l fault) c.deref-2.ensures.value
    c.in_err-write_piece.ensures.puts) in
    rw (p.1, p.2) (subst (λ l. (fault.written ≤ length l)
    × Appends (g.W.Sink.contents c.args.device.now) (g.W.Sink.contents c.write_piece-2.new.device)
    (take fault.written l)) c.self.view_is says)
