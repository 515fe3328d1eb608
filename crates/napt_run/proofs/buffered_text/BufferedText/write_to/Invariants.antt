-- write_to: the pieces so far have been written, and no write failed.
use Rattle.std.proofs.Common.{◌≡◌, flat_map, take}
use Rattle.napt_capture.specs.Writing.{PutOk}
use Rattle.napt_run.proofs.buffered_text.BufferedText.write_to.Given as goal

abbrev pub invariant-loop-piece : goal.invariant-loop-piece
invariant-loop-piece g l =
    PutOk 0 (g.W.Sink.contents l.fn.device) (g.W.Sink.contents l.device)
    (flat_map (λ piece. piece.items) (take l.piece-index l.self-inside.full.items)) l.written
    × (g.W.Sink.failed l.device ≡ g.W.Sink.failed l.fn.device)
