-- quoted_header: the quoted datagram has whole headers, at the stored offset and of the stored form.
use Rattle.std.proofs.Common.{◌≡◌, ℕ, List, ap, ◌∙◌, refl}
use Rattle.napt_wire.{specs.Prelude.{inner_datagram_start, quoted_of, QuotedHeader}, proofs.{ReadingChecks.passes_of_read, WithInner.{error_of, inner_room, passes_error}}}
use Rattle.napt_wire.proofs.packet.Packet.quoted_header.Goals as goal

pub returns : goal.returns
returns c =
    let bytes : List ℕ = c.self.inside.bytes.items in
    let (side, reads) = c.self.invariant.reads in
    let passes = passes_error side bytes (passes_of_read side bytes bytes reads)
    (error_of bytes (rw c.self.view_is c.requires.error)) in
    let quoted : c.args.quoted ≡ quoted_of bytes = rw c.self.view_is c.requires.quoted in
    rw (← c.self.view_is)
    record {
      room = inner_room side (inner_datagram_start bytes) bytes passes.inner_good;
      at_is = rw (c.from.ensures, c.self.invariant.found.start_is) refl;
      start_is = c.into.ensures ∙ ap (λ (q : QuotedHeader). q.start) quoted;
      form_is = ap (λ (q : QuotedHeader). q.form) quoted;
    }
