-- revert_inner: the result is the reverted packet, which still reads, and its checksums are right as before.
use Rattle.std.proofs.Common.{◌≡◌, Ok, sym, ◌∙◌, ap, refl, take, drop, length, ◌++◌, List, ℕ}
use Rattle.napt_wire.proofs.{Changes.vec-changed, ReadingChecks.{passes_of_read, reads_of_passes}, ChecksumsStayRight.error_right}
use Rattle.napt_wire.proofs.WithInner.{passes_error, KeepsError, error_kept_of, error_there, error_of, carries_inner, not_error, error_found, quoted_form}
use Rattle.napt_wire.{specs.Prelude.{reading, with_changes, reverted, reverted_changes, Side}, proofs.packet.Packet.revert_inner.Goals.After-self-1}
use Rattle.napt_wire.proofs.packet.Packet.revert_inner.Goals as goal

pub unreachable-requires : goal.unreachable-requires
unreachable-requires c =
    not_error c.self.inside.bytes.items c.self.inside.start c.self.inside.body c.self.invariant.found
    (error_of c.self.inside.bytes.items (rw c.self.view_is c.requires.error)) c.in_default.not-Error

pub quoted_header-quoted-requires-clause-quoted : goal.quoted_header-quoted-requires-clause-quoted
quoted_header-quoted-requires-clause-quoted c =
    rw (← c.self.view_is)
    (quoted_form c.self.inside.bytes.items c.self.inside.start c.self.inside.body c.in-Error.quoted
    c.self.invariant.found c.in-Error.is).1

pub write-requires : goal.write-requires
write-requires c =
    let passed = passes_error c.self.invariant.reads.0 c.self.inside.bytes.items
    (passes_of_read c.self.invariant.reads.0 c.self.inside.bytes.items c.self.inside.bytes.items
    c.self.invariant.reads.1)
    (error_of c.self.inside.bytes.items (rw c.self.view_is c.requires.error)) in
    rw (c.from_packet-rewrite.ensures, c.deref_mut.ensures.value, c.deref.ensures.value)
    (error_there c.self.invariant.reads.0 c.args.way c.args.end c.self.inside.bytes.items passed)

-- The bytes of the vector at the end.
held : (c : After-self-1) →
    take c.self.inside.bytes.len (c.write.new.bytes ++ drop (length c.write.new.bytes) c.self.inside.bytes.items)
    ≡ with_changes (reverted_changes c.args.way c.args.end c.self.inside.bytes.items) c.self.inside.bytes.items
held c =
    vec-changed c.self.inside.bytes.items c.write.new.bytes c.self.inside.bytes.len
    (reverted_changes c.args.way c.args.end c.self.inside.bytes.items)
    (sym (ap length c.deref.ensures.value) ∙ c.deref.ensures.len)
    (rw (c.write.ensures, c.from_packet-rewrite.ensures, c.deref_mut.ensures.value, c.deref.ensures.value) refl)

kept_for : (c : After-self-1) (side : Side) → reading side c.self.inside.bytes.items ≡ Ok c.self.inside.bytes.items →
    KeepsError side c.self.inside.bytes.items
    (with_changes (reverted_changes c.args.way c.args.end c.self.inside.bytes.items) c.self.inside.bytes.items)
kept_for c side h = error_kept_of side c.args.way c.args.end c.self.inside.bytes.items
    (rw c.self.view_is c.requires.error) (rw c.self.view_is c.requires.number) h

pub invariant_of-self : goal.invariant_of-self
invariant_of-self c =
    let (side, reads) = c.self.invariant.reads in
    let bytes : List ℕ = c.self.inside.bytes.items in
    let new : List ℕ = with_changes (reverted_changes c.args.way c.args.end bytes) bytes in
    let keeps = kept_for c side reads in
    rw (held c)
    record {
      reads = (side, reads_of_passes side new keeps.passes);
      found = error_found side c.self.inside.start c.self.inside.body bytes new c.self.invariant.found
          (error_of bytes (rw c.self.view_is c.requires.error)) keeps;
    }

pub returns-clause-value : goal.returns-clause-value
unfolding reverted
returns-clause-value c = held c ∙ ap (λ (bytes : List ℕ). with_changes (reverted_changes c.args.way c.args.end bytes)
    bytes)
    c.self.view_is

pub returns-clause-reads : goal.returns-clause-reads
returns-clause-reads c = λ side h.
    rw (held c) (reads_of_passes side (with_changes (reverted_changes c.args.way c.args.end c.self.inside.bytes.items)
    c.self.inside.bytes.items) (kept_for c side (rw c.self.view_is h)).passes)

pub returns-clause-right : goal.returns-clause-right
returns-clause-right c =
    let bytes : List ℕ = c.self.inside.bytes.items in
    let form_is = error_of bytes (rw c.self.view_is c.requires.error) in
    rw (held c, ← c.self.view_is)
    (error_right c.self.invariant.reads.0 c.args.way c.args.end bytes
    (passes_error c.self.invariant.reads.0 bytes
    (passes_of_read c.self.invariant.reads.0 bytes bytes c.self.invariant.reads.1) form_is)
    (carries_inner bytes c.args.end.number form_is (rw c.self.view_is c.requires.number)))
