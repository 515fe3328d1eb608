-- set_end: the result is the packet with the new end, which still reads, and its checksum is right as before.
use Rattle.std.proofs.{Common.{arith, ◌≡◌, ◌∙◌, ap, take, drop, length, ◌++◌, List, ℕ, take_at}, lemmas.{Grind.common_steps, Bool.Decides.nat_tests}}
use Rattle.napt_wire.proofs.{Changes.length-changed, EndReplacement.end-there, ReadingChecks.{room_of_packet, passes_of_read, reads_of_passes}, ChecksumsStayRight.end_right}
use Rattle.napt_wire.{proofs.WithEnd.{Carries, IsPlain, plain_of, carries_of, end_passes, end_found, end_form}, specs.Prelude.{form_at, with_changes, end_changes}}
use Rattle.napt_wire.proofs.packet.Packet.set_end.Goals as goal

pub write-requires : goal.write-requires
write-requires c =
    rw (c.rewrite_end-rewrite.ensures, c.header.ensures.at_is, c.deref_mut.ensures.value, c.deref.ensures.value)
    (end-there 0 c.args.end c.args.new c.self.inside.bytes.items (room_of_packet _ c.self.invariant.reads))

-- The bytes of the vector at the end.
is_new : (c : goal.After-self-1) → take c.self.inside.bytes.len (c.write.new.bytes
    ++ drop (length c.write.new.bytes) c.self.inside.bytes.items)
    ≡ with_changes (end_changes 0 c.args.end c.args.new c.self.inside.bytes.items) c.self.inside.bytes.items
is_new c = grind (arith, common_steps, nat_tests, length-changed, take_at)

is_plain : (c : goal.After-self-1) → IsPlain (form_at 0 c.self.inside.bytes.items)
is_plain c = plain_of c.self.inside.bytes.items (rw c.self.view_is c.requires.plain)

carries : (c : goal.After-self-1) → Carries (form_at 0 c.self.inside.bytes.items) c.args.new.number
carries c = carries_of c.self.inside.bytes.items c.args.new.number (rw c.self.view_is c.requires.number)

pub invariant_of-self : goal.invariant_of-self
invariant_of-self c =
    let side = c.self.invariant.reads.0 in
    let passes = passes_of_read side c.self.inside.bytes.items c.self.inside.bytes.items c.self.invariant.reads.1 in
    rw (is_new c)
    record {
      reads = (
        side,
        reads_of_passes side _ (end_passes side c.args.end c.args.new c.self.inside.bytes.items passes
            (carries c) (is_plain c)),
      );
      found = end_found side c.args.end c.args.new c.self.inside.bytes.items passes (carries c) _ _
          (is_plain c) c.self.invariant.found;
    }

pub returns-clause-value : goal.returns-clause-value
returns-clause-value c = is_new c ∙ ap (λ (bytes : List ℕ). with_changes (end_changes 0 c.args.end c.args.new bytes)
    bytes)
    c.self.view_is

pub returns-clause-reads : goal.returns-clause-reads
returns-clause-reads c = λ side h.
    rw (is_new c)
    (reads_of_passes side _
    (end_passes side c.args.end c.args.new c.self.inside.bytes.items
    (passes_of_read side c.self.inside.bytes.items c.self.inside.bytes.items (rw c.self.view_is h)) (carries c)
    (is_plain c)))

pub returns-clause-right : goal.returns-clause-right
returns-clause-right c =
    let passes = passes_of_read c.self.invariant.reads.0 c.self.inside.bytes.items c.self.inside.bytes.items
    c.self.invariant.reads.1 in
    rw (is_new c, ← c.self.view_is)
    (end_right 0 c.args.end c.args.new c.self.inside.bytes.items (room_of_packet _ c.self.invariant.reads)
    (end_form c.self.invariant.reads.0 c.args.end c.args.new c.self.inside.bytes.items passes (carries c)))
