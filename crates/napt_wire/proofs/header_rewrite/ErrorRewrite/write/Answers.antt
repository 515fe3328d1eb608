-- write: every word lies within the bytes, and the three groups of words are written in order.
use Rattle.std.proofs.{Common.{◌+◌, ◌≤◌, length, ◌∷◌, []}, lemmas.List.Elements.{All-head, All-tail}}
use Rattle.napt_wire.proofs.{Changes.length-changed, EndReplacement.{there-front, there-rest, there-changed}}
use Rattle.napt_wire.specs.Prelude.{changes_of, address_changes_of, with_changes, Change}
use Rattle.napt_wire.proofs.header_rewrite.ErrorRewrite.write.Goals as goal

pub write-requires : goal.write-requires
write-requires c = there-front (changes_of c.args.self.now.quoted) (c.args.self.now.check
    ∷ address_changes_of c.args.self.now.address) _ c.requires

pub write-requires-2 : goal.write-requires-2
write-requires-2 c =
    rw (c.write.ensures, length-changed)
    (All-head (λ (d : Change). d.place + 2 ≤ length c.args.bytes.now) c.args.self.now.check
    (address_changes_of c.args.self.now.address)
    (there-rest (changes_of c.args.self.now.quoted) (c.args.self.now.check ∷ address_changes_of c.args.self.now.address)
    _ c.requires))

pub write-requires-3 : goal.write-requires-3
write-requires-3 c =
    rw (c.write-2.ensures, c.write.ensures)
    (there-changed (c.args.self.now.check ∷ []) (address_changes_of c.args.self.now.address)
    (with_changes (changes_of c.args.self.now.quoted) c.args.bytes.now)
    (there-changed (changes_of c.args.self.now.quoted) (address_changes_of c.args.self.now.address) c.args.bytes.now
    (All-tail (λ (d : Change). d.place + 2 ≤ length c.args.bytes.now) c.args.self.now.check
    (address_changes_of c.args.self.now.address)
    (there-rest (changes_of c.args.self.now.quoted) (c.args.self.now.check ∷ address_changes_of c.args.self.now.address)
    _ c.requires))))
