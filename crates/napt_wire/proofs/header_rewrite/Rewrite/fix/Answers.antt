-- fix: the updates for the address, the number and the transport checksum are one update for all words.
use Rattle.std.proofs.Common.{option_to_list}
use Rattle.napt_wire.{specs.HeaderRewrite.address_changes_of, proofs.Checksums.{canon_all, canon-less}}
use Rattle.napt_wire.proofs.header_rewrite.Rewrite.fix.Goals as goal

pub fix_option-fixed-requires : goal.fix_option-fixed-requires
fix_option-fixed-requires c = rw c.fix-fixed.ensures (canon-less _ _ _)

pub fix_option-requires : goal.fix_option-requires
fix_option-requires c = rw c.fix_option-fixed.ensures (canon-less _ _ _)

pub returns : goal.returns
returns c =
    rw (c.fix_option.ensures, c.fix_option-fixed.ensures, c.fix-fixed.ensures)
    (canon_all c.args.check (option_to_list c.args.self.now.number) (option_to_list c.args.self.now.transport_check)
    (address_changes_of c.args.self.now.address))
