-- fix_address: two updates for one word each are the update for an address.
use Rattle.std.proofs.Common.{◌∙◌, ◌/◌, ◌%◌, [], ◌∷◌}
use Rattle.napt_wire.proofs.Checksums.{canon_low, canon_swap}
use Rattle.napt_wire.proofs.checksum.fix_address.Goals as goal

pub returns : goal.returns
returns c =
    rw (c.fix_check.ensures, c.fix_check-high.ensures)
    (canon_low c.args.check (c.args.old / 65536 ∷ []) (c.args.new / 65536 ∷ []) c.args.old c.args.new
    ∙ canon_swap c.args.check (c.args.old % 65536) (c.args.old / 65536) (c.args.new % 65536) (c.args.new / 65536) [] [])
