-- fix: three updates for one word each are one update for the words of an address.
use Rattle.napt_wire.proofs.Checksums.{canon_three}
use Rattle.napt_wire.proofs.header_rewrite.AddressRewrite.fix.Goals as goal

pub returns : goal.returns
returns c =
    rw (c.fix.ensures, c.fix-fixed-2.ensures, c.fix-fixed.ensures)
    (canon_three c.args.check c.args.self.now.header_check c.args.self.now.high c.args.self.now.low)
