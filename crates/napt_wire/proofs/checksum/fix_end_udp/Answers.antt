-- fix_end_udp: a checksum of 0 stays 0, and any other is updated for an end and is not 0.
use Rattle.std.proofs.{Common.{arith, ◌≡◌, ◌==◌, false, refl}, lemmas.{Grind.common_steps, Bool.Decides.nat_tests}}
use Rattle.napt_wire.specs.Prelude.{canon, canon_udp, end_words}
use Rattle.napt_wire.proofs.checksum.fix_end_udp.Goals as goal

pub returns-then-check-eq0 : goal.returns-then-check-eq0
unfolding canon_udp
returns-then-check-eq0 c = grind (arith, common_steps)

pub returns : goal.returns
unfolding canon_udp
returns c =
    let all : c.fix_check.result ≡ canon c.args.check (end_words c.args.old) (end_words c.args.new) =
    unfold canon in omega (arith, c.fix_check.ensures, c.fix_address-fixed.ensures) in
    let present : (c.args.check == 0) ≡ false = grind (arith, common_steps, nat_tests) in
    rw (c.udp_check_as_sent.ensures, all, present) refl
