-- kind: the stored body gives the kind, and for an error the quoted datagram.
use Rattle.std.proofs.{Common.{arith, List, ℕ}, lemmas.{Grind.common_steps, Bool.Decides.nat_tests}}
use Rattle.napt_wire.{proofs.WithInner.{is_error_of, quoted_form}, specs.Prelude.{inner, kind}}
use Rattle.napt_wire.proofs.packet.Packet.kind.Goals as goal

pub quoted_header-requires-clause-error : goal.quoted_header-requires-clause-error
quoted_header-requires-clause-error c = grind (arith, common_steps, nat_tests, is_error_of, quoted_form)

pub quoted_header-requires-clause-quoted : goal.quoted_header-requires-clause-quoted
quoted_header-requires-clause-quoted c =
    let bytes : List ℕ = c.self.inside.bytes.items in
    rw (← c.self.view_is)
    (quoted_form bytes c.self.inside.start c.self.inside.body c.in-Error.quoted c.self.invariant.found c.in-Error.is).1

pub returns-in-Error : goal.returns-in-Error
unfolding kind inner
returns-in-Error c = grind (arith, common_steps, nat_tests, quoted_form)
