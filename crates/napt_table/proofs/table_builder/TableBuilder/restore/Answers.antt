-- `restore`: the restored binding is live or held, and neither it nor a flow was used after the clock.
use Rattle.std.proofs.{Common.{◌≡◌, false, sym, ◌∙◌, arith}, lemmas.{Grind.common_steps, Bool.Decides.nat_tests}}
use Rattle.napt_rules.specs.Prelude.{hold_ago}
use Rattle.napt_table.{proofs.ResumedTables.{one_distinct, seen_lives, seen_used}}
use Rattle.napt_table.proofs.table_builder.TableBuilder.restore.Goals as goal

pub from_state-requires : goal.from_state-requires
from_state-requires c live =
    let s = c.args.self.now in
    let b = c.args.binding.now in
    let loose : b.row.fixed ≡ false = grind (arith, common_steps, nat_tests) in
    let here : b.row.external.address ≡ s.address = grind (arith, common_steps, nat_tests) in
    let ago : c.hold_ago-ago.result ≡ hold_ago s.timers s.at = grind (arith, common_steps) in
    let timers : c.timers-timers.result ≡ s.timers = grind (arith, common_steps) in
    rw (timers, ago) (one_distinct s.timers s.at s.address b loose here (rw (← ago, ← timers) live) c.requires.flows)

pub add-requires-clause-live : goal.add-requires-clause-live
add-requires-clause-live c =
    let s = c.args.self.now in
    let b = c.args.binding.now in
    let loose : b.row.fixed ≡ false = grind (arith, common_steps, nat_tests) in
    let here : b.row.external.address ≡ s.address = grind (arith, common_steps, nat_tests) in
    let ago : c.hold_ago-ago.result ≡ hold_ago s.timers s.at = grind (arith, common_steps) in
    let timers : c.timers-timers.result ≡ s.timers = grind (arith, common_steps) in
    seen_lives s.timers s.at s.address b loose here c.in-Some.binding
    (rw (← ago, ← timers) (sym c.in_ok-binding.ensures ∙ c.in-Some.is))

pub add-requires-clause-used : goal.add-requires-clause-used
add-requires-clause-used c =
    let s = c.args.self.now in
    let b = c.args.binding.now in
    let loose : b.row.fixed ≡ false = grind (arith, common_steps, nat_tests) in
    let here : b.row.external.address ≡ s.address = grind (arith, common_steps, nat_tests) in
    let ago : c.hold_ago-ago.result ≡ hold_ago s.timers s.at = grind (arith, common_steps) in
    let timers : c.timers-timers.result ≡ s.timers = grind (arith, common_steps) in
    seen_used s.timers s.at s.address b loose here c.in-Some.binding
    (rw (← ago, ← timers) (sym c.in_ok-binding.ensures ∙ c.in-Some.is)) c.requires.flows c.requires.last
