-- push_live: the line of the binding, and after it one for each of its flows, have been appended.
use Rattle.std.proofs.{lemmas.Grind.common_steps, Common.arith}
use Rattle.napt_state.specs.StateText.{binding, flow}
use Rattle.napt_state.proofs.WrittenTexts.{written_behind}
use Rattle.napt_state.proofs.text.push_live.Goals as goal

pub returns : goal.returns
returns g c = grind (
  arith,
  common_steps,
  written_behind (binding c.args.binding.now.row c.args.binding.now.last c.args.account) flow,
)
