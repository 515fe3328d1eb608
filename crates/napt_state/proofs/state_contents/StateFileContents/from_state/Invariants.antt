-- of: the bindings so far and those to come are all bindings, and those so far have been saved.
use Rattle.std.{proofs.Common.{◌≡◌, ◌++◌}, specs.Vec.Iter.into_iter_items}
use Rattle.napt_state.specs.Saved.{saved_bindings}
use Rattle.napt_state.proofs.state_contents.StateFileContents.from_state.Given as goal

abbrev pub invariant-loop-binding : goal.invariant-loop-binding
invariant-loop-binding l = record {
  split : l.yielded ++ into_iter_items l.binding-iterator ≡ into_iter_items l.initial.binding-iterator;
  so_far : l.bindings.items ≡ saved_bindings l.config.timers l.clock l.yielded l.accounts.items;
}
