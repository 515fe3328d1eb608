-- into_state: the bindings so far and those to come are all bindings, and those so far have been converted.
use Rattle.std.{proofs.Common.{◌≡◌, ◌++◌}, specs.Vec.Iter.into_iter_items}
use Rattle.napt_state.proofs.RestoredBindings.{TakesSoFar}
use Rattle.napt_state.proofs.state_contents.StateFileContents.into_state.Given as goal

abbrev pub invariant-loop-binding : goal.invariant-loop-binding
invariant-loop-binding l = record {
  split : l.yielded ++ into_iter_items l.binding-iterator ≡ into_iter_items l.initial.binding-iterator;
  so_far : TakesSoFar l.config.timers l.clock l.yielded l.list.items l.accounts.items;
}
