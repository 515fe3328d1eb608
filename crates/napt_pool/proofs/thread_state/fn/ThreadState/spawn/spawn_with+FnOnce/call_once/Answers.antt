-- spawn: the closure satisfies what `spawn_with` requires.
use Rattle.std.proofs.Common.{rules}
use Rattle.napt_pool.proofs.thread_state.fn.ThreadState.spawn.spawn_with+FnOnce.call_once.Goals as goal

pub spawn_with-requires : goal.spawn_with-requires
spawn_with-requires g c =
    (search rules, (search rules, (search rules, (search rules, (search rules, (search rules, search rules))))))
