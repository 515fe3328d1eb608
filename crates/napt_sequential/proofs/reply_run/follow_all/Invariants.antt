-- follow_all: the inputs so far and those to come are all, and the run has had those so far.
use Rattle.std.{proofs.Common.{◌≡◌, ◌++◌}, specs.Vec.Iter.into_iter_items}
use Rattle.napt_sequential.proofs.OneMoreReplyInput.{FollowedSoFar}
use Rattle.napt_sequential.proofs.reply_run.follow_all.Given as goal

abbrev pub invariant-loop-input : goal.invariant-loop-input
invariant-loop-input l = record {
  split : l.yielded ++ into_iter_items l.input-iterator ≡ l.fn.inputs.items;
  so_far : FollowedSoFar l.config l.yielded l.got.items l.last l.translators;
}
