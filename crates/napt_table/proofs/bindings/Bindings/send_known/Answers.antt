-- `send_known`: a known binding's packet is sent as in the definition; else no binding changes.
use Rattle.std.{proofs.Common.{◌≡◌, ℕ, Option, Some, None, Result, Ok, Err, cond, ap, subst}, specs.{Prelude.{IfOk, IfSome}, Option.is_some}}
use Rattle.std.specs.declared.alloc.AllocError.{AllocError}
use Rattle.napt_config.specs.Rules.{AreTimers}
use Rattle.napt_rules.specs.declared.OutboundPacket.{OutboundPacket}
use Rattle.napt_table.specs.{BindingIndexes.{IsNamed, HasNoLiveBinding, SendKnownPost}, Bindings.{BindingsModel, SendsKnown}}
use Rattle.napt_table.proofs.AssignedNumbers.{found_is, went_answer, went_any_block, went_keeps, none_live}
use Rattle.napt_table.proofs.bindings.Bindings.send_known.Goals as goal

known : (p : OutboundPacket) (old new : BindingsModel) → AreTimers old.timers → IsNamed old.held →
    (r : Result (Option ℕ) AllocError) → IfOk r (SendKnownPost old.timers p old.held new.held) →
    IfOk r (λ found. new.at ≡ cond (is_some found) p.now old.at) →
    IfOk r (λ found. IfSome found (λ number. SendsKnown p old new number))
known p old new t named (Err e) went at = tt
known p old new t named (Ok None) went at = tt
known p old new t named (Ok (Some number)) went at = record {
  place = went.one.place;
  at = at;
  sends = λ list apart is_taken keeps left. (
    went_answer old.timers t old.held.assignment p old.held new.held named number went list apart keeps,
    went_keeps old.timers t old.held.assignment p old.held new.held named number went list apart keeps left,
  );
  any_block = λ list apart keeps. went_any_block old.timers t old.held.assignment p old.held new.held named number went
      list apart keeps;
  finds = λ list apart keeps. ap is_some (found_is old.timers t old.held.assignment p old.held new.held named number
      went
      list apart keeps);
}

pub returns-clause-known : goal.returns-clause-known
returns-clause-known c = known c.args.packet c.args.self.now c.send_held.new.self
    (subst (λ (x : BindingsModel). AreTimers x.timers) c.self.view_is c.are_within_limits.ensures) c.keep_names.ensures
    c.send_held.result c.send_held.ensures.went c.send_held.ensures.at

pub returns-clause-unknown : goal.returns-clause-unknown
returns-clause-unknown c is =
    let p = c.args.packet in
    let old = c.args.self.now in
    let new = c.send_held.new.self in
    let none : HasNoLiveBinding old.timers p old.held new.held =
    subst (λ (r : Result (Option ℕ) AllocError). IfOk r (SendKnownPost old.timers p old.held new.held)) is
    c.send_held.ensures.went in (
      record {
        timers_is = c.send_held.ensures.timers;
        at_is = subst (λ (r : Result (Option ℕ) AllocError).
            IfOk r (λ found. new.at ≡ cond (is_some found) p.now old.at)) is c.send_held.ensures.at;
        same = none.same;
      },
      λ list apart keeps. ap is_some (none_live old.timers p old.held new.held c.keep_names.ensures none list apart
          keeps),
    )
