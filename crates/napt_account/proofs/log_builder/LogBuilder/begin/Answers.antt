-- begin: before the first input the entries are the open entries of the log, so that the invariant holds.
use Rattle.std.proofs.Common.{◌≡◌, ◌^◌, ℕ, List, [], ◌∷◌, ◌++◌, false, sym, ◌∙◌, ap, subst, arith}
use Rattle.napt_account.specs.{Log.LogModel, LogBuilders.{IsBuilt, built}}
use Rattle.napt_account.proofs.log_builder.LogBuilder.begin.Goals as goal

pub invariant_of-result : goal.invariant_of-result
invariant_of-result c = λ going.
    let start = c.requires in
    let log : LogModel = c.args.log.now in
    let is : built c.and.result.items c.new-2.result.items ≡ log =
    λ i. built ((c.and.ensures ∙ ap (λ (ls : List (ℕ × LogModel)). ls ++ (0, log) ∷ []) c.new.ensures) i)
    (c.new-2.ensures i) in
    let made = start.made in
    subst (λ (l : LogModel). IsBuilt (record {
      rules = c.args.config.now;
      clock = c.args.clock;
      log = l;
      taken = 0;
      is_stopped = false;
    }) c.in_ok-entries.entries) (sym is) (record {
      entries = c.in_ok-entries.ensures c.args.clock (2 ^ 61) start.kept start.numbered start.rises start.packets
          start.keyed;
      few = omega (arith, made);
    })

pub returns : goal.returns
returns c =
    let log : LogModel = c.args.log.now in
    let is : built c.and.result.items c.new-2.result.items ≡ log =
    λ i. built ((c.and.ensures ∙ ap (λ (ls : List (ℕ × LogModel)). ls ++ (0, log) ∷ []) c.new.ensures) i)
    (c.new-2.ensures i) in
    λ i. record {
      rules = c.args.config.now;
      clock = c.args.clock;
      log = is i;
      taken = 0;
      is_stopped = false;
    }
