-- workers: one more worker has the translator of the next address.
use Rattle.std.proofs.Common.{◌≡◌, length, ◌∙◌, ap, refl, arith}
use Rattle.napt_rules.specs.Prelude.{with_redirects}
use Rattle.napt_dispatch.{specs.Dispatch.started_from, proofs.{DispatchEnds.length_started, ClosedWorkers.started_more}}
use Rattle.napt_dispatch.proofs.workers.workers.Goals as goal

pub loop-index-preserved : goal.loop-index-preserved
loop-index-preserved g c = record {
  within = omega (arith, ap length c.pool.ensures.addresses);
  made = rw (
    c.in_ok-push.ensures.items,
    c.loop-index.invariant.made,
    c.in_ok-translator.ensures.shown,
    c.in_ok-copy.ensures,
    started_more c.args.config.now (with_redirects c.args.config.now c.args.state.now) c.loop-index.index,
  ) refl;
}

pub returns-clause-made : goal.returns-clause-made
returns-clause-made g c =
    let whole : c.loop-index.index ≡ length c.args.config.now.pool =
    omega (arith, ap length c.pool.ensures.addresses) in
    c.loop-index.invariant.made ∙ ap (started_from c.args.config.now
    (with_redirects c.args.config.now c.args.state.now)) whole

pub returns-clause-many : goal.returns-clause-many
returns-clause-many g c =
    omega (
      arith,
      ap length c.pool.ensures.addresses,
      ap length c.loop-index.invariant.made,
      length_started c.args.config.now (with_redirects c.args.config.now c.args.state.now) c.loop-index.index,
      c.loop-index.made.ok.0,
    )
