-- run_after_headers: the records after the headers of both captures are the inputs of the run.
use Rattle.std.proofs.Common.{◌≡◌, ℕ, ◌+◌, List, Option, Some, sym, ◌∙◌, ap, subst}
use Rattle.napt_records.specs.{NewStreams.{IsMergerNew, IsStreamNew}, StreamMergers.IsMergerLive}
use Rattle.napt_wire.specs.declared.Side.TheVariants as sides
use Rattle.napt_run.{specs.{Captures.failed_readings, Streams.IsAfterHeader}, proofs.OpenStreams.{begun_live, stream_begun}}
use Rattle.napt_run.proofs.{AfterHeaders.{reads_of, runs_to}, OutputsAndLogOfRun.logs_to, start.RunSetting.run_after_headers.{Given.Over, Goals.After-pass-passed}}
use Rattle.napt_run.specs.Origins.{origin_of}
use Rattle.napt_run.proofs.start.RunSetting.run_after_headers.Goals as goal

live : (g : Over) (c : After-pass-passed g) → IsMergerLive c.new-inputs.result
live g c =
    begun_live c.new-inputs.result (ap (λ s. s.live.fault) c.new-inputs.ensures.inside ∙ c.new-ours.ensures.live)
    (ap (λ s. s.live.fault) c.new-inputs.ensures.outside ∙ c.new-theirs.ensures.live) c.new-inputs.ensures.inside_first
    c.new-inputs.ensures.outside_first

begun : (g : Over) (c : After-pass-passed g) (bytes others : Option (List ℕ)) →
    IsAfterHeader g.R.Source c.args.records.inside bytes c.args.inside.now →
    IsAfterHeader g.Q.Source c.args.records.outside others c.args.outside.now →
    (b o : List ℕ) → bytes ≡ Some b → others ≡ Some o → IsMergerNew c.new-inputs.result b o
begun g c bytes others ours theirs b o is same = record {
  inside_begun = subst (λ s. IsStreamNew s (Some b)) (sym c.new-inputs.ensures.inside)
      (subst (λ (k : Option (List ℕ)). IsStreamNew c.new-ours.result k) is
      (stream_begun c.new-ours.result _ _ bytes ours c.new-ours.ensures.records c.new-ours.ensures.value
      c.new-ours.ensures.live c.new-ours.ensures.cut));
  outside_begun = subst (λ s. IsStreamNew s (Some o)) (sym c.new-inputs.ensures.outside)
      (subst (λ (k : Option (List ℕ)). IsStreamNew c.new-theirs.result k) same
      (stream_begun c.new-theirs.result _ _ others theirs c.new-theirs.ensures.records c.new-theirs.ensures.value
      c.new-theirs.ensures.live c.new-theirs.ensures.cut));
  inside_first = c.new-inputs.ensures.inside_first;
  outside_first = c.new-inputs.ensures.outside_first;
  clock = c.new-inputs.ensures.clock;
}

pub returns-clause-runs : goal.returns-clause-runs
returns-clause-runs g c bytes others start ours theirs is_new begins =
    let at = (goal.at.returns-clause-runs g c).After-pass-passed in
    runs_to (origin_of c.args.self.start) c.new-inputs.result start c.args.both.now.leaving
    c.pass-passed.new.inputs c.pass-passed.new.both.leaving bytes others (live g at)
    (begun g at bytes others ours theirs) is_new begins c.pass-passed.result c.pass-passed.ensures.outputs

pub returns-clause-logs : goal.returns-clause-logs
returns-clause-logs g c bytes others ours theirs =
    let at = (goal.at.returns-clause-logs g c).After-pass-passed in
    logs_to g.K.Told.LegTrace.tells g.K.StreamLog.enters g.K.StreamLog.fails g.K.StreamLog.is_settled
    g.G.Gate.is_open (origin_of c.args.self.start) c.new-inputs.result c.args.both.now.leaving c.pass-passed.new.inputs
    c.pass-passed.new.both.leaving c.args.both.now.log.now c.pass-passed.new.both.log.now bytes others
    (begun g at bytes others ours theirs) c.pass-passed.result c.pass-passed.ensures.outputs c.pass-passed.ensures.log

pub returns-clause-readings : goal.returns-clause-readings
returns-clause-readings g c not_run =
    let at = (goal.at.returns-clause-readings g c).After-pass-passed in
    let (read, is, by) =
    reads_of (origin_of c.args.self.start) c.new-inputs.result c.pass-passed.new.inputs c.args.both.now.leaving
    c.pass-passed.new.both.leaving (live g at) c.pass-passed.result c.pass-passed.ensures.outputs not_run in (
      read,
      is,
      ap g.R.Source.failed (c.inside-1.given.1 (sym c.new-ours.ensures.name
          ∙ ap (λ s. s.live.source.ghost_name) (sym c.new-inputs.ensures.inside) ∙ sym by.same.0
          ∙ ap (λ s. s.live.source.ghost_name) (sym c.into_streams-ours.ensures.inside)
          ∙ sym c.into_source-inside.ensures.name)
          ∙ c.into_source-inside.ensures.value ∙ ap (λ s. s.live.source.now) c.into_streams-ours.ensures.inside)
          ∙ by.inside_count ∙ ap (λ v. g.R.Source.failed v + failed_readings sides.Inside read)
          (ap (λ s. s.live.source.now) c.new-inputs.ensures.inside ∙ c.new-ours.ensures.value),
      ap g.Q.Source.failed (c.outside-1.given.1 (sym c.new-theirs.ensures.name
          ∙ ap (λ s. s.live.source.ghost_name) (sym c.new-inputs.ensures.outside) ∙ sym by.same.1
          ∙ ap (λ s. s.live.source.ghost_name) (sym c.into_streams-ours.ensures.outside)
          ∙ sym c.into_source-outside.ensures.name)
          ∙ c.into_source-outside.ensures.value ∙ ap (λ s. s.live.source.now) c.into_streams-ours.ensures.outside)
          ∙ by.outside_count ∙ ap (λ v. g.Q.Source.failed v + failed_readings sides.Outside read)
          (ap (λ s. s.live.source.now) c.new-inputs.ensures.outside ∙ c.new-theirs.ensures.value),
    )
