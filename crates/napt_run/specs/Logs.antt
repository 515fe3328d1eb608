-- The effect of a run on its log.
use Rattle.std.specs.Prelude.{◌≡◌, ◌⊎◌, ◌+◌, ◌<◌, ◌^◌, [], List, length, ℕ, Option, Result, IfOk}
use Rattle.napt_capture.specs.declared.device.Sink.{Ghosts}
use Rattle.napt_account.specs.{Log.LogModel, ResumedLogRuns.left_of}
use Rattle.napt_records.specs.declared.{Fault.Fault, Which.TheVariants.{Log}}
use Rattle.napt_run.specs.{LogOrigins.texts_of, Origins.OriginModel, Posts.{IsDone, OutputEnds}, Runs.IfHeld, RunningLogs.running_log_of, Streams.stream_ended}
use Rattle.napt_run.specs.declared.log_writer.LogWriter.{LogWriter}

-- The saved log of a run without a log has no entries.
abbrev pub NoLogPost : Result LogModel Fault → Type 0
NoLogPost result = IfOk result (λ log. log ≡ record { made = 0; entries = []; shortages = [] })

-- This is the log that is saved with the state at the end of the run.
abbrev pub LogIsKept : OriginModel → LogModel → Option (List ℕ) → Option (List ℕ) → LogModel → Type 0
LogIsKept origin log inside outside left =
    IfHeld inside outside (λ all. left ≡ left_of origin.rules origin.state log all.arrivals)

-- The log contains its text from its origin on, the saved log belongs to the state at the end of the run, and the
-- device is flushed, or one of its calls failed.
pub record LogPost {L : Type 0} {S : Ghosts L} (origin : OriginModel) (inside outside : Option (List ℕ))
    (result : Result LogModel Fault) (old new : LogWriter L S) : Type 0 where
  pub written : OutputEnds (texts_of (running_log_of origin old)) Log inside outside (stream_ended result) old.output
      new.output
  pub tried : S.is_flushed new.output.device.now
      ⊎ (S.failed new.output.device.now ≡ S.failed old.output.device.now + 1)
  pub kept : IfOk result (LogIsKept origin old.log.log inside outside)
  pub few : IsDone (stream_ended result) → IfHeld inside outside (λ all. length all.arrivals < 2 ^ 62)
