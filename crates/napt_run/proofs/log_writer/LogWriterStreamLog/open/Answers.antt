-- open: the log begins with its first rows.
use Rattle.std.proofs.Common.{[], ◌∙◌, ap, string_bytes, subst}
use Rattle.napt_log_text.specs.Times.{TimeText}
use Rattle.napt_run.specs.{LogOrigins.LoggedOrigin, RunningLogs.{LogAdds, LogIsAt, running_log_of}}
use Rattle.napt_run.proofs.LogTextAtEnd.{opens_by, unopened_by}
use Rattle.napt_run.proofs.log_writer.LogWriterStreamLog.open.{Given.Over, Goals.After-drop-opening}
use Rattle.napt_run.proofs.log_writer.LogWriterStreamLog.open.Goals as goal

adds : (g : Over) (c : After-drop-opening g) (from : LoggedOrigin) → LogIsAt from [] c.args.self.now →
    LogAdds from [] (string_bytes c.args.self.now.opening) c.args.self.now.output c.write.result c.write.new.self
adds g c from at =
    subst (λ (l : TimeText). LogAdds from [] l c.args.self.now.output c.write.result c.write.new.self)
    (c.deref.ensures ∙ ap string_bytes c.replace-opening.ensures.value)
    (c.write.ensures.text from [] (record {
      log = at.log;
      few = at.few;
      sound = at.sound;
      each = at.each;
      goes_on = at.goes_on;
    }))

pub returns-clause-ok : goal.returns-clause-ok
returns-clause-ok g c = opens_by c.args.self.now c.write.new.self c.write.result (adds g c)

pub returns-clause-err : goal.returns-clause-err
returns-clause-err g c origin inside outside ready = unopened_by origin inside outside c.args.self.now ready
    c.write.new.self c.write.result (adds g c (running_log_of origin c.args.self.now) ready.at)
