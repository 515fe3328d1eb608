-- add_living: an entry that is open at the end of the log gets the end that its row names.
use Rattle.std.proofs.{Common.{◌≡◌, ◌∙◌, ℕ, Option, None, Some, map, refl, sym, ap, subst}, lemmas.Result.on_ok_weaker}
use Rattle.napt_log_text.specs.declared.{event.LogEvent.TheVariants.Living, log_row.LogRow.LogRow}
use Rattle.napt_attribution.specs.SavedLogs.{RowsTrackEntries, entries_in, entry_with_end}
use Rattle.napt_attribution.proofs.SavedRows.{no_end_told, time_none, time_some, told_ended, told_same}
use Rattle.napt_attribution.proofs.saved_rows.SavedRows.add_living.Goals as goal

pub returns-in-Number : goal.returns-in-Number
returns-in-Number c = λ asked events listed tells is.
    let end = time_some listed.entry.end c.in-Number.end (sym (ap (λ (r : LogRow). r.time) is) ∙ c.in-Number.is) in
    on_ok_weaker c.end_at.result (λ done. (
      done.0,
      told_ended asked c.args.self.now c.end_at.new.self events tells (Living listed) listed refl (λ number. refl)
          done.0
          (subst (λ (x : Option ℕ). RowsTrackEntries asked c.end_at.new.self
          (map (entry_with_end listed.number x) (entries_in events)))
          (sym end) done.1) done.2,
    )) (c.end_at.ensures asked (entries_in events) listed tells.keeps (ap (λ (r : LogRow). r.number) is)
    (c.in_ok-binding.ensures listed.entry.end None listed is))

pub returns-in-Some : goal.returns-in-Some
returns-in-Some c = λ asked events listed tells is.
    let none = time_none listed.entry.end (sym (ap (λ (r : LogRow). r.time) is) ∙ c.in-Empty.is) in
    let found = c.in-Some.ensures asked (entries_in events) listed tells.keeps (ap (λ (r : LogRow). r.number) is)
    (c.in_ok-binding.ensures listed.entry.end None listed is) in (
      found.1,
      told_same asked c.args.self.now c.args.self.now events tells (Living listed) refl (no_end_told listed none)
          refl refl refl,
    )
