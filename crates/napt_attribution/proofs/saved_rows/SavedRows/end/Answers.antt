-- end: the open entry of the row gets the time of the row as its end.
use Rattle.std.proofs.{Common.{◌≡◌, ◌∙◌, ℕ, Option, Some, map, refl, sym, ap, subst, rules}, lemmas.Result.on_ok_weaker}
use Rattle.napt_log_text.specs.declared.{event.LogEvent.TheVariants.Ended, log_row.LogRow.LogRow}
use Rattle.napt_attribution.specs.SavedLogs.{RowsTrackEntries, entries_in, entry_with_end}
use Rattle.napt_attribution.proofs.SavedRows.{time_some, told_ended}
use Rattle.napt_attribution.proofs.saved_rows.SavedRows.end.Goals as goal

pub returns : goal.returns
returns c = λ asked events listed tells is.
    let at : c.from.result ≡ c.in_ok-at.at = search rules in
    let end = time_some listed.entry.end c.in_ok-at.at (sym (ap (λ (r : LogRow). r.time) is) ∙ c.in_ok-at.ensures) ∙
    ap Some (sym at) in
    on_ok_weaker c.end_at.result (λ done. (
      done.0,
      told_ended asked c.args.self.now c.end_at.new.self events tells (Ended listed) listed refl (λ number. refl) done.0
          (subst (λ (x : Option ℕ). RowsTrackEntries asked c.end_at.new.self
          (map (entry_with_end listed.number x) (entries_in events)))
          (sym end) done.1) done.2,
    )) (c.end_at.ensures asked (entries_in events) listed
    (record { kept = tells.keeps.kept; made = tells.keeps.made; repeated = tells.keeps.repeated })
    (ap (λ (r : LogRow). r.number) is) (c.in_ok-binding.ensures listed.entry.end (Some 9) listed is))
