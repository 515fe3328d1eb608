-- take: after a row, the entries are those of the log up to it, and a row that no log contains is refused.
use Rattle.std.proofs.Common.{◌≡◌, ◌≤◌, ◌∷◌, ◌++◌, [], refl, sym, ap, subst, arith, rules}
use Rattle.napt_log_text.specs.declared.{event.LogEvent.{LogEvent, TheVariants.{Ended, Living, Made, Refused}}, log_row.LogField.TheVariants.{Empty, Number}}
use Rattle.napt_attribution.specs.{SavedLogs.{EventFollows, RowsTrackEvents, entries_in}, declared.saved_rows.SavedRows.SavedRows}
use Rattle.napt_attribution.proofs.SavedRows.{only_ended, only_living, only_made, only_refused, repeated_as_made, told_same}
use Rattle.napt_attribution.proofs.saved_rows.SavedRows.take.Goals as goal
use Rattle.napt_attribution.proofs.saved_rows.SavedRows.take.Goals.{in-Number-eq9+in_ok-end-in-Number-eq9, in-Number+in-Number+in_ok-time_of_other-in-Number, in-Empty+in_ok-add_living-in-Empty}

pub returns-in-Number-eq8 : goal.returns-in-Number-eq8
returns-in-Number-eq8 c = λ asked events event tells is.
    let at : c.args.row.now.event ≡ Number 8 = search rules in
    only_made c.args.row.now
    (λ e. EventFollows (entries_in events) e × RowsTrackEvents asked c.add_made.new.self (events ++ e ∷ [])) at
    (λ l same. c.in_ok-binding-in-Number-eq8.ensures asked events l tells same)
    (λ l made. (made.0, repeated_as_made asked c.add_made.new.self events l made.1)) event is

pub returns : goal.returns
returns c = λ asked events event tells is.
    let P = λ (s : SavedRows) (e : LogEvent). EventFollows (entries_in events) e
    × RowsTrackEvents asked s (events ++ e ∷ []) in
    elim c.match-row.branch as (λ _. P c.match-row.self event) [
      | in-Number-eq9+in_ok-end-in-Number-eq9 w ↦
          let at : c.args.row.now.event ≡ Number 9 = search rules in
          subst (λ (s : SavedRows). P s event) (sym w.self-is)
          (only_ended c.args.row.now (P w.end.new.self) at
          (λ l same. w.in_ok-end-in-Number-eq9.ensures asked events l tells same) event is)
      | in-Number+in-Number+in_ok-time_of_other-in-Number w ↦
          let refusal = w.is_refusal.ensures w.if-is_refusal.true in
          let least : 10 ≤ w.in-Number.event = omega (arith, refusal) in
          only_refused c.args.row.now (P c.match-row.self) w.in-Number.event w.in-Number.is least
          (λ s. (
            tt,
            told_same asked c.args.self.now c.match-row.self events tells (Refused s) refl (λ number. refl)
                (ap (λ (r : SavedRows). r.kept) w.self-is) (ap (λ (r : SavedRows). r.made) w.self-is)
                (ap (λ (r : SavedRows). r.unrepeated) w.self-is),
          )) event is
      | in-Empty+in_ok-add_living-in-Empty w ↦
          subst (λ (s : SavedRows). P s event) (sym w.self-is)
          (only_living c.args.row.now (P w.add_living.new.self) w.in-Empty.is
          (λ l same. w.in_ok-add_living-in-Empty.ensures asked events l tells same) event is)
    ]
