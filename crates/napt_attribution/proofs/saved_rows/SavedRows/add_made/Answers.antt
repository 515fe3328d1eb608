-- add_made: the row begins an entry with its number and its time.
use Rattle.std.proofs.Common.{◌≡◌, ◌∙◌, ◌∷◌, ◌++◌, ◌<◌, [], ℕ, None, Some, refl, sym, ap, ap₂, subst}
use Rattle.napt_rules.specs.declared.Row.{Row}
use Rattle.napt_account.specs.{declared.log.{Entry.Entry, LogEntry.LogEntry}, Log.unused_entry}
use Rattle.napt_log_text.specs.declared.log_row.LogRow.{LogRow}
use Rattle.napt_attribution.specs.{SavedLogs.{TracksEntries, bare_entry, entries_in}, declared.{kept_entries.KeptEntries.KeptEntries, saved_rows.SavedRows.SavedRows}}
use Rattle.napt_attribution.proofs.SavedRows.{number_of, rises_more, told_made}
use Rattle.napt_attribution.proofs.saved_rows.SavedRows.add_made.Goals as goal

pub returns : goal.returns
returns c = λ asked events listed tells is.
    let closed = c.close_replaced.ensures (rw tells.keeps.repeated at c.remove-replaced.ensures.value) in
    let entry : LogEntry = record { number = c.in_ok-number.number; entry = c.unused_entry.result } in
    let number = number_of (sym c.in_ok-number.ensures.0 ∙ ap (λ (r : LogRow). r.number) is) in
    let made = number_of (sym c.in_ok-made.ensures ∙ ap (λ (r : LogRow). r.time) is) in
    let same : entry ≡ bare_entry None listed =
    ap₂ (λ (n : ℕ) (e : Entry). let one : LogEntry = record { number = n; entry = e } in one) number
    (c.unused_entry.ensures ∙ ap₂ (λ (b : Row) (m : ℕ). unused_entry b m None)
    (c.in_ok-binding.ensures (Some listed.entry.made) (Some 8) listed is) made) in
    let less : c.args.self.now.made < c.in_ok-number.number =
    subst (λ (n : ℕ). n < c.in_ok-number.number) (ap (λ (s : SavedRows). s.made) closed) c.in_ok-number.ensures.1 in
    let kept = c.in_ok-insert.ensures asked (entries_in events)
    (subst (λ (k : KeptEntries). TracksEntries asked k (entries_in events))
    (sym (ap (λ (s : SavedRows). s.kept) closed))
    tells.keeps.kept)
    (ap (λ (e : Entry). e.end) c.unused_entry.ensures)
    (rises_more c.args.self.now.made (entries_in events) entry tells.keeps.kept.rising tells.keeps.made less) in
    told_made asked c.args.self.now _ events tells listed
    (subst (λ (n : ℕ). c.args.self.now.made < n) number less) number
    (ap (λ (s : SavedRows). s.unrepeated.entries) closed ∙
    (rw tells.keeps.repeated at c.remove-replaced.ensures.entries))
    (subst (λ (l : LogEntry). TracksEntries asked c.insert.new.self (entries_in events ++ l ∷ [])) same kept)
