-- end_at: the open entry of a number gets this end, and no other entry changes.
use Rattle.std.proofs.Common.{ℕ, Some, map, refl, subst}
use Rattle.napt_attribution.specs.SavedLogs.{TracksEntries, entry_with_end}
use Rattle.napt_attribution.proofs.SavedRows.{kept_ended, open_some}
use Rattle.napt_attribution.proofs.saved_rows.SavedRows.end_at.Goals as goal

pub returns : goal.returns
returns c = λ asked entries listed keeps number binding.
    let found = c.in-Some.ensures asked entries listed keeps number binding in
    let kept = subst (λ (n : ℕ). TracksEntries asked c.close.new.self
    (map (entry_with_end n (Some c.args.end)) entries))
    found.0
    (c.in_ok-close.ensures asked entries keeps.kept (open_some entries listed _ found.0 found.1)) in (
      found.1,
      kept_ended asked c.args.self.now _ entries listed.number c.args.end keeps kept refl
          (rw keeps.repeated at c.remove.ensures.entries),
      refl,
    )
