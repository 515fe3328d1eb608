-- saved: a text that was written for a state is read to its end, and each text that can be read is that of a state.
use Rattle.std.proofs.lemmas.{Bool.true≢false, Result.err_from_is_err_and}
use Rattle.std.proofs.Common.{ℕ, ◌≡◌, List, Some, Ok, Err, IfOk, sym, ap, subst, inl, inr}
use Rattle.napt_state.specs.declared.line.StateLine.{StateLine}
use Rattle.napt_state.specs.{Saved.HasAccounts, StateContents.{IsFirstLine, IsReadAs}}
use Rattle.napt_state.proofs.LinesAhead.{AheadOf, ahead_next, none_next, can_follow, no_end, ahead_added, all_read, unless_weaker, taken_added, taken_all, earlier_read, no_earlier}
use Rattle.napt_state.proofs.state_reader.StateReader.saved.Goals as goal

pub returns-in_err-line-clause-read : goal.returns-in_err-line-clause-read
returns-in_err-line-clause-read g c whole fits left =
    let p = err_from_is_err_and c.from_residual-in_err-line.result c.from_residual-in_err-line.ensures.1 in
    rw (p.1, p.2) (none_next whole c.loop.saved _ (g.R.Read.remaining c.entry.new.self.reader) _
    c.in_err-line.field-0.0 c.in_err-line.ensures.entry (c.loop.invariant.read whole fits left))

pub returns-in_err-end-in-End-clause-read : goal.returns-in_err-end-in-End-clause-read
returns-in_err-end-in-End-clause-read g c whole fits left =
    let new = g.R.Read.remaining c.entry.new.self.reader in
    let (more, ahead) = ahead_next whole c.loop.saved (g.R.Read.remaining c.loop.self.reader) new c.in_ok-line.line
    c.in_ok-line.ensures.entry (c.loop.invariant.read whole fits left) in
    let all = all_read whole c.loop.saved c.in-End.counts more new
    (subst (λ (l : StateLine). AheadOf whole c.loop.saved l more new) c.in-End.is ahead) in
    let p = err_from_is_err_and c.from_residual-in_err-end-in-End.result
    c.from_residual-in_err-end-in-End.ensures.1 in
    rw (p.1, p.2) (unless_weaker c.in_err-end-in-End.field-0.0 (λ w. absurd (true≢false (sym w)))
    (c.in_err-end-in-End.ensures.read all.1 (subst HasAccounts (sym all.0) fits.1) all.2))

pub returns-in-End-clause-read : goal.returns-in-End-clause-read
returns-in-End-clause-read g c whole fits left =
    let new = g.R.Read.remaining c.entry.new.self.reader in
    let (more, ahead) = ahead_next whole c.loop.saved (g.R.Read.remaining c.loop.self.reader) new c.in_ok-line.line
    c.in_ok-line.ensures.entry (c.loop.invariant.read whole fits left) in
    ap Ok (all_read whole c.loop.saved c.in-End.counts more new
    (subst (λ (l : StateLine). AheadOf whole c.loop.saved l more new) c.in-End.is ahead)).0

pub returns-in-End-clause-exact : goal.returns-in-End-clause-exact
returns-in-End-clause-exact g c text left =
    inl (taken_all text c.loop.saved c.in_ok-line.line (g.R.Read.remaining c.loop.self.reader)
    (g.R.Read.remaining c.entry.new.self.reader) (c.loop.invariant.exact text left) c.in_ok-line.ensures.exact
    c.in-End.counts c.in-End.is c.in_ok-end-in-End.ensures.same c.in_ok-end-in-End.ensures.exact)

pub returns-in_err-add-in_default-clause-read : goal.returns-in_err-add-in_default-clause-read
returns-in_err-add-in_default-clause-read g c whole fits left =
    let new = g.R.Read.remaining c.entry.new.self.reader in
    let line = c.in_ok-line.line in
    let (more, ahead) = ahead_next whole c.loop.saved (g.R.Read.remaining c.loop.self.reader) new line
    c.in_ok-line.ensures.entry (c.loop.invariant.read whole fits left) in
    let p = err_from_is_err_and c.from_residual-in_err-add-in_default.result
    c.from_residual-in_err-add-in_default.ensures.1 in
    rw (p.1, p.2) (unless_weaker c.in_err-add-in_default.field-0.0 (λ w. absurd (true≢false (sym w)))
    (c.in_err-add-in_default.ensures.read (can_follow whole c.loop.saved line more new ahead
    (no_end line c.in_default.not-End))))

pub loop-preserved : goal.loop-preserved
loop-preserved g c =
    let old = g.R.Read.remaining c.loop.self.reader in
    let new = g.R.Read.remaining c.entry.new.self.reader in
    let line = c.in_ok-line.line in
    let added = c.in_ok-add-in_default.ensures.added in
    record {
      read = λ whole fits left.
          let (more, ahead) = ahead_next whole c.loop.saved old new line c.in_ok-line.ensures.entry
          (c.loop.invariant.read whole fits left) in
          ahead_added whole c.loop.saved line more new c.add.new.saved ahead added;
      exact = λ text left. taken_added text c.loop.saved line old new (c.loop.invariant.exact text left)
          c.in_ok-line.ensures.exact c.add.new.saved added;
    }

pub returns-in-EarlierLog-clause-read : goal.returns-in-EarlierLog-clause-read
returns-in-EarlierLog-clause-read g c whole fits left =
    let new = g.R.Read.remaining c.entry.new.self.reader in
    let (more, ahead) = ahead_next whole c.loop.saved (g.R.Read.remaining c.loop.self.reader) new c.in_ok-line.line
    c.in_ok-line.ensures.entry (c.loop.invariant.read whole fits left) in
    absurd (no_earlier whole c.loop.saved c.in-EarlierLog.made c.in-EarlierLog.field-1 more new
    (subst (λ (l : StateLine). AheadOf whole c.loop.saved l more new) c.in-EarlierLog.is ahead))

pub returns-in-EarlierLog-clause-exact : goal.returns-in-EarlierLog-clause-exact
returns-in-EarlierLog-clause-exact g c text left =
    let earlier = earlier_read text c.loop.saved c.in-EarlierLog.made c.in-EarlierLog.field-1
    (g.R.Read.remaining c.loop.self.reader) (g.R.Read.remaining c.entry.new.self.reader)
    (c.loop.invariant.exact text left) (subst (λ (l : StateLine). (all : List ℕ) →
    g.R.Read.remaining c.loop.self.reader ≡ Some all → IsFirstLine l all (g.R.Read.remaining c.entry.new.self.reader))
    c.in-EarlierLog.is c.in_ok-line.ensures.exact) in
    elim c.earlier.result as (λ r. IfOk r (IsReadAs text)) [ Ok saved ↦ inr earlier | Err reason ↦ tt ]
