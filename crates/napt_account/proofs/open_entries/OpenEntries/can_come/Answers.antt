-- can_come: an endpoint has no entry here exactly if the log has no open entry for it.
use Rattle.std.proofs.Common.{◌≡◌, true, false, not, Option, Some, None, refl, sym, ◌∙◌, ap, subst}
use Rattle.std.specs.Option.{is_some, option_map}
use Rattle.napt_sequential.specs.declared.passage.Passage.{TheVariants.Made}
use Rattle.napt_account.specs.{declared.open_entries.OpenEntry.OpenEntry, Effects.CanCome}
use Rattle.napt_account.proofs.OpenEntries.{row_free, row_none}
use Rattle.napt_account.proofs.open_entries.OpenEntries.can_come.Goals as goal

pub returns-then-is_before-clause-yes : goal.returns-then-is_before-clause-yes
returns-then-is_before-clause-yes c = λ most log shows passed.
    let is : c.args.effect ≡ Made c.timed-timed.result = c.in-Made.is ∙ sym (ap Made c.timed-timed.ensures) in
    let none : c.find.result ≡ None = go c.find.result (c.is_none.ensures ∙ ap not passed) in
    subst (CanCome c.args.now log) (sym is) (
      sym c.if-is_before.ensures,
      row_none c.args.now most c.args.self.now log shows c.timed-timed.result.row
          (ap (option_map (λ (o : OpenEntry). o.numbered)) (sym c.find.ensures ∙ none)),
    )
  where
    go : (o : Option OpenEntry) → is_some o ≡ false → o ≡ None
    go None e = refl
    go (Some x) e = cc

pub returns-then-is_before-clause-no : goal.returns-then-is_before-clause-no
returns-then-is_before-clause-no c = λ most log shows isnt comes.
    let is : c.args.effect ≡ Made c.timed-timed.result = c.in-Made.is ∙ sym (ap Made c.timed-timed.ensures) in
    let here : CanCome c.args.now log (Made c.timed-timed.result) = subst (CanCome c.args.now log) is comes in
    let none : c.find.result ≡ None = c.find.ensures
    ∙ row_free c.args.now most c.args.self.now log shows c.timed-timed.result.row here.1 in
    let never : true ≡ false = sym (c.is_none.ensures ∙ ap not isnt) ∙ ap is_some none in cc
