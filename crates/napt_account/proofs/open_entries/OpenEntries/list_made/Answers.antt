-- list_made: the entry at the endpoint of a binding that was made is its open entry in the log.
use Rattle.std.proofs.Common.{◌≡◌, ◌++◌, [], List, sym, ◌∙◌, ap, append-nil}
use Rattle.std.specs.{Prelude.option_to_list, Option.option_map}
use Rattle.napt_sequential.specs.declared.passage.Passage.{Passage, TheVariants.Made}
use Rattle.napt_account.specs.{declared.{log.LogEntry.LogEntry, open_entries.OpenEntry.OpenEntry}, MadeEntries.made_entry}
use Rattle.napt_account.proofs.OpenEntries.{open_entry, open_is, open_none}
use Rattle.napt_account.proofs.open_entries.OpenEntries.list_made.Goals as goal

pub returns : goal.returns
returns c = λ now most log shows.
    let is : c.args.effect ≡ Made c.timed.result = c.in-Made.is ∙ sym (ap Made c.timed.ensures) in
    let o : OpenEntry = c.in-Some.open in
    c.in_ok-push.ensures.items
    ∙ ap (λ (ns : List LogEntry). c.args.made.now.items ++ ns)
    (sym (ap (λ (p : Passage). made_entry now p log) is
    ∙ ap option_to_list (open_is now most c.args.self.now log shows c.timed.result.row o.numbered
    (open_entry c.args.self.now _ o (sym c.find.ensures ∙ c.in-Some.is)))))

pub returns-in_default-find : goal.returns-in_default-find
returns-in_default-find c = λ now most log shows.
    let is : c.args.effect ≡ Made c.timed.result = c.in-Made.is ∙ sym (ap Made c.timed.ensures) in
    let none : made_entry now c.args.effect log ≡ [] = ap (λ (p : Passage). made_entry now p log) is
    ∙ ap option_to_list (open_none now most c.args.self.now log shows c.timed.result.row
    (ap (option_map (λ (o : OpenEntry). o.numbered)) (sym c.find.ensures ∙ c.in_default-find.is))) in
    sym (ap (λ (ns : List LogEntry). c.args.made.now.items ++ ns) none ∙ append-nil c.args.made.now.items)
