-- add_entry: the line gets the words of the entry.
use Rattle.std.proofs.Common.{◌≡◌, [], ◌∷◌, ◌++◌, ◌∙◌, codes, decimal, string_bytes, ap, arith}
use Rattle.napt_account.specs.declared.log.LogEntry.{LogEntry}
use Rattle.napt_state.specs.StateText.{StateTextBytes, spaced, words_text, row_words, use_words, entry_words}
use Rattle.napt_state.proofs.WrittenTexts.{words_behind}
use Rattle.napt_state.proofs.line.add_entry.Goals as goal

entry_text : (old : StateTextBytes) (l : LogEntry) →
    (((old ++ codes "entry ") ++ spaced (decimal l.number ∷ [])) ++ spaced (row_words l.entry.binding []))
    ++ words_text (use_words l.entry) ≡ old ++ words_text (entry_words l)
entry_text old l =
    let entered = codes "entry" ∷ [] in
    let number = decimal l.number ∷ [] in
    words_behind ((old ++ spaced entered) ++ spaced number) (row_words l.entry.binding []) (use_words l.entry)
    (omega arith)
    ∙ words_behind (old ++ spaced entered) number (row_words l.entry.binding (use_words l.entry)) (omega arith)
    ∙ words_behind old entered (decimal l.number ∷ row_words l.entry.binding (use_words l.entry)) (omega arith)

pub returns : goal.returns
returns c =
    let l = c.args.numbered.now in
    c.in_ok-add_use.ensures
    ∙ ap (λ (t : StateTextBytes). t ++ words_text (use_words l.entry)) (c.in_ok-add_row.ensures
    ∙ ap (λ (t : StateTextBytes). t ++ spaced (row_words l.entry.binding [])) (c.in_ok-add_spaced.ensures
    ∙ ap (λ (t : StateTextBytes). t ++ spaced (decimal l.number ∷ [])) c.in_ok-push_str.ensures.bytes))
    ∙ entry_text (string_bytes c.args.text.now) l
