-- add_accounted: the line gets the words of the row, the last use and the account.
use Rattle.std.proofs.Common.{◌≡◌, ℕ, [], ◌∷◌, ◌++◌, ◌∙◌, decimal, string_bytes, ap, arith}
use Rattle.napt_account.specs.declared.account.Account.{Account}
use Rattle.napt_rules.specs.declared.Row.{Row}
use Rattle.napt_state.specs.StateText.{StateTextBytes, account_words, row_words, spaced, words_text}
use Rattle.napt_state.proofs.WrittenTexts.{words_behind}
use Rattle.napt_state.proofs.line.add_accounted.Goals as goal

accounted_text : (old : StateTextBytes) (row : Row) (last : ℕ) (a : Account) →
    ((old ++ spaced (row_words row [])) ++ spaced (decimal last ∷ [])) ++ words_text (account_words a)
    ≡ old ++ words_text (row_words row (decimal last ∷ account_words a))
accounted_text old row last a =
    words_behind (old ++ spaced (row_words row [])) (decimal last ∷ []) (account_words a) (omega arith)
    ∙ words_behind old (row_words row []) (decimal last ∷ account_words a) (omega arith)

pub returns : goal.returns
returns c =
    c.in_ok-add_account.ensures
    ∙ ap (λ (t : StateTextBytes). t ++ words_text (account_words c.args.account)) (c.in_ok-add_spaced.ensures
    ∙ ap (λ (t : StateTextBytes). t ++ spaced (decimal c.args.last ∷ [])) c.in_ok-add_row.ensures)
    ∙ accounted_text (string_bytes c.args.text.now) c.args.row.now c.args.last c.args.account
