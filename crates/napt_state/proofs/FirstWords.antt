-- The word with which each line begins.
use Rattle.std.proofs.Common.{◌≡◌, ℕ, ◌+◌, ◌*◌, min, Bool, true, false, [], ◌++◌, codes, length, Option, Some, sym, ◌∙◌, ap, get_or, arith}
use Rattle.napt_account.specs.declared.{account.Account.Account, log.LogEntry.LogEntry}
use Rattle.napt_rules.specs.declared.{Flow.Flow, Row.Row}
use Rattle.napt_state.specs.declared.line.{LineCounts.LineCounts, LogPosition.LogPosition, StateLine.StateLine}
use Rattle.napt_state.specs.declared.line.StateLine.TheVariants as lines
use Rattle.napt_state.specs.StateText.{StateTextBytes, IsStateLine, clock, binding, flow, log, earlier_log, held_line, entry, end, words_in, clock_words, binding_words, flow_words, held_words, log_words, earlier_log_words, entry_words, end_line_words, kind_text, split_words, line_text}
use Rattle.napt_state.proofs.Lines.{words_read}

-- A key that is different for each of the first words.
abbrev pub key : StateTextBytes → ℕ
key text = min 700 (100 * length text + get_or text 0 0)

abbrev first : StateLine → StateTextBytes
first is = get_or (split_words is) 0 []

abbrev pub tag : StateLine → ℕ
tag (lines.Clock at) = 599
tag (lines.Log position) = 408
tag (lines.Binding row last account) = 700
tag (lines.Flow one) = 502
tag (lines.Held row end) = 504
tag (lines.End counts) = 401
tag (lines.EarlierLog made length) = 408
tag (lines.EarlierEntry listed) = 601

kind_key : (fixed : Bool) → key (kind_text fixed) ≡ 700
kind_key true = omega arith
kind_key false = omega arith

tagged : (is : StateLine) → key (first is) ≡ tag is
tagged (lines.Binding row last account) = kind_key row.fixed
tagged _ = omega arith

-- The first word of a line of a state.
pub tag_of : (line word name : StateTextBytes) → word ≡ get_or (words_in line) 0 [] → (is : StateLine) →
    line_text is ≡ line ++ codes "\n" → word ≡ name → key name ≡ tag is
tag_of line word name got is text e =
    ap key (sym e ∙ got ∙ ap (λ ws. get_or ws 0 []) (words_read is line text)) ∙ tagged is

module _ (line : StateTextBytes) (result : Option StateLine) where
  pub clock_arm : ((at : ℕ) → IsStateLine (clock at) → words_in line ≡ clock_words at → result ≡ Some (clock at)) →
      (is : StateLine) → IsStateLine is → words_in line ≡ split_words is → 599 ≡ tag is → result ≡ Some is
  clock_arm h (lines.Clock at) fits has e = h at fits has
  clock_arm h _ fits has e = absurd (omega (arith, e))

  pub binding_arm : ((row : Row) (last : ℕ) (account : Option Account) → IsStateLine (binding row last account) →
      words_in line ≡ binding_words row last account → result ≡ Some (binding row last account)) →
      (is : StateLine) → IsStateLine is → words_in line ≡ split_words is → 700 ≡ tag is → result ≡ Some is
  binding_arm h (lines.Binding row last account) fits has e = h row last account fits has
  binding_arm h _ fits has e = absurd (omega (arith, e))

  pub held_arm : ((row : Row) (end : ℕ) → IsStateLine (held_line row end) →
      words_in line ≡ held_words row end → result ≡ Some (held_line row end)) →
      (is : StateLine) → IsStateLine is → words_in line ≡ split_words is → 504 ≡ tag is → result ≡ Some is
  held_arm h (lines.Held row end) fits has e = h row end fits has
  held_arm h _ fits has e = absurd (omega (arith, e))

  pub flow_arm : ((one : Flow) → IsStateLine (flow one) → words_in line ≡ flow_words one → result ≡ Some (flow one)) →
      (is : StateLine) → IsStateLine is → words_in line ≡ split_words is → 502 ≡ tag is → result ≡ Some is
  flow_arm h (lines.Flow one) fits has e = h one fits has
  flow_arm h _ fits has e = absurd (omega (arith, e))

  pub log_arm : ((position : LogPosition) → IsStateLine (log position) → words_in line ≡ log_words position →
      result ≡ Some (log position)) →
      ((made length : ℕ) → IsStateLine (earlier_log made length) → words_in line ≡ earlier_log_words made length →
      result ≡ Some (earlier_log made length)) →
      (is : StateLine) → IsStateLine is → words_in line ≡ split_words is → 408 ≡ tag is → result ≡ Some is
  log_arm h k (lines.Log position) fits has e = h position fits has
  log_arm h k (lines.EarlierLog made length) fits has e = k made length fits has
  log_arm h k _ fits has e = absurd (omega (arith, e))

  pub entry_arm : ((one : LogEntry) → IsStateLine (entry one) → words_in line ≡ entry_words one →
      result ≡ Some (entry one)) →
      (is : StateLine) → IsStateLine is → words_in line ≡ split_words is → 601 ≡ tag is → result ≡ Some is
  entry_arm h (lines.EarlierEntry one) fits has e = h one fits has
  entry_arm h _ fits has e = absurd (omega (arith, e))

  pub end_arm : ((counts : LineCounts) → IsStateLine (end counts) → words_in line ≡ end_line_words counts →
      result ≡ Some (end counts)) →
      (is : StateLine) → IsStateLine is → words_in line ≡ split_words is → 401 ≡ tag is → result ≡ Some is
  end_arm h (lines.End counts) fits has e = h counts fits has
  end_arm h _ fits has e = absurd (omega (arith, e))
