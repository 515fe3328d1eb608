-- read: a line that was written is read back, by the word with which it begins.
use Rattle.std.proofs.Common.{◌≡◌, [], ◌∙◌, codes, true, false, ap, get_or}
use Rattle.napt_state.specs.declared.line.StateLine.{StateLine}
use Rattle.napt_state.specs.declared.line.StateLine.TheVariants as lines
use Rattle.napt_state.specs.StateText.{StateTextBytes, split_words, kind_text}
use Rattle.napt_state.proofs.{FirstWords.{clock_arm, binding_arm, flow_arm, held_arm, log_arm, entry_arm, end_arm, tag_of}, Lines.words_read}
use Rattle.napt_state.proofs.line.StateLine.read.Goals as goal

pub returns-in-clock : goal.returns-in-clock
returns-in-clock c = record {
  read = λ is fits text. clock_arm c.args.line.now _ c.read_clock.ensures.read is fits
      (words_read is _ text) (tag_of _ _ _ c.word.ensures is text c.in-clock.is);
}

pub returns-in-binding : goal.returns-in-binding
returns-in-binding c = record {
  read = λ is fits text. binding_arm c.args.line.now _ c.read_binding.ensures.read is fits
      (words_read is _ text) (tag_of _ _ _ c.word.ensures is text c.in-binding.is);
}

pub returns-in-redirect : goal.returns-in-redirect
returns-in-redirect c = record {
  read = λ is fits text. binding_arm c.args.line.now _ c.read_binding-in-redirect.ensures.read
      is fits (words_read is _ text) (tag_of _ _ _ c.word.ensures is text c.in-redirect.is);
}

pub returns-in-flow : goal.returns-in-flow
returns-in-flow c = record {
  read = λ is fits text. flow_arm c.args.line.now _ c.read_flow.ensures.read is fits
      (words_read is _ text) (tag_of _ _ _ c.word.ensures is text c.in-flow.is);
}

pub returns-in-log : goal.returns-in-log
returns-in-log c = record {
  read = λ is fits text. log_arm c.args.line.now _ c.read_log.ensures.read c.read_log.ensures.earlier is fits
      (words_read is _ text) (tag_of _ _ _ c.word.ensures is text c.in-log.is);
}

pub returns-in-entry : goal.returns-in-entry
returns-in-entry c = record {
  read = λ is fits text. entry_arm c.args.line.now _ c.read_entry.ensures.read is fits
      (words_read is _ text) (tag_of _ _ _ c.word.ensures is text c.in-entry.is);
}

pub returns-in-held : goal.returns-in-held
returns-in-held c = record {
  read = λ is fits text. held_arm c.args.line.now _ c.read_held.ensures.read is fits
      (words_read is _ text) (tag_of _ _ _ c.word.ensures is text c.in-held.is);
}

pub returns-in-end : goal.returns-in-end
returns-in-end c = record {
  read = λ is fits text. end_arm c.args.line.now _ c.read_end.ensures.read is fits
      (words_read is _ text) (tag_of _ _ _ c.word.ensures is text c.in-end.is);
}

-- A line of a state begins with one of the words.
no_word : (word : StateTextBytes) (is : StateLine) → word ≡ get_or (split_words is) 0 [] → (word ≡ codes "clock" → ⊥) →
    (word ≡ codes "binding" → ⊥) → (word ≡ codes "redirect" → ⊥) → (word ≡ codes "flow" → ⊥) →
    (word ≡ codes "log" → ⊥) → (word ≡ codes "entry" → ⊥) → (word ≡ codes "end" → ⊥) →
    (word ≡ codes "held" → ⊥) → ⊥
no_word word (lines.Clock at) e a b c d f g h i = a e
no_word word (lines.Log position) e a b c d f g h i = f e
no_word word (lines.Binding row last account) e a b c d f g h i =
    elim row.fixed as (λ v. word ≡ kind_text v → ⊥) [ true ↦ c | false ↦ b ] e
no_word word (lines.Flow one) e a b c d f g h i = d e
no_word word (lines.Held row end) e a b c d f g h i = i e
no_word word (lines.End counts) e a b c d f g h i = h e
no_word word (lines.EarlierLog made length) e a b c d f g h i = f e
no_word word (lines.EarlierEntry listed) e a b c d f g h i = g e

pub returns-in_default : goal.returns-in_default
returns-in_default c = record {
  read = λ is fits text. absurd (no_word _ is
      (c.word.ensures ∙ ap (λ ws. get_or ws 0 []) (words_read is _ text)) c.in_default.not-clock
      c.in_default.not-binding
      c.in_default.not-redirect c.in_default.not-flow c.in_default.not-log c.in_default.not-entry c.in_default.not-end
      c.in_default.not-held);
}
