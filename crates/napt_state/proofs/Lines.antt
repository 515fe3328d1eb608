-- A line is split into its words again, since no word has a space, and a text into its lines, since no line has a line
-- feed.
use Rattle.std.proofs.lemmas.{Grind.common_steps, Bool.Decides.nat_tests}
use Rattle.std.proofs.Common.{ℕ, zero, suc, ◌≡◌, ◌≢◌, ◌<◌, get_or, nat_le, ◌==◌, ◌||◌, ◌/◌, ◌%◌, ◌∙◌, Bool, true, false, List, [], ◌∷◌, ◌++◌, codes, decimal, length, Option, Some, None, IfSome, refl, sym, ap, subst, append_assoc, append-nil, length-append, if◌then◌else◌, arith}
use Rattle.std.{proofs.{BufReadLemmas.{take_through-append, drop_through-append}, Math.Seq.get_or-append_seam}, specs.Fmt.{digit_glyph, digits, digits_onto}}
use Rattle.std.specs.{Io.{BufRead.{take_through, drop_through}, KnownBytes.IsAtEnd}, List.{All, list_any, slice_split}, Net.Text.dotted_text, Str.{IsAscii, IsUtf8}}
use Rattle.std.proofs.lemmas.{Str.{IsAscii-append, IsUtf8-from_ascii}, Bool.{both_ways, eqb-false, false_from_ne_true, or_parts}, List.{append_cancel_right, Elements.{All-append, All-cons}}}
use Rattle.std.proofs.lemmas.List.{Folds.{list_any-append, list_any_at}, Splits.{slice_split_at, slice_split_none}}
use Rattle.napt_wire.specs.declared.Protocol.{Protocol, TheVariants.{Icmp, Tcp, Udp}}
use Rattle.napt_config.specs.Text.{address_text}
use Rattle.napt_account.specs.declared.account.Account.{Account}
use Rattle.napt_state.specs.declared.line.StateLine.{StateLine}
use Rattle.napt_state.specs.declared.line.StateLine.TheVariants as lines
use Rattle.napt_state.specs.StateContents.{IsFirstLine}
use Rattle.napt_state.specs.StateText.{StateTextBytes, is_space, words_in, words_text, state_flag, kind_text, state_protocol_name, end_text, count_words, words_if, split_words, line_text}

-- A byte that no word has: one that ends it, or is not ASCII.
abbrev is_mark : ℕ → Bool
is_mark byte = is_space byte || ((byte == 10) || nat_le 128 byte)

abbrev has_mark : StateTextBytes → Bool
has_mark text = list_any is_mark text

no_mark_at : (text : StateTextBytes) → has_mark text ≡ false → All (λ byte. is_mark byte ≡ false) text
no_mark_at text none k d within =
    false_from_ne_true _ (λ is. both_ways _ none (list_any_at is_mark text k d within is))

no_space_at : (text : StateTextBytes) → has_mark text ≡ false → All (λ byte. is_space byte ≡ false) text
no_space_at text none k d within = (or_parts (is_space (get_or text k d)) _ (no_mark_at text none k d within)).0

abbrev pub IsLine : StateTextBytes → Type 0
IsLine text = All (λ byte. byte ≢ 10) text

no_end_at : (text : StateTextBytes) → has_mark text ≡ false → IsLine text
no_end_at text none k d within =
    eqb-false (get_or text k d) 10
    (or_parts (get_or text k d == 10) _ (or_parts (is_space (get_or text k d)) _ (no_mark_at text none k d within)).1).0

ascii_word : (text : StateTextBytes) → has_mark text ≡ false → IsAscii text
ascii_word [] none i = omega arith
ascii_word (byte ∷ text) none zero =
    (let small = (or_parts (is_mark byte) _ none).0 in grind (arith, nat_tests, small))
ascii_word (byte ∷ text) none (suc i) = ascii_word text (or_parts (is_mark byte) _ none).1 i

-- WORDS WITHOUT A MARK

glyph : (digit : ℕ) → digit < 10 → is_mark (digit_glyph false digit) ≡ false
glyph digit few = grind (arith, nat_tests)

in_digits : (many number : ℕ) (text : StateTextBytes) → has_mark text ≡ false →
    has_mark (digits_onto many 10 false number text) ≡ false
in_digits zero number text none = none
in_digits (suc many) number text none =
    let here : has_mark (digit_glyph false (number % 10) ∷ text) ≡ false =
    rw (glyph (number % 10) (omega arith)) none in
    elim (number / 10 == 0) as (λ b. has_mark (if b then digit_glyph false (number % 10) ∷ text
    else digits_onto many 10 false (number / 10) (digit_glyph false (number % 10) ∷ text)) ≡ false)
    [ true ↦ here | false ↦ in_digits many (number / 10) (digit_glyph false (number % 10) ∷ text) here ]

in_decimal : (number : ℕ) → has_mark (decimal number) ≡ false
unfolding digits
in_decimal number = in_digits 64 number [] refl

in_dotted : (a b c d : ℕ) → has_mark (dotted_text a b c d) ≡ false
in_dotted a b c d = simp (list_any-append, in_decimal a, in_decimal b, in_decimal c, in_decimal d)

in_address : (address : ℕ) → has_mark (address_text address) ≡ false
unfolding address_text
in_address address = in_dotted _ _ _ _

in_flag : (flag : Bool) → has_mark (state_flag flag) ≡ false
in_flag true = refl
in_flag false = refl

in_kind : (fixed : Bool) → has_mark (kind_text fixed) ≡ false
in_kind true = refl
in_kind false = refl

in_protocol : (protocol : Protocol) → has_mark (state_protocol_name protocol) ≡ false
in_protocol Icmp = refl
in_protocol Tcp = refl
in_protocol Udp = refl

in_end : (end : Option ℕ) → has_mark (end_text end) ≡ false
in_end (Some end) = in_decimal end
in_end None = refl

abbrev have_marks : List StateTextBytes → Bool
have_marks texts = list_any has_mark texts

in_account : (account : Option Account) → have_marks (words_if account) ≡ false
in_account (Some account) = simp (in_decimal)
in_account None = refl

in_words : (entry : StateLine) → have_marks (split_words entry) ≡ false
in_words (lines.Clock clock) = simp (in_decimal)
in_words (lines.Log position) = simp (in_decimal)
in_words (lines.Binding row last account) = simp (in_kind, in_protocol, in_address, in_decimal, in_account account)
in_words (lines.Flow flow) = simp (in_address, in_decimal, in_flag)
in_words (lines.Held row end) = simp (in_protocol, in_address, in_decimal)
in_words (lines.EarlierLog made length) = simp (in_decimal)
in_words (lines.EarlierEntry listed) = simp (in_kind, in_protocol, in_address, in_decimal, in_end)
in_words (lines.End counts) = elim counts.entries as (λ n. have_marks (codes "end" ∷ decimal counts.bindings
    ∷ decimal counts.flows ∷ count_words n) ≡ false) [ Some n ↦ simp (in_decimal) | None ↦ simp (in_decimal) ]

many : (entry : StateLine) → 0 < length (split_words entry)
many (lines.Clock clock) = omega arith
many (lines.Log position) = omega arith
many (lines.Binding row last account) = omega arith
many (lines.Flow flow) = omega arith
many (lines.Held row end) = omega arith
many (lines.EarlierLog made length) = omega arith
many (lines.EarlierEntry listed) = omega arith
many (lines.End counts) = omega arith

-- LINES

-- The words of a line, before the line feed at its end.
abbrev joined : StateTextBytes → List StateTextBytes → StateTextBytes
joined first [] = first
joined first (word ∷ more) = first ++ 32 ∷ joined word more

words_text-joined : (first : StateTextBytes) (more : List StateTextBytes) →
    words_text (first ∷ more) ≡ joined first more ++ codes "\n"
words_text-joined first [] = refl
words_text-joined first (word ∷ more) = rw (words_text-joined word more) (simp append_assoc)

split-joined : (first : StateTextBytes) (more : List StateTextBytes) → have_marks (first ∷ more) ≡ false →
    slice_split is_space (joined first more) ≡ first ∷ more
split-joined first [] none =
    slice_split_none is_space first (no_space_at first (or_parts (has_mark first) false none).0)
split-joined first (word ∷ more) none =
    let (here, behind) = or_parts (has_mark first) (have_marks (word ∷ more)) none in
    slice_split_at is_space first 32 (joined word more) (no_space_at first here) refl
    ∙ ap (λ parts. first ∷ parts) (split-joined word more behind)

words_in-line : (line : StateTextBytes) (texts : List StateTextBytes) → 0 < length texts → have_marks texts ≡ false →
    words_text texts ≡ line ++ codes "\n" → words_in line ≡ texts
words_in-line line [] some none is = absurd (omega arith)
words_in-line line (first ∷ more) some none is =
    ap (slice_split is_space) (append_cancel_right _ _ (codes "\n") (sym is ∙ words_text-joined first more))
    ∙ split-joined first more none

pub words_read : (entry : StateLine) (line : StateTextBytes) → line_text entry ≡ line ++ codes "\n" →
    words_in line ≡ split_words entry
unfolding line_text
words_read entry line is = words_in-line line (split_words entry) (many entry) (in_words entry) is

joined-line : (first : StateTextBytes) (more : List StateTextBytes) → have_marks (first ∷ more) ≡ false →
    IsLine (joined first more)
joined-line first [] none = no_end_at first (or_parts (has_mark first) false none).0
joined-line first (word ∷ more) none =
    let (here, behind) = or_parts (has_mark first) (have_marks (word ∷ more)) none in
    All-append (λ byte. byte ≢ 10) first (32 ∷ joined word more) (no_end_at first here)
    (All-cons (λ byte. byte ≢ 10) 32 (joined word more) (λ is. omega arith) (joined-line word more behind))

-- WHAT IS WRITTEN IS UTF-8

ascii_end : IsAscii (codes "\n")
ascii_end zero = omega arith
ascii_end (suc i) = omega arith

ascii_space : (text : StateTextBytes) → IsAscii text → IsAscii (32 ∷ text)
ascii_space text all zero = omega arith
ascii_space text all (suc i) = all i

ascii_joined : (first : StateTextBytes) (more : List StateTextBytes) → have_marks (first ∷ more) ≡ false →
    IsAscii (joined first more)
ascii_joined first [] none = ascii_word first (or_parts (has_mark first) false none).0
ascii_joined first (word ∷ more) none =
    let (here, behind) = or_parts (has_mark first) (have_marks (word ∷ more)) none in
    IsAscii-append first (32 ∷ joined word more) (ascii_word first here)
    (ascii_space (joined word more) (ascii_joined word more behind))

ascii_words : (texts : List StateTextBytes) → 0 < length texts → have_marks texts ≡ false → IsAscii (words_text texts)
ascii_words [] some none = absurd (omega arith)
ascii_words (first ∷ more) some none = subst IsAscii (sym (words_text-joined first more))
    (IsAscii-append (joined first more) (codes "\n") (ascii_joined first more none) ascii_end)

pub line_text-utf8 : (entry : StateLine) → IsUtf8 (line_text entry)
unfolding line_text
line_text-utf8 entry = IsUtf8-from_ascii (words_text (split_words entry))
    (ascii_words (split_words entry) (many entry) (in_words entry))

abbrev pub Line : StateTextBytes → Type 0
Line text = (line : StateTextBytes) × (text ≡ line ++ codes "\n") × IsLine line

line_of : (texts : List StateTextBytes) → 0 < length texts → have_marks texts ≡ false → Line (words_text texts)
line_of [] some none = absurd (omega arith)
line_of (first ∷ more) some none = (joined first more, words_text-joined first more, joined-line first more none)

pub line_text-ended : (entry : StateLine) → Line (line_text entry)
unfolding line_text
line_text-ended entry = line_of (split_words entry) (many entry) (in_words entry)

module _ (left new : Option (List ℕ)) (old line : StateTextBytes) (text rest : StateTextBytes) (none : old ≡ [])
    (got : IfSome left (λ xs. line ≡ old ++ take_through 10 xs)) (left_is : left ≡ Some (text ++ rest)) where
  -- The line that is read is the first of those that were left, and the rest is left after it.
  pub line_read : IfSome left (λ xs. new ≡ Some (drop_through 10 xs)) → Line text → (line ≡ text) × (new ≡ Some rest)
  line_read h k = grind (arith, common_steps, nat_tests, append_assoc, take_through-append, drop_through-append)

  -- A line is left, so that the text has not ended.
  pub line_left : IsAtEnd left → Line text → ⊥
  line_left end (row, is, whole) =
      let empty : text ++ rest ≡ [] = subst IsAtEnd left_is end in
      omega (arith, ap length empty, ap length is, length-append text rest, length-append row (codes "\n"))

-- A text that ends inside a line is that line, and has no line feed at its end.
module _ (left : Option (List ℕ)) (old line torn : StateTextBytes) (none : old ≡ [])
    (got : IfSome left (λ xs. line ≡ old ++ take_through 10 xs)) (left_is : left ≡ Some torn) (whole : IsLine torn)
  where
    pub torn_line : torn ≡ line
    torn_line = sym (append-nil torn) ∙ sym (take_through-append 10 torn [] whole) ∙
        ap (take_through 10) (append-nil torn)
        ∙ ap (λ l. l ++ take_through 10 torn) (sym none)
        ∙ sym (subst (λ o. IfSome o (λ xs. line ≡ old ++ take_through 10 xs)) left_is got)

    pub torn_read : (front : StateTextBytes) → line ≡ front ++ codes "\n" → ⊥
    torn_read front ended =
        let is : torn ≡ front ++ codes "\n" = torn_line ∙ ended in
        whole (length front) 0 (omega (arith, ap length is, length-append front (codes "\n")))
        (ap (λ l. get_or l (length front) 0) is ∙ get_or-append_seam front 10 [] 0)

both_parts : (xs : StateTextBytes) → take_through 10 xs ++ drop_through 10 xs ≡ xs
both_parts [] = refl
both_parts (x ∷ xs) = elim (x == 10) as (λ b. (if b then x ∷ [] else x ∷ take_through 10 xs)
    ++ (if b then xs else drop_through 10 xs) ≡ x ∷ xs) [ true ↦ refl | false ↦ ap (λ l. x ∷ l) (both_parts xs) ]

-- The line that is read is the beginning of the text that was left.
pub first_read : (left new : Option (List ℕ)) (old line : StateTextBytes) (all : StateTextBytes) (is : StateLine) →
    old ≡ [] →
    IfSome left (λ xs. line ≡ old ++ take_through 10 xs) → IfSome left (λ xs. new ≡ Some (drop_through 10 xs)) →
    left ≡ Some all → line ≡ line_text is → IsFirstLine is all new
first_read left new old line all is none got gone left_is same =
    let first : line ≡ old ++ take_through 10 all =
    subst (λ o. IfSome o (λ xs. line ≡ old ++ take_through 10 xs)) left_is got in (
      drop_through 10 all,
      sym (both_parts all) ∙ ap (λ l. l ++ drop_through 10 all)
          (ap (λ l. l ++ take_through 10 all) (sym none) ∙ sym first ∙ same),
      subst (λ o. IfSome o (λ xs. new ≡ Some (drop_through 10 xs))) left_is gone,
    )
