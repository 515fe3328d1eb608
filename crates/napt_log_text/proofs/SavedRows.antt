-- A row is split into its fields again, since no field contains a comma, and a log into its rows, since no row contains
-- a line feed.
use Rattle.std.proofs.lemmas.{Grind.common_steps, Bool.Decides.nat_tests}
use Rattle.std.proofs.Common.{ℕ, zero, suc, ◌≡◌, ◌≢◌, ◌<◌, ◌^◌, get_or, ◌==◌, ◌||◌, ◌/◌, ◌%◌, ◌∙◌, Bool, true, false, List, [], ◌∷◌, ◌++◌, codes, decimal, length, Option, Some, None, IfSome, refl, sym, ap, subst, append_assoc, append-nil, length-append, if◌then◌else◌, lit<, arith}
use Rattle.std.{proofs.{BufReadLemmas.{take_through-append, drop_through-append}, Math.Seq.get_or-append_seam}, specs.Fmt.{digit_glyph, digits, digits_onto}}
use Rattle.std.specs.{Io.{BufRead.{take_through, drop_through}, KnownBytes.IsAtEnd}, List.{All, list_any, slice_split}, Net.Text.dotted_text}
use Rattle.std.proofs.lemmas.{Bool.{both_ways, eqb-false, false_from_ne_true, or_parts}, List.{append_cancel_right, Elements.{All-append, All-cons}}}
use Rattle.std.proofs.lemmas.List.{Folds.{list_any-append, list_any_at}, Splits.{slice_split_at, slice_split_none}}
use Rattle.napt_wire.specs.declared.{Cause.{Cause, TheVariants.OverQuota}, Protocol.{Protocol, TheVariants.{Icmp, Tcp, Udp}}}
use Rattle.napt_config.specs.{Rules.Rules, Text.address_text}
use Rattle.napt_account.specs.declared.log.LogEntry.{LogEntry}
use Rattle.napt_log_text.specs.declared.event.LogEvent.{LogEvent, TheVariants.{Made, Repeated, Ended, Living, Refused}}
use Rattle.napt_log_text.specs.Rows.{csv_row, fields, csv_flag, listed_fields, number_if_any, csv_protocol, quota_text, row_text, shortage_number}
use Rattle.napt_log_text.specs.{LogRows.{fields_in, flag_number, is_comma}, Times.TimeText}

-- A byte that ends a field.
abbrev is_mark : ℕ → Bool
is_mark byte = is_comma byte || (byte == 10)

abbrev has_mark : TimeText → Bool
has_mark text = list_any is_mark text

no_mark_at : (text : TimeText) → has_mark text ≡ false → All (λ byte. is_mark byte ≡ false) text
no_mark_at text none k d within =
    false_from_ne_true _ (λ is. both_ways _ none (list_any_at is_mark text k d within is))

no_comma_at : (text : TimeText) → has_mark text ≡ false → All (λ byte. is_comma byte ≡ false) text
no_comma_at text none k d within = (or_parts (is_comma (get_or text k d)) _ (no_mark_at text none k d within)).0

abbrev pub IsLine : TimeText → Type 0
IsLine text = All (λ byte. byte ≢ 10) text

no_end_at : (text : TimeText) → has_mark text ≡ false → IsLine text
no_end_at text none k d within =
    eqb-false (get_or text k d) 10 (or_parts (is_comma (get_or text k d)) _ (no_mark_at text none k d within)).1

-- TEXTS WITHOUT A MARK

glyph : (digit : ℕ) → is_mark (digit_glyph false digit) ≡ false
glyph digit = grind (arith, nat_tests)

in_digits : (many number : ℕ) (text : TimeText) → has_mark text ≡ false →
    has_mark (digits_onto many 10 false number text) ≡ false
in_digits zero number text none = none
in_digits (suc many) number text none =
    let here : has_mark (digit_glyph false (number % 10) ∷ text) ≡ false = rw (glyph (number % 10)) none in
    elim (number / 10 == 0) as (λ b. has_mark (if b then digit_glyph false (number % 10) ∷ text
    else digits_onto many 10 false (number / 10) (digit_glyph false (number % 10) ∷ text)) ≡ false)
    [ true ↦ here | false ↦ in_digits many (number / 10) (digit_glyph false (number % 10) ∷ text) here ]

in_decimal : (number : ℕ) → has_mark (decimal number) ≡ false
unfolding digits
in_decimal number = in_digits 64 number [] refl

in_dotted : (a b c d : ℕ) → has_mark (dotted_text a b c d) ≡ false
in_dotted a b c d = simp (list_any-append, in_decimal a, in_decimal b, in_decimal c, in_decimal d)

in_address : (address : ℕ) → has_mark (address_text address) ≡ false
unfolding address_text
in_address address = in_dotted _ _ _ _

in_number : (number : Option ℕ) → has_mark (number_if_any number) ≡ false
in_number None = refl
in_number (Some number) = in_decimal number

in_flag : (flag : Bool) → has_mark (csv_flag flag) ≡ false
in_flag true = refl
in_flag false = refl

in_quota : (cause : Cause) → has_mark (quota_text cause) ≡ false
in_quota OverQuota = refl
in_quota _ = refl

-- ROWS

abbrev have_marks : List TimeText → Bool
have_marks texts = list_any has_mark texts

-- The text of a row before the line feed at its end.
abbrev joined : TimeText → List TimeText → TimeText
joined first [] = first
joined first (field ∷ more) = first ++ 44 ∷ joined field more

row_text-joined : (first : TimeText) (more : List TimeText) → row_text (first ∷ more) ≡ joined first more ++ codes "\n"
row_text-joined first [] = refl
row_text-joined first (field ∷ more) = rw (row_text-joined field more) (simp append_assoc)

split-joined : (first : TimeText) (more : List TimeText) → have_marks (first ∷ more) ≡ false →
    slice_split is_comma (joined first more) ≡ first ∷ more
split-joined first [] none =
    slice_split_none is_comma first (no_comma_at first (or_parts (has_mark first) false none).0)
split-joined first (field ∷ more) none =
    let (here, behind) = or_parts (has_mark first) (have_marks (field ∷ more)) none in
    slice_split_at is_comma first 44 (joined field more) (no_comma_at first here) refl
    ∙ ap (λ parts. first ∷ parts) (split-joined field more behind)

fields_in-row : (row : TimeText) (texts : List TimeText) → 0 < length texts → have_marks texts ≡ false →
    row_text texts ≡ row ++ codes "\n" → fields_in row ≡ texts
fields_in-row row [] some none is = absurd (omega arith)
fields_in-row row (first ∷ more) some none is =
    ap (slice_split is_comma) (append_cancel_right _ _ (codes "\n") (sym is ∙ row_text-joined first more))
    ∙ split-joined first more none

in_listed : (time event : Option ℕ) (note : TimeText) (listed : LogEntry) → has_mark note ≡ false →
    have_marks (number_if_any time ∷ listed_fields event note listed) ≡ false
in_listed time event note listed none =
    simp (in_number, in_decimal, in_address, in_flag, none)

in_fields : (rules : Rules) (event : LogEvent) → have_marks (fields rules event) ≡ false
in_fields rules (Made listed) = in_listed (Some listed.entry.made) (Some 8) [] listed refl
in_fields rules (Repeated listed) = in_listed (Some listed.entry.made) (Some 8) (codes "repeated") listed refl
in_fields rules (Ended listed) = in_listed listed.entry.end (Some 9) [] listed refl
in_fields rules (Living listed) = in_listed listed.entry.end None [] listed refl
in_fields rules (Refused shortage) = grind (arith, common_steps, nat_tests, in_decimal, in_address, in_quota)

many : (rules : Rules) (event : LogEvent) → length (fields rules event) ≡ 14
many rules event = grind (arith, common_steps, nat_tests)

pub fields_read : (rules : Rules) (event : LogEvent) (row : TimeText) → csv_row rules event ≡ row ++ codes "\n" →
    fields_in row ≡ fields rules event
unfolding csv_row
fields_read rules event row is =
    fields_in-row row (fields rules event) (omega (arith, many rules event)) (in_fields rules event) is

-- A row of an event has 14 fields.
pub fields_many : (rules : Rules) (event : LogEvent) (row : TimeText) → csv_row rules event ≡ row ++ codes "\n" →
    length (fields_in row) ≡ 14
fields_many rules event row is = ap length (fields_read rules event row is) ∙ many rules event

pub small_protocol : (protocol : Protocol) → csv_protocol protocol < 2 ^ 128
small_protocol Icmp = lit< tt
small_protocol Tcp = lit< tt
small_protocol Udp = lit< tt

pub small_shortage : (cause : Cause) → shortage_number cause < 2 ^ 128
small_shortage OverQuota = lit< tt
small_shortage _ = lit< tt

pub small_flag : (flag : Bool) → flag_number flag < 2 ^ 128
small_flag true = lit< tt
small_flag false = lit< tt

pub flag_text-decimal : (flag : Bool) → csv_flag flag ≡ decimal (flag_number flag)
unfolding digits
flag_text-decimal true = refl
flag_text-decimal false = refl

-- LINES

joined-line : (first : TimeText) (more : List TimeText) → have_marks (first ∷ more) ≡ false → IsLine (joined first more)
joined-line first [] none = no_end_at first (or_parts (has_mark first) false none).0
joined-line first (field ∷ more) none =
    let (here, behind) = or_parts (has_mark first) (have_marks (field ∷ more)) none in
    All-append (λ byte. byte ≢ 10) first (44 ∷ joined field more) (no_end_at first here)
    (All-cons (λ byte. byte ≢ 10) 44 (joined field more) (λ is. omega arith) (joined-line field more behind))

-- A row is a line.
abbrev pub Line : TimeText → Type 0
Line text = (row : TimeText) × (text ≡ row ++ codes "\n") × IsLine row

row_text-line : (texts : List TimeText) → 0 < length texts → have_marks texts ≡ false → Line (row_text texts)
row_text-line [] some none = absurd (omega arith)
row_text-line (first ∷ more) some none = (joined first more, row_text-joined first more, joined-line first more none)

pub csv_row-line : (rules : Rules) (event : LogEvent) → Line (csv_row rules event)
unfolding csv_row
csv_row-line rules event =
    row_text-line (fields rules event) (omega (arith, many rules event)) (in_fields rules event)

module _ (left new : Option (List ℕ)) (old line : TimeText) (text rest : TimeText) (none : old ≡ [])
    (got : IfSome left (λ xs. line ≡ old ++ take_through 10 xs)) (left_is : left ≡ Some (text ++ rest)) where
  -- The line that is read is the first of those that were left, and the rest is left after it.
  pub line_read : IfSome left (λ xs. new ≡ Some (drop_through 10 xs)) → Line text → (line ≡ text) × (new ≡ Some rest)
  line_read h k = grind (arith, common_steps, nat_tests, append_assoc, take_through-append, drop_through-append)

  -- A line is left, so that the text has not ended.
  pub line_left : IsAtEnd left → Line text → ⊥
  line_left end (row, is, whole) =
      let empty : text ++ rest ≡ [] = subst IsAtEnd left_is end in
      omega (arith, ap length empty, ap length is, length-append text rest, length-append row (codes "\n"))

-- A text that ends inside a line has no line feed at its end.
pub torn_read : (left : Option (List ℕ)) (old line torn front : TimeText) → old ≡ [] →
    IfSome left (λ xs. line ≡ old ++ take_through 10 xs) → left ≡ Some torn → IsLine torn →
    line ≡ front ++ codes "\n" → ⊥
torn_read left old line torn front none got left_is whole ended =
    let is : torn ≡ front ++ codes "\n" =
    sym (append-nil torn) ∙ sym (take_through-append 10 torn [] whole) ∙ ap (take_through 10) (append-nil torn)
    ∙ ap (λ l. l ++ take_through 10 torn) (sym none)
    ∙ sym (subst (λ o. IfSome o (λ xs. line ≡ old ++ take_through 10 xs)) left_is got) ∙ ended in
    whole (length front) 0 (omega (arith, ap length is, length-append front (codes "\n")))
    (ap (λ l. get_or l (length front) 0) is ∙ get_or-append_seam front 10 [] 0)
