-- What comes first in a text, and the records in it.
use Rattle.std.proofs.lemmas.{Grind.common_steps, Bool.{Decides.nat_tests, cases_Bool, cases_lt, lt-ltb, le-ltb}}
use Rattle.std.proofs.Common.{◌≡◌, ℕ, zero, suc, ◌+◌, ◌-◌, ◌<◌, ◌≤◌, inl, inr, Bool, true, false, List, [], ◌∷◌, length, take, drop, Option, Result, Ok, Err, refl, sym, ◌∙◌, ap, arith, length-drop, length-take-le, nat_lt}
use Rattle.napt_capture.specs.Prelude.{LARGEST_RECORD, CaptureFault, TooLarge, NextRead, Whole, End, CaptureFormat, units_per_second, RecordModel, CaptureReading, announced_length, bytes_asked_first, bytes_asked_for_records, capture_of_bytes, capture_by_format, captured_length, entry_in, fraction_field, records_from, records_after_skip, next_by, next_in, number_behind, size_in, format_by, format_in}

-- THE HEADER OF A RECORD

pub size_good : (s : CaptureFormat) (number : ℕ) (header : List ℕ) → fraction_field s header < units_per_second s →
    captured_length s header ≤ LARGEST_RECORD → size_in s number header ≡ Ok (captured_length s header)
size_good s number header less few = grind (arith, common_steps, lt-ltb, le-ltb)

announced_any : (s : CaptureFormat) (n m : ℕ) (header : List ℕ) → announced_length (size_in s n header)
    ≡ announced_length (size_in s m header)
announced_any s n m header = grind (arith, common_steps, nat_tests, cases_Bool)

-- A header announces at most as many bytes as the largest record has.
size_few : (s : CaptureFormat) (n : ℕ) (header : List ℕ) → announced_length (size_in s n header) ≤ LARGEST_RECORD
size_few s n header = grind (arith, common_steps, nat_tests, cases_Bool, le-ltb)

-- WHAT COMES FIRST IN A TEXT

pub next_short : (s : CaptureFormat) (n : ℕ) (text : List ℕ) → length text < 16 → next_in s n text
    ≡ Ok (End (nat_lt 0 (length text)))
next_short s n text short = rw (lt-ltb (length text) 16 short) refl

pub next_long : (s : CaptureFormat) (n : ℕ) (text : List ℕ) → 16 ≤ length text → next_in s n text
    ≡ next_by s text (size_in s n (take 16 text))
next_long s n text long = rw (le-ltb (length text) 16 long) refl

pub next_fault : (s : CaptureFormat) (n : ℕ) (text : List ℕ) (fault : CaptureFault) → 16 ≤ length text →
    size_in s n (take 16 text) ≡ Err fault → next_in s n text ≡ Err fault
next_fault s n text fault long is = next_long s n text long ∙ ap (next_by s text) is

pub next_cut : (s : CaptureFormat) (n : ℕ) (text : List ℕ) (size : ℕ) → 16 ≤ length text →
    size_in s n (take 16 text) ≡ Ok size → length text < 16 + size → next_in s n text ≡ Ok (End true)
next_cut s n text size long is short = grind (arith, common_steps, next_long, lt-ltb)

pub next_whole : (s : CaptureFormat) (n : ℕ) (text : List ℕ) (size : ℕ) → size_in s n (take 16 text) ≡ Ok size →
    16 + size ≤ length text → next_in s n text ≡ Ok (Whole (entry_in s size text))
next_whole s n text size is whole = grind (arith, common_steps, next_long, le-ltb)

pub asked_short : (s : CaptureFormat) (text : List ℕ) → length text < 16 → bytes_asked_first s text ≡ 16
asked_short s text short = rw (lt-ltb (length text) 16 short) refl

pub asked_long : (s : CaptureFormat) (n : ℕ) (text : List ℕ) (size : Result ℕ CaptureFault) → 16 ≤ length text →
    size_in s n (take 16 text) ≡ size → bytes_asked_first s text ≡ 16 + announced_length size
asked_long s n text size long is = grind (arith, common_steps, le-ltb, announced_any)

pub asked_least : (s : CaptureFormat) (text : List ℕ) → 16 ≤ bytes_asked_first s text
asked_least s text = grind (arith, common_steps, cases_lt, asked_short, asked_long)

pub asked_most : (s : CaptureFormat) (text : List ℕ) → bytes_asked_first s text ≤ 262160
asked_most s text = grind (arith, common_steps, nat_tests, asked_short, asked_long, size_few)

-- The four cases of what comes first in a text.
pub data FirstOf (s : CaptureFormat) (n : ℕ) (text : List ℕ) : Type 0 where
  is_short : length text < 16 → FirstOf s n text
  is_bad : (fault : CaptureFault) → 16 ≤ length text → size_in s n (take 16 text) ≡ Err fault → FirstOf s n text
  is_cut : (size : ℕ) → 16 ≤ length text → size_in s n (take 16 text) ≡ Ok size → length text < 16 + size
      → FirstOf s n text
  is_whole : (size : ℕ) → size_in s n (take 16 text) ≡ Ok size → 16 + size ≤ length text → FirstOf s n text

first_by : (s : CaptureFormat) (n : ℕ) (text : List ℕ) (size : Result ℕ CaptureFault) → 16 ≤ length text →
    size_in s n (take 16 text) ≡ size → FirstOf s n text
first_by s n text (Err fault) long is = is_bad fault long is
first_by s n text (Ok size) long is = elim (cases_lt (length text) (16 + size)) [
  | inl short ↦ is_cut size long is short
  | inr whole ↦ is_whole size is whole
]

pub first_of : (s : CaptureFormat) (n : ℕ) (text : List ℕ) → FirstOf s n text
first_of s n text = elim (cases_lt (length text) 16) [
  | inl short ↦ is_short short
  | inr long ↦ first_by s n text (size_in s n (take 16 text)) long refl
]

-- The case of a text determines what comes next in it.
pub ruleset firsts = (is_short, next_short, is_bad, next_fault, is_cut, next_cut, is_whole, next_whole)

pub entry_size : (s : CaptureFormat) (text : List ℕ) (size : ℕ) → 16 + size ≤ length text →
    length (entry_in s size text).bytes ≡ size
entry_size s text size whole = length-take-le size (drop 16 text) (omega (arith, length-drop 16 text, whole))

-- A whole record lies within the text, and its bytes are those that the reader asks for.
record IsWhole (s : CaptureFormat) (n : ℕ) (text : List ℕ) (entry : RecordModel) : Type 0 where
  pub within : 16 + length entry.bytes ≤ length text
  pub asked : bytes_asked_first s text ≡ 16 + length entry.bytes

whole_of : (s : CaptureFormat) (n : ℕ) (text : List ℕ) (entry : RecordModel) → FirstOf s n text →
    next_in s n text ≡ Ok (Whole entry) → IsWhole s n text entry
whole_of s n text entry h k =
    grind (arith, common_steps, nat_tests, next_short, next_fault, next_cut, next_whole, entry_size, asked_long)

pub next_within_text : (s : CaptureFormat) (n : ℕ) (text : List ℕ) (entry : RecordModel) →
    next_in s n text ≡ Ok (Whole entry) →
    16 + length entry.bytes ≤ length text
next_within_text s n text entry is = (whole_of s n text entry (first_of s n text) is).within

pub next_asked : (s : CaptureFormat) (n : ℕ) (text : List ℕ) (entry : RecordModel) →
    next_in s n text ≡ Ok (Whole entry) →
    bytes_asked_first s text ≡ 16 + length entry.bytes
next_asked s n text entry is = (whole_of s n text entry (first_of s n text) is).asked

-- ALL RECORDS

skips : (s : CaptureFormat) (n skipped : ℕ) (text : List ℕ) →
    records_from s n skipped text ≡ records_from s n 0 (drop skipped text)
unfolding records_from
skips s n zero [] = refl
skips s n (suc skipped) [] = refl
skips s n zero (byte ∷ text) = refl
skips s n (suc skipped) (byte ∷ text) = skips s n skipped text

abbrev pub with_first : RecordModel → CaptureReading → CaptureReading
with_first entry more = record { records = entry ∷ more.records; end = more.end }

pub held_record : (s : CaptureFormat) (n : ℕ) (text : List ℕ) (entry : RecordModel) →
    next_in s n text ≡ Ok (Whole entry) →
    records_from s n 0 text ≡ with_first entry (records_from s (number_behind n) 0
    (drop (16 + length entry.bytes) text))
unfolding records_from
held_record s n [] entry is = absurd cc
held_record s n (byte ∷ text) entry is =
    let m = number_behind n in
    let size : 16 + length entry.bytes ≡ suc (15 + length entry.bytes) = omega arith in
    ap (λ r. records_after_skip r (λ skipped. records_from s m skipped text)) is
    ∙ ap (with_first entry) (skips s m (15 + length entry.bytes) text
    ∙ ap (λ k. records_from s m 0 (drop k (byte ∷ text))) (sym size))

pub held_end : (s : CaptureFormat) (n : ℕ) (text : List ℕ) (cut : Bool) → next_in s n text ≡ Ok (End cut) →
    records_from s n 0 text ≡ record { records = []; end = Ok cut }
unfolding records_from
held_end s n [] cut is = let same : Ok (End false) ≡ Ok (End cut) = is in cc
held_end s n (byte ∷ text) cut is = ap (λ r. records_after_skip r
    (λ skipped. records_from s (number_behind n) skipped text)) is

pub held_fault : (s : CaptureFormat) (n : ℕ) (text : List ℕ) (fault : CaptureFault) → next_in s n text ≡ Err fault →
    records_from s n 0 text ≡ record { records = []; end = Err fault }
unfolding records_from
held_fault s n [] fault is = absurd cc
held_fault s n (byte ∷ text) fault is = ap (λ r. records_after_skip r
    (λ skipped. records_from s (number_behind n) skipped text)) is

-- The bytes of the records are no more than those of the text.
records_by : (s : CaptureFormat) (n : ℕ) (text : List ℕ) (others : ℕ →
    CaptureReading) (next : Result NextRead CaptureFault) →
    next_in s n text ≡ next
    → ((skipped : ℕ) → bytes_asked_for_records (others skipped).records ≤ (length text - 1) - skipped)
    → bytes_asked_for_records (records_after_skip next others).records ≤ length text
records_by s n text others (Ok (End cut)) is few = omega arith
records_by s n text others (Err fault) is few = omega arith
records_by s n text others (Ok (Whole entry)) is few =
    omega (arith, few (15 + length entry.bytes), next_within_text s n text entry is)

pub records_within : (s : CaptureFormat) (n skipped : ℕ) (text : List ℕ) →
    bytes_asked_for_records (records_from s n skipped text).records
    ≤ length text - skipped
unfolding records_from
records_within s n skipped [] = omega arith
records_within s n (suc skipped) (byte ∷ text) = omega (arith, records_within s n skipped text)
records_within s n zero (byte ∷ text) =
    let few = λ (skipped : ℕ). records_within s (number_behind n) skipped text in
    let all = records_by s n (byte ∷ text) (λ skipped. records_from s (number_behind n) skipped text)
    (next_in s n (byte ∷ text))
    refl (λ skipped. omega (arith, few skipped)) in
    omega (arith, all)

-- NO FAULT IS `TooLarge`

size_never : (s : CaptureFormat) (n : ℕ) (header : List ℕ) → size_in s n header ≡ Err TooLarge → ⊥
size_never s n header is = grind (arith, common_steps, nat_tests, cases_Bool)

next_never : (s : CaptureFormat) (n : ℕ) (text : List ℕ) → FirstOf s n text → next_in s n text ≡ Err TooLarge → ⊥
next_never s n text h k =
    grind (arith, common_steps, nat_tests, next_short, next_fault, size_never, next_cut, next_whole)

held_by_never : (s : CaptureFormat) (n : ℕ) (text : List ℕ) (others : ℕ →
    CaptureReading) (next : Result NextRead CaptureFault)
    →
    next_in s n text ≡ next → ((skipped : ℕ) → (others skipped).end ≡ Err TooLarge → ⊥)
    → (records_after_skip next others).end ≡ Err TooLarge → ⊥
held_by_never s n text others next h k g = grind (arith, common_steps, nat_tests, next_never)

held_never : (s : CaptureFormat) (n skipped : ℕ) (text : List ℕ) →
    (records_from s n skipped text).end ≡ Err TooLarge → ⊥
unfolding records_from
held_never s n skipped [] is = cc
held_never s n (suc skipped) (byte ∷ text) is = held_never s n skipped text is
held_never s n zero (byte ∷ text) is =
    held_by_never s n (byte ∷ text) (λ skipped. records_from s (number_behind n) skipped text)
    (next_in s n (byte ∷ text)) refl
    (λ skipped. held_never s (number_behind n) skipped text) is

spelling_by_never : (header : List ℕ) (o : Option CaptureFormat) → format_by header o ≡ Err TooLarge → ⊥
spelling_by_never header o h = grind (arith, common_steps, nat_tests, cases_Bool)

spelling_never : (header : List ℕ) → format_in header ≡ Err TooLarge → ⊥
spelling_never header is = grind (arith, common_steps, cases_Bool, nat_lt, spelling_by_never)

captured_never : (r : Result CaptureFormat CaptureFault) (text : List ℕ) → (r ≡ Err TooLarge → ⊥) →
    (capture_by_format r text).end ≡ Err TooLarge → ⊥
captured_never (Ok s) text never is = held_never s 1 0 text is
captured_never (Err fault) text never is = let same : fault ≡ TooLarge = cc in never (ap (λ f. Err f) same)

pub never_large : (bytes : List ℕ) → (capture_of_bytes bytes).end ≡ Err TooLarge → ⊥
never_large bytes is = captured_never (format_in (take 24 bytes)) (drop 24 bytes) (spelling_never (take 24 bytes)) is
