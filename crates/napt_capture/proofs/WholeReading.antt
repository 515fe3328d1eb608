-- Reading a whole capture: the records and the count of bytes after each step, and the result.
use Rattle.std.proofs.lemmas.{Grind.common_steps, Bool.{Decides.nat_tests, cases_lt, lt-ltb, le-ltb}}
use Rattle.std.proofs.Common.{◌≡◌, ℕ, ◌+◌, ◌^◌, ◌<◌, ◌≤◌, min, inl, inr, Bool, true, List, [], ◌∷◌, ◌++◌, length, take, drop, Option, Result, Ok, Err, refl, sym, ◌∙◌, ap, subst, arith, append-nil, append_assoc, length-append, length-drop, drop-drop, IfSome, nat_lt}
use Rattle.napt_capture.specs.Prelude.{MOST_ASKED, CaptureFault, TooLarge, Memory, NextRead, Whole, End, CaptureFormat, RecordModel, CaptureModel, CaptureReading, bytes_asked_by, bytes_asked_first, bytes_asked, bytes_asked_for_records, capture_of_bytes, capture_by_format, contents_by, entry_in, records_from, next_in, number_behind, read_whole, format_in, LeavesBytes, IsForRecords, LeavesRest, NextPost, ReadCapturePost, IsReadResult, NextErr, TakesAtMost, TakesMemory, next_within}
use Rattle.napt_capture.proofs.FillSteps.{Gives-both, Gives-map, Says-err}
use Rattle.napt_capture.proofs.FileContents.{FirstOf, asked_least, asked_most, first_of, held_end, held_fault, held_record, is_bad, is_cut, is_short, is_whole, next_asked, next_cut, next_fault, next_short, next_whole, records_within}

-- THE BYTES ASKED FOR

abbrev pub asked_all : CaptureFormat → List ℕ → List RecordModel → ℕ
asked_all s bytes records =
    let front : ℕ = 24 + bytes_asked_for_records records in
    front + bytes_asked_first s (drop front bytes)

pub asked_is : (s : CaptureFormat) (bytes : List ℕ) → format_in (take 24 bytes) ≡ Ok s → bytes_asked bytes
    ≡ asked_all s bytes (records_from s 1 0 (drop 24 bytes)).records
asked_is s bytes is = grind (arith, common_steps)

captured_is : (s : CaptureFormat) (bytes : List ℕ) → format_in (take 24 bytes) ≡ Ok s → capture_of_bytes bytes
    ≡ records_from s 1 0 (drop 24 bytes)
captured_is s bytes is = ap (λ r. capture_by_format r (drop 24 bytes)) is

pub asked_joined : (xs ys : List RecordModel) → bytes_asked_for_records (xs ++ ys) ≡ bytes_asked_for_records xs
    + bytes_asked_for_records ys
asked_joined [] ys = omega arith
asked_joined (x ∷ xs) ys = omega (arith, asked_joined xs ys)

refused_asks : (bytes : List ℕ) (fault : CaptureFault) → format_in (take 24 bytes) ≡ Err fault → bytes_asked bytes ≡ 24
refused_asks bytes fault is = ap (λ r. bytes_asked_by r bytes) is

-- A short file is not too large.
short_asks : (bytes : List ℕ) (r : Result CaptureFormat CaptureFault) → format_in (take 24 bytes) ≡ r →
    length bytes ≤ 68719214576 → bytes_asked bytes ≤ MOST_ASKED
short_asks bytes (Err fault) is short = omega (arith, refused_asks bytes fault is)
short_asks bytes (Ok s) is short =
    let records = (records_from s 1 0 (drop 24 bytes)).records in
    let few = records_within s 1 0 (drop 24 bytes) in
    omega (
      arith,
      asked_is s bytes is,
      few,
      length-drop 24 bytes,
      asked_most s (drop (24 + bytes_asked_for_records records) bytes),
      short,
    )

pub read_short : (bytes : List ℕ) → length bytes ≤ 68719214576 → read_whole bytes
    ≡ contents_by (capture_of_bytes bytes).records (capture_of_bytes bytes).end
read_short bytes short =
    rw (le-ltb MOST_ASKED (bytes_asked bytes) (short_asks bytes (format_in (take 24 bytes)) refl short)) refl

-- AFTER SOME RECORDS

abbrev joined : List RecordModel → CaptureReading → CaptureReading
joined records more = record { records = records ++ more.records; end = more.end }

-- The bytes left after these records were read and `asked` bytes were asked for.
pub record Progress (s : CaptureFormat) (records : List RecordModel) (asked : ℕ) (bytes left : List ℕ) : Type 0 where
  pub spelled : format_in (take 24 bytes) ≡ Ok s
  pub left_is : left ≡ drop asked bytes
  pub held_is : records_from s 1 0 (drop 24 bytes) ≡ joined records (records_from s (length records + 1) 0 left)

pub Progress-start : (s : CaptureFormat) (bytes left : List ℕ) → format_in (take 24 bytes) ≡ Ok s →
    left ≡ drop 24 bytes →
    Progress s [] 24 bytes left
Progress-start s bytes left is left_is = grind (arith, common_steps, nat_tests)

-- Within the limit the result is what comes next.
within_is : (s : CaptureFormat) (asked n : ℕ) (text : List ℕ) (result : Result NextRead CaptureFault) →
    asked + bytes_asked_first s text ≤ MOST_ASKED → next_within s asked n text ≡ result → next_in s n text ≡ result
within_is s asked n text result few is = sym (rw (le-ltb MOST_ASKED (asked + bytes_asked_first s text) few) refl) ∙ is

large_is : (s : CaptureFormat) (asked n : ℕ) (text : List ℕ) → MOST_ASKED < asked + bytes_asked_first s text →
    next_within s asked n text ≡ Err TooLarge
large_is s asked n text large = rw (lt-ltb MOST_ASKED (asked + bytes_asked_first s text) large) refl

whole_is : (s : CaptureFormat) (asked n : ℕ) (text : List ℕ) (entry : RecordModel) →
    next_within s asked n text ≡ Ok (Whole entry)
    → next_in s n text ≡ Ok (Whole entry)
whole_is s asked n text entry is = grind (arith, common_steps, cases_lt, large_is, within_is)

pub Progress-more : (s : CaptureFormat) (records : List RecordModel) (asked : ℕ) (bytes text left : List ℕ)
    (entry : RecordModel) →
    length records + 2 < 2 ^ 64 → Progress s records asked bytes text
    → NextPost s asked (length records + 1) (Ok (Whole entry)) text left
    → Progress s (records ++ entry ∷ []) (asked + (16 + length entry.bytes)) bytes left
Progress-more s records asked bytes text left entry few p q =
    let next = whole_is s asked (length records + 1) text entry q.is in
    let left_is : left ≡ drop (16 + length entry.bytes) text = q.left_is ∙ ap (λ k. drop k text) q.takes in
    let number : number_behind (length records + 1) ≡ length (records ++ entry ∷ []) + 1 =
    omega (arith, few, length-append records (entry ∷ [])) in
    let more = records_from s (number_behind (length records + 1)) 0 (drop (16 + length entry.bytes) text) in
    record {
      spelled = p.spelled;
      left_is = left_is ∙ ap (drop (16 + length entry.bytes)) p.left_is
          ∙ drop-drop (16 + length entry.bytes) asked bytes ∙ ap (λ k. drop k bytes) (omega arith);
      held_is = p.held_is ∙ ap (joined records) (held_record s (length records + 1) text entry next)
          ∙ ap (λ l. record { records = l; end = more.end }) (sym (append_assoc records (entry ∷ []) more.records))
          ∙ ap (λ n. joined (records ++ entry ∷ []) (records_from s n 0 (drop (16 + length entry.bytes) text))) number
          ∙ ap (λ l. joined (records ++ entry ∷ []) (records_from s (length (records ++ entry ∷ []) + 1) 0 l))
          (sym left_is);
    }

-- AT THE END

-- If no record is left, what comes next is the last thing asked for.
asked_last : (s : CaptureFormat) (text : List ℕ) (records more : List RecordModel) (asked : ℕ) (bytes : List ℕ) →
    more ≡ [] →
    asked ≡ 24 + bytes_asked_for_records records → text ≡ drop asked bytes
    → asked_all s bytes (records ++ more) ≡ asked + bytes_asked_first s text
asked_last s text records more asked bytes none counted left_is = grind (arith, common_steps, append-nil)

-- Otherwise the reader asks for at least as much.
least_by : (s : CaptureFormat) (n : ℕ) (text : List ℕ) (records : List RecordModel) (asked : ℕ) (bytes : List ℕ) →
    FirstOf s n text → asked ≡ 24 + bytes_asked_for_records records → text ≡ drop asked bytes
    → asked + bytes_asked_first s text ≤ asked_all s bytes (records ++ (records_from s n 0 text).records)
least_by s n text records asked bytes (is_short short) counted left_is =
    omega (
      arith,
      asked_last s text records (records_from s n 0 text).records asked bytes
          (ap (λ (h : CaptureReading). h.records) (held_end s n text (nat_lt 0 (length text))
          (next_short s n text short)))
          counted left_is,
    )
least_by s n text records asked bytes (is_bad fault long size) counted left_is =
    omega (
      arith,
      asked_last s text records (records_from s n 0 text).records asked bytes
          (ap (λ (h : CaptureReading). h.records) (held_fault s n text fault (next_fault s n text fault long size)))
          counted left_is,
    )
least_by s n text records asked bytes (is_cut size long is short) counted left_is =
    omega (
      arith,
      asked_last s text records (records_from s n 0 text).records asked bytes
          (ap (λ (h : CaptureReading). h.records) (held_end s n text true (next_cut s n text size long is short)))
          counted left_is,
    )
least_by s n text records asked bytes (is_whole size is whole) counted left_is =
    let entry = entry_in s size text in
    let next = next_whole s n text size is whole in
    let more = records_from s (number_behind n) 0 (drop (16 + length entry.bytes) text) in
    let all = bytes_asked_for_records (records ++ entry ∷ more.records) in
    rw (held_record s n text entry next)
    (omega (
      arith,
      counted,
      asked_joined records (entry ∷ more.records),
      next_asked s n text entry next,
      asked_least s (drop (24 + all) bytes),
    ))

asked_from : (s : CaptureFormat) (records : List RecordModel) (asked : ℕ) (bytes text : List ℕ) →
    Progress s records asked bytes text → bytes_asked bytes
    ≡ asked_all s bytes (records ++ (records_from s (length records + 1) 0 text).records)
asked_from s records asked bytes text p = grind (arith, common_steps, asked_is)

asked_more : (s : CaptureFormat) (records : List RecordModel) (asked : ℕ) (bytes text : List ℕ) →
    asked ≡ 24 + bytes_asked_for_records records → Progress s records asked bytes text
    → asked + bytes_asked_first s text ≤ bytes_asked bytes
asked_more s records asked bytes text counted p =
    let n = length records + 1 in
    omega (
      arith,
      asked_from s records asked bytes text p,
      least_by s n text records asked bytes (first_of s n text) counted p.left_is,
    )

-- The result, if no record is left and the limit is not exceeded.
read_last : (s : CaptureFormat) (records : List RecordModel) (asked : ℕ) (bytes text : List ℕ)
    (end : Result Bool CaptureFault) →
    asked ≡ 24 + bytes_asked_for_records records → Progress s records asked bytes text →
    asked + bytes_asked_first s text ≤ MOST_ASKED
    → records_from s (length records + 1) 0 text ≡ record { records = []; end = end }
    → read_whole bytes ≡ contents_by records end
read_last s records asked bytes text end counted p few none =
    grind (arith, common_steps, nat_tests, asked_from, asked_last, captured_is, le-ltb, append-nil)

read_large : (s : CaptureFormat) (records : List RecordModel) (asked : ℕ) (bytes text : List ℕ) →
    asked ≡ 24 + bytes_asked_for_records records → Progress s records asked bytes text
    → MOST_ASKED < asked + bytes_asked_first s text → read_whole bytes ≡ Err TooLarge
read_large s records asked bytes text counted p large = grind (arith, common_steps, lt-ltb, asked_more)

read_end : (s : CaptureFormat) (records : List RecordModel) (asked : ℕ) (bytes text left : List ℕ) (cut : Bool) →
    asked ≡ 24 + bytes_asked_for_records records → Progress s records asked bytes text
    → NextPost s asked (length records + 1) (Ok (End cut)) text left
    → read_whole bytes ≡ Ok (record { records = records; cut = cut })
read_end s records asked bytes text left cut counted p q =
    let n = length records + 1 in
    elim (cases_lt MOST_ASKED (asked + bytes_asked_first s text)) [
      | inl large ↦ let never = sym (large_is s asked n text large) ∙ q.is in absurd cc
      | inr few ↦ read_last s records asked bytes text (Ok cut) counted p few
          (held_end s n text cut (within_is s asked n text (Ok (End cut)) few q.is))
    ]

read_fault : (s : CaptureFormat) (records : List RecordModel) (asked : ℕ) (bytes text left : List ℕ)
    (fault : CaptureFault) →
    asked ≡ 24 + bytes_asked_for_records records → Progress s records asked bytes text
    → NextPost s asked (length records + 1) (Err fault) text left → read_whole bytes ≡ Err fault
read_fault s records asked bytes text left fault counted p q =
    let n = length records + 1 in
    elim (cases_lt MOST_ASKED (asked + bytes_asked_first s text)) [
      | inl large ↦
          let both = sym (large_is s asked n text large) ∙ q.is in
          let same : TooLarge ≡ fault = cc in
          read_large s records asked bytes text counted p large ∙ ap (λ f. Err f) same
      | inr few ↦ read_last s records asked bytes text (Err fault) counted p few
          (held_fault s n text fault (within_is s asked n text (Err fault) few q.is))
    ]

takes : (s : CaptureFormat) (records : List RecordModel) (asked : ℕ) (bytes text left : List ℕ)
    (result : Result NextRead CaptureFault)
    → asked ≡ 24 + bytes_asked_for_records records → Progress s records asked bytes text
    → NextPost s asked (length records + 1) result text left →
    TakesAtMost (min MOST_ASKED (bytes_asked bytes)) bytes left
takes s records asked bytes text left result counted p q = (
  asked + q.taken,
  omega (arith, q.room, q.within, asked_more s records asked bytes text counted p),
  q.left_is ∙ ap (drop q.taken) p.left_is ∙ drop-drop q.taken asked bytes,
)

-- What is left after a fault.
stops_behind : (s : CaptureFormat) (records : List RecordModel) (asked : ℕ) (bytes text left : List ℕ)
    (fault : CaptureFault) →
    asked ≡ 24 + bytes_asked_for_records records → Progress s records asked bytes text
    → NextPost s asked (length records + 1) (Err fault) text left
    → NextErr s records (records_from s (length records + 1) 0 text).records asked bytes left
stops_behind s records asked bytes text left fault counted p q =
    let n = length records + 1 in
    record {
      all = ap (λ (h : CaptureReading). h.records) (captured_is s bytes p.spelled ∙ p.held_is);
      asked_is = counted;
      last = elim (cases_lt MOST_ASKED (asked + bytes_asked_first s text)) [
        | inl large ↦ inr (subst (λ t. MOST_ASKED < asked + bytes_asked_first s t) p.left_is large)
        | inr few ↦ inl (ap (λ (h : CaptureReading). h.records)
            (held_fault s n text fault (within_is s asked n text (Err fault) few q.is)))
      ];
      left_is = q.left_is ∙ ap (drop q.taken) p.left_is ∙ drop-drop q.taken asked bytes
          ∙ ap (λ k. drop (asked + k) bytes) q.takes;
    }

-- THE STEPS OF A READER

module _ (s : CaptureFormat) (records : List RecordModel) (asked number : ℕ)
    (counted : asked ≡ 24 + bytes_asked_for_records records)
    (numbered : number ≡ length records + 1) (old mid new : Option (List ℕ))
    (progress : LeavesBytes old mid (Progress s records
    asked)) where
  pub reads_on : (entry : RecordModel) → number + 1 < 2 ^ 64 →
      LeavesBytes mid new (NextPost s asked number (Ok (Whole entry)))
      → LeavesBytes old new (Progress s (records ++ entry ∷ []) (asked + (16 + length entry.bytes)))
  reads_on entry few next =
      Gives-both old mid new (λ bytes text left p q.
      Progress-more s records asked bytes text left entry (omega (arith, few, numbered)) p
      (subst (λ n. NextPost s asked n (Ok (Whole entry)) text left) numbered q)) progress next

  pub reads_end : (cut : Bool) → LeavesBytes mid new (NextPost s asked number (Ok (End cut))) →
      LeavesBytes old new (ReadCapturePost (Ok (record { records = records; cut = cut })))
  reads_end cut next =
      Gives-both old mid new (λ bytes text left p q.
      let q' = subst (λ n. NextPost s asked n (Ok (End cut)) text left) numbered q in
      record {
        is = read_end s records asked bytes text left cut counted p q';
        takes = takes s records asked bytes text left (Ok (End cut)) counted p q';
        leaves = q'.left_is ∙ q'.takes;
      }) progress next

  pub reads_fault : (fault : CaptureFault) →
      IsReadResult {T = NextRead} (Err fault) (LeavesBytes mid new (NextPost s asked number (Err fault)))
      → IsReadResult {T = CaptureModel} (Err fault) (LeavesBytes old new (ReadCapturePost (Err fault)))
  reads_fault fault says =
      Says-err NextRead CaptureModel fault (Gives-both old mid new (λ bytes text left p q.
      let q' = subst (λ n. NextPost s asked n (Err fault) text left) numbered q in
      record {
        is = read_fault s records asked bytes text left fault counted p q';
        takes = takes s records asked bytes text left (Err fault) counted p q';
        leaves = subst (λ r. LeavesRest (Err fault) r bytes left) (sym p.spelled) (
          records,
          (records_from s (length records + 1) 0 text).records,
          asked,
          stops_behind s records asked bytes text left fault counted p q',
        );
      }) progress) says

pub starts : (s : CaptureFormat) (old new : Option (List ℕ)) →
    LeavesBytes old new (λ bytes left. (format_in (take 24 bytes) ≡ Ok s) × (left ≡ drop 24 bytes))
    → LeavesBytes old new (Progress s [] 24)
starts s old new says = Gives-map old new (λ bytes left p. Progress-start s bytes left p.0 p.1) says

pub refuses : (old new : Option (List ℕ)) (fault : CaptureFault) →
    IsReadResult {T = CaptureFormat} (Err fault) (LeavesBytes old new
    (λ bytes left. (format_in (take 24 bytes) ≡ Err fault) × (left ≡ drop 24 bytes)))
    → IsReadResult {T = CaptureModel} (Err fault) (LeavesBytes old new (ReadCapturePost (Err fault)))
refuses old new fault says =
    Says-err CaptureFormat CaptureModel fault (Gives-map old new (λ bytes left p.
    let asks = refused_asks bytes fault p.0 in
    record {
      is = rw (le-ltb MOST_ASKED (bytes_asked bytes) (omega (arith, asks)))
          (ap (λ r. contents_by (capture_by_format r (drop 24 bytes)).records
          (capture_by_format r (drop 24 bytes)).end) p.0);
      takes = (24, omega (arith, asks), p.1);
      leaves = subst (λ r. LeavesRest (Err fault) r bytes left) (sym p.0) p.1;
    })) says

-- A refusal of memory is for a record, whose header follows at least 24 bytes of the file.

pub for_records : (s : CaptureFormat) (records : List RecordModel) (asked : ℕ) (first now : Option (List ℕ)) →
    24 ≤ asked →
    LeavesBytes first now (Progress s records asked) → (fault : CaptureFault) →
    ((let r : Result NextRead CaptureFault = Err fault in TakesMemory r) →
    IfSome now (λ bytes. 16 ≤ length bytes)) → IsForRecords first fault
for_records s records asked first now h k fault g = grind (arith, common_steps, nat_tests, length-drop)

-- A fault of the file header is never a refusal of memory.
pub header_refused : (known : Option (List ℕ)) (fault : CaptureFault) →
    ((let r : Result CaptureFormat CaptureFault = Err fault in r ≡ Err Memory) → ⊥) → IsForRecords known fault
header_refused known fault h = grind (arith, common_steps, nat_tests)
