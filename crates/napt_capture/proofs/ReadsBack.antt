-- The text of some records has these records.
use Rattle.std.{proofs.lemmas.{Grind.common_steps, Bool.Decides.nat_tests, List.Elements.{All-head, All-tail}}, specs.List.flat_map}
use Rattle.std.proofs.Common.{◌≡◌, ℕ, ◌+◌, ◌/◌, ◌%◌, List, [], ◌∷◌, ◌++◌, length, take, drop, map, All, Ok, false, ap, ◌∙◌, arith, refl, append_assoc, length-append, take_at, drop_at, drop_of_length-le, sym, ◌≤◌, le-ltb}
use Rattle.byteorder.specs.Numbers.{little_number-reads_back}
use Rattle.napt_capture.specs.Prelude.{Little, Nanosecond, CaptureFormat, Whole, RecordModel, CaptureReading, bytes_asked_first, bytes_asked, bytes_asked_for_records, capture_of_bytes, capture_by_format, captured_length, contents_by, entry_in, fraction_field, records_from, next_in, number_behind, original_length, read_whole, size_in, format_in, time_of, long_number, IsWritable, as_written, file_header, record_header, record_text, text, MOST_ASKED}
use Rattle.napt_capture.proofs.{WholeReading.{asked_all, asked_is}, FileContents.{held_record, next_whole, size_good, with_first}}

-- The format of what is written: little-endian order, nanoseconds.
abbrev pub written_spelling : CaptureFormat
written_spelling = record { order = Little; unit = Nanosecond }

spelling_in-written : format_in file_header ≡ Ok written_spelling
unfolding file_header
spelling_in-written = refl

pub length-file_header : length file_header ≡ 24
unfolding file_header
length-file_header = refl

seconds_of-written : (r : RecordModel) → IsWritable r →
    long_number written_spelling (record_header r) ≡ r.time / 1000000000
unfolding record_header
seconds_of-written r h = little_number-reads_back 4 (r.time / 1000000000) [] (omega (arith, h.time))

fraction_of-written : (r : RecordModel) → fraction_field written_spelling (record_header r) ≡ r.time % 1000000000
unfolding record_header
fraction_of-written r = little_number-reads_back 4 (r.time % 1000000000) [] (omega arith)

captured_of-written : (r : RecordModel) → IsWritable r →
    captured_length written_spelling (record_header r) ≡ length r.bytes
unfolding record_header
captured_of-written r h = little_number-reads_back 4 (length r.bytes) [] (omega (arith, h.bytes))

original_of-written : (r : RecordModel) → IsWritable r →
    original_length written_spelling (record_header r) ≡ length r.bytes
unfolding record_header
original_of-written r h = little_number-reads_back 4 (length r.bytes) [] (omega (arith, h.bytes))

length-record_header : (r : RecordModel) → length (record_header r) ≡ 16
unfolding record_header
length-record_header r = refl

time_of-written : (r : RecordModel) → IsWritable r → time_of written_spelling (record_header r) ≡ r.time
time_of-written r h = omega (arith, seconds_of-written r h, fraction_of-written r)

size_in-written : (n : ℕ) (r : RecordModel) → IsWritable r → size_in written_spelling n (record_header r)
    ≡ Ok (length r.bytes)
size_in-written n r h = grind (arith, common_steps, size_good, fraction_of-written, captured_of-written)

-- The record comes first in its own text.
next_in-written : (n : ℕ) (r : RecordModel) (more : List ℕ) → IsWritable r →
    next_in written_spelling n (record_header r ++ (r.bytes ++ more)) ≡ Ok (Whole (as_written r))
next_in-written n r more h =
    let all = record_header r ++ (r.bytes ++ more) in
    let header : take 16 all ≡ record_header r = take_at (record_header r) (r.bytes ++ more) 16
    (length-record_header r) in
    let behind : drop 16 all ≡ r.bytes ++ more = drop_at (record_header r) (r.bytes ++ more) 16
    (length-record_header r) in
    let bytes : take (length r.bytes) (drop 16 all) ≡ r.bytes = ap (take (length r.bytes)) behind
    ∙ take_at r.bytes more (length r.bytes) refl in
    let same : entry_in written_spelling (length r.bytes) all ≡ as_written r =
    rw (header, bytes, time_of-written r h, original_of-written r h) refl in
    next_whole written_spelling n all (length r.bytes) (ap (size_in written_spelling n) header ∙ size_in-written n r h)
    (omega (
      arith,
      length-append (record_header r) (r.bytes ++ more),
      length-append r.bytes more,
      length-record_header r,
    ))
    ∙ ap (λ e. Ok (Whole e)) same

held-written : (n : ℕ) (rs : List RecordModel) → All IsWritable rs →
    records_from written_spelling n 0 (flat_map record_text rs)
    ≡ record { records = map as_written rs; end = Ok false }
unfolding records_from record_text
held-written n [] h = refl
held-written n (r ∷ rs) h =
    let more = flat_map record_text rs in
    let split : flat_map record_text (r ∷ rs) ≡ record_header r ++ (r.bytes ++ more) =
    append_assoc (record_header r) r.bytes more in
    let first = All-head IsWritable r rs h in
    let rest : drop (16 + length r.bytes) (flat_map record_text (r ∷ rs)) ≡ more =
    drop_at (record_header r ++ r.bytes) more (16 + length r.bytes)
    (length-append (record_header r) r.bytes ∙ ap (λ k. k + length r.bytes) (length-record_header r)) in
    held_record written_spelling n (flat_map record_text (r ∷ rs)) (as_written r)
    (ap (next_in written_spelling n) split ∙ next_in-written n r more first)
    ∙ ap (λ l. with_first (as_written r) (records_from written_spelling (number_behind n) 0 l)) rest
    ∙ ap (with_first (as_written r)) (held-written (number_behind n) rs (All-tail IsWritable r rs h))

pub captured_text : (rs : List RecordModel) → All IsWritable rs → capture_of_bytes (text rs)
    ≡ record { records = map as_written rs; end = Ok false }
unfolding text
captured_text rs h =
    let more = flat_map record_text rs in
    let header : take 24 (text rs) ≡ file_header = take_at file_header more 24 length-file_header in
    let behind : drop 24 (text rs) ≡ more = drop_at file_header more 24 length-file_header in
    ap (λ l. capture_by_format (format_in l) (drop 24 (text rs))) header
    ∙ ap (λ s. capture_by_format s (drop 24 (text rs))) spelling_in-written
    ∙ ap (records_from written_spelling 1 0) behind
    ∙ held-written 1 rs h

-- READING THE WHOLE TEXT

asked-written : (rs : List RecordModel) → bytes_asked_for_records (map as_written rs) ≡ length (flat_map record_text rs)
unfolding record_text
asked-written [] = refl
asked-written (r ∷ rs) = grind (arith, common_steps, nat_tests, length-append, length-record_header, asked-written rs)

pub read_text : (rs : List RecordModel) → All IsWritable rs → length (text rs) ≤ 68719476720 → read_whole (text rs)
    ≡ Ok (record { records = map as_written rs; cut = false })
unfolding text
read_text rs h short =
    let more = flat_map record_text rs in
    let spelled : format_in (take 24 (text rs)) ≡ Ok written_spelling =
    ap format_in (take_at file_header more 24 length-file_header) ∙ spelling_in-written in
    let holds = captured_text rs h in
    let records : (records_from written_spelling 1 0 (drop 24 (text rs))).records ≡ map as_written rs =
    ap (λ (a : CaptureReading). a.records) (sym (ap (λ r. capture_by_format r (drop 24 (text rs))) spelled) ∙ holds) in
    let long : length (text rs) ≡ 24 + length more =
    length-append file_header more ∙ ap (λ k. k + length more) length-file_header in
    let none : drop (24 + bytes_asked_for_records (map as_written rs)) (text rs) ≡ [] =
    drop_of_length-le (text rs) (let few : length (text rs) ≤ 24 + bytes_asked_for_records (map as_written rs) =
    omega (arith, long, asked-written rs) in few) in
    let asks : bytes_asked (text rs) ≡ (24 + bytes_asked_for_records (map as_written rs)) + 16 =
    asked_is written_spelling (text rs) spelled ∙ ap (asked_all written_spelling (text rs)) records
    ∙ ap (λ l. (24 + bytes_asked_for_records (map as_written rs)) + bytes_asked_first written_spelling l) none in
    rw (le-ltb MOST_ASKED (bytes_asked (text rs)) (omega (arith, asks, short, long, asked-written rs)))
    (ap (λ (a : CaptureReading). contents_by a.records a.end) holds)
