-- The next record, by the bytes that two reads returned.
use Rattle.std.proofs.lemmas.{Grind.common_steps, Bool.Decides.nat_tests}
use Rattle.std.proofs.Common.{◌≡◌, ℕ, ◌+◌, ◌-◌, ◌<◌, ◌≤◌, List, length, take, drop, Result, Ok, Err, true, refl, sym, ◌∙◌, ap, arith, length-drop, length-take, drop-drop, drop_of_length-le, nat_lt, lt-ltb, le-ltb}
use Rattle.napt_capture.specs.Prelude.{MOST_ASKED, CaptureFault, NoHeader, TooLarge, Whole, End, RecordHeader, CaptureFormat, bytes_asked_first, entry_in, next_in, size_in, format_in, HeaderShows, NextPost, next_within}
use Rattle.napt_capture.proofs.{FileContents.{asked_least, asked_long, asked_short, next_cut, next_fault, next_short, next_whole}, FillSteps.{Fills, fills_all}}

large_is : (s : CaptureFormat) (asked n : ℕ) (text : List ℕ) → MOST_ASKED < asked + bytes_asked_first s text →
    next_within s asked n text ≡ Err TooLarge
large_is s asked n text large = rw (lt-ltb MOST_ASKED (asked + bytes_asked_first s text) large) refl

few_is : (s : CaptureFormat) (asked n : ℕ) (text : List ℕ) → asked + bytes_asked_first s text ≤ MOST_ASKED →
    next_within s asked n text ≡ next_in s n text
few_is s asked n text few = rw (le-ltb MOST_ASKED (asked + bytes_asked_first s text) few) refl

-- No header may be asked for.
pub next_none : (s : CaptureFormat) (asked n : ℕ) (text : List ℕ) → asked ≤ MOST_ASKED → MOST_ASKED < asked + 16 →
    NextPost s asked n (Err TooLarge) text text
next_none s asked n text room large = grind (arith, common_steps, nat_tests, large_is, asked_least)

-- The bytes end inside the header.
pub next_early : (s : CaptureFormat) (asked n filled : ℕ) (buffer text left : List ℕ) → length buffer ≡ 16 →
    filled < 16 →
    asked + 16 ≤ MOST_ASKED → Fills filled buffer text left → NextPost s asked n (Ok (End (nat_lt 0 filled))) text left
next_early s asked n filled buffer text left size early room p =
    grind (arith, common_steps, nat_tests, asked_short, few_is, next_short, drop_of_length-le)

-- The header was read.
pub record HeaderRead (header text left : List ℕ) : Type 0 where
  pub header_is : take 16 text ≡ header
  pub left_is : left ≡ drop 16 text
  pub long : 16 ≤ length text

pub header_read : (filled : ℕ) (header text left : List ℕ) → length header ≡ 16 → 16 ≤ filled →
    Fills filled header text left → HeaderRead header text left
header_read filled header text left size full p = grind (arith, common_steps, nat_tests, fills_all)

-- The header has a fault.
pub next_bad : (s : CaptureFormat) (asked n : ℕ) (header text left : List ℕ) (fault : CaptureFault) →
    asked + 16 ≤ MOST_ASKED → HeaderRead header text left → size_in s n header ≡ Err fault
    → NextPost s asked n (Err fault) text left
next_bad s asked n header text left fault room p bad =
    grind (arith, common_steps, nat_tests, asked_long, few_is, next_fault, le-ltb)

-- The header announces more bytes than may be asked for.
pub next_large : (s : CaptureFormat) (asked n : ℕ) (header text left : List ℕ) (f : RecordHeader) →
    asked + 16 ≤ MOST_ASKED → MOST_ASKED < asked + (16 + f.captured) → HeaderRead header text left
    → HeaderShows s n header f → NextPost s asked n (Err TooLarge) text left
next_large s asked n header text left f room large p fields =
    grind (arith, common_steps, nat_tests, asked_long, large_is, le-ltb)

-- The bytes end inside the record.
pub next_part : (s : CaptureFormat) (asked n filled : ℕ) (header buffer text mid left : List ℕ) (f : RecordHeader) →
    asked + (16 + f.captured) ≤ MOST_ASKED → HeaderRead header text mid → HeaderShows s n header f
    → length buffer ≡ f.captured → filled < f.captured → Fills filled buffer mid left
    → NextPost s asked n (Ok (End true)) text left
next_part s asked n filled header buffer text mid left f room p fields size early q =
    let is = ap (size_in s n) p.header_is ∙ fields.size in
    let asks = asked_long s n text (Ok f.captured) p.long is in
    let long : length mid ≡ length text - 16 = ap length p.left_is ∙ length-drop 16 text in
    record {
      is = few_is s asked n text (omega (arith, asks, room))
          ∙ next_cut s n text f.captured p.long is (omega (arith, long, p.long, q.size, size, early));
      taken = 16 + f.captured;
      left_is = q.left_is ∙ ap (λ k. drop k mid) size ∙ ap (drop f.captured) p.left_is ∙ drop-drop f.captured 16 text;
      within = omega (arith, asks);
      room = room;
      takes = drop_of_length-le text
          (let few : length text ≤ 16 + f.captured = omega (
            arith,
            long,
            p.long,
            q.size,
            size,
            early,
          ) in few);
    }

-- The record is whole.
pub next_all : (s : CaptureFormat) (asked n filled : ℕ) (header buffer text mid left items : List ℕ)
    (f : RecordHeader) →
    asked + (16 + f.captured) ≤ MOST_ASKED → HeaderRead header text mid → HeaderShows s n header f
    → length buffer ≡ f.captured → f.captured ≤ filled → Fills filled buffer mid left → items ≡ buffer
    → NextPost s asked n (Ok (Whole (record { time = f.time; bytes = items; original = f.original }))) text left
next_all s asked n filled header buffer text mid left items f room p fields size full q items_are =
    let is = ap (size_in s n) p.header_is ∙ fields.size in
    let asks = asked_long s n text (Ok f.captured) p.long is in
    let all = fills_all filled buffer mid left (omega (arith, size, full)) q in
    let long : length mid ≡ length text - 16 = ap length p.left_is ∙ length-drop 16 text in
    let bytes : take f.captured (drop 16 text) ≡ items =
    ap (take f.captured) (sym p.left_is) ∙ ap (λ k. take k mid) (sym size) ∙ all.front ∙ sym items_are in
    let same : entry_in s f.captured text ≡ record { time = f.time; bytes = items; original = f.original } =
    rw (p.header_is, bytes, fields.time, fields.original) refl in
    let count : length items ≡ f.captured = ap length items_are ∙ size in
    record {
      is = few_is s asked n text (omega (arith, asks, room))
          ∙ next_whole s n text f.captured is (omega (arith, long, p.long, all.long, size))
          ∙ ap (λ e. Ok (Whole e)) same;
      taken = 16 + f.captured;
      left_is = all.left_is ∙ ap (λ k. drop k mid) size ∙ ap (drop f.captured) p.left_is ∙ drop-drop f.captured 16 text;
      within = omega (arith, asks);
      room = room;
      takes = omega (arith, count);
    }

-- The header of the file.

pub file_short : (filled : ℕ) (buffer bytes left : List ℕ) → length buffer ≡ 24 → filled < 24 →
    Fills filled buffer bytes left → (format_in (take 24 bytes) ≡ Err NoHeader) × (left ≡ drop 24 bytes)
file_short filled buffer bytes left size short p = grind (arith, common_steps, length-take, lt-ltb)

pub file_whole : (filled : ℕ) (buffer bytes left : List ℕ) (result : Result CaptureFormat CaptureFault) →
    length buffer ≡ 24 → 24 ≤ filled → format_in buffer ≡ result → Fills filled buffer bytes left
    → (format_in (take 24 bytes) ≡ result) × (left ≡ drop 24 bytes)
file_whole filled buffer bytes left result size full is p = grind (arith, common_steps, fills_all)
