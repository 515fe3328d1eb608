-- Texts that are written one after the other.
use Rattle.std.proofs.{lemmas.{Grind.common_steps, Bool.Decides.nat_tests}, KnownBytes.{Appends-trans, Appends-kept}}
use Rattle.std.proofs.Common.{◌≡◌, ℕ, zero, suc, nat_eq, false, rules, ◌+◌, ◌*◌, ◌^◌, ◌<◌, ◌≤◌, List, [], ◌∷◌, ◌++◌, length, take, drop, get_or, All, Option, Result, Ok, Err, OnOk, IfErr, refl, sym, ap, ◌∙◌, subst, arith, length-append, length-drop, length-take-le, take_all, append_assoc, append-nil, take-append-drop}
use Rattle.std.{specs.{Io.{WritesAtMost, KnownBytes.{WriteAppends, Appends, Keeps}}, Result.result_unwrap_or}, proofs.Math.Seq.take-append-add}
use Rattle.std.{proofs.lemmas.List.{take-append-le, take_more, Elements.{All-head, All-tail}, Concat.flat_map-append}, specs.List.flat_map}
use lib.Seq.{take-add}
use Rattle.napt_capture.specs.Prelude.{failed_writes, DeviceFault, WriteFault, RecordModel, IsWritable, entry_of_packet, file_header, record_header, record_text, text, PutPost, PutOk, PutErr}

-- The first text was written whole, and then the second one.
pub PutsAll-append : {before mid written : ℕ} {old now new : Option (List ℕ)} (xs ys : List ℕ)
    → PutOk before old now xs mid → PutOk mid now new ys written → PutOk before old new (xs ++ ys) written
PutsAll-append xs ys p q = grind (arith, common_steps, length-append)

-- The first text was written whole, and only a prefix of the second one.
pub PutsFront-append : {before mid : ℕ} {old now new : Option (List ℕ)} {fault : WriteFault} (xs ys : List ℕ)
    → PutOk before old now xs mid → PutErr mid now new ys fault → PutErr before old new (xs ++ ys) fault
PutsFront-append {old} {new} xs ys p q = record {
  taken = length xs + q.taken;
  within = omega (arith, length-append xs ys, q.within);
  counted = omega (arith, p.counted, q.counted);
  appended = subst (Appends old new) (sym (take-append-add xs ys q.taken))
      (Appends-trans _ _ _ xs (take q.taken ys) p.appended q.appended);
}

pub Puts-append : {before mid : ℕ} (old now new : Option (List ℕ)) (xs ys : List ℕ) (r : Result ℕ WriteFault)
    → PutOk before old now xs mid → PutPost mid now new ys r → PutPost before old new (xs ++ ys) r
Puts-append old now new xs ys (Ok _) p q = PutsAll-append xs ys p q
Puts-append old now new xs ys (Err _) p q = PutsFront-append xs ys p q

-- A prefix of a text is a prefix of a longer text.
pub PutsFront-longer : {before : ℕ} {old new : Option (List ℕ)} {fault : WriteFault} (xs ys : List ℕ)
    → PutErr before old new xs fault → PutErr before old new (xs ++ ys) fault
PutsFront-longer {old} {new} xs ys p = grind (arith, common_steps, length-append, take-append-le)

-- A further write wrote some of the remaining bytes.
pub takes_more : (r : Result ℕ DeviceFault) (old mid new : Option (List ℕ)) (bytes : List ℕ)
    (done count failed-0 failed-1 failed-2 : ℕ)
    → count ≡ result_unwrap_or r 0 → (count ≡ 0 → ⊥) → WritesAtMost r (drop done bytes) →
    WriteAppends mid new r (drop done bytes) → failed-2 ≡ failed-1 + failed_writes r (drop done bytes)
    → done ≤ length bytes → Appends old mid (take done bytes) → failed-1 ≡ failed-0
    → (done + count ≤ length bytes) × Appends old new (take (done + count) bytes) × (failed-2 ≡ failed-0)
takes_more (Err _) old mid new bytes done count f0 f1 f2 is some most appended counted within before same =
    absurd (some is)
takes_more (Ok zero) old mid new bytes done count f0 f1 f2 is some most appended counted within before same =
    absurd (some is)
takes_more (Ok (suc n)) old mid new bytes done count f0 f1 f2 is some most appended counted within before same =
    let all : take done bytes ++ take (suc n) (drop done bytes) ≡ take (done + count) bytes =
    sym (take-add done (suc n) bytes) ∙ ap (λ m. take (done + m) bytes) (sym is) in
    let none : failed_writes {E = DeviceFault} (Ok (suc n)) (drop done bytes) ≡ 0 = let isnt : nat_eq (suc n) 0
    ≡ false = search rules in rw isnt refl in (
      omega (arith, is, most, length-drop done bytes),
      subst (Appends old new) all (Appends-trans old mid new _ _ before appended),
      omega (arith, counted, none, same),
    )

-- The first write wrote some of the bytes.
pub takes_first : (r : Result ℕ DeviceFault) (old new : Option (List ℕ)) (bytes : List ℕ) (count : ℕ)
    → count ≡ result_unwrap_or r 0 → (count ≡ 0 → ⊥) → WritesAtMost r bytes → WriteAppends old new r bytes
    → (count ≤ length bytes) × Appends old new (take count bytes)
takes_first (Err _) old new bytes count is some most appended = absurd (some is)
takes_first (Ok n) old new bytes count is some most appended = rw is (most, appended)

-- After the first write the remaining bytes were written.
pub puts_more : (before count : ℕ) (old mid new : Option (List ℕ)) (bytes : List ℕ) (r : Result ℕ WriteFault)
    → count ≤ length bytes → Appends old mid (take count bytes) →
    PutPost (before + count) mid new (drop count bytes) r →
    PutPost before old new bytes r
puts_more before count old mid new bytes r within appended rest =
    subst (λ text. PutPost before old new text r) (take-append-drop count bytes)
    (Puts-append old mid new (take count bytes) (drop count bytes) r
    (record { counted = omega (arith, length-take-le count bytes within); appended = appended }) rest)

-- A fault that counts from the beginning of the text has the number of its bytes that were written.
pub PutsFront-fault : {old new : Option (List ℕ)} {fault : WriteFault} (xs : List ℕ)
    → PutErr 0 old new xs fault → (fault.written ≤ length xs) × Appends old new (take fault.written xs)
PutsFront-fault {old} {new} {fault} xs p = grind (arith, common_steps)

-- A fault after the whole text was written.
pub PutsAll-fault : (old now new : Option (List ℕ)) {written : ℕ} (xs : List ℕ) (n : ℕ)
    → PutOk 0 old now xs written → Keeps now new → n ≡ written → (n ≤ length xs) × Appends old new (take n xs)
PutsAll-fault old now new xs n p kept is = grind (arith, common_steps, nat_tests, take_all)

-- A flush after the whole text was written.
pub flushed_ok : (old now new : Option (List ℕ)) {written : ℕ} (r : Result (Unit {0}) WriteFault) (xs : List ℕ)
    → PutOk 0 old now xs written → Keeps now new → OnOk r (Appends old new xs)
flushed_ok old now new (Ok _) xs p kept = Appends-kept old now new xs p.appended kept
flushed_ok old now new (Err _) xs p kept = tt

pub flushed_err : (old now new : Option (List ℕ)) {written : ℕ} (r : Result (Unit {0}) WriteFault) (xs : List ℕ)
    → PutOk 0 old now xs written → Keeps now new → IfErr r (λ fault. fault.written ≡ written)
    → IfErr r (λ fault. (fault.written ≤ length xs) × Appends old new (take fault.written xs))
flushed_err old now new (Ok _) xs p kept is = tt
flushed_err old now new (Err fault) xs p kept is = PutsAll-fault old now new xs fault.written p kept is

pub PutsAll-same : {before written : ℕ} {old new : Option (List ℕ)} {xs ys : List ℕ} → xs ≡ ys →
    PutOk before old new xs written → PutOk before old new ys written
PutsAll-same {before} {written} {old} {new} e p = subst (λ l. PutOk before old new l written) e p

pub PutsFront-same : {before : ℕ} {fault : WriteFault} {old new : Option (List ℕ)} {xs ys : List ℕ} → xs ≡ ys →
    PutErr before old new xs fault → PutErr before old new ys fault
PutsFront-same {before} {fault} {old} {new} e p = subst (λ l. PutErr before old new l fault) e p

-- The text of a record depends on its time and its bytes alone.
pub record_text_whole : (r : RecordModel) → record_text (entry_of_packet r.time r.bytes) ≡ record_text r
unfolding record_text record_header
record_text_whole r = refl

-- The text of a record has at most as many bytes as the largest record and its header.
pub length-record_text : (r : RecordModel) → IsWritable r → length (record_text r) ≤ 262160
unfolding record_text record_header
length-record_text r h = omega (arith, h.bytes)

pub length-texts : (rs : List RecordModel) → All IsWritable rs →
    length (flat_map record_text rs) ≤ 262160 * length rs
length-texts [] h = omega arith
length-texts (r ∷ rs) h =
    omega (
      arith,
      length-append (record_text r) (flat_map record_text rs),
      length-record_text r (All-head IsWritable r rs h),
      length-texts rs (All-tail IsWritable r rs h),
    )

-- The text of the first i records.
abbrev pub text_of_first : ℕ → List RecordModel → List ℕ
text_of_first i rs = file_header ++ flat_map record_text (take i rs)

-- The text with one more record.
pub text_of_first-more : (i : ℕ) (rs : List RecordModel) (r : RecordModel) → i < length rs → r ≡ get_or rs i r
    → text_of_first i rs ++ record_text r ≡ text_of_first (i + 1) rs
text_of_first-more i rs r within is =
    grind (arith, common_steps, nat_tests, append_assoc, take_more, flat_map-append, append-nil)

-- The whole text is that of the first i records, followed by the texts of the others.
pub text-split : (i : ℕ) (rs : List RecordModel) → text rs ≡ text_of_first i rs ++ flat_map record_text (drop i rs)
unfolding text
text-split i rs =
    ap (λ l. file_header ++ flat_map record_text l) (sym (take-append-drop i rs))
    ∙ ap (λ l. file_header ++ l) (flat_map-append record_text (take i rs) (drop i rs))
    ∙ sym (append_assoc file_header (flat_map record_text (take i rs)) (flat_map record_text (drop i rs)))

pub text_of_first-all : (i : ℕ) (rs : List RecordModel) → length rs ≤ i → text_of_first i rs ≡ text rs
unfolding text
text_of_first-all i rs past = ap (λ l. file_header ++ flat_map record_text l) (take_all i rs past)

-- The number of bytes of the whole text is below `2 ^ 64`.
pub length-text : (rs : List RecordModel) → length rs < 2 ^ 32 → All IsWritable rs → length (text rs) < 2 ^ 64
unfolding text file_header
length-text rs few all = omega (arith, length-texts rs all)

-- So the count of written bytes has room for one more record.
pub text_of_first-room : (i : ℕ) (rs : List RecordModel) (r : RecordModel) (written : ℕ) → i < length rs →
    r ≡ get_or rs i r
    → length rs < 2 ^ 32 → All IsWritable rs → written ≡ 0 + length (text_of_first i rs) →
    written + length (record_text r) < 2 ^ 64
text_of_first-room i rs r written within is few all counted =
    let more = ap length (text_of_first-more i rs r within is) in
    let split = ap length (text-split (i + 1) rs) in
    omega (
      arith,
      counted,
      sym (length-append (text_of_first i rs) (record_text r)) ∙ more,
      split ∙ length-append (text_of_first (i + 1) rs) (flat_map record_text (drop (i + 1) rs)),
      length-text rs few all,
    )
