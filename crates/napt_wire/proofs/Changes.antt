-- The bytes that writing words does not change, and its effect on the sum of the words of a range of bytes.
use Rattle.std.proofs.lemmas.{Grind.{common_steps, same_number_lists}, Bool.Decides.nat_tests}
use Rattle.std.proofs.Common.{◌≡◌, ℕ, zero, suc, ◌+◌, ◌-◌, ◌*◌, ◌/◌, ◌%◌, ◌<◌, ◌≤◌, List, [], ◌∷◌, ◌++◌, length, min, take, drop, set, sum, slice_index, arith, refl, sym, ◌∙◌, ap, length-drop, length-take, length-take-le, length-set, get_or-set_same, get_or-set_other, get_or-drop, get_or-take, take_at}
use Rattle.std.proofs.{Math.Seq.take-set-lt, lemmas.List.drop-set-add}
use Rattle.napt_wire.{proofs.Checksums.sum-cons, specs.Prelude.{word_at, double_word_at, with_word_at, words, with_changes, old_words, new_words, Change}}

pub length-put_word : (place word : ℕ) (bytes : List ℕ) → length (with_word_at place word bytes) ≡ length bytes
length-put_word place word bytes = simp length-set

pub length-changed : (changes : List Change) (bytes : List ℕ) → length (with_changes changes bytes) ≡ length bytes
length-changed [] bytes = refl
length-changed (c ∷ changes) bytes = length-changed changes (with_word_at c.place c.new bytes)
    ∙ length-put_word c.place c.new bytes

pub changed-append : (xs ys : List Change) (bytes : List ℕ) →
    with_changes (xs ++ ys) bytes ≡ with_changes ys (with_changes xs bytes)
changed-append [] ys bytes = refl
changed-append (c ∷ xs) ys bytes = changed-append xs ys (with_word_at c.place c.new bytes)

-- The word at `place` shares no byte with the range of n bytes that begins at `at`.
abbrev pub IsClear : ℕ → ℕ → ℕ → Type 0
IsClear at n place = at < place + 2 → place < at + n → ⊥

-- None of the words shares a byte with the range.
abbrev pub AreClear : ℕ → ℕ → List Change → Type 0
AreClear at n [] = Unit {0}
AreClear at n (c ∷ changes) = IsClear at n c.place × AreClear at n changes

-- All of the words lie between two offsets.
abbrev pub AreWithin : ℕ → ℕ → List Change → Type 0
AreWithin low high [] = Unit {0}
AreWithin low high (c ∷ changes) = (low ≤ c.place) × (c.place + 2 ≤ high) × AreWithin low high changes

-- The words also lie at even distances from `low`, no two share a byte, and each old word is the one in the bytes. For
-- a list that is written out, `omega arith` proves all of this.
abbrev pub AreEdits : ℕ → ℕ → List ℕ → List Change → Type 0
AreEdits low high bytes [] = Unit {0}
AreEdits low high bytes (c ∷ changes) =
    (low ≤ c.place) × (c.place + 2 ≤ high) × ((c.place - low) % 2 ≡ 0) × (c.old ≡ word_at c.place bytes)
    × AreClear c.place 2 changes × AreEdits low high bytes changes

pub clear-within : (low high at n : ℕ) (changes : List Change) → AreWithin low high changes →
    (low < at + n → at < high → ⊥) → AreClear at n changes
clear-within low high at n [] within out = tt
clear-within low high at n (c ∷ changes) within out =
    ((λ h k. out (omega arith) (omega arith)), clear-within low high at n changes within.2 out)

pub clear-append : (at n : ℕ) (xs ys : List Change) → AreClear at n xs → AreClear at n ys → AreClear at n (xs ++ ys)
clear-append at n [] ys p q = q
clear-append at n (c ∷ xs) ys p q = (p.0, clear-append at n xs ys p.1 q)

pub clear-part : (at n i m : ℕ) (changes : List Change) → at ≤ i → i + m ≤ at + n → AreClear at n changes →
    AreClear i m changes
clear-part at n i m [] l h clear = tt
clear-part at n i m (c ∷ changes) l h clear =
    ((λ a b. clear.0 (omega arith) (omega arith)), clear-part at n i m changes l h clear.1)

pub within-edits : (low high below above : ℕ) (bytes : List ℕ) (changes : List Change) → below ≤ low → high ≤ above →
    AreEdits low high bytes changes → AreWithin below above changes
within-edits low high below above bytes [] l h edits = tt
within-edits low high below above bytes (c ∷ changes) l h edits =
    (omega arith, omega arith, within-edits low high below above bytes changes l h edits.5)

pub edits-higher : (low high above : ℕ) (bytes : List ℕ) (changes : List Change) → high ≤ above →
    AreEdits low high bytes changes → AreEdits low above bytes changes
edits-higher low high above bytes [] h edits = tt
edits-higher low high above bytes (c ∷ changes) h edits =
    (edits.0, omega arith, edits.2, edits.3, edits.4, edits-higher low high above bytes changes h edits.5)

-- Edits in front of other edits are edits together.
pub edits-append : (below above low high : ℕ) (bytes : List ℕ) (xs ys : List Change) → below ≤ low → above ≤ low →
    above ≤ high → (low - below) % 2 ≡ 0 → AreEdits low high bytes xs → AreEdits below above bytes ys →
    AreEdits below high bytes (xs ++ ys)
edits-append below above low high bytes [] [] l a h even p q = tt
edits-append below above low high bytes [] (d ∷ ys) l a h even p q =
    (q.0, omega arith, q.2, q.3, q.4, edits-append below above low high bytes [] ys l a h even tt q.5)
edits-append below above low high bytes (c ∷ xs) ys l a h even p q = (
  omega arith,
  p.1,
  omega (arith, p.0, p.2),
  p.3,
  clear-append c.place 2 xs ys p.4
      (clear-within below above c.place 2 ys (within-edits below above below above bytes ys (omega arith) (omega arith)
      q) (omega arith)),
  edits-append below above low high bytes xs ys l a h even p.5 q,
)

-- THE BYTES OUTSIDE THE WORDS, AND THE WORDS WRITTEN

-- A byte outside the word is unchanged.
pub slice_index-put_word_other : (place word i : ℕ) (bytes : List ℕ) → IsClear i 1 place →
    slice_index (with_word_at place word bytes) i ≡ slice_index bytes i
slice_index-put_word_other place word i bytes clear =
    get_or-set_other (set bytes place (word / 256)) (place + 1) i (word % 256) 0 (λ e. omega arith)
    ∙ get_or-set_other bytes place i (word / 256) 0 (λ e. omega arith)

pub word_at-put_word_other : (place word i : ℕ) (bytes : List ℕ) → IsClear i 2 place →
    word_at i (with_word_at place word bytes) ≡ word_at i bytes
word_at-put_word_other place word i bytes clear = grind (arith, common_steps, nat_tests, slice_index-put_word_other)

-- The word that was written is read back.
pub word_at-put_word : (place word : ℕ) (bytes : List ℕ) → place + 2 ≤ length bytes →
    word_at place (with_word_at place word bytes) ≡ word
word_at-put_word place word bytes h =
    grind (arith, common_steps, nat_tests, get_or-set_other, get_or-set_same, length-set)

pub word-stays : (i : ℕ) (changes : List Change) (bytes : List ℕ) → AreClear i 2 changes →
    word_at i (with_changes changes bytes) ≡ word_at i bytes
word-stays i [] bytes clear = refl
word-stays i (c ∷ changes) bytes clear =
    word-stays i changes (with_word_at c.place c.new bytes) clear.1
    ∙ word_at-put_word_other c.place c.new i bytes clear.0

pub byte-stays : (i : ℕ) (changes : List Change) (bytes : List ℕ) → AreClear i 1 changes →
    slice_index (with_changes changes bytes) i ≡ slice_index bytes i
byte-stays i [] bytes clear = refl
byte-stays i (c ∷ changes) bytes clear =
    byte-stays i changes (with_word_at c.place c.new bytes) clear.1
    ∙ slice_index-put_word_other c.place c.new i bytes clear.0

pub slice_index-changed : (low high i : ℕ) (changes : List Change) (bytes : List ℕ) → AreWithin low high changes →
    (low < i + 1 → i < high → ⊥) → slice_index (with_changes changes bytes) i ≡ slice_index bytes i
slice_index-changed low high i changes bytes within out =
    byte-stays i changes bytes (clear-within low high i 1 changes within out)

-- The bytes have the new word of each change.
abbrev pub Stands : List Change → List ℕ → Type 0
Stands [] bytes = Unit {0}
Stands (c ∷ changes) bytes = (word_at c.place bytes ≡ c.new) × Stands changes bytes

pub stands-edits : (low high : ℕ) (old : List ℕ) (changes : List Change) (bytes : List ℕ) →
    AreEdits low high old changes → high ≤ length bytes → Stands changes (with_changes changes bytes)
stands-edits low high old [] bytes edits fits = tt
stands-edits low high old (c ∷ changes) bytes edits fits =
    let next : List ℕ = with_word_at c.place c.new bytes in (
      word-stays c.place changes next edits.4 ∙ word_at-put_word c.place c.new bytes (omega arith),
      stands-edits low high old changes next edits.5 (omega (arith, length-put_word c.place c.new bytes)),
    )

pub stands-append : (xs ys : List Change) (bytes : List ℕ) → Stands (xs ++ ys) bytes → Stands xs bytes × Stands ys bytes
stands-append [] ys bytes stands = (tt, stands)
stands-append (c ∷ xs) ys bytes stands =
    let rest = stands-append xs ys bytes stands.1 in ((stands.0, rest.0), rest.1)

pub stands-join : (xs ys : List Change) (bytes : List ℕ) → Stands xs bytes → Stands ys bytes → Stands (xs ++ ys) bytes
stands-join [] ys bytes p q = q
stands-join (c ∷ xs) ys bytes p q = (p.0, stands-join xs ys bytes p.1 q)

-- From offset `low` on the bytes have the new words, and every other byte is unchanged.
pub record IsWritten (low : ℕ) (changes : List Change) (bytes after : List ℕ) : Type 0 where
  pub stands : Stands changes after
  pub stays : (i : ℕ) → low ≤ i → AreClear i 1 changes → slice_index after i ≡ slice_index bytes i

pub written-edits : (low high : ℕ) (changes : List Change) (bytes : List ℕ) → AreEdits low high bytes changes →
    high ≤ length bytes → IsWritten low changes bytes (with_changes changes bytes)
written-edits low high changes bytes edits fits = record {
  stands = stands-edits low high bytes changes bytes edits fits;
  stays = λ i h clear. byte-stays i changes bytes clear;
}

pub word-same : (low i : ℕ) (changes : List Change) (bytes after : List ℕ) → IsWritten low changes bytes after →
    low ≤ i → AreClear i 2 changes → word_at i after ≡ word_at i bytes
word-same low i changes bytes after w h clear = grind (arith, common_steps, nat_tests, clear-part)

pub long-same : (low i : ℕ) (changes : List Change) (bytes after : List ℕ) → IsWritten low changes bytes after →
    low ≤ i → AreClear i 4 changes → double_word_at i after ≡ double_word_at i bytes
long-same low i changes bytes after w h clear =
    rw (
      word-same low i changes bytes after w h (clear-part i 4 i 2 changes (omega arith) (omega arith) clear),
      word-same low (i + 2) changes bytes after w (omega arith)
          (clear-part i 4 (i + 2) 2 changes (omega arith) (omega arith) clear),
    ) refl

-- The same holds for the first changes alone, if the others lie before `start`.
pub written-front : (low start below above : ℕ) (xs ys : List Change) (bytes after : List ℕ) → low ≤ start →
    above ≤ start → AreWithin below above ys → IsWritten low (xs ++ ys) bytes after → IsWritten start xs bytes after
written-front low start below above xs ys bytes after l h within w =
    grind (arith, common_steps, nat_tests, stands-append, clear-append, clear-within)

-- The range of n bytes that begins at `at`.
abbrev pub part : ℕ → ℕ → List ℕ → List ℕ
part at n bytes = take n (drop at bytes)

pub slice_index-part : (at n i : ℕ) (bytes : List ℕ) → i < n → slice_index (part at n bytes) i
    ≡ slice_index bytes (at + i)
slice_index-part at n i bytes h = get_or-take n (drop at bytes) i 0 h ∙ get_or-drop at bytes i 0

-- A range that shares no byte with the words is unchanged.
pub part-changed_other : (at n low high : ℕ) (changes : List Change) (bytes : List ℕ) → AreWithin low high changes →
    (low < at + n → at < high → ⊥) → part at n (with_changes changes bytes) ≡ part at n bytes
part-changed_other at n low high changes bytes within out =
    let long = length-changed changes bytes in
    same_number_lists (part at n (with_changes changes bytes)) (part at n bytes)
    (simp (length-take, length-drop, long) refl)
    (λ k h.
    let below : k < min n (length (drop at (with_changes changes bytes))) = simp length-take at h in
    slice_index-part at n k (with_changes changes bytes) (omega (arith, below))
    ∙ byte-stays (at + k) changes bytes (clear-within low high (at + k) 1 changes within (λ a b.
    out (omega (arith, below)) (omega arith)))
    ∙ sym (slice_index-part at n k bytes (omega (arith, below))))

-- Writing a word of a suffix of the bytes is the same as writing it in all bytes.
drop-put_word : (at j word : ℕ) (bytes : List ℕ) → drop at (with_word_at (at + j) word bytes)
    ≡ with_word_at j word (drop at bytes)
drop-put_word at j word bytes =
    let next : at + j + 1 ≡ at + (j + 1) = omega arith in
    rw (
      next,
      drop-set-add at (set bytes (at + j) (word / 256)) (j + 1) (word % 256),
      drop-set-add at bytes j (word / 256),
    ) refl

pub part-put_word : (at n j word : ℕ) (bytes : List ℕ) → j + 2 ≤ n → part at n (with_word_at (at + j) word bytes)
    ≡ with_word_at j word (part at n bytes)
part-put_word at n j word bytes fits =
    rw drop-put_word
    (take-set-lt n (set (drop at bytes) j (word / 256)) (j + 1) (word % 256) (omega arith)
    ∙ ap (λ (xs : List ℕ). set xs (j + 1) (word % 256)) (take-set-lt n (drop at bytes) j (word / 256) (omega arith)))

-- The sum of the words after one of them is replaced.
put_word_further : (a b j word : ℕ) (rest : List ℕ) → with_word_at (suc (suc j)) word (a ∷ b ∷ rest) ≡ a ∷ b
    ∷ with_word_at j word rest
put_word_further a b j word rest =
    let next : suc (suc j) + 1 ≡ suc (suc (j + 1)) = omega arith in
    rw next refl

word_at_further : (a b j : ℕ) (rest : List ℕ) → word_at (suc (suc j)) (a ∷ b ∷ rest) ≡ word_at j rest
word_at_further a b j rest =
    let next : suc (suc j) + 1 ≡ suc (suc (j + 1)) = omega arith in
    rw next refl

pub sum-words-put_word : (k word : ℕ) (bytes : List ℕ) → 2 * k + 2 ≤ length bytes →
    sum (words (with_word_at (2 * k) word bytes)) + word_at (2 * k) bytes ≡ sum (words bytes) + word
sum-words-put_word k word [] h = absurd (omega arith)
sum-words-put_word k word (a ∷ []) h = absurd (omega arith)
sum-words-put_word zero word (a ∷ b ∷ rest) h =
    omega (arith, sum-cons (256 * (word / 256) + word % 256) (words rest), sum-cons (256 * a + b) (words rest))
sum-words-put_word (suc k) word (a ∷ b ∷ rest) h =
    let further : 2 * suc k ≡ suc (suc (2 * k)) = omega arith in
    let induct : sum (words (with_word_at (2 * k) word rest)) + word_at (2 * k) rest ≡ sum (words rest) + word =
    sum-words-put_word k word rest (omega arith) in
    rw (further, put_word_further a b (2 * k) word rest, word_at_further a b (2 * k) rest)
    (omega (
      arith,
      induct,
      sum-cons (256 * a + b) (words (with_word_at (2 * k) word rest)),
      sum-cons (256 * a + b) (words rest),
    ))

pub word_at-part : (at n i : ℕ) (bytes : List ℕ) → i + 2 ≤ n → word_at i (part at n bytes) ≡ word_at (at + i) bytes
word_at-part at n i bytes h =
    let next : at + (i + 1) ≡ at + i + 1 = omega arith in
    rw (slice_index-part at n i bytes (omega arith), slice_index-part at n (i + 1) bytes (omega arith), next) refl

-- Edits are still edits after words that lie after them, or the first ones of them, are written.
pub edits-changed : (low high below above : ℕ) (outer changes : List Change) (bytes : List ℕ) →
    AreWithin low high outer → above ≤ low → AreEdits below above bytes changes →
    AreEdits below above (with_changes outer bytes) changes
edits-changed low high below above outer [] bytes within out edits = tt
edits-changed low high below above outer (c ∷ changes) bytes within out edits =
    grind (
      arith,
      common_steps,
      nat_tests,
      word-stays,
      clear-within,
      edits-changed low high below above outer changes
          bytes within out edits.5,
    )

edits-put_word : (low high : ℕ) (c : Change) (changes : List Change) (bytes : List ℕ) → AreClear c.place 2 changes →
    AreEdits low high bytes changes → AreEdits low high (with_word_at c.place c.new bytes) changes
edits-put_word low high c [] bytes clear edits = tt
edits-put_word low high c (d ∷ changes) bytes clear edits =
    grind (
      arith,
      common_steps,
      nat_tests,
      word_at-put_word_other,
      edits-put_word low high c changes bytes clear.1
          edits.5,
    )

-- The sum of the words of a range after some of them are replaced.
pub sum-part-changed : (at n : ℕ) (changes : List Change) (bytes : List ℕ) → at + n ≤ length bytes →
    AreEdits at (at + n) bytes changes →
    sum (words (part at n (with_changes changes bytes))) + sum (old_words changes) ≡ sum (words (part at n bytes))
    + sum (new_words changes)
sum-part-changed at n [] bytes there edits = refl
sum-part-changed at n (c ∷ changes) bytes there edits =
    let k : ℕ = (c.place - at) / 2 in
    let here : c.place ≡ at + 2 * k = omega (arith, edits.0, edits.2) in
    let fits : 2 * k + 2 ≤ n = omega (arith, here, edits.1) in
    let after : List ℕ = with_word_at c.place c.new bytes in
    let long : length (part at n bytes) ≡ n = length-take-le n (drop at bytes) (omega (arith, length-drop at bytes)) in
    let one : part at n after ≡ with_word_at (2 * k) c.new (part at n bytes) =
    ap (λ (p : ℕ). part at n (with_word_at p c.new bytes)) here ∙ part-put_word at n (2 * k) c.new bytes fits in
    let stood : word_at (2 * k) (part at n bytes) ≡ c.old =
    word_at-part at n (2 * k) bytes fits ∙ ap (λ (p : ℕ). word_at p bytes) (sym here) ∙ sym edits.3 in
    let single : sum (words (with_word_at (2 * k) c.new (part at n bytes))) + word_at (2 * k) (part at n bytes)
    ≡ sum (words (part at n bytes)) + c.new =
    sum-words-put_word k c.new (part at n bytes) (omega (arith, long, fits)) in
    let whole : sum (words (part at n after)) ≡ sum (words (with_word_at (2 * k) c.new (part at n bytes))) =
    ap (λ (xs : List ℕ). sum (words xs)) one in
    let rest : sum (words (part at n (with_changes changes after))) + sum (old_words changes)
    ≡ sum (words (part at n after))
    + sum (new_words changes) =
    sum-part-changed at n changes after (omega (arith, there, length-put_word c.place c.new bytes))
    (edits-put_word at (at + n) c changes bytes edits.4 edits.5) in
    omega (arith, rest, whole, single, stood, sum-cons c.old (old_words changes), sum-cons c.new (new_words changes))

-- The contents of a vector after its bytes were written to.
pub vec-changed : (items written : List ℕ) (len : ℕ) (changes : List Change) → length items ≡ len →
    written ≡ with_changes changes items →
    take len (written ++ drop (length written) items) ≡ with_changes changes items
vec-changed items written len changes long is =
    take_at written (drop (length written) items) len (ap length is ∙ length-changed changes items ∙ long) ∙ is
