-- A range of a buffer, and the bytes that are read after it.
use Rattle.std.proofs.Common.{◌≡◌, ℕ, ◌+◌, ◌-◌, ◌≤◌, List, ◌++◌, length, take, drop, slice_range, sym, ap, ◌∙◌, arith, length-take-le, drop-drop}
use Rattle.std.proofs.lemmas.{List.drop-take, Slice.between_from_start}
use lib.Seq.{take-append-le, take-append-add}
use borrow.Rule.Slice.PartMut.{put_mid, post_of}

-- A range without its first n bytes.
pub slice_range-from : (xs : List ℕ) (a e n : ℕ) → n ≤ e - a → slice_range xs (a + n) e ≡ drop n (slice_range xs a e)
slice_range-from xs a e n within =
    let whole : n + (e - (a + n)) ≡ e - a = omega (arith, within) in
    ap (take (e - (a + n))) (sym (drop-drop n a xs)) ∙ sym (drop-take n (e - (a + n)) (drop a xs))
    ∙ ap (λ k. drop n (take k (drop a xs))) whole

-- The range at the beginning of a buffer, extended by the bytes that a read put after it.
pub slice_range-read : (end room count : ℕ) (xs ys : List ℕ) → end ≤ length xs → count ≤ length ys →
    slice_range (put_mid end room xs ys) 0 (end + count) ≡ slice_range xs 0 end ++ take count ys
slice_range-read end room count xs ys within fits =
    let after = post_of end room xs in
    let size = length-take-le end xs within in
    between_from_start (put_mid end room xs ys) (end + count)
    ∙ ap (λ n. take (n + count) (take end xs ++ (ys ++ after))) (sym size)
    ∙ take-append-add (take end xs) (ys ++ after) count
    ∙ ap (λ l. take end xs ++ l) (take-append-le count ys after fits)
    ∙ ap (λ l. l ++ take count ys) (sym (between_from_start xs end))
