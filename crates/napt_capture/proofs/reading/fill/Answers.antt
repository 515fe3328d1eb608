-- fill: the bytes that a read puts after those filled before are the ones that it consumed.
use Rattle.std.{proofs.{lemmas.{Grind.common_steps, Bool.Decides.nat_tests, Slice.take-put_mid_below}, KnownBytes.Consumes-trans}, specs.Io.KnownBytes.Consumes}
use Rattle.std.proofs.Common.{◌≡◌, ℕ, ◌+◌, ◌-◌, ◌≤◌, List, ◌++◌, rules, arith, length, take, slice_range, sym, ap, ◌∙◌, subst, le_refl, drop_at, length-take-le}
use borrow.Rule.Slice.PartMut.{put_mid}
use lib.Seq.{take-add}
use Rattle.napt_capture.proofs.reading.fill.Goals as goal

-- The first a bytes, followed by those up to b, are the first b bytes.
take_split : (a b : ℕ) (old new : List ℕ) → a ≤ b → take a new ≡ take a old → take a old ++ slice_range new a b
    ≡ take b new
take_split a b old new h front =
    let same : a + (b - a) ≡ b = omega arith in
    ap (λ l. l ++ slice_range new a b) (sym front) ∙ sym (take-add a (b - a) new) ∙ ap (λ n. take n new) same

-- The bytes that were put at offset a are there.
slice_range-put_mid : (a k n : ℕ) (xs ys : List ℕ) → a ≤ length xs → n ≤ length ys →
    slice_range (put_mid a k xs ys) a (a + n) ≡ take n ys
slice_range-put_mid a k n xs ys within fits = grind (arith, common_steps, nat_tests, drop_at, length-take-le)

pub loop-filled-preserved : goal.loop-filled-preserved
loop-filled-preserved g c =
    let from = c.loop-filled.filled in
    let room = length c.loop-filled.buffer - from in
    let count = c.in_ok-count.count in
    let within = c.loop-filled.invariant.0 in
    let part = slice_range-put_mid from room count c.loop-filled.buffer c.read.new.buffer within
    c.in_ok-count.ensures.bound.0 in
    let joined = take_split from (from + count) c.loop-filled.buffer
    (put_mid from room c.loop-filled.buffer c.read.new.buffer) (omega arith)
    (take-put_mid_below _ _ _ _ _ (le_refl _) within) in (
      search rules,
      subst (Consumes _ _) (ap (λ l. take from c.loop-filled.buffer ++ l) (sym part) ∙ joined)
          (Consumes-trans _ _ _ _ _ c.loop-filled.invariant.1 c.in_ok-count.ensures.bytes.0),
      search rules,
    )
