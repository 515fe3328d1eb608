-- Updates of a checksum, one after another.
use Rattle.std.proofs.{lemmas.{Grind.common_steps, Bool.Decides.nat_tests}, Common.{◌≡◌, ℕ, ◌+◌, ◌%◌, ◌<◌, List, [], ◌∷◌, ◌++◌, arith, sum, bit_and}}
use Rattle.std.proofs.lemmas.{List.{map-append, Sums.{sum_by-cons, sum_by-append}}, Nat.and_mask}
use Rattle.napt_wire.specs.Prelude.{canon, old_words, new_words, Change}

pub sum-cons : (x : ℕ) (xs : List ℕ) → sum (x ∷ xs) ≡ x + sum xs
sum-cons x xs = sum_by-cons (λ (n : ℕ). n) x xs

-- The first term of a sum may be reduced before the sum is.
pub mod_early : (a b : ℕ) → (a % 65535 + b) % 65535 ≡ (a + b) % 65535
mod_early a b = omega arith

-- Two updates in turn are one update for all of their words.
pub canon_again : (check : ℕ) (old new : List ℕ) (x y : ℕ) → canon (canon check old new) (x ∷ []) (y ∷ [])
    ≡ canon check (x ∷ old) (y ∷ new)
unfolding canon
canon_again check old new x y = grind (arith, common_steps, nat_tests, sum-cons, mod_early)

pub canon_low : (check : ℕ) (old new : List ℕ) (x y : ℕ) → canon (canon check old new) (bit_and x 65535 ∷ [])
    (bit_and y 65535 ∷ []) ≡ canon check (x % 65536 ∷ old) (y % 65536 ∷ new)
canon_low check old new x y =
    rw (and_mask x 16, and_mask y 16) (canon_again check old new (x % 65536) (y % 65536))

-- The order of the words does not matter.
pub canon_swap : (check x y z w : ℕ) (old new : List ℕ) → canon check (x ∷ y ∷ old) (z ∷ w ∷ new)
    ≡ canon check (y ∷ x ∷ old) (w ∷ z ∷ new)
unfolding canon
canon_swap check x y z w old new = grind (arith, common_steps, nat_tests, sum-cons)

pub sum-append : (xs ys : List ℕ) → sum (xs ++ ys) ≡ sum xs + sum ys
sum-append xs ys = sum_by-append (λ (n : ℕ). n) xs ys

pub canon-less : (check : ℕ) (old new : List ℕ) → canon check old new < 65535
unfolding canon
canon-less check old new = omega arith

-- The three updates of a rewrite are one update for all of its words.
pub canon_all : (check : ℕ) (a b h : List Change) →
    canon (canon (canon check (old_words h) (new_words h)) (old_words a) (new_words a)) (old_words b) (new_words b)
    ≡ canon check (old_words (a ++ b ++ h)) (new_words (a ++ b ++ h))
unfolding canon
canon_all check a b h = grind (arith, common_steps, nat_tests, map-append, sum-append)

-- Three updates for one word each are one update.
pub canon_three : (check : ℕ) (x y z : Change) →
    canon (canon (canon check (x.old ∷ []) (x.new ∷ [])) (y.old ∷ []) (y.new ∷ [])) (z.old ∷ []) (z.new ∷ [])
    ≡ canon check (old_words (x ∷ y ∷ z ∷ [])) (new_words (x ∷ y ∷ z ∷ []))
unfolding canon
canon_three check x y z = omega arith
