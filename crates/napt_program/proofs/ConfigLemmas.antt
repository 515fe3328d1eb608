-- The text that is read from a configuration's file is all of it, or too long.
use Rattle.std.proofs.{lemmas.{Grind.common_steps, Bool.Decides.nat_tests}, Common.{◌≡◌, ◌≤◌, ◌+◌, ℕ, List, [], ◌++◌, length, take, arith}}
use Rattle.std.{specs.Prelude.{Option, IfSome, option_map}, proofs.lemmas.List.{length-take, take_all}}

-- A text that is shorter than the limit of its read is all of the reader's bytes.
short_is_whole : (bytes text : List ℕ) (most : ℕ) → length text ≤ most → text ≡ take (most + 1) bytes → text ≡ bytes
short_is_whole bytes text most short is = grind (arith, common_steps, nat_tests, length-take, take_all)

pub all_is_told : (told : Option (List ℕ)) (text before : List ℕ) (most limit : ℕ)
    → before ≡ [] → limit ≡ most + 1 → length text ≤ most
    → IfSome (option_map (take limit) told) (λ bytes. text ≡ before ++ bytes) → IfSome told (λ bytes. text ≡ bytes)
all_is_told told text before most limit none one_more short is = grind (arith, common_steps, nat_tests, short_is_whole)
