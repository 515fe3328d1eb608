-- Pieces that are written one after another.
use Rattle.std.proofs.lemmas.{Grind.common_steps, Bool.Decides.nat_tests}
use Rattle.std.proofs.Common.{◌≡◌, ℕ, ◌+◌, ◌^◌, ◌<◌, ◌≤◌, List, ◌++◌, length, flat_map, take, drop, get_or, Option, sym, ap, ◌∙◌, arith, length-append, append-nil, take_all, take-append-drop}
use Rattle.std.{proofs.lemmas.List.{take_more, Concat.flat_map-append, Folds.length-flat_map-take}, specs.Io.KnownBytes.Appends}
use Rattle.napt_capture.specs.{Writing.{PutOk, PutErr}, declared.fault.WriteFault.WriteFault}
use Rattle.napt_capture.proofs.PutSteps.{PutsAll-same, PutsFront-append, PutsFront-fault, PutsFront-longer, PutsFront-same}

module _ {X : Type 0} (xs : List X) (f : X → List ℕ) (last : List ℕ) (i : ℕ) where
  -- This number of pieces has been written.
  abbrev pub so_far : List ℕ
  so_far = flat_map f (take i xs)

  -- One more piece has been written.
  so_far_more : (x : X) → i < length xs → x ≡ get_or xs i x → so_far ++ f x ≡ flat_map f (take (i + 1) xs)
  so_far_more x within is = grind (arith, common_steps, nat_tests, flat_map, take_more, flat_map-append, append-nil)

  -- There is room for the piece.
  pub room_for_more : (x : X) (written : ℕ) → i < length xs → x ≡ get_or xs i x →
      length (flat_map f xs ++ last) < 2 ^ 64 → written ≡ 0 + length so_far → written + length (f x) < 2 ^ 64
  room_for_more x written within is few counted =
      grind (arith, common_steps, nat_tests, length-append, flat_map, length-flat_map-take)

  -- A prefix of the piece was written, and therefore one of all bytes.
  pub more_fails : (old now new : Option (List ℕ)) (x : X) (written : ℕ) (fault : WriteFault) → i < length xs →
      x ≡ get_or xs i x → PutOk 0 old now so_far written → PutErr written now new (f x) fault →
      (fault.written ≤ length (flat_map f xs ++ last)) × Appends old new (take fault.written (flat_map f xs ++ last))
  more_fails old now new x written fault within is before front =
      let more = PutsFront-same (so_far_more x within is) (PutsFront-append so_far (f x) before front) in
      let split : flat_map f (take (i + 1) xs) ++ flat_map f (drop (i + 1) xs) ≡ flat_map f xs =
      sym (flat_map-append f (take (i + 1) xs) (drop (i + 1) xs)) ∙ ap (flat_map f) (take-append-drop (i + 1) xs) in
      let whole = PutsFront-same split (PutsFront-longer (flat_map f (take (i + 1) xs)) (flat_map f (drop (i + 1) xs))
      more) in
      PutsFront-fault (flat_map f xs ++ last) (PutsFront-longer (flat_map f xs) last whole)

  -- All pieces have been written.
  all_full : (length xs ≤ i) → so_far ≡ flat_map f xs
  all_full past = ap (flat_map f) (take_all i xs past)

  pub room_for_last : (written : ℕ) → length xs ≤ i → length (flat_map f xs ++ last) < 2 ^ 64 →
      written ≡ 0 + length so_far → written + length last < 2 ^ 64
  room_for_last written past few counted = grind (arith, common_steps, nat_tests, length-append, flat_map, all_full)

  -- A prefix of the last piece was written.
  pub last_fails : (old now new : Option (List ℕ)) (written : ℕ) (fault : WriteFault) → length xs ≤ i →
      PutOk 0 old now so_far written → PutErr written now new last fault →
      (fault.written ≤ length (flat_map f xs ++ last)) × Appends old new (take fault.written (flat_map f xs ++ last))
  last_fails old now new written fault past before front =
      grind (arith, common_steps, nat_tests, PutsFront-fault, flat_map, PutsFront-append, PutsAll-same, all_full)
