-- The steps of reading, if the bytes of the source are known.
use Rattle.std.{proofs.lemmas.{Grind.common_steps, Bool.Decides.nat_tests}, specs.Io.KnownBytes.{Consumes, IsAtEnd}}
use Rattle.std.proofs.Common.{◌≡◌, ℕ, ◌<◌, ◌≤◌, min, List, [], ◌++◌, length, take, drop, Option, Some, None, Result, Ok, Err, arith, take_all, length-take-le, drop_of_length-le}
use Rattle.napt_capture.specs.Prelude.{CaptureFault, LeavesBytes, IsReadResult}

-- A fact that holds does so unless the device or an allocation failed.
pub Says-fact : {T : Type 0} (result : Result T CaptureFault) {P : Type 0} → P → IsReadResult result P
Says-fact result h = grind (arith, common_steps, nat_tests)

-- The same for a result of another type with the same fault.
pub Says-err : (T U : Type 0) (fault : CaptureFault) {P Q : Type 0} → (P → Q) → IsReadResult {T = T} (Err fault) P →
    IsReadResult {T = U} (Err fault) Q
Says-err T U fault h k = grind (arith, common_steps, nat_tests)

pub Says-map : {T : Type 0} (result : Result T CaptureFault) {P Q : Type 0} → (P → Q) → IsReadResult result P →
    IsReadResult result Q
Says-map (Ok value) f p = f p
Says-map {T} (Err fault) f p = Says-err T T fault f p

-- A relation of the known bytes before and after implies another one.
pub Gives-map : (old new : Option (List ℕ)) {P Q : List ℕ → List ℕ → Type 0} →
    ((bytes left : List ℕ) → P bytes left → Q bytes left) → LeavesBytes old new P → LeavesBytes old new Q
Gives-map None new f p = tt
Gives-map (Some bytes) None f p = absurd p
Gives-map (Some bytes) (Some left) f p = f bytes left p

pub Gives-both : (old mid new : Option (List ℕ)) {P Q R : List ℕ → List ℕ → Type 0} →
    ((bytes text left : List ℕ) → P bytes text → Q text left → R bytes left) → LeavesBytes old mid P →
    LeavesBytes mid new Q
    → LeavesBytes old new R
Gives-both None mid new f p q = tt
Gives-both (Some bytes) None new f p q = absurd p
Gives-both (Some bytes) (Some text) None f p q = absurd q
Gives-both (Some bytes) (Some text) (Some left) f p q = f bytes text left p q

-- The first `filled` bytes of the buffer are the first bytes of the source, as many as fit.
pub record Fills (filled : ℕ) (buffer bytes left : List ℕ) : Type 0 where
  pub front : take filled buffer ≡ take (length buffer) bytes
  pub left_is : left ≡ drop (length buffer) bytes
  pub size : filled ≡ min (length buffer) (length bytes)

fills : (filled : ℕ) (buffer bytes left : List ℕ) → filled ≤ length buffer → bytes ≡ take filled buffer ++ left →
    (filled < length buffer → left ≡ []) → Fills filled buffer bytes left
fills filled buffer bytes left within consumed at_end =
    grind (arith, common_steps, length-take-le, drop_of_length-le)

pub filled_by : (old new : Option (List ℕ)) (filled : ℕ) (buffer : List ℕ) → filled ≤ length buffer →
    Consumes old new (take filled buffer) → (filled < length buffer → IsAtEnd new) →
    LeavesBytes old new (Fills filled buffer)
filled_by None new filled buffer within consumed at_end = tt
filled_by (Some bytes) None filled buffer within consumed at_end = absurd consumed
filled_by (Some bytes) (Some left) filled buffer within consumed at_end =
    fills filled buffer bytes left within consumed at_end

-- A buffer that was filled to its end.
pub record FillsAll (buffer bytes left : List ℕ) : Type 0 where
  pub front : take (length buffer) bytes ≡ buffer
  pub left_is : left ≡ drop (length buffer) bytes
  pub long : length buffer ≤ length bytes

pub fills_all : (filled : ℕ) (buffer bytes left : List ℕ) → length buffer ≤ filled → Fills filled buffer bytes left →
    FillsAll buffer bytes left
fills_all filled buffer bytes left full p = grind (arith, common_steps, nat_tests, take_all)
