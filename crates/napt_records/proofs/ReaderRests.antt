-- The record that a reader returns is the first of its unread records.
use native.Mathlib.Omega.{arith}
use Rattle.std.{proofs.lemmas.{Grind.common_steps, Bool.Decides.nat_tests}, specs.{Prelude.{is_some, IfSome}, Option.option_map}}
use Rattle.std.proofs.Common.{◌≡◌, ℕ, false, Bool, List, [], ◌∷◌, Option, None, Some, Ok, Err}
use Rattle.napt_capture.specs.declared.fault.CaptureFault.{CaptureFault}
use Rattle.napt_capture.specs.{declared.{reading.NextRead.TheVariants.{Whole, End}, record_reader.RecordReader.RecordReader}, Contents.RecordModel, Capture.number_behind}
use Rattle.napt_capture.{specs.{Reading.{LeavesBytes, IsReadResult, IsReadFault}, RecordReaders.HandsOutNext}, proofs.FileContents.{held_end, held_fault, held_record}}
use Rattle.napt_records.specs.UnreadInputs.{KnownStays, reader_rest}

pub held_whole : (old new : RecordReader) (a b : Option (List ℕ)) (entry : RecordModel) →
    LeavesBytes a b (HandsOutNext old (Ok (Whole entry))) → new.number ≡ number_behind old.number →
    new.format ≡ old.format
    → KnownStays (option_map (reader_rest old []) a) (option_map (reader_rest new (entry ∷ [])) b)
held_whole old new a b entry told number format = grind (arith, common_steps, nat_tests, held_record)

pub held_told : (old : RecordReader) (a b : Option (List ℕ)) (cut : Bool) →
    LeavesBytes a b (HandsOutNext old (Ok (End cut))) →
    KnownStays (option_map (reader_rest old []) a) (Some (record { records = []; end = Ok cut }))
held_told old a b cut told = grind (arith, common_steps, nat_tests, held_end)

pub held_refused : (old : RecordReader) (a b : Option (List ℕ)) (fault : CaptureFault) →
    LeavesBytes a b (HandsOutNext old (Err fault)) →
    IfSome (option_map (reader_rest old []) a) (λ held. held ≡ record { records = []; end = Err fault })
held_refused old None b fault told = tt
held_refused old (Some text) None fault told = absurd told
held_refused old (Some text) (Some left) fault told = held_fault old.format old.number text fault told.0

pub StopsBy-says : (T : Type 0) (fault : CaptureFault) {P Q : Type 0} → (P → Q) → IsReadResult {T = T} (Err fault) P →
    IsReadFault fault Q
StopsBy-says T fault f p = grind (arith, common_steps, nat_tests)

pub StopsBy-then : (fault : CaptureFault) {P Q : Type 0} → (P → Q) → IsReadFault fault P → IsReadFault fault Q
StopsBy-then fault f p = grind (arith, common_steps, nat_tests)

pub untold : {X : Type 0} (x : Option X) → false ≡ is_some x → x ≡ None
untold x is = grind (arith, common_steps, nat_tests)
