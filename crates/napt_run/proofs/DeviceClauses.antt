-- The clauses for devices follow from the captures that were read and the texts that were made.
use native.Mathlib.Omega.{arith}
use Rattle.std.proofs.{lemmas.{Grind.common_steps, Bool.{Decides.nat_tests, cases_Bool, le-leb, lt-leb}}, Math.Nat.lt_of_not-le}
use Rattle.std.proofs.Common.{◌≡◌, ℕ, ◌+◌, refl, sym, ap, ap₂, ◌∙◌, subst, List, [], string_bytes, Option, Some, None, IfSome, IfErr, Result, Ok, Err}
use Rattle.napt_wire.specs.declared.Side.{Side}
use Rattle.napt_wire.specs.declared.Side.TheVariants as sides
use Rattle.napt_capture.specs.{Contents.CaptureModel, Capture.{failed_reads, read_whole}, Reading.{LeavesBytes, IsForRecords, ReadCapturePost, IsReadResult}}
use Rattle.napt_capture.specs.declared.fault.{WriteFault.WriteFault, CaptureFault.CaptureFault}
use Rattle.napt_dispatch.specs.declared.workers.RunSummary.{RunSummary}
use Rattle.napt_run.specs.Origins.{GivesState, OriginModel}
use Rattle.napt_records.{specs.declared.{Fault.{Fault, TheVariants.{Capture, Run, Write}}, Which.Which}, proofs.ReaderRests.{StopsBy-says, StopsBy-then}}
use Rattle.napt_records.specs.declared.Which.TheVariants.{Outside, Inside, Report, Log}
use Rattle.napt_sequential.specs.declared.fault.RunFault.{RunFault, TheVariants.TooMany}
use Rattle.napt_run.specs.declared.captures.{CaptureFiles.CaptureFiles, CaptureOutputs.CaptureOutputs}
use Rattle.napt_run.specs.Captures.{Answers, AreOutputs, AreTooMany, Explains, GetsFrom, IfKnown, IsPastInside, IsReadFrom, IsReadable, CaptureIsUnread, IsWriteFaultOf, OutputIsLeft, OutputReceives, OutputShare, arrivals_of, both_by, failed_readings, share_of, text_to, texts_from, texts_by, texts_made, whole}

IfKnown-more : {P Q : List ℕ → List ℕ → Type 0} (inside outside : Option (List ℕ))
    → ((bytes others : List ℕ) → P bytes others → Q bytes others) → IfKnown inside outside P → IfKnown inside outside Q
IfKnown-more inside outside more holds = grind (arith, common_steps, nat_tests)

-- READING

pub read_known : (old new : Option (List ℕ)) (result : Result CaptureModel CaptureFault) →
    LeavesBytes old new (ReadCapturePost result) → IfSome old (λ bytes. read_whole bytes ≡ result)
read_known None new result p = tt
read_known (Some bytes) None result p = absurd p
read_known (Some bytes) (Some left) result p = p.is

pub unread : (side : Side) (old new : Option (List ℕ)) (fault : CaptureFault)
    → IsReadResult {T = CaptureModel} (Err fault) (LeavesBytes old new (ReadCapturePost (Err fault))) →
    IsForRecords old fault →
    CaptureIsUnread side old (Capture side fault)
unread side old new fault p memory = grind (arith, common_steps, nat_tests, StopsBy-says, read_known)

pub own_readings : (side : Side) (fault : CaptureFault) (old new : ℕ)
    → (let answer : Result CaptureModel CaptureFault = Err fault in new ≡ old + failed_reads answer)
    → (let answer : Result CaptureModel Fault = Err (Capture side fault) in new ≡ old + failed_readings side answer)
own_readings side fault old new more = grind (arith, common_steps, nat_tests)

-- THE TEXTS

many_texts : (origin : OriginModel) (captures : CaptureFiles) → AreTooMany captures → texts_by origin (Ok captures)
    ≡ Err (Run TooMany)
many_texts origin captures many = grind (arith, common_steps, nat_tests, le-leb)

pub few_texts : (origin : OriginModel) (captures : CaptureFiles) → (AreTooMany captures → ⊥) →
    texts_by origin (Ok captures)
    ≡ Ok (texts_made origin captures)
few_texts origin captures few = grind (arith, common_steps, nat_tests, lt-leb, lt_of_not-le)

-- The texts of captures that were read.
pub texts_read : (origin : OriginModel) (inside outside : Option (List ℕ)) (captures : CaptureFiles)
    → IsReadFrom inside captures.inside → IsReadFrom outside captures.outside
    → IfKnown inside outside (λ bytes others. texts_from origin bytes others ≡ texts_by origin (Ok captures))
texts_read origin None outside captures first second = tt
texts_read origin (Some bytes) None captures first second = tt
texts_read origin (Some bytes) (Some others) captures first second = grind (arith, common_steps, nat_tests, ap₂)

-- The texts of which outputs were made.
abbrev pub AreMade : OriginModel → Option (List ℕ) → Option (List ℕ) → CaptureFiles → Type 0
AreMade origin inside outside captures =
    IfKnown inside outside (λ bytes others. texts_from origin bytes others ≡ Ok (texts_made origin captures))

pub texts_known : {X : Type 0} (x : X) (origin : OriginModel) (inside outside : Option (List ℕ))
    (captures : CaptureFiles)
    → IsReadFrom inside captures.inside → IsReadFrom outside captures.outside
    → (AreTooMany captures → ◌≡◌ {A = Result X RunFault} (Ok x) (Err TooMany)) → AreMade origin inside outside captures
texts_known x origin inside outside captures first second few =
    IfKnown-more inside outside
    (λ bytes others is. is ∙ few_texts origin captures (λ many. let never = few many in absurd cc))
    (texts_read origin inside outside captures first second)

-- THE RESULT

-- A result explains both captures, and a fault explains each.
pub record Answered (origin : OriginModel) (inside outside : Option (List ℕ))
    (result : Result (Unit {0}) Fault) : Type 0 where
  pub answer : IfKnown inside outside (λ bytes others. Answers (texts_from origin bytes others) result)
  pub fault : IfErr result (Explains inside outside)

readable : (known : Option (List ℕ)) (contents : CaptureModel) → IsReadFrom known contents → IsReadable known
readable known contents is = grind (arith, common_steps, nat_tests)

answers_inside : (origin : OriginModel) (inside outside : Option (List ℕ)) (fault : Fault) →
    CaptureIsUnread sides.Inside inside fault
    → IfKnown inside outside (λ bytes others. Answers (texts_from origin bytes others) (Err fault))
answers_inside origin inside outside fault p = grind (arith, common_steps, nat_tests, StopsBy-then)

past_inside : (origin : OriginModel) (a : CaptureModel) (b : Result CaptureModel CaptureFault) →
    IsPastInside (texts_by origin (both_by (Ok a) b))
past_inside origin a b = grind (arith, common_steps, nat_tests, cases_Bool)

outside_by : (origin : OriginModel) (inside known : Option (List ℕ)) (contents : CaptureModel) (fault : Fault) →
    IsReadFrom inside contents → CaptureIsUnread sides.Outside known fault
    → IfKnown inside known (λ bytes others. Answers (texts_from origin bytes others) (Err fault))
outside_by origin None known contents fault first p = tt
outside_by origin (Some bytes) None contents fault first p = tt
outside_by origin (Some bytes) (Some others) contents (Capture sides.Outside fault) first p = (
  rw first (past_inside origin contents (read_whole others)),
  StopsBy-then fault (λ (is : read_whole others ≡ Err fault). rw (first, is) refl) p.0,
)
outside_by origin (Some bytes) (Some others) contents (Capture sides.Inside fault) first p = absurd p
outside_by origin (Some bytes) (Some others) contents (Run fault) first p = absurd p
outside_by origin (Some bytes) (Some others) contents (Write which fault) first p = absurd p

run_answer : (origin : OriginModel) (captures : CaptureFiles) (fault : RunFault) →
    (fault ≡ TooMany → AreTooMany captures) →
    (AreTooMany captures → fault ≡ TooMany) → Answers (texts_by origin (Ok captures)) (Err (Run fault))
run_answer origin captures fault many only = grind (arith, common_steps, nat_tests, many_texts, few_texts)

answers_run : {X : Type 0} (origin : OriginModel) (inside outside : Option (List ℕ)) (captures : CaptureFiles)
    (fault : RunFault)
    → IsReadFrom inside captures.inside → IsReadFrom outside captures.outside
    → (◌≡◌ {A = Result X RunFault} (Err fault) (Err TooMany) → AreTooMany captures)
    → (AreTooMany captures → ◌≡◌ {A = Result X RunFault} (Err fault) (Err TooMany))
    → IfKnown inside outside (λ bytes others. Answers (texts_from origin bytes others) (Err (Run fault)))
answers_run {X} origin inside outside captures fault first second many only =
    IfKnown-more inside outside
    (λ bytes others is. subst (λ t. Answers t (Err (Run fault))) (sym is) (run_answer origin captures fault
    (λ same. many (ap (λ f. Err f) same)) (λ h. let same = only h in cc)))
    (texts_read origin inside outside captures first second)

pub answers_ok : (origin : OriginModel) (inside outside : Option (List ℕ)) (captures : CaptureFiles) →
    AreMade origin inside outside captures
    → IfKnown inside outside (λ bytes others. Answers (texts_from origin bytes others) (Ok tt))
answers_ok origin inside outside captures made = IfKnown-more inside outside (λ bytes others is. rw is refl) made

explains_outside : (inside known : Option (List ℕ)) (contents : CaptureModel) (fault : Fault) →
    IsReadFrom inside contents → CaptureIsUnread sides.Outside known fault → Explains inside known fault
explains_outside inside known contents fault first p = grind (arith, common_steps, nat_tests, readable)

explains_inside : (inside outside : Option (List ℕ)) (fault : Fault) →
    CaptureIsUnread sides.Inside inside fault → Explains inside outside fault
explains_inside inside outside fault p = grind (arith, common_steps, nat_tests)

pub answered_inside : (origin : OriginModel) (inside outside : Option (List ℕ)) (fault : Fault) →
    CaptureIsUnread sides.Inside inside fault → Answered origin inside outside (Err fault)
answered_inside origin inside outside fault p = grind (arith, common_steps, nat_tests, answers_inside, explains_inside)

pub answered_outside : (origin : OriginModel) (inside outside : Option (List ℕ)) (contents : CaptureModel)
    (fault : Fault) →
    IsReadFrom inside contents → CaptureIsUnread sides.Outside outside fault →
    Answered origin inside outside (Err fault)
answered_outside origin inside outside contents fault first p = record {
  answer = outside_by origin inside outside contents fault first p;
  fault = explains_outside inside outside contents fault first p;
}

pub answered_run : {X : Type 0} (origin : OriginModel) (inside outside : Option (List ℕ))
    (captures : CaptureFiles) (fault : RunFault) → IsReadFrom inside captures.inside →
    IsReadFrom outside captures.outside
    → (◌≡◌ {A = Result X RunFault} (Err fault) (Err TooMany) → AreTooMany captures)
    → (AreTooMany captures → ◌≡◌ {A = Result X RunFault} (Err fault) (Err TooMany))
    → Answered origin inside outside (Err (Run fault))
answered_run {X} origin inside outside captures fault first second many only = record {
  answer = answers_run {X = X} origin inside outside captures fault first second many only;
  fault = (readable inside captures.inside first, readable outside captures.outside second);
}

writes_is : (which : Which) (fault : Fault) → IsWriteFaultOf which fault →
    (inner : WriteFault) × (fault ≡ Write which inner)
writes_is which fault is = grind (arith, common_steps, nat_tests)

pub answered_write : (which : Which) (origin : OriginModel) (inside outside : Option (List ℕ))
    (captures : CaptureFiles) (fault : Fault) → IsReadFrom inside captures.inside →
    IsReadFrom outside captures.outside → IsWriteFaultOf which fault → AreMade origin inside outside captures
    → Answered origin inside outside (Err fault)
answered_write which origin inside outside captures fault first second is made =
    grind (arith, common_steps, nat_tests, writes_is, IfKnown-more, readable)

-- THE OUTPUTS

-- The text of an output that was made.
abbrev pub text_of : Which → CaptureOutputs → List ℕ
text_of Outside outputs = outputs.to_outside
text_of Inside outputs = outputs.to_inside
text_of Report outputs = string_bytes outputs.report
text_of Log outputs = []

text_is : (which : Which) (origin : OriginModel) (captures : CaptureFiles) (outputs : CaptureOutputs) →
    AreOutputs origin captures outputs → text_of which outputs ≡ text_to which (texts_made origin captures)
text_is which origin captures outputs made = grind (arith, common_steps, nat_tests)

-- An output received its share of its text.
pub received : (which : Which) (share : OutputShare) (origin : OriginModel) (inside outside : Option (List ℕ))
    (captures : CaptureFiles) (outputs : CaptureOutputs)
    (told : List ℕ) (old new : Option (List ℕ)) → AreMade origin inside outside captures →
    AreOutputs origin captures outputs → told ≡ text_of which outputs → OutputReceives share told old new
    → GetsFrom origin which share inside outside old new
received which share origin inside outside captures outputs told old new known made is got =
    grind (arith, common_steps, nat_tests, IfKnown-more, text_is)

-- The outputs before one whose writing failed are complete.
pub before_inside : (fault : Fault) → IsWriteFaultOf Inside fault → share_of Outside (Err fault) ≡ whole
before_inside fault is = grind (arith, common_steps, nat_tests)

pub before_report : (fault : Fault) → IsWriteFaultOf Report fault → (share_of Outside (Err fault) ≡ whole)
    × (share_of Inside (Err fault) ≡ whole)
before_report fault is = grind (arith, common_steps, nat_tests)

-- THE STATE THAT IS LEFT

pub leaves : (origin : OriginModel) (inside outside : Option (List ℕ)) (captures : CaptureFiles)
    (summary : RunSummary) →
    IsReadFrom inside captures.inside → IsReadFrom outside captures.outside →
    GivesState origin (arrivals_of captures) summary → OutputIsLeft origin inside outside summary
leaves origin None outside captures summary first second left = tt
leaves origin (Some bytes) None captures summary first second left = tt
leaves origin (Some bytes) (Some others) captures summary first second left = rw (first, second) left
