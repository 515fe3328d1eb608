-- A run that succeeds writes the same, whether its captures are read as they arrive or whole.
use native.Mathlib.Omega.{arith}
use Rattle.std.{proofs.lemmas.{Grind.common_steps, Bool.{Decides.nat_tests, cases_Bool}}, specs.{Prelude.{IsOk, IsOkAnd, nat_lt}, Io.KnownBytes.Appends}}
use Rattle.std.proofs.Common.{◌≡◌, ℕ, inl, inr, Bool, List, take, Option, Some, Result, Ok, Err, refl, sym, ap, ap₂, ◌∙◌, subst}
use Rattle.napt_wire.specs.declared.Side.{Side}
use Rattle.napt_wire.specs.declared.Side.TheVariants as sides
use Rattle.napt_capture.specs.{Capture.{CaptureReading, bytes_asked, capture_of_bytes, contents_by, read_whole, format_in}, Contents.{CaptureModel, RecordModel}}
use Rattle.napt_capture.specs.declared.{TheConstants.MOST_ASKED, fault.CaptureFault.CaptureFault, capture_format.CaptureFormat.CaptureFormat}
use Rattle.napt_run.specs.Origins.{OriginModel, ran_by}
use Rattle.napt_records.specs.{declared.{Fault.Fault, stream_merger.{CutFlags.CutFlags, SideFault.SideFault}}, Report.report_text, RecordMerging.{MergedInputs, inputs_until}}
use Rattle.napt_records.proofs.MergeSteps.{merge_ends, merges_whole}
use Rattle.napt_rules.specs.Prelude.{Arrival}
use Rattle.napt_run.specs.{Captures.{RunTexts, arrivals_of, both_by, texts_from, texts_by, texts_made}, Files.{files_until, unless_bad, unless_refused}}
use Rattle.napt_records.specs.declared.Which.TheVariants.{Outside, Inside}
use Rattle.napt_run.proofs.BytesAtEnd.{all_of}
use Rattle.napt_run.specs.{StreamLaws.{OutputsAreTheSame, ReportsAreTheSame}, Streams.capture_text, declared.captures.CaptureFiles.CaptureFiles}

-- The bytes of a file that reads as these contents.
abbrev held_as : CaptureModel → CaptureReading
held_as contents = record { records = contents.records; end = Ok contents.cut }

contents_are : (records : List RecordModel) (end : Result Bool CaptureFault) (contents : CaptureModel) →
    contents_by records end ≡ Ok contents
    → (let held : CaptureReading = record { records = records; end = end } in held ≡ held_as contents)
contents_are records end contents is = grind (arith, common_steps, nat_tests)

held_is : (bytes : List ℕ) (contents : CaptureModel) → read_whole bytes ≡ Ok contents →
    capture_of_bytes bytes ≡ held_as contents
held_is bytes contents is = elim (cases_Bool (nat_lt MOST_ASKED (bytes_asked bytes))) [
  | inl large ↦ let never = rw large at is in absurd cc
  | inr few ↦ contents_are (capture_of_bytes bytes).records (capture_of_bytes bytes).end contents (rw few at is)
]

-- The captures to which the texts belong.
record OfCaptures (origin : OriginModel) (inside outside : Result CaptureModel CaptureFault) (all : RunTexts) : Type 0
  where
    captures : CaptureFiles
    inside_is : inside ≡ Ok captures.inside
    outside_is : outside ≡ Ok captures.outside
    all_is : texts_made origin captures ≡ all

few_texts : (origin : OriginModel) (captures : CaptureFiles) (all : RunTexts) → texts_by origin (Ok captures) ≡ Ok all →
    texts_made origin captures ≡ all
few_texts origin captures all is = grind (arith, common_steps, nat_tests, cases_Bool)

of_captures : (origin : OriginModel) (inside outside : Result CaptureModel CaptureFault) (all : RunTexts) →
    texts_by origin (both_by inside outside) ≡ Ok all → OfCaptures origin inside outside all
of_captures origin (Ok a) (Ok b) all is = record {
  captures = record { inside = a; outside = b };
  inside_is = refl;
  outside_is = refl;
  all_is = few_texts origin (record { inside = a; outside = b }) all is;
}
of_captures origin (Ok a) (Err fault) all is = absurd cc
of_captures origin (Err fault) outside all is = absurd cc

-- The headers are right.
good_by : (side : Side) (r : Result CaptureFormat CaptureFault) (inputs : MergedInputs) (cuts : CutFlags) →
    (unless_bad side r inputs).end ≡ Ok cuts → unless_bad side r inputs ≡ inputs
good_by side r inputs cuts is = grind (arith, common_steps, nat_tests)

good : (side : Side) (bytes : List ℕ) (inputs : MergedInputs) (cuts : CutFlags) →
    (unless_refused side bytes inputs).end ≡ Ok cuts → unless_refused side bytes inputs ≡ inputs
good side bytes inputs cuts is = good_by side (format_in (take 24 bytes)) inputs cuts is

behind_headers : (inside outside : List ℕ) (cuts : CutFlags) → (files_until inside outside).end ≡ Ok cuts
    → files_until inside outside ≡ inputs_until (capture_of_bytes inside) (capture_of_bytes outside)
behind_headers inside outside cuts is =
    let all : MergedInputs = inputs_until (capture_of_bytes inside) (capture_of_bytes outside) in
    let first = good sides.Inside inside (unless_refused sides.Outside outside all) cuts is in
    first ∙ good sides.Outside outside all cuts (sym (ap (λ (i : MergedInputs). i.end) first) ∙ is)

-- The inputs of the files as they arrive are those of their records.
record Agree (origin : OriginModel) (inside outside : List ℕ) (all : RunTexts) (cuts : CutFlags) : Type 0 where
  captures : CaptureFiles
  all_is : texts_made origin captures ≡ all
  arrivals : (files_until inside outside).arrivals ≡ arrivals_of captures
  inside_cut : captures.inside.cut ≡ cuts.inside
  outside_cut : captures.outside.cut ≡ cuts.outside

ok_is : (a b : Bool) → (let x : Result Bool CaptureFault = Ok a in x ≡ Ok b) → a ≡ b
ok_is a b is = cc

agree : (origin : OriginModel) (inside outside : List ℕ) (all : RunTexts) (cuts : CutFlags) →
    texts_from origin inside outside ≡ Ok all → (files_until inside outside).end ≡ Ok cuts →
    Agree origin inside outside all cuts
agree origin inside outside all cuts is end =
    let of = of_captures origin (read_whole inside) (read_whole outside) all is in
    let a : CaptureReading = held_as of.captures.inside in
    let b : CaptureReading = held_as of.captures.outside in
    let files : files_until inside outside ≡ inputs_until a b = behind_headers inside outside cuts end
    ∙ ap₂ (λ x y. inputs_until x y) (held_is inside of.captures.inside of.inside_is)
    (held_is outside of.captures.outside of.outside_is) in
    let ends : (inputs_until a b).end ≡ Ok cuts = sym (ap (λ (i : MergedInputs). i.end) files) ∙ end in
    let both = merge_ends a b cuts ends in
    record {
      captures = of.captures;
      all_is = of.all_is;
      arrivals = ap (λ (i : MergedInputs). i.arrivals) files ∙ merges_whole a b cuts ends;
      inside_cut = ok_is of.captures.inside.cut cuts.inside both.0;
      outside_cut = ok_is of.captures.outside.cut cuts.outside both.1;
    }

-- WHAT IS WRITTEN

appends_one : (old text : List ℕ) (new other : Option (List ℕ)) → Appends (Some old) new text →
    Appends (Some old) other text → other ≡ new
appends_one old text new other is also = grind (arith, common_steps, nat_tests, ℕ)

ok_and : (r : Result RunTexts Fault) (P : RunTexts → Type 0) → IsOkAnd r P → (all : RunTexts) × (r ≡ Ok all) × P all
ok_and r P p = grind (arith, common_steps, nat_tests)

is_ok_of : (r : Result CutFlags SideFault) → IsOk r → (cuts : CutFlags) × (r ≡ Ok cuts)
is_ok_of r is = grind (arith, common_steps, nat_tests)

pub outputs_same : OutputsAreTheSame
outputs_same origin inside outside old new other = (
  λ got post.
      let wrote = all_of origin Outside (files_until inside outside) (Some old) other post in
      let (all, is, text) = ok_and (texts_from origin inside outside) _ got in
      let (cuts, end) = is_ok_of (files_until inside outside).end wrote.0 in
      let p = agree origin inside outside all cuts is end in
      let same = ap (capture_text origin sides.Outside) p.arrivals ∙ ap (λ (t : RunTexts). t.outside) p.all_is in
      appends_one old all.outside new other text (subst (λ l. Appends (Some old) other l) same wrote.1),
  λ got post.
      let wrote = all_of origin Inside (files_until inside outside) (Some old) other post in
      let (all, is, text) = ok_and (texts_from origin inside outside) _ got in
      let (cuts, end) = is_ok_of (files_until inside outside).end wrote.0 in
      let p = agree origin inside outside all cuts is end in
      let same = ap (capture_text origin sides.Inside) p.arrivals ∙ ap (λ (t : RunTexts). t.inside) p.all_is in
      appends_one old all.inside new other text (subst (λ l. Appends (Some old) other l) same wrote.1),
)

pub reports_same : ReportsAreTheSame
reports_same origin inside outside old new other got wrote =
    let (all, is, text) = ok_and (texts_from origin inside outside) _ got in
    let (cuts, end, told) = wrote in
    let p = agree origin inside outside all cuts is end in
    let same : report_text cuts.inside cuts.outside (ran_by origin (files_until inside outside).arrivals) ≡ all.report =
    ap (λ (l : List Arrival). report_text cuts.inside cuts.outside (ran_by origin l)) p.arrivals
    ∙ ap₂ (λ x y. report_text x y (ran_by origin (arrivals_of p.captures))) (sym p.inside_cut) (sym p.outside_cut)
    ∙ ap (λ (t : RunTexts). t.report) p.all_is in
    appends_one old all.report new other text (subst (λ l. Appends (Some old) other l) same told)
