-- Merging the records that were read returns the first of the inputs that merging all unread records returns.
use native.Mathlib.Omega.{arith}
use Rattle.std.{proofs.lemmas.{Grind.common_steps, Bool.Decides.nat_tests}, specs.Option.option_map}
use Rattle.std.proofs.Common.{◌≡◌, ℕ, Bool, true, false, All, List, [], ◌∷◌, ◌++◌, Option, None, Some, IfSome, IsSome, option_to_list, unwrap_or, Result, Ok, Err, refl, sym, subst, subst₂, append-nil}
use Rattle.napt_capture.specs.{declared.{device.Source.Ghosts, record_reader.RecordReader.RecordReader, fault.CaptureFault.CaptureFault}, Contents.RecordModel, Capture.CaptureReading}
use Rattle.napt_capture.specs.Reading.{IsReadFault}
use Rattle.napt_records.{specs.declared.{stream.RecordStream.RecordStream, stream_merger.StreamMerger.StreamMerger}, proofs.ReaderRests.StopsBy-then}
use Rattle.napt_records.{proofs.MergeSteps.{IsKnown, hands_until, takes_timely}, specs.Output.IsTimely}
use Rattle.napt_records.specs.StreamMergers.{IsMergerLive, AreSame, MergeEndsWith, HandsOutInputs, ReadAheadPost, TakesAny, NextOk, cut_of}
use Rattle.napt_records.specs.UnreadInputs.{InputsCameFirst, KnownStays, merger_rest, reader_rest, holds_by, inputs_of, stream_holds}
use Rattle.napt_records.specs.RecordMerging.{MergedInputs, TakesRecord, at_fault, inputs_from, is_outside_next}
use Rattle.napt_sequential.specs.Inputs.{NextInputPost}
use Rattle.napt_rules.specs.Prelude.{Arrival, Side, Inside, Outside}

-- MORE RECORDS AFTER THOSE THAT WERE READ

inside_next : (entry : RecordModel) (ins outs others more : List RecordModel) → (outs ≡ [] → more ≡ []) →
    is_outside_next (entry ∷ ins) outs ≡ false → is_outside_next (entry ∷ others) (outs ++ more) ≡ false
inside_next entry ins outs others more shown is = grind (arith, common_steps, nat_tests)

outside_next : (entry : RecordModel) (ins outs others more : List RecordModel) → (ins ≡ [] → more ≡ []) →
    is_outside_next ins (entry ∷ outs) ≡ true → is_outside_next (ins ++ more) (entry ∷ others) ≡ true
outside_next entry ins outs others more shown is = grind (arith, common_steps, nat_tests)

takes_more : (ins outs ins_left outs_left more others : List RecordModel) (side : Side) (entry : RecordModel) →
    TakesRecord ins outs (Some (side, entry)) ins_left outs_left → (ins ≡ [] → more ≡ []) → (outs ≡ [] → others ≡ [])
    → TakesRecord (ins ++ more) (outs ++ others) (Some (side, entry)) (ins_left ++ more) (outs_left ++ others)
takes_more ins outs ins_left outs_left more others side entry next shown other_shown =
    grind (arith, common_steps, nat_tests, inside_next, outside_next)

-- WHAT IS LEFT OF A SIDE AFTER THE RECORDS THAT WERE READ

record More (first : Option RecordModel) (later : Option RecordModel → Option CaptureReading)
    (held : CaptureReading) : Type 0 where
  more : List RecordModel
  is : held.records ≡ option_to_list first ++ more
  none : option_to_list first ≡ [] → more ≡ []
  known : IsKnown held.records held.end
  after : (left : Option RecordModel) → later left ≡ Some
      (record { records = option_to_list left ++ more; end = held.end })

ended : (entries : List RecordModel) (cut : Bool) → IsKnown entries (Ok cut)
ended entries cut = grind (arith, common_steps, nat_tests)

more_ended : (first : Option RecordModel) (cut : Bool) → More first
    (λ left. Some (record { records = option_to_list left; end = Ok cut }))
    (record { records = option_to_list first; end = Ok cut })
more_ended first cut = grind (arith, common_steps, nat_tests, append-nil, option_to_list, ended)

more_by : (cut : Option Bool) (records : RecordReader) (text : Option (List ℕ)) (first : Option RecordModel)
    (held : CaptureReading) →
    (first ≡ None → IsSome cut)
    → holds_by cut (option_to_list first) (option_map (reader_rest records (option_to_list first)) text) ≡ Some held
    → More first (λ left. holds_by cut (option_to_list left)
    (option_map (reader_rest records (option_to_list left)) text))
    held
more_by cut records text first held told is = grind (arith, common_steps, nat_tests, option_to_list, more_ended)

told_by : (cut : Option Bool) (known : Option CaptureReading) → IsSome cut → holds_by cut [] known
    ≡ Some (record { records = []; end = Ok (unwrap_or cut false) })
told_by cut known some = grind (arith, common_steps, nat_tests)

module _ {R : Type 0} {G : Ghosts R} where
  more_of : (stream : RecordStream R G) (first : Option RecordModel) → (first ≡ None → IsSome stream.cut) →
      (held : CaptureReading) →
      stream_holds stream first ≡ Some held → More first (stream_holds stream) held
  more_of stream first told held is = grind (arith, common_steps, nat_tests, more_by)

  told_holds : (stream : RecordStream R G) → IsSome stream.cut → stream_holds stream None
      ≡ Some (record { records = []; end = Ok (cut_of stream) })
  told_holds stream some = grind (arith, common_steps, nat_tests, told_by)

-- BOTH SIDES

stays_both : (c : ℕ) (a b : Option CaptureReading) (d : ℕ) (x y : Option CaptureReading) → d ≡ c → KnownStays a x →
    KnownStays b y →
    KnownStays (merger_rest c a b) (merger_rest d x y)
stays_both c a b d x y clock p q = grind (arith, common_steps, nat_tests)

follows_after : (x y z : Option MergedInputs) (xs : List Arrival) → KnownStays x y → InputsCameFirst y xs z →
    InputsCameFirst x xs z
follows_after x y z xs stays follows = grind (arith, common_steps, nat_tests)

stays_is : {X : Type 0} (x y : Option X) (a : X) → KnownStays x y → y ≡ Some a → IfSome x (λ b. b ≡ a)
stays_is x y a stays is = grind (arith, common_steps, nat_tests)

takes_one : (ins outs ins_left outs_left : Option RecordModel) (clock now : ℕ) (input : Arrival)
    (a b : Option CaptureReading)
    (x y : Option RecordModel → Option CaptureReading)
    → ((held : CaptureReading) → a ≡ Some held → More ins x held) →
    ((held : CaptureReading) → b ≡ Some held → More outs y held)
    → NextOk ins outs clock input ins_left outs_left now
    → InputsCameFirst (merger_rest clock a b) (input ∷ []) (merger_rest now (x ins_left) (y outs_left))
takes_one ins outs ins_left outs_left clock now input None b x y first second taken = tt
takes_one ins outs ins_left outs_left clock now input (Some a) None x y first second taken = tt
takes_one ins outs ins_left outs_left clock now input (Some a) (Some b) x y first second taken =
    let p = first a refl in
    let q = second b refl in
    let rest : List RecordModel = option_to_list ins_left ++ p.more in
    let others : List RecordModel = option_to_list outs_left ++ q.more in
    let whole = takes_more (option_to_list ins) (option_to_list outs) (option_to_list ins_left)
    (option_to_list outs_left) p.more q.more taken.side taken.entry taken.taken p.none q.none in
    let all : TakesRecord a.records b.records (Some (taken.side, taken.entry)) rest others =
    subst₂ (λ i o. TakesRecord i o (Some (taken.side, taken.entry)) rest others) (sym p.is) (sym q.is) whole in
    let clock_is = taken.clock_is in
    rw (p.after ins_left, q.after outs_left, taken.input_is, clock_is)
    (hands_until a.end b.end a.records b.records rest others clock taken.side taken.entry p.known q.known all)

fault_inside : (clock : ℕ) (a b : Option CaptureReading) (fault : CaptureFault) →
    IfSome a (λ held. held ≡ record { records = []; end = Err fault })
    → IfSome (merger_rest clock a b) (λ inputs. inputs ≡ at_fault Inside fault)
fault_inside clock a b fault is = grind (arith, common_steps, nat_tests)

outside_at : (end : Result Bool CaptureFault) (records : List RecordModel) (clock : ℕ) (fault : CaptureFault) →
    IsKnown records end → inputs_from end (Err fault) records clock [] ≡ at_fault Outside fault
outside_at end records clock fault known = grind (arith, common_steps, nat_tests)

fault_outside : (clock : ℕ) (a b x : Option CaptureReading) (fault : CaptureFault) → KnownStays a x →
    ((held : CaptureReading) → x ≡ Some held → IsKnown held.records held.end)
    → IfSome b (λ held. held ≡ record { records = []; end = Err fault })
    → IfSome (merger_rest clock a b) (λ inputs. inputs ≡ at_fault Outside fault)
fault_outside clock a b x fault stays known is = grind (arith, common_steps, nat_tests, outside_at)

module _ {R Q : Type 0} {G : Ghosts R} {H : Ghosts Q} where
  same_moved : (old mid new : StreamMerger R Q G H) → AreSame old mid → new.inside ≡ mid.inside → new.outside
      ≡ mid.outside → AreSame old new
  same_moved old mid new same ins outs = grind (arith, common_steps, nat_tests)

  looks_stay : (old mid : StreamMerger R Q G H) → ReadAheadPost old mid → KnownStays (inputs_of old) (inputs_of mid)
  looks_stay old mid p = stays_both old.clock _ _ mid.clock _ _ p.clock p.inside_stays p.outside_stays

  HandsOut-one : (old mid new : StreamMerger R Q G H) (input : Arrival) → AreSame old mid →
      (IsMergerLive old → ReadAheadPost old mid)
      → NextOk mid.inside_first mid.outside_first mid.clock input new.inside_first new.outside_first new.clock
      → new.inside ≡ mid.inside → new.outside ≡ mid.outside → HandsOutInputs old (input ∷ []) new
  HandsOut-one old mid new input same looks first ins outs = (
    same_moved old mid new same ins outs,
    λ live.
        let looked = looks live in
        let kept = takes_timely (option_to_list mid.inside_first) (option_to_list mid.outside_first)
        (option_to_list new.inside_first) (option_to_list new.outside_first) new.clock first.side first.entry
        first.taken looked.live.1 in
        let taken = takes_one mid.inside_first mid.outside_first new.inside_first new.outside_first mid.clock new.clock
        input (stream_holds mid.inside mid.inside_first) (stream_holds mid.outside mid.outside_first)
        (stream_holds mid.inside) (stream_holds mid.outside) (more_of mid.inside mid.inside_first looked.inside_told)
        (more_of mid.outside mid.outside_first looked.outside_told) first in
        record {
          live = (rw (ins, outs) looked.live.0, kept.1);
          inside_count = rw ins looked.inside_count;
          outside_count = rw outs looked.outside_count;
          timely = subst (λ i. All IsTimely (i ∷ [])) (sym first.input_is) kept.0;
          takes = rw (ins, outs)
              (follows_after (inputs_of old) (inputs_of mid) _ (input ∷ []) (looks_stay old mid looked) taken);
        },
  )

  EndsWith-none : (old mid new : StreamMerger R Q G H) → AreSame old mid → (IsMergerLive old → ReadAheadPost old mid)
      → TakesAny mid.inside_first mid.outside_first mid.clock None new.inside_first new.outside_first new.clock
      → new.inside ≡ mid.inside → new.outside ≡ mid.outside → MergeEndsWith old None new
  EndsWith-none old mid new same looks other ins outs =
      grind (arith, common_steps, nat_tests, same_moved, told_holds, stays_is, looks_stay)

  pub stops_inside : (old : StreamMerger R Q G H) (fault : CaptureFault)
      → IsReadFault fault (IfSome (stream_holds old.inside old.inside_first)
      (λ held. held ≡ record { records = []; end = Err fault }))
      → IsReadFault fault (IfSome (inputs_of old) (λ inputs. inputs ≡ at_fault Inside fault))
  stops_inside old fault p = grind (arith, common_steps, nat_tests, StopsBy-then, fault_inside)

  pub stops_outside : (old : StreamMerger R Q G H) (now : RecordStream R G) (first : Option RecordModel)
      (fault : CaptureFault)
      → (first ≡ None → IsSome now.cut) → KnownStays (stream_holds old.inside old.inside_first) (stream_holds now first)
      → IsReadFault fault (IfSome (stream_holds old.outside old.outside_first)
      (λ held. held ≡ record { records = []; end = Err fault }))
      → IsReadFault fault (IfSome (inputs_of old) (λ inputs. inputs ≡ at_fault Outside fault))
  stops_outside old now first fault told stays p =
      grind (arith, common_steps, nat_tests, StopsBy-then, fault_outside, more_of)

  pub Hands-any : (old mid new : StreamMerger R Q G H) (taken : Option Arrival) → AreSame old mid →
      (IsMergerLive old → ReadAheadPost old mid)
      → TakesAny mid.inside_first mid.outside_first mid.clock taken new.inside_first new.outside_first new.clock
      → new.inside ≡ mid.inside → new.outside ≡ mid.outside →
      NextInputPost HandsOutInputs MergeEndsWith old (Ok taken) new
  Hands-any old mid new taken same looks h6 ins outs =
      grind (arith, common_steps, nat_tests, EndsWith-none, HandsOut-one)
