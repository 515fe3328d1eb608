-- The result of two captures of which only the headers were read, from all of their bytes.
use native.Mathlib.Omega.{arith}
use Rattle.std.{proofs.lemmas.{Grind.common_steps, Bool.Decides.nat_tests, List.Elements.All-nil}, specs.{Prelude.IfSome, Option.option_map}}
use Rattle.std.proofs.Common.{◌≡◌, ℕ, ◌+◌, All, List, [], ◌++◌, take, drop, Option, Some, None, Ok, Err, sym, ap, ◌∙◌, append-nil}
use Rattle.napt_capture.specs.{declared.{device.Source.Ghosts, record_reader.RecordReader.RecordReader}, Capture.{capture_of_bytes, capture_by_format, format_in}, Reading.{LeavesBytes, IsReadFault}}
use Rattle.napt_capture.specs.RecordReaders.{remaining_text}
use Rattle.napt_rules.specs.Prelude.{Arrival, Inside, Outside}
use Rattle.napt_sequential.specs.Inputs.{InputsCame}
use Rattle.napt_records.specs.{declared.{stream.RecordStream.RecordStream, stream_merger.{StreamMerger.StreamMerger, SideFault.SideFault}}, NewStreams.{IsMergerNew, IsStreamNew}}
use Rattle.napt_records.specs.{StreamMergers.{IsMergerLive, AreSame, CountsFailures, MergeEndsWith, HandsOutInputs, NoneFailed, cut_of, failed_by}, Output.IsTimely}
use Rattle.napt_records.{specs.{UnreadInputs.{InputsCameFirst, reader_rest, holds_by, inputs_of, stream_holds}, RecordMerging.{MergedInputs, at_end, inputs_until}}, proofs.ReaderRests.StopsBy-then}

-- WHAT IS LEFT AFTER THE HEADER is all records of the capture

left_behind : (records : RecordReader) (left : Option (List ℕ)) (bytes : List ℕ) →
    LeavesBytes (Some bytes) left (λ bytes left. (format_in (take 24 bytes) ≡ Ok records.format) ×
    (left ≡ drop 24 bytes))
    → records.ahead ≡ [] → records.number ≡ 1
    → option_map (reader_rest records []) (remaining_text records left) ≡ Some (capture_of_bytes bytes)
left_behind records None bytes header ahead number = absurd header
left_behind records (Some left) bytes header ahead number =
    rw (ahead, number, header.1) (ap (λ r. Some (capture_by_format r (drop 24 bytes))) (sym header.0))

module _ {R : Type 0} {G : Ghosts R} where
  begun_holds : (stream : RecordStream R G) (bytes : List ℕ) → IsStreamNew stream (Some bytes) →
      stream_holds stream None ≡ Some (capture_of_bytes bytes)
  begun_holds stream bytes p =
      ap (λ c. holds_by c [] (option_map (reader_rest stream.records []) (remaining_text stream.records
      (G.remaining stream.live.source.now)))) p.cut
      ∙ left_behind stream.records (G.remaining stream.live.source.now) bytes p.header p.ahead p.number

-- THE INPUTS THAT CAME

came_to : (all : MergedInputs) (later : Option MergedInputs) (arrivals : List Arrival) (last : MergedInputs) →
    InputsCameFirst (Some all) arrivals later → IfSome later (λ inputs. inputs ≡ last)
    → all ≡ record { arrivals = arrivals ++ last.arrivals; end = last.end }
came_to all later arrivals last follows is = grind (arith, common_steps, nat_tests)

some_later : (all : MergedInputs) (later : Option MergedInputs) (arrivals : List Arrival) →
    InputsCameFirst (Some all) arrivals later →
    (left : List Arrival) × (all.arrivals ≡ arrivals ++ left)
some_later all later arrivals follows = grind (arith, common_steps, nat_tests)

module _ {R Q : Type 0} {G : Ghosts R} {H : Ghosts Q} where
  pub begun_live : (begin : StreamMerger R Q G H) (bytes others : List ℕ) → IsMergerNew begin bytes others →
      IsMergerLive begin
  begun_live begin bytes others p = grind (arith, common_steps, nat_tests, All-nil)

  begun_inputs : (begin : StreamMerger R Q G H) (bytes others : List ℕ) → IsMergerNew begin bytes others
      → inputs_of begin ≡ Some (inputs_until (capture_of_bytes bytes) (capture_of_bytes others))
  begun_inputs begin bytes others p = grind (arith, common_steps, nat_tests, begun_holds)

  abbrev Handed : StreamMerger R Q G H → List Arrival → StreamMerger R Q G H → Type 0
  Handed begin inputs mid = HandsOutInputs begin inputs mid

  abbrev CameOf : StreamMerger R Q G H → List Arrival → Option SideFault → StreamMerger R Q G H → Type 0
  CameOf begin inputs stop end = InputsCame HandsOutInputs MergeEndsWith begin inputs stop end

  followed : (begin mid : StreamMerger R Q G H) (bytes others : List ℕ) (inputs : List Arrival)
      → IsMergerNew begin bytes others → Handed begin inputs mid
      → InputsCameFirst (Some (inputs_until (capture_of_bytes bytes) (capture_of_bytes others))) inputs (inputs_of mid)
  followed begin mid bytes others inputs p handed = grind (arith, common_steps, nat_tests, begun_inputs, begun_live)

  pub handed_front : (begin mid : StreamMerger R Q G H) (bytes others : List ℕ) (inputs : List Arrival)
      → IsMergerNew begin bytes others → Handed begin inputs mid
      → (left : List Arrival) × ((inputs_until (capture_of_bytes bytes) (capture_of_bytes others)).arrivals ≡ inputs
      ++ left)
  handed_front begin mid bytes others inputs p handed = grind (arith, common_steps, nat_tests, some_later, followed)

  -- The times fit, whether or not the bytes are known.
  pub handed_timely : (begin mid : StreamMerger R Q G H) (inputs : List Arrival) → IsMergerLive begin →
      Handed begin inputs mid → All IsTimely inputs
  handed_timely begin mid inputs live handed = (handed.1 live).timely

  -- If both captures ended, the inputs that came are the result of merging.
  pub came_whole : (begin end : StreamMerger R Q G H) (bytes others : List ℕ) (inputs : List Arrival)
      → IsMergerNew begin bytes others → CameOf begin inputs None end →
      inputs_until (capture_of_bytes bytes) (capture_of_bytes others)
      ≡ record { arrivals = inputs; end = Ok (record { inside = cut_of end.inside; outside = cut_of end.outside }) }
  came_whole begin end bytes others inputs p came =
      let live = (came.handed.1 (begun_live begin bytes others p)).live in
      came_to _ (inputs_of came.last) inputs (at_end (cut_of end.inside) (Ok (cut_of end.outside)))
      (followed begin came.last bytes others inputs p came.handed) (came.ended.1 live).stops
      ∙ ap (λ l. record {
        arrivals = l;
        end = Ok (record { inside = cut_of end.inside; outside = cut_of end.outside });
      })
      (append-nil inputs)

  -- The same holds of a fault, unless the device or memory failed.
  pub came_fault : (begin end : StreamMerger R Q G H) (bytes others : List ℕ)
      (inputs : List Arrival) (fault : SideFault) → IsMergerNew begin bytes others →
      CameOf begin inputs (Some fault) end
      → IsReadFault fault.fault
      (inputs_until (capture_of_bytes bytes) (capture_of_bytes others) ≡ record { arrivals = inputs; end = Err fault })
  came_fault begin end bytes others inputs fault p came =
      let live = (came.handed.1 (begun_live begin bytes others p)).live in
      StopsBy-then fault.fault
      (λ stops. came_to _ (inputs_of came.last) inputs (record { arrivals = []; end = Err fault })
      (followed begin came.last bytes others inputs p came.handed) stops
      ∙ ap (λ l. record { arrivals = l; end = Err fault }) (append-nil inputs)) (came.ended.1 live).stops

  ended_same : (mid end : StreamMerger R Q G H) (stop : Option SideFault) → MergeEndsWith mid stop end → AreSame mid end
  ended_same mid end stop p = grind (arith, common_steps, nat_tests)

  pub came_same : (begin end : StreamMerger R Q G H) (inputs : List Arrival) (stop : Option SideFault) →
      CameOf begin inputs stop end → AreSame begin end
  came_same begin end inputs stop came = grind (arith, common_steps, nat_tests, ended_same)

  pub came_counts : (begin end : StreamMerger R Q G H) (inputs : List Arrival) → IsMergerLive begin →
      CameOf begin inputs None end → NoneFailed begin.inside end.inside × NoneFailed begin.outside end.outside
  came_counts begin end inputs live came = grind (arith, common_steps, nat_tests)

  pub came_failed : (begin end : StreamMerger R Q G H) (inputs : List Arrival) (fault : SideFault) →
      IsMergerLive begin →
      CameOf begin inputs (Some fault) end → CountsFailures begin.inside (failed_by Inside fault.side fault.fault)
      end.inside
      × CountsFailures begin.outside (failed_by Outside fault.side fault.fault) end.outside
  came_failed begin end inputs fault live came = grind (arith, common_steps, nat_tests)
