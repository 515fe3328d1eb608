-- new_entries: a row gets the next entry exactly if the set does not have its external endpoint.
use Rattle.std.proofs.Common.{◌≡◌, ℕ, ◌+◌, ◌^◌, ◌<◌, ◌≤◌, List, [], ◌∷◌, ◌++◌, None, true, false, length, get_or, map, take, sym, ◌∙◌, ap, subst, arith}
use Rattle.std.proofs.lemmas.List.{length-append, length-map, take_all, take_more}
use Rattle.std.specs.HashSet as hash
use Rattle.napt_wire.specs.declared.Protocol.TheVariants.{Icmp}
use Rattle.napt_table.specs.declared.TimedRow.{TimedRow}
use Rattle.napt_rules.specs.{declared.Row.Row, Prelude.Each}
use Rattle.napt_laws.proofs.Lists.{each_pushed}
use Rattle.napt_account.specs.{declared.log.{Entry.Entry, LogEntry.LogEntry}, Log.unused_entry, LogStarts.has_entry, OpenEntries.{IsNumberedRow, external_eq}}
use Rattle.napt_account.proofs.{ExternalEndpointBound.keyed_few, Lists.map_joined, NewEntries.{HasRows, begun_more, begun_same, begun_to, has_rows}}
use Rattle.napt_account.proofs.log_start.new_entries.Goals as goal

abbrev none : TimedRow
none = record {
  row = record {
    protocol = Icmp;
    inside = record { address = 0; number = 0 };
    external = record { address = 0; number = 0 };
    fixed = false;
  };
  end = None;
}

numbered_more : (live : List TimedRow) (k : ℕ) (d : TimedRow) → k < length live →
    Each IsNumberedRow (map (λ timed. timed.row) (take k live)) → IsNumberedRow (get_or live k d).row →
    Each IsNumberedRow (map (λ timed. timed.row) (take (k + 1) live))
numbered_more live k d below all is =
    subst (λ (ts : List TimedRow). Each IsNumberedRow (map (λ timed. timed.row) ts)) (sym (take_more live k d below))
    (subst (Each IsNumberedRow) (sym (map_joined (λ (timed : TimedRow). timed.row) (take k live)
    (get_or live k d ∷ [])))
    (each_pushed IsNumberedRow (map (λ timed. timed.row) (take k live)) (get_or live k d).row all is))

pub loop-timed-preserved-then-contains : goal.loop-timed-preserved-then-contains
loop-timed-preserved-then-contains c =
    let entries : List LogEntry = c.args.entries.now in
    let live : List TimedRow = c.args.live.now in
    let k : ℕ = c.loop-timed.timed-index in
    let past = c.loop-numbered-test.false in
    let rows : HasRows entries c.loop-numbered.endpoints =
    subst (λ (es : List LogEntry). HasRows es c.loop-numbered.endpoints)
    (take_all c.loop-numbered.numbered-index entries past)
    c.loop-numbered.invariant in
    let listed : has_entry entries (get_or live k none) ≡ true =
    sym (has_rows entries c.loop-numbered.endpoints rows (get_or live k none))
    ∙ (ap (hash.contains external_eq c.loop-numbered.endpoints) (sym c.external_key-in-loop-timed.ensures.key)
    ∙ (sym c.contains.ensures ∙ c.if-contains.true)) in
    record {
      numbered = numbered_more live k none c.loop-timed-test.true c.loop-timed.invariant.numbered
          c.external_key-in-loop-timed.ensures.numbered;
      number = c.loop-timed.invariant.number;
      begun = c.loop-timed.invariant.begun
          ∙ sym (begun_same c.args.made c.args.clock entries live k none c.loop-timed-test.true listed);
    }

pub loop-timed-preserved : goal.loop-timed-preserved
loop-timed-preserved c =
    let entries : List LogEntry = c.args.entries.now in
    let live : List TimedRow = c.args.live.now in
    let k : ℕ = c.loop-timed.timed-index in
    let past = c.loop-numbered-test.false in
    let rows : HasRows entries c.loop-numbered.endpoints =
    subst (λ (es : List LogEntry). HasRows es c.loop-numbered.endpoints)
    (take_all c.loop-numbered.numbered-index entries past)
    c.loop-numbered.invariant in
    let unlisted : has_entry entries (get_or live k none) ≡ false =
    sym (has_rows entries c.loop-numbered.endpoints rows (get_or live k none))
    ∙ (ap (hash.contains external_eq c.loop-numbered.endpoints) (sym c.external_key-in-loop-timed.ensures.key)
    ∙ (sym c.contains.ensures ∙ c.if-contains.false)) in
    let old : List LogEntry = c.loop-timed.begun.items in
    let number = c.loop-timed.invariant.number in
    let counted : c.loop-timed.number ≡ c.args.made + length (begun_to c.args.made c.args.clock entries live k) =
    number ∙ ap (λ (ls : List LogEntry). c.args.made + length ls) c.loop-timed.invariant.begun in
    let it : LogEntry = record {
      number = c.loop-timed.number + 1;
      entry = unused_entry (get_or live k none).row c.args.clock (get_or live k none).end;
    } in
    let item : LogEntry = record { number = c.loop-timed.number + 1; entry = c.unused.result } in
    let many : length (old ++ item ∷ []) ≡ length old + 1 = length-append old (item ∷ []) in
    let pushed = ap length c.in_ok-push.ensures.items in
    record {
      numbered = numbered_more live k none c.loop-timed-test.true c.loop-timed.invariant.numbered
          c.external_key-in-loop-timed.ensures.numbered;
      number = omega (arith, number, many, pushed);
      begun = c.in_ok-push.ensures.items
          ∙ (ap (λ (e : Entry). old ++ record { number = c.loop-timed.number + 1; entry = e } ∷ []) c.unused.ensures
          ∙ (ap (λ (ls : List LogEntry). ls ++ it ∷ []) c.loop-timed.invariant.begun
          ∙ sym (begun_more c.args.made c.args.clock entries live k none c.loop-timed-test.true unlisted
          c.loop-timed.number
          counted)));
    }

pub returns-clause-few : goal.returns-clause-few
returns-clause-few c =
    let rows : List Row = map (λ timed. timed.row) c.args.live.now in
    let all = ap (map (λ (timed : TimedRow). timed.row))
    (take_all c.loop-timed.timed-index c.args.live.now c.loop-timed-test.false) in
    subst (λ (n : ℕ). n ≤ 2 ^ 50) (length-map c.args.live.now (λ timed. timed.row))
    (keyed_few rows (subst (Each IsNumberedRow) all c.loop-timed.invariant.numbered) c.requires.apart)
