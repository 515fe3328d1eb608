-- add_padded: the zeros so far have been appended.
use Rattle.std.proofs.Common.{◌≡◌, ◌++◌, ◌-◌, ◌≤◌, length, replicate, string_bytes}
use Rattle.napt_log_text.proofs.digits.add_padded.Given as goal

abbrev pub invariant-loop : goal.invariant-loop
invariant-loop l = record {
  few : l.counter - length l.shown ≤ l.width - length l.shown;
  zeros : string_bytes l.text ≡ string_bytes l.fn.text ++ replicate (l.counter - length l.shown) 48;
}
