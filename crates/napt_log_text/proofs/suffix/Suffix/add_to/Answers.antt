-- add_to: the bytes are ASCII and therefore UTF-8, so that the line for other bytes is never reached.
use Rattle.std.proofs.{Common.{◌-◌, drop, arith, take_all, length-drop}, lemmas.Str.IsUtf8-from_ascii}
use Rattle.napt_log_text.proofs.suffix.Suffix.add_to.Goals as goal

pub unreachable-requires : goal.unreachable-requires
unreachable-requires c =
    let s = c.self.inside in
    let told = c.self.told in
    c.in-Err.ensures.cases.0 (IsUtf8-from_ascii _ (rw (take_all (40 - s.start) (drop s.start s.bytes)
    (omega (arith, length-drop s.start s.bytes))) c.self.invariant.1))
