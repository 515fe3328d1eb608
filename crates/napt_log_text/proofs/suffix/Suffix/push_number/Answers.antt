-- push_number: there is room for the digits of the number, which are put in front.
use Rattle.std.proofs.{Common.{◌≡◌, ◌-◌, ◌≤◌, length, decimal, sym, ap, ◌∙◌, arith, length-append}, lemmas.Fmt.{length-decimal-le, IsAscii-decimal}}
use Rattle.std.proofs.lemmas.{List.length-drop, Str.IsAscii-append}
use Rattle.napt_log_text.proofs.suffix.Suffix.push_number.Goals as goal

pub write_digits-self-inside-requires : goal.write_digits-self-inside-requires
write_digits-self-inside-requires c =
    let same = c.from.ensures in
    let fits = c.ranges.number.fits in
    let short : length (decimal c.from.result) ≤ 5 =
    length-decimal-le 5 c.from.result (omega arith) (omega arith) (omega arith) in
    let long : length c.args.self.now ≡ length c.self.inside.bytes - c.self.inside.start =
    ap length (sym c.self.view_is) ∙ length-drop c.self.inside.start c.self.inside.bytes in
    (omega arith, omega arith)

pub invariant_of-self : goal.invariant_of-self
invariant_of-self c =
    let same = c.from.ensures in
    let fits = c.ranges.number.fits in (
      omega arith,
      rw (c.write_digits-self-inside.ensures.written)
          (IsAscii-append _ _ (IsAscii-decimal c.from.result (omega arith)) c.self.invariant.1),
    )

pub returns-clause-length : goal.returns-clause-length
returns-clause-length c =
    let same = c.from.ensures in
    let fits = c.ranges.number.fits in
    let short : length (decimal c.from.result) ≤ 5 =
    length-decimal-le 5 c.from.result (omega arith) (omega arith) (omega arith) in
    let long = ap length (sym c.self.view_is) in
    rw (c.write_digits-self-inside.ensures.written, length-append, long) (omega arith)
