-- from_str: the result is the address whose spelling is the text, or `BadAddress`.
use Rattle.std.proofs.Common.{◌≡◌, Ok, refl, sym}
use Rattle.napt_config.proofs.Spellings.{address_text-of, address_reads_back, address_not_read}
use Rattle.napt_config.proofs.address.AddressFromStr.from_str.Goals as goal

pub returns-in-Some : goal.returns-in-Some
returns-in-Some c = record {
  spelled = address_text-of c.args.text.now c.in-Some.bits (sym c.in-Some.ensures);
  only = λ x fine is.
      let same : x.0 ≡ c.in-Some.bits = address_reads_back c.args.text.now c.in-Some.bits x.0
      (sym c.in-Some.ensures) fine is in
      λ i. Ok (record { 0 = sym same i });
  refused = tt;
}

pub returns-in-None : goal.returns-in-None
returns-in-None c = record {
  spelled = tt;
  only = λ x fine is. absurd (address_not_read c.args.text.now x.0 (sym c.in-None.ensures) fine is);
  refused = refl;
}
