-- add_quoted: the text gets the object of the packet that an ICMP error quotes.
use Rattle.std.proofs.Common.{◌≡◌, ◌++◌, codes, string_bytes, append_assoc}
use Rattle.napt_log_text.{specs.Objects.{quoted, quoted_object}, proofs.Quoted.quoted_behind}
use Rattle.napt_log_text.proofs.json_object.add_quoted.Goals as goal

pub returns : goal.returns
unfolding quoted_object
returns c =
    let protocol : string_bytes c.push_str-3.new.self ≡ string_bytes c.args.text.now
    ++ (codes "{\"protocol\":" ++ quoted c.protocol_name.result.now) =
    quoted_behind _ _ _ _ (codes "{\"protocol\":") _ c.in_ok-push_str.ensures.bytes c.in_ok-push_str-2.ensures.bytes
    c.in_ok-push_str-3.ensures.bytes in
    rw (c.in_ok-push_str-4.ensures.bytes, c.in_ok-add_to.ensures, protocol)
    (simp (c.protocol_name.ensures, c.from_quoted.ensures, append_assoc))
