-- add_to: the text gets the members of the endpoints.
use Rattle.std.proofs.Common.{◌≡◌, ◌++◌, codes, string_bytes, append_assoc}
use Rattle.napt_config.specs.Text.{address_text}
use Rattle.napt_log_text.{specs.Objects.{end_members, quoted}, proofs.Quoted.quoted_between}
use Rattle.napt_log_text.proofs.json_object.PacketEnds.add_to.Goals as goal

pub returns : goal.returns
unfolding end_members
returns c =
    let source : string_bytes c.push_str-2.new.self ≡ string_bytes c.args.text.now
    ++ (codes ",\"source\":" ++ (quoted (address_text c.args.self.source.address) ++ codes ",\"source_port\":")) =
    quoted_between _ _ _ _ (codes ",\"source\":") _ (codes ",\"source_port\":") c.in_ok-push_str.ensures.bytes
    c.in_ok-add_address.ensures c.in_ok-push_str-2.ensures.bytes in
    let destination : string_bytes c.push_str-4.new.self ≡ string_bytes c.add_port.new.text
    ++ (codes ",\"destination\":"
    ++ (quoted (address_text c.args.self.destination.address) ++ codes ",\"destination_port\":")) =
    quoted_between _ _ _ _ (codes ",\"destination\":") _ (codes ",\"destination_port\":")
    c.in_ok-push_str-3.ensures.bytes c.in_ok-add_address-2.ensures c.in_ok-push_str-4.ensures.bytes in
    rw (
      c.in_ok-add_identifier.ensures,
      c.in_ok-push_str-5.ensures.bytes,
      c.in_ok-add_port-2.ensures,
      destination,
      c.in_ok-add_port.ensures,
      source,
    )
    (simp append_assoc)
