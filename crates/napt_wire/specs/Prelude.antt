-- The definitions of this crate, in one module for import.
pub use Rattle.napt_wire.specs.{Bytes.{word_at, words, double_word_at, with_word_at, byte_at}, Checksum.is_right, declared.Way.Way}
pub use Rattle.napt_wire.specs.Fields.{address, protocol_number, transport_start, number_place, number_at, inner_datagram_start, total_length, kind_of, is_error, CanCarry, header_length, version, address_place, end_at, inner_of, protocol_of, local_of, CanQuote, icmp_form}
pub use Rattle.napt_wire.specs.{Header.HasHeaders, Packet.{IsPacket, BodyIsFound, body_of, quoted_of, form_of}}
pub use Rattle.napt_wire.specs.Laws.{DestinationsAreGiven, kind_with_inner_source, IsErrorGiven, SourcesAreGiven, LocalEndsCarryNumbers, LastDestinationCounts, LastReversionCounts, IsCanonicalAt, IsQuotedCanonical, IsErrorCanonicalBy, OwnDestinationsChangeNothing, OwnSourcesChangeNothing}
pub use Rattle.napt_wire.specs.Reading.{message_checks, has_zero_port, error_checks, is_quotable, refusal, read_unless, datagram, length_checks, header_checks, body_checks, has_bad_transport, is_translated_message, header}
pub use Rattle.napt_wire.specs.{HeaderRewrite.{address_changes_of, changes_of, AreWordsThere}, declared.{Cause.Cause, Side.Side}}
pub use Rattle.napt_wire.specs.Rewriting.{word_change, with_changes, end_words, address_changes, inner_end, old_words, new_words, outer_end, address_words, number_changes, checksum_changes}
pub use Rattle.napt_wire.specs.{TransportChecksum.{pseudo_words, message_length, checksummed_words}, declared.Endpoint.Endpoint}
pub use Rattle.napt_wire.specs.declared.{Kind.TheVariants.ErrorOf, Side.TheVariants.Outside, transport_form.{DatagramEnd.DatagramEnd, TransportForm.TransportForm}}
pub use Rattle.napt_wire.specs.declared.{Way.TheVariants.{Outgoing, Incoming}, packet.{Body.Body, QuotedHeader.QuotedHeader}}
pub use Rattle.napt_wire.specs.declared.{transport_form.DatagramEnd.TheVariants.{Source, Destination}, header_rewrite.Change.Change}
unfoldable pub use Rattle.napt_wire.specs.{Checksum.{canon, canon_udp}, Reading.{reading, has_bad_inner}}
unfoldable pub use Rattle.napt_wire.specs.Fields.{source, destination, kind, form_at, inner, local_end, flags}
unfoldable pub use Rattle.napt_wire.specs.Rewriting.{
  end_changes,
  reverted_changes,
  with_destination,
  reverted,
  with_source,
}
unfoldable pub use Rattle.napt_wire.specs.TransportChecksum.{transport_right}
