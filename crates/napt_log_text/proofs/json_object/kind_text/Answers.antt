-- kind_text: each kind of packet has its name.
use Rattle.std.proofs.lemmas.{Grind.common_steps, Bool.Decides.nat_tests}
use Rattle.std.proofs.Common.{ℕ, ◌≡◌, ◌==◌, ◌∙◌, Bool, true, false, List, codes, sym, ap, subst, if◌then◌else◌, arith}
use Rattle.napt_wire.specs.{Bytes.byte_at, Fields.{form_at, kind, kind_of, protocol_number, transport_start}, declared.{Flags.Flags, Inner.Inner, transport_form.TransportForm.TransportForm}}
use Rattle.napt_wire.specs.declared.transport_form.TransportForm.TheVariants.{Udp, Tcp, Request, Reply, Error}
use Rattle.napt_wire.specs.declared.Kind.TheVariants as kinds
use Rattle.napt_log_text.specs.Objects.{form_name, quoted}
use Rattle.napt_log_text.proofs.json_object.kind_text.Goals as goal

udp : (form : TransportForm) (bytes : List ℕ) → kind_of form bytes ≡ kinds.Udp → form_name form ≡ codes "udp"
udp form bytes h = grind (arith, common_steps, nat_tests)

tcp : (form : TransportForm) (bytes : List ℕ) (flags : Flags) → kind_of form bytes ≡ kinds.Tcp flags →
    form_name form ≡ codes "tcp"
tcp form bytes flags h = grind (arith, common_steps, nat_tests)

error : (form : TransportForm) (bytes : List ℕ) (inner : Inner) → kind_of form bytes ≡ kinds.ErrorOf inner →
    form_name form ≡ codes "icmp-error"
error form bytes inner h = grind (arith, common_steps, nat_tests)

-- The type of an echo message alone decides its form.
echo : (is_udp is_tcp is_request is_reply : Bool) (bytes : List ℕ) →
    kind_of (if is_udp then Udp else (if is_tcp then Tcp else (if is_request then Request
    else (if is_reply then Reply else Error)))) bytes ≡ kinds.Echo →
    form_name (if is_udp then Udp else (if is_tcp then Tcp else (if is_request then Request
    else (if is_reply then Reply else Error))))
    ≡ (if is_request then codes "icmp-echo-request" else codes "icmp-echo-reply")
echo is_udp is_tcp is_request is_reply bytes h = grind (arith, common_steps, nat_tests)

echo_at : (bytes : List ℕ) → kind bytes ≡ kinds.Echo → form_name (form_at 0 bytes)
    ≡ (if byte_at (transport_start 0 bytes) bytes == 8 then codes "icmp-echo-request" else codes "icmp-echo-reply")
unfolding kind form_at
echo_at bytes is =
    echo (protocol_number 0 bytes == 17) (protocol_number 0 bytes == 6) (byte_at (transport_start 0 bytes) bytes == 8)
    (byte_at (transport_start 0 bytes) bytes == 0) bytes is

first_if : (type : ℕ) (name one other : List ℕ) → name ≡ (if type == 8 then one else other) → type ≡ 8 → name ≡ one
first_if type name one other is same = grind (arith, nat_tests)

second_if : (type : ℕ) (name one other : List ℕ) → name ≡ (if type == 8 then one else other) → ¬ (type ≡ 8) →
    name ≡ other
second_if type name one other is differs = grind (arith, nat_tests)

same_byte : (bytes shown : List ℕ) (type : ℕ) → shown ≡ bytes → type ≡ byte_at (transport_start 0 shown) shown →
    type ≡ byte_at (transport_start 0 bytes) bytes
same_byte bytes shown type same is = subst (λ (b : List ℕ). type ≡ byte_at (transport_start 0 b) b) same is

request : (bytes shown : List ℕ) (type : ℕ) → kind bytes ≡ kinds.Echo → shown ≡ bytes →
    type ≡ byte_at (transport_start 0 shown) shown → type ≡ 8 → form_name (form_at 0 bytes) ≡ codes "icmp-echo-request"
request bytes shown type is same shows eight =
    first_if (byte_at (transport_start 0 bytes) bytes) _ _ _ (echo_at bytes is)
    (sym (same_byte bytes shown type same shows) ∙ eight)

reply : (bytes shown : List ℕ) (type : ℕ) → kind bytes ≡ kinds.Echo → shown ≡ bytes →
    type ≡ byte_at (transport_start 0 shown) shown → ¬ (type ≡ 8) →
    form_name (form_at 0 bytes) ≡ codes "icmp-echo-reply"
reply bytes shown type is same shows differs =
    second_if (byte_at (transport_start 0 bytes) bytes) _ _ _ (echo_at bytes is)
    (λ eight. differs (same_byte bytes shown type same shows ∙ eight))

pub returns-in-Udp : goal.returns-in-Udp
unfolding kind quoted
returns-in-Udp c =
    ap quoted (sym (udp (form_at 0 c.args.packet.now) c.args.packet.now (sym c.kind.ensures ∙ c.in-Udp.is)))

pub returns-in-Tcp : goal.returns-in-Tcp
unfolding kind quoted
returns-in-Tcp c =
    ap quoted (sym (tcp (form_at 0 c.args.packet.now) c.args.packet.now _ (sym c.kind.ensures ∙ c.in-Tcp.is)))

pub returns-in-Echo : goal.returns-in-Echo
unfolding quoted
returns-in-Echo c =
    ap quoted (sym (request c.args.packet.now c.bytes.result.now c.icmp_type.result (sym c.kind.ensures ∙ c.in-Echo.is)
    c.bytes.ensures.value c.icmp_type.ensures c.if-icmp_type-eq-ECHO_REQUEST.true))

pub returns-in-Echo-2 : goal.returns-in-Echo-2
unfolding quoted
returns-in-Echo-2 c =
    ap quoted (sym (reply c.args.packet.now c.bytes.result.now c.icmp_type.result (sym c.kind.ensures ∙ c.in-Echo-2.is)
    c.bytes.ensures.value c.icmp_type.ensures c.if-icmp_type-eq-ECHO_REQUEST.false))

pub returns-in-ErrorOf : goal.returns-in-ErrorOf
unfolding kind quoted
returns-in-ErrorOf c =
    ap quoted (sym (error (form_at 0 c.args.packet.now) c.args.packet.now _ (sym c.kind.ensures ∙ c.in-ErrorOf.is)))
