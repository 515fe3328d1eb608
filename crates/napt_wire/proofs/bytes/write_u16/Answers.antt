-- write_u16: two bytes written by std are the 16-bit number in the bytes.
use Rattle.std.proofs.Common.{◌≡◌, ℕ, ◌+◌, ◌-◌, ◌≤◌, ◌/◌, ◌%◌, List, [], ◌∷◌, ◌++◌, length, take, drop, slice_set, arith, refl, sym, ◌∙◌, ap, append_assoc, length-drop}
use Rattle.std.proofs.lemmas.List.{append-nil, drop-drop, drop-set-lt, drop_all, length-set, take-append-drop, take_all, take_more_set}
use Rattle.napt_wire.proofs.bytes.write_u16.Goals as goal

-- Writing two bytes at an offset is the same as setting each of them.
put_two : (place rest high low : ℕ) (old new : List ℕ) → place + 2 ≤ length old → rest ≡ length old - place →
    new ≡ high ∷ low ∷ drop 2 (take rest (drop place old)) →
    take place old ++ (new ++ drop rest (drop place old)) ≡ slice_set (slice_set old place high) (place + 1) low
put_two place rest high low old new room rest_is new_is =
    let behind : List ℕ = drop (place + 1 + 1) old in
    let first : List ℕ = slice_set old place high in
    let both : List ℕ = slice_set first (place + 1) low in
    let all : take rest (drop place old) ≡ drop place old =
    take_all rest (drop place old) (omega (arith, length-drop place old)) in
    let none : drop rest (drop place old) ≡ [] =
    drop_all rest (drop place old) (omega (arith, length-drop place old)) in
    let two : place + 2 ≡ place + 1 + 1 = omega arith in
    let tail : drop 2 (drop place old) ≡ behind = drop-drop 2 place old ∙ ap (λ (n : ℕ). drop n old) two in
    let front : take (place + 1 + 1) both ≡ (take place old ++ high ∷ []) ++ low ∷ [] =
    take_more_set first (place + 1) low (omega (arith, length-set old place high))
    ∙ ap (λ (l : List ℕ). l ++ low ∷ []) (take_more_set old place high (omega arith)) in
    let back : drop (place + 1 + 1) both ≡ behind =
    drop-set-lt (place + 1 + 1) first (place + 1) low (omega arith)
    ∙ drop-set-lt (place + 1 + 1) old place high (omega arith) in
    let split : both ≡ ((take place old ++ high ∷ []) ++ low ∷ []) ++ behind =
    sym (take-append-drop (place + 1 + 1) both) ∙ rw (front, back) refl in
    rw (new_is, all, none, tail)
    (ap (λ (l : List ℕ). take place old ++ high ∷ low ∷ l) (append-nil behind)
    ∙ sym (split ∙ append_assoc (take place old ++ high ∷ []) (low ∷ []) behind
    ∙ append_assoc (take place old) (high ∷ []) (low ∷ behind)))

pub returns : goal.returns
returns c =
    let high : c.args.word / 256 % 256 ≡ c.args.word / 256 = omega arith in
    put_two c.args.place (length c.args.bytes.now - c.args.place) (c.args.word / 256) (c.args.word % 256)
    c.args.bytes.now c.write_u16.new.buf c.requires refl (c.write_u16.ensures ∙ rw high refl)
