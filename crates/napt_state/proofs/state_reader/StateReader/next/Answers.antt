-- next: a line that was written is read, and the line that is read is the beginning of the text.
use Rattle.std.proofs.Common.{ℕ, ◌≡◌, ◌≢◌, ◌∙◌, Bool, true, false, List, [], ◌∷◌, ◌++◌, Option, Some, MatchOption, Result, Ok, Err, OnOk, is_err, Bor, sym, ap, subst, lit<}
use Rattle.std.specs.{Prelude.bytes_eq, Str.IsUtf8}
use Rattle.std.proofs.lemmas.{Str.Pattern.strip_suffix_char, Option.none-some, Bool.true≢false, Slice.Eq.bytes_eq-Decides}
use Rattle.napt_state.specs.StateText.{line_text}
use Rattle.napt_state.proofs.Lines.{line_text-ended, line_text-utf8, line_left, line_read, torn_line, torn_read, first_read}
use Rattle.napt_state.proofs.state_reader.StateReader.next.Goals as goal

-- The line without its end, if it has one.
abbrev IsCut : List ℕ → Option (Bor (List ℕ)) → Type 0
IsCut line r = MatchOption r ((front : List ℕ) → line ≢ front ++ 10 ∷ []) (λ x. line ≡ x.now ++ 10 ∷ [])

pub returns-then-length-eq0-clause-entry : goal.returns-then-length-eq0-clause-entry
returns-then-length-eq0-clause-entry g c entry rest fits left =
    absurd (line_left _ (g.R.Read.remaining c.read_until.new.self) _ _ _ _ c.clear.ensures.items c.in-Ok.ensures.bytes
    left (c.in-Ok.ensures.end c.if-length-eq0.true) (line_text-ended entry))

pub returns-in_default-clause-entry : goal.returns-in_default-clause-entry
returns-in_default-clause-entry g c entry rest fits left =
    let read = line_read _ _ _ _ _ _ c.clear.ensures.items c.in-Ok.ensures.bytes left c.in-Ok.ensures.rest
    (line_text-ended entry) in
    absurd (c.in_default.ensures.cases.0
    (subst IsUtf8 (sym (c.deref.ensures.value ∙ read.0)) (line_text-utf8 entry)))

pub returns-in_default-clause-torn : goal.returns-in_default-clause-torn
returns-in_default-clause-torn g c torn utf8 some whole left =
    absurd (c.in_default.ensures.cases.0 (subst IsUtf8 (torn_line _ _ _ torn c.clear.ensures.items
    c.in-Ok.ensures.bytes left whole ∙ sym c.deref.ensures.value) utf8))

pub returns-in_default-strip_suffix-clause-entry : goal.returns-in_default-strip_suffix-clause-entry
returns-in_default-strip_suffix-clause-entry g c entry rest fits left =
    let row = line_text-ended entry in
    let read = line_read _ _ _ _ _ _ c.clear.ensures.items c.in-Ok.ensures.bytes left c.in-Ok.ensures.rest row in
    let none = subst (IsCut _) c.in_default-strip_suffix.is
    (strip_suffix_char 10 _ _ c.strip_suffix.ensures.cases (lit< tt)) in
    absurd (none row.0 ((c.in-Ok-from_utf8.ensures.cases.0 ∙ c.deref.ensures.value) ∙ read.0 ∙ row.1))

pub returns-in_default-read-clause-entry : goal.returns-in_default-read-clause-entry
returns-in_default-read-clause-entry g c entry rest fits left =
    let read = line_read _ _ _ _ _ _ c.clear.ensures.items c.in-Ok.ensures.bytes left c.in-Ok.ensures.rest
    (line_text-ended entry) in
    let is = subst (IsCut _) c.in-Some.is (strip_suffix_char 10 _ _ c.strip_suffix.ensures.cases (lit< tt)) in
    let found = c.read.ensures.read entry fits
    (sym read.0 ∙ sym (c.in-Ok-from_utf8.ensures.cases.0 ∙ c.deref.ensures.value) ∙ is) in
    absurd (none-some _ (sym c.in_default-read.is ∙ found))

pub returns-in_default-read-clause-torn : goal.returns-in_default-read-clause-torn
returns-in_default-read-clause-torn g c torn utf8 some whole left =
    let is = subst (IsCut _) c.in-Some.is (strip_suffix_char 10 _ _ c.strip_suffix.ensures.cases (lit< tt)) in
    absurd (torn_read _ _ _ torn c.clear.ensures.items c.in-Ok.ensures.bytes left whole c.in-Some.text.now
    (sym (c.in-Ok-from_utf8.ensures.cases.0 ∙ c.deref.ensures.value) ∙ is))

pub returns-then-eq-clause-torn : goal.returns-then-eq-clause-torn
returns-then-eq-clause-torn g c torn utf8 some whole left =
    let is = subst (IsCut _) c.in-Some.is (strip_suffix_char 10 _ _ c.strip_suffix.ensures.cases (lit< tt)) in
    absurd (torn_read _ _ _ torn c.clear.ensures.items c.in-Ok.ensures.bytes left whole c.in-Some.text.now
    (sym (c.in-Ok-from_utf8.ensures.cases.0 ∙ c.deref.ensures.value) ∙ is))

pub returns-else-eq-clause-torn : goal.returns-else-eq-clause-torn
returns-else-eq-clause-torn g c torn utf8 some whole left =
    let is = subst (IsCut _) c.in-Some.is (strip_suffix_char 10 _ _ c.strip_suffix.ensures.cases (lit< tt)) in
    absurd (torn_read _ _ _ torn c.clear.ensures.items c.in-Ok.ensures.bytes left whole c.in-Some.text.now
    (sym (c.in-Ok-from_utf8.ensures.cases.0 ∙ c.deref.ensures.value) ∙ is))

pub returns-then-eq-clause-entry : goal.returns-then-eq-clause-entry
returns-then-eq-clause-entry g c entry rest fits left =
    let read = line_read _ _ _ _ _ _ c.clear.ensures.items c.in-Ok.ensures.bytes left c.in-Ok.ensures.rest
    (line_text-ended entry) in
    let is = subst (IsCut _) c.in-Some.is (strip_suffix_char 10 _ _ c.strip_suffix.ensures.cases (lit< tt)) in
    let found = c.read.ensures.read entry fits
    (sym read.0 ∙ sym (c.in-Ok-from_utf8.ensures.cases.0 ∙ c.deref.ensures.value) ∙ is) in
    (ap Ok (sym c.in-Some-read.is ∙ found), read.1)

-- A fact that was proved if memory sufficed, where memory did suffice.
sufficed : {A E P : Type 0} (r : Result A E) → OnOk r P → is_err r ≡ false → P
sufficed (Ok x) h e = h
sufficed (Err error) h e = cc

same_bytes : (a b : List ℕ) (t : Bool) → t ≡ bytes_eq a b → t ≡ true → a ≡ b
same_bytes a b t is e = (bytes_eq-Decides a b).0 (sym is ∙ e)

pub returns-then-eq-clause-exact : goal.returns-then-eq-clause-exact
returns-then-eq-clause-exact g c entry all left e =
    let same : c.in-Some-read.entry ≡ entry = cc in
    let again = sufficed c.add_to.result c.add_to.ensures (sym c.is_err.ensures.value ∙ c.if-is_err.false) in
    let bytes = same_bytes _ _ _ c.eq.ensures c.if-eq.true in
    let line = sym (c.in-Ok-from_utf8.ensures.cases.0 ∙ c.deref.ensures.value) ∙ sym bytes ∙ c.as_str.ensures.value ∙
    again
    ∙ ap (λ l. l ++ line_text c.in-Some-read.entry) c.clear-2.ensures.bytes ∙ ap line_text same in
    first_read _ _ _ _ all entry c.clear.ensures.items c.in-Ok.ensures.bytes c.in-Ok.ensures.rest left line

pub returns-else-eq-clause-entry : goal.returns-else-eq-clause-entry
returns-else-eq-clause-entry g c entry rest fits left =
    let read = line_read _ _ _ _ _ _ c.clear.ensures.items c.in-Ok.ensures.bytes left c.in-Ok.ensures.rest
    (line_text-ended entry) in
    let is = subst (IsCut _) c.in-Some.is (strip_suffix_char 10 _ _ c.strip_suffix.ensures.cases (lit< tt)) in
    let found = c.read.ensures.read entry fits
    (sym read.0 ∙ sym (c.in-Ok-from_utf8.ensures.cases.0 ∙ c.deref.ensures.value) ∙ is) in
    let both : Some c.in-Some-read.entry ≡ Some entry = sym c.in-Some-read.is ∙ found in
    let same : c.in-Some-read.entry ≡ entry = cc in
    let again = sufficed c.add_to.result c.add_to.ensures (sym c.is_err.ensures.value ∙ c.if-is_err.false) in
    let line = c.as_str.ensures.value ∙ again ∙ ap (λ l. l ++ line_text c.in-Some-read.entry) c.clear-2.ensures.bytes
    ∙ ap line_text same ∙ sym read.0 ∙ sym (c.in-Ok-from_utf8.ensures.cases.0 ∙ c.deref.ensures.value) in
    absurd (true≢false (sym ((bytes_eq-Decides _ _).1 line) ∙ sym c.eq.ensures ∙ c.if-eq.false))
