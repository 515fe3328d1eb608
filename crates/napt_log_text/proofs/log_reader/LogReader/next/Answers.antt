-- next: a row that was written is read back, and a last line without its line feed is reported.
use Rattle.std.proofs.{Common.{ℕ, ◌≡◌, ◌≢◌, ◌∙◌, List, [], ◌∷◌, ◌++◌, Option, MatchOption, Ok, Bor, sym, ap, subst, lit<}, lemmas.Str.Pattern.strip_suffix_char}
use Rattle.napt_log_text.proofs.SavedRows.{csv_row-line, line_left, line_read, torn_read}
use Rattle.napt_log_text.proofs.log_reader.LogReader.next.Goals as goal

-- The line without its end, if it has one.
abbrev IsCut : List ℕ → Option (Bor (List ℕ)) → Type 0
IsCut line r = MatchOption r ((front : List ℕ) → line ≢ front ++ 10 ∷ []) (λ x. line ≡ x.now ++ 10 ∷ [])

pub returns-then-length-eq0-clause-row : goal.returns-then-length-eq0-clause-row
returns-then-length-eq0-clause-row g c rules event rest fits left =
    absurd (line_left _ (g.R.Read.remaining c.read_line.new.self) _ _ _ _ c.clear.ensures.bytes c.in-Ok.ensures.bytes
    left (c.in-Ok.ensures.end c.if-length-eq0.true) (csv_row-line rules event))

pub returns-in_default-clause-row : goal.returns-in_default-clause-row
returns-in_default-clause-row g c rules event rest fits left =
    let row = csv_row-line rules event in
    let read = line_read _ _ _ _ _ _ c.clear.ensures.bytes c.in-Ok.ensures.bytes left c.in-Ok.ensures.rest row in
    let none = subst (IsCut _) c.in_default.is (strip_suffix_char 10 _ _ c.strip_suffix.ensures.cases (lit< tt)) in
    absurd (none row.0 (c.as_str.ensures.value ∙ read.0 ∙ row.1))

pub returns-in-Some-read-clause-row : goal.returns-in-Some-read-clause-row
returns-in-Some-read-clause-row g c rules event rest fits left =
    let read = line_read _ _ _ _ _ _ c.clear.ensures.bytes c.in-Ok.ensures.bytes left c.in-Ok.ensures.rest
    (csv_row-line rules event) in
    let is = subst (IsCut _) c.in-Some.is (strip_suffix_char 10 _ _ c.strip_suffix.ensures.cases (lit< tt)) in
    let found = c.read.ensures rules event fits (sym read.0 ∙ sym c.as_str.ensures.value ∙ is) in
    (ap Ok (sym c.in-Some-read.is ∙ found), read.1)

pub returns-in-Some-read-clause-torn : goal.returns-in-Some-read-clause-torn
returns-in-Some-read-clause-torn g c torn some whole left =
    let is = subst (IsCut _) c.in-Some.is (strip_suffix_char 10 _ _ c.strip_suffix.ensures.cases (lit< tt)) in
    absurd (torn_read _ _ _ torn c.in-Some.text.now c.clear.ensures.bytes c.in-Ok.ensures.bytes left whole
    (sym c.as_str.ensures.value ∙ is))

pub returns-in-None-clause-row : goal.returns-in-None-clause-row
returns-in-None-clause-row g c rules event rest fits left =
    let read = line_read _ _ _ _ _ _ c.clear.ensures.bytes c.in-Ok.ensures.bytes left c.in-Ok.ensures.rest
    (csv_row-line rules event) in
    let is = subst (IsCut _) c.in-Some.is (strip_suffix_char 10 _ _ c.strip_suffix.ensures.cases (lit< tt)) in
    let found = c.read.ensures rules event fits (sym read.0 ∙ sym c.as_str.ensures.value ∙ is) in
    cc c.in-None.is

pub returns-in-None-clause-torn : goal.returns-in-None-clause-torn
returns-in-None-clause-torn g c torn some whole left =
    let is = subst (IsCut _) c.in-Some.is (strip_suffix_char 10 _ _ c.strip_suffix.ensures.cases (lit< tt)) in
    absurd (torn_read _ _ _ torn c.in-Some.text.now c.clear.ensures.bytes c.in-Ok.ensures.bytes left whole
    (sym c.as_str.ensures.value ∙ is))
