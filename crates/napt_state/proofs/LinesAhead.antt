-- A text whose lines are read one after another: its unread rest, and the lines that were read.
use Rattle.napt_state.specs.StateFiles.{StateFileModel}
use Rattle.std.proofs.lemmas.{Grind.flat_map-append}
use Rattle.std.proofs.Common.{ℕ, ◌≡◌, ◌≤◌, ◌^◌, List, [], ◌∷◌, ◌++◌, map, flat_map, Option, Some, None, IfSome, Result, Ok, Err, OnOk, IfOk, refl, sym, ◌∙◌, ap, subst, append_assoc, append-nil}
use Rattle.std.specs.Io.KnownBytes.{IsAtEnd}
use Rattle.napt_rules.specs.Prelude.{Each}
use Rattle.napt_state.specs.declared.{line.{LineCounts.LineCounts, StateLine.StateLine}, fault.StateReason.{StateReason, TheVariants.{Accounts, Unread, Memory, NotUtf8, Torn, Word, WordCount, NoBinding, Counts as OtherCounts, AfterEnd}}}
use Rattle.napt_state.specs.declared.line.StateLine.TheVariants as lines
use Rattle.napt_state.specs.StateText.{StateTextBytes, IsStateLine, clock, earlier_log, end, binding_lines, log_lines, lines_between, counts_of, saved_text, line_text}
use Rattle.napt_state.specs.StateContents.{unless_for, StateUnlessUnread, IsEarlier, IsFirstLine, IsNoEnd, IsAdded, CanFollow, empty_contents}
use Rattle.napt_state.proofs.Replay.{none_follows, one_follows, is_last}

pub unless_weaker : {P Q : Type 0} (reason : StateReason) → (P → Q) → unless_for reason P → unless_for reason Q
unless_weaker (Unread error) f h = h
unless_weaker Memory f h = h
unless_weaker NotUtf8 f h = f h
unless_weaker Torn f h = f h
unless_weaker (Word its word) f h = f h
unless_weaker WordCount f h = f h
unless_weaker NoBinding f h = f h
unless_weaker OtherCounts f h = f h
unless_weaker Accounts f h = f h
unless_weaker AfterEnd f h = f h

-- The result of a call that reads the next line.
abbrev pub Reads : Result StateLine StateReason → Option StateTextBytes → Option StateTextBytes → Type 0
Reads read old new = (line : StateLine) (rest : StateTextBytes) → IsStateLine line →
    old ≡ Some (line_text line ++ rest) →
    StateUnlessUnread read ((read ≡ Ok line) × (new ≡ Some rest))

pub no_ok : {A E : Type 0} (e : E) (x : A) → ◌≡◌ {A = Result A E} (Err e) (Ok x) → ⊥
no_ok e x is = subst (λ r. OnOk r ⊥) is tt

pub same_ok : {A E : Type 0} (x y : A) → ◌≡◌ {A = Result A E} (Ok x) (Ok y) → x ≡ y
same_ok x y is = subst (λ r. IfOk r (λ z. x ≡ z)) is refl

-- WHAT IS LEFT

-- The lines of a text after the first ones are left.
pub record Ahead (whole so_far : StateFileModel) (more : List StateLine) (left : Option StateTextBytes) : Type 0
  where
    pub clock : so_far.clock ≡ whole.clock
    pub split : lines_between whole ++ end (counts_of whole) ∷ [] ≡ lines_between so_far ++ more
    pub fits : Each IsStateLine more
    pub text : left ≡ Some (flat_map line_text more)

abbrev pub IsAhead : StateFileModel → StateFileModel → Option StateTextBytes → Type 0
IsAhead whole so_far left = (more : List StateLine) × Ahead whole so_far more left

-- After a line that was read.
pub record AheadOf (whole so_far : StateFileModel) (line : StateLine) (more : List StateLine)
    (left : Option StateTextBytes) : Type 0 where
  pub clock : so_far.clock ≡ whole.clock
  pub split : lines_between whole ++ end (counts_of whole) ∷ [] ≡ lines_between so_far ++ line ∷ more
  pub fits : Each IsStateLine more
  pub text : left ≡ Some (flat_map line_text more)

module _ (whole so_far : StateFileModel) (old new : Option StateTextBytes) where
  -- The next line was read.
  pub ahead_next : (line : StateLine) → Reads (Ok line) old new → IsAhead whole so_far old →
      (more : List StateLine) × AheadOf whole so_far line more new
  ahead_next line reads ([], ahead) = absurd (one_follows so_far whole ahead.split)
  ahead_next line reads ((told ∷ more), ahead) =
      let got = reads told (flat_map line_text more) ahead.fits.0 (ahead.text) in
      let same : line ≡ told = same_ok line told got.0 in (
        more,
        record {
          clock = ahead.clock;
          split = ahead.split ∙ ap (λ (l : StateLine). lines_between so_far ++ l ∷ more) (sym same);
          fits = ahead.fits.1;
          text = got.1;
        },
      )

  -- There was no next line.
  pub none_next : (Q : Type 0) (reason : StateReason) → Reads (Err reason) old new → IsAhead whole so_far old →
      unless_for reason Q
  none_next Q reason reads ([], ahead) = absurd (one_follows so_far whole ahead.split)
  none_next Q reason reads ((told ∷ more), ahead) =
      unless_weaker reason (λ got. absurd (no_ok reason told got.0))
      (reads told (flat_map line_text more) ahead.fits.0 ahead.text)

module _ (whole so_far : StateFileModel) (line : StateLine) (more : List StateLine) (left : Option StateTextBytes)
  where
    pub can_follow : AheadOf whole so_far line more left → IsNoEnd line → CanFollow line so_far
    can_follow a other = record { other = other; whole = whole; more = more; split = a.split }

    pub ahead_added : (grown : StateFileModel) → AheadOf whole so_far line more left → IsAdded line so_far grown →
        IsAhead whole grown left
    ahead_added grown a added = (
      more,
      record {
        clock = added.clock ∙ a.clock;
        split = a.split ∙ sym (append_assoc (lines_between so_far) (line ∷ []) more)
            ∙ ap (λ (l : List StateLine). l ++ more) (sym added.lines);
        fits = a.fits;
        text = a.text;
      },
    )

-- The last line was read.
pub all_read : (whole so_far : StateFileModel) (counts : LineCounts) (more : List StateLine)
    (left : Option StateTextBytes) →
    AheadOf whole so_far (end counts) more left →
    (so_far ≡ whole) × (counts ≡ counts_of so_far) × (left ≡ Some [])
all_read whole so_far counts more left a =
    let last = is_last so_far whole counts more a.split in
    let same : so_far ≡ whole =
    (λ i. record { clock = a.clock i; log = last.log i; bindings = last.list i }) in (
      same,
      last.same ∙ ap counts_of (sym same),
      a.text ∙ ap (λ (l : List StateLine). Some (flat_map line_text l)) last.none,
    )

pub no_end : (line : StateLine) → ((counts : LineCounts) → line ≡ end counts → ⊥) → IsNoEnd line
no_end (lines.Clock at) h = tt
no_end (lines.Log position) h = tt
no_end (lines.Binding row last account) h = tt
no_end (lines.Flow one) h = tt
no_end (lines.Held row end) h = tt
no_end (lines.EarlierLog made length) h = tt
no_end (lines.EarlierEntry one) h = tt
no_end (lines.End counts) h = h counts refl

-- WHAT WAS READ

-- A text begins with the lines of what was read, and the rest is left.
pub record Taken (text : StateTextBytes) (so_far : StateFileModel) (left : Option StateTextBytes) : Type 0 where
  pub rest : StateTextBytes
  pub remains : left ≡ Some rest
  pub is : text ≡ line_text (clock so_far.clock) ++ (flat_map line_text (lines_between so_far) ++ rest)

module _ (text : StateTextBytes) (so_far : StateFileModel) (line : StateLine) (old new : Option StateTextBytes)
    (taken : Taken text so_far old)
    (read : (all : StateTextBytes) → old ≡ Some all → IsFirstLine line all new) where
  read_behind : (rest : StateTextBytes) × (text ≡ line_text (clock so_far.clock)
      ++ (flat_map line_text (lines_between so_far ++ line ∷ []) ++ rest)) × (new ≡ Some rest)
  read_behind =
      let (rest, is, gone) = read taken.rest taken.remains in
      let before : StateTextBytes = flat_map line_text (lines_between so_far) in (
        rest,
        taken.is ∙ ap (λ (l : StateTextBytes). line_text (clock so_far.clock) ++ l)
            (ap (λ (l : StateTextBytes). before ++ l) is
            ∙ sym (append_assoc before (line_text line) rest)
            ∙ ap (λ (l : StateTextBytes). (before ++ l) ++ rest) (sym (append-nil (line_text line)))
            ∙ ap (λ (l : StateTextBytes). l ++ rest)
            (sym (flat_map-append line_text (lines_between so_far) (line ∷ [])))),
        gone,
      )

  pub taken_added : (grown : StateFileModel) → IsAdded line so_far grown → Taken text grown new
  taken_added grown added =
      let (rest, is, gone) = read_behind in record {
        rest = rest;
        remains = gone;
        is = is
            ∙ ap (λ (n : ℕ). line_text (clock n) ++ (flat_map line_text (lines_between so_far ++ line ∷ []) ++ rest))
            (sym added.clock)
            ∙ ap (λ (l : List StateLine). line_text (clock grown.clock) ++ (flat_map line_text l ++ rest))
            (sym added.lines);
      }

  pub taken_all : (counts : LineCounts) → line ≡ end counts → counts ≡ counts_of so_far → IsAtEnd new →
      text ≡ saved_text so_far
  taken_all counts last same over =
      let (rest, is, gone) = read_behind in
      let none : rest ≡ [] = subst IsAtEnd gone over in
      is ∙ ap (λ (l : StateTextBytes). line_text (clock so_far.clock)
      ++ (flat_map line_text (lines_between so_far ++ line ∷ []) ++ l)) none
      ∙ ap (λ (l : StateTextBytes). line_text (clock so_far.clock) ++ l) (append-nil _)
      ∙ ap (λ (l : StateLine). line_text (clock so_far.clock)
      ++ flat_map line_text (lines_between so_far ++ l ∷ [])) (last ∙ ap end same)

-- A TEXT OF AN EARLIER VERSION

-- No text that is written has its log in that form.
pub no_earlier : (whole so_far : StateFileModel) (made length : ℕ) (more : List StateLine)
    (left : Option StateTextBytes) → AheadOf whole so_far (earlier_log made length) more left → ⊥
no_earlier whole so_far made length more left a = none_follows (earlier_log made length) so_far refl
    (can_follow whole so_far (earlier_log made length) more left a tt)

pub earlier_read : (text : StateTextBytes) (so_far : StateFileModel) (made length : ℕ)
    (old new : Option StateTextBytes) → Taken text so_far old →
    ((all : StateTextBytes) → old ≡ Some all → IsFirstLine (earlier_log made length) all new) → IsEarlier text
earlier_read text so_far made length old new taken read =
    let (rest, is, gone) = read taken.rest taken.remains in
    let first = line_text (clock so_far.clock) in
    let before : StateTextBytes = flat_map line_text (lines_between so_far) in (
      first ++ before,
      rest,
      made,
      length,
      taken.is ∙ sym (append_assoc first before taken.rest)
          ∙ ap (λ (l : StateTextBytes). (first ++ before) ++ l) is,
    )
