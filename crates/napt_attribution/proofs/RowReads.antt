-- The rows of a log are read one after another.
use Rattle.std.proofs.{Common.{◌≡◌, ◌⊎◌, ℕ, Bool, true, false, List, [], ◌∷◌, ◌++◌, Option, Some, None, Result, Ok, Err, IfOk, ◌==◌, if◌then◌else◌, refl, sym, ◌∙◌, ap, subst, append-nil, append_assoc}, lemmas.Result.IfOk-from_err}
use Rattle.std.specs.{Io.KnownBytes.prepend_known, List.flat_map, Result.IsErr}
use Rattle.napt_config.specs.Rules.{Rules}
use Rattle.napt_rules.specs.Prelude.{Each}
use Rattle.napt_log_text.specs.{LogReaders.LogUnlessUnread, LogRows.IsEvent, Rows.csv_row, declared.{event.LogEvent.LogEvent, log_reader.LogFileFault.LogFileFault, log_row.LogRow.LogRow}}
use Rattle.napt_attribution.specs.{SavedLogs.{FollowAll, EventFollows, RowsTrackEvents, entries_in}, declared.{requests.HolderRequest.HolderRequest, saved_rows.SavedRows.SavedRows}}

-- If the read failed, so does any call that needs it.
pub unless : {A B E : Type 0} (read : Result A LogFileFault) (fact : Type 0) (result : Result B E) (P : B → Type 0) →
    LogUnlessUnread read fact → (fact → IfOk result P) → (IsErr read → IsErr result) → IfOk result P
unless (Ok x) fact result P h given fails = given h
unless (Err e) fact result P h given fails = IfOk-from_err result P (fails refl)

-- A piece of a log of these events, with these bytes left.
pub record IsRead (rules : Rules) (asked : List HolderRequest) (events : List LogEvent) (left : Option (List ℕ))
    (rows : SavedRows) : Type 0 where
  pub done : List LogEvent
  pub rest : List LogEvent
  pub joined : done ++ rest ≡ events
  pub fit : Each IsEvent rest
  pub bytes : left ≡ Some (flat_map (csv_row rules) rest)
  pub tells : RowsTrackEvents asked rows done
  pub follow : FollowAll done rest → FollowAll [] events

module _ (rules : Rules) (asked : List HolderRequest) (events : List LogEvent) (left later : Option (List ℕ))
    (old new : SavedRows)
    (more : Bool)
    (row : (es : List LogEvent) (e : LogEvent) (rest : List ℕ) → IsEvent e → left ≡ Some (csv_row rules e ++ rest) →
    RowsTrackEvents asked old es →
    (more ≡ true) × EventFollows (entries_in es) e × RowsTrackEvents asked new (es ++ e ∷ []) ×
    (later ≡ Some rest))
    (end : left ≡ Some [] → (more ≡ false) × (new ≡ old)) where
  go_on : (done rest : List LogEvent) → done ++ rest ≡ events → Each IsEvent rest → left ≡
      Some (flat_map (csv_row rules) rest) →
      RowsTrackEvents asked old done → (FollowAll done rest → FollowAll [] events) → more ≡ true →
      IsRead rules asked events later new
  go_on done [] joined fit bytes tells follow is = let none = (end bytes).0 in absurd (cc (none, is))
  go_on done (e ∷ rest) joined fit bytes tells follow is =
      let next = row done e (flat_map (csv_row rules) rest) fit.0 bytes tells in record {
        done = done ++ e ∷ [];
        rest = rest;
        joined = append_assoc done (e ∷ []) rest ∙ joined;
        fit = fit.1;
        bytes = next.3;
        tells = next.2;
        follow = λ h. follow (next.1, h);
      }

  pub goes_on : IsRead rules asked events left old → more ≡ true → IsRead rules asked events later new
  goes_on i = go_on i.done i.rest i.joined i.fit i.bytes i.tells i.follow

  stop : (done rest : List LogEvent) → done ++ rest ≡ events → Each IsEvent rest → left ≡
      Some (flat_map (csv_row rules) rest) →
      RowsTrackEvents asked old done → (FollowAll done rest → FollowAll [] events) → more ≡ false →
      FollowAll [] events × RowsTrackEvents asked new events
  stop done [] joined fit bytes tells follow is = (
    follow tt,
    subst (λ (s : SavedRows). RowsTrackEvents asked s events) (sym (end bytes).1)
        (subst (RowsTrackEvents asked old) (sym (append-nil done) ∙ joined) tells),
  )
  stop done (e ∷ rest) joined fit bytes tells follow is =
      let some = (row done e (flat_map (csv_row rules) rest) fit.0 bytes tells).0 in absurd (cc (some, is))

  pub stops : IsRead rules asked events left old → more ≡ false → FollowAll [] events × RowsTrackEvents asked new events
  stops i = stop i.done i.rest i.joined i.fit i.bytes i.tells i.follow

pub begins : (rules : Rules) (asked : List HolderRequest) (events : List LogEvent) (left : Option (List ℕ))
    (rows : SavedRows) →
    Each IsEvent events → left ≡ Some (flat_map (csv_row rules) events) → RowsTrackEvents asked rows [] →
    IsRead rules asked events left rows
begins rules asked events left rows fit bytes tells = record {
  done = [];
  rest = events;
  joined = refl;
  fit = fit;
  bytes = bytes;
  tells = tells;
  follow = λ h. h;
}

-- A row that was read.
pub same_row : (told row : LogRow) → Some told ≡ Some row → row ≡ told
same_row told row h = cc

-- After an empty buffer comes what the device has.
pub behind_buffer : (capacity : ℕ) (buffer : List ℕ) (left : Option (List ℕ)) (bytes : List ℕ) → capacity ≡ 8192 →
    buffer ≡ [] →
    left ≡ Some bytes → (if capacity == 0 then None else prepend_known buffer left) ≡ Some bytes
behind_buffer capacity buffer left bytes a b c = λ i. if a i == 0 then None else prepend_known (b i) (c i)
