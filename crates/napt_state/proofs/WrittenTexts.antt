-- The text that is written for a state, line by line.
use Rattle.napt_state.specs.StateFiles.{StateFileModel}
use Rattle.std.proofs.lemmas.{Grind.flat_map-append, List.Folds.flat_map-map}
use Rattle.std.proofs.Common.{ℕ, zero, suc, ◌≡◌, ◌≤◌, ◌<◌, List, [], ◌∷◌, ◌++◌, codes, map, flat_map, length, take, Option, Result, Ok, Err, OnOk, sym, ◌∙◌, ap, subst, refl, arith, append_assoc, append-nil}
use Rattle.std.proofs.KnownBytes.{Appends-trans, Appends-kept}
use Rattle.std.specs.Io.KnownBytes.{Appends, Keeps}
use Rattle.napt_state.specs.declared.{saved_bindings.SavedBinding.SavedBinding, line.{LineCounts.LineCounts, StateLine.StateLine}}
use Rattle.napt_state.specs.StateText.{StateTextBytes, words_text, spaced, clock, end, binding_lines, log_lines, lines_between, counts_of, saved_text, line_text}

pub finished : {A E P : Type 0} (r : Result A E) → P → OnOk r P
finished (Ok x) p = p
finished (Err e) p = tt

pub whole : {X : Type 0} (n : ℕ) (xs : List X) → length xs ≤ n → take n xs ≡ xs
whole zero [] le = refl
whole zero (x ∷ xs) le = absurd (omega arith)
whole (suc n) [] le = refl
whole (suc n) (x ∷ xs) le = ap (λ (l : List _). x ∷ l) (whole n xs (omega arith))

joined : (old : StateTextBytes) (front : List StateTextBytes) (word : StateTextBytes) (more : List StateTextBytes) →
    (old ++ spaced front) ++ words_text (word ∷ more) ≡ old ++ words_text (front ++ word ∷ more)
joined old [] word more = ap (λ l. l ++ words_text (word ∷ more)) (append-nil old)
joined old (w ∷ []) word more = append_assoc old ((w ++ codes " ") ++ []) (words_text (word ∷ more))
    ∙ ap (λ l. old ++ (l ++ words_text (word ∷ more))) (append-nil (w ++ codes " "))
joined old (w ∷ (v ∷ front)) word more =
    ap (λ l. l ++ words_text (word ∷ more)) (sym (append_assoc old (w ++ codes " ") (spaced (v ∷ front))))
    ∙ joined (old ++ (w ++ codes " ")) (v ∷ front) word more
    ∙ append_assoc old (w ++ codes " ") (words_text (v ∷ front ++ word ∷ more))

-- Words that are appended to others are on the same line.
pub words_behind : (old : StateTextBytes) (front behind : List StateTextBytes) → 0 < length behind →
    (old ++ spaced front) ++ words_text behind ≡ old ++ words_text (front ++ behind)
words_behind old front [] some = absurd (omega (arith, some))
words_behind old front (word ∷ more) some = joined old front word more

-- Lines that are appended after a first one.
pub written_behind : {X : Type 0} (first : StateLine) (line : X → StateLine) (n : ℕ) (xs : List X) → length xs ≤ n →
    line_text first ++ flat_map (λ x. line_text (line x)) (take n xs) ≡ flat_map line_text (first ∷ map line xs)
written_behind first line n xs le = ap (λ l. line_text first ++ l)
    (ap (flat_map (λ x. line_text (line x))) (whole n xs le) ∙ sym (flat_map-map line_text line xs))

bindings_text : (list : List SavedBinding) → flat_map line_text (flat_map binding_lines list)
    ≡ flat_map (λ b. flat_map line_text (binding_lines b)) list
bindings_text [] = refl
bindings_text (b ∷ list) = flat_map-append line_text (binding_lines b) (flat_map binding_lines list)
    ∙ ap (λ l. flat_map line_text (binding_lines b) ++ l) (bindings_text list)

pub text_parts : (s : StateFileModel) → saved_text s ≡ line_text (clock s.clock)
    ++ (flat_map line_text (log_lines s.log) ++ (flat_map (λ b. flat_map line_text (binding_lines b)) s.bindings
    ++ line_text (end (counts_of s))))
text_parts s = ap (λ l. line_text (clock s.clock) ++ l)
    (flat_map-append line_text (lines_between s) (end (counts_of s) ∷ [])
    ∙ ap (λ l. flat_map line_text (lines_between s) ++ l) (append-nil (line_text (end (counts_of s))))
    ∙ ap (λ l. l ++ line_text (end (counts_of s)))
    (flat_map-append line_text (log_lines s.log) (flat_map binding_lines s.bindings)
    ∙ ap (λ l. flat_map line_text (log_lines s.log) ++ l) (bindings_text s.bindings))
    ∙ append_assoc (flat_map line_text (log_lines s.log)) _ _)

-- The clock and the log, then the bindings so far.
pub written_saved : (s : StateFileModel) (counts : LineCounts) (n : ℕ) (a b d e : Option StateTextBytes) →
    length s.bindings ≤ n →
    counts ≡ counts_of s →
    Appends a b (line_text (clock s.clock) ++ (flat_map line_text (log_lines s.log)
    ++ flat_map (λ b. flat_map line_text (binding_lines b)) (take n s.bindings))) →
    Appends b d (line_text (end counts)) → Keeps d e → Appends a e (saved_text s)
written_saved s counts n a b d e le same text last kept =
    let first = line_text (clock s.clock) in
    let log = flat_map line_text (log_lines s.log) in
    let list = flat_map (λ (b : SavedBinding). flat_map line_text (binding_lines b)) s.bindings in
    let closing = line_text (end (counts_of s)) in
    let all = Appends-trans a b d _ _ text (subst (λ (m : LineCounts). Appends b d (line_text (end m))) same last) in
    subst (Appends a e) (ap (λ (l : List SavedBinding). (first ++ (log
    ++ flat_map (λ b. flat_map line_text (binding_lines b)) l)) ++ closing) (whole n s.bindings le)
    ∙ append_assoc first (log ++ list) closing ∙ ap (λ l. first ++ l) (append_assoc log list closing)
    ∙ sym (text_parts s))
    (Appends-kept a d e _ all kept)
