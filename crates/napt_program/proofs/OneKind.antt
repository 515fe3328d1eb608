-- A parse of a simple command without subcommands fails with at most one kind.
use Rattle.std.proofs.Common.{◌≡◌, ◌≤◌, ℕ, zero, suc, Bool, true, false, ◌&&◌, ◌||◌, not, List, [], ◌∷◌, length, min, ◌+◌, Option, Some, None, is_some, refl, arith, if◌then◌else◌, ◌==◌, nat_lt, drop}
use Rattle.std.specs.{Prelude.{encode_utf8, slice_get}, Str.{bytes_eq, chars}, Option.option_map_or, List.list_any}
use Rattle.clap.specs.{Lexer.{long_of, short_of}, Matches.count_text, Values.refused_kind, ValueTests.accepts, Takes.is_given}
use Rattle.clap.specs.Facts.{explicit_source, parser_of_value, unwrap_or_range}
use Rattle.clap.specs.Kinds.{Kinds, check_kinds, or_else, range_kinds, request_kinds, value_kinds, values_kinds}
use Rattle.clap.specs.Faults.{action_fault, built_fault, bundle_fault, bundle_step_fault, check_fault, count_fault, default_fault, defaults_fault, entered_fault, fault_of, flag_word_fault, flags_fault, level_fault, long_fault, option_fault, other_fault, positional_fault, react_fault, repeat_fault, set_fault, settle_fault, short_fault, step_fault, stray_fault, turn_fault, use_fault, values_fault, walk_fault, word_fault}
use Rattle.clap.specs.Walk.{Held, Row, Rule, Step, Text, Waiting, Walk, action_of, arg_by_id, arg_by_index, arg_by_long, arg_by_short, attached_value, count_of, finished, has_row, is_empty, is_pending, most_values, reacted, settled, subcommand_met, takes_several, takes_values, values_or_missing, walk, walk_from, walked, with_default, word_met, nothing_held, idle, option, positional, next, trailing, subcommand, value}
use Rattle.clap.specs.{Simple.{App, Shape, argument_words, built, entered, names_of}, declared.builder.action.ArgAction.ArgAction}
use Rattle.clap.specs.declared.{builder.value_parser.ValueParser.ValueParser, error.kind.ErrorKind.ErrorKind}
use Rattle.clap.specs.declared.builder.action.ArgAction.TheVariants as action
use Rattle.clap.specs.declared.error.kind.ErrorKind.TheVariants as kind

abbrev IsOne : Kinds → Type 0
IsOne kinds = length kinds ≤ 1

one_none : IsOne []
one_none = omega arith

one_kind : (k : ErrorKind) → IsOne (k ∷ [])
one_kind k = omega arith

one-or_else : (a b : Kinds) → IsOne a → IsOne b → IsOne (or_else a b)
one-or_else [] b p q = q
one-or_else (k ∷ ks) b p q = p

one-if : (t : Bool) (a b : Kinds) → IsOne a → IsOne b → IsOne (if t then a else b)
one-if true a b p q = p
one-if false a b p q = q

one-option : {X : Type 0} (o : Option X) (f : X → Kinds) → ((x : X) → IsOne (f x)) → IsOne (option_map_or f o [])
one-option None f p = one_none
one-option (Some x) f p = p x

one-request : (a : ArgAction) → IsOne (request_kinds a)
one-request action.Set = one_none
one-request action.Append = one_none
one-request action.SetTrue = one_none
one-request action.SetFalse = one_none
one-request action.Count = one_none
one-request action.Help = omega arith
one-request action.HelpShort = omega arith
one-request action.HelpLong = omega arith
one-request action.Version = omega arith

one-value : (b : Bool) (p : ValueParser) (t : Text) → IsOne (value_kinds b p t)
one-value b p t = one-if (accepts b p t) [] (refused_kind p ∷ []) one_none (one_kind (refused_kind p))

one-values : (b : Bool) (p : ValueParser) (ts : List Text) → IsOne (values_kinds b p ts)
one-values b p [] = one_none
one-values b p (t ∷ ts) = one-or_else (value_kinds b p t) (values_kinds b p ts) (one-value b p t) (one-values b p ts)

one-range : (least most n : ℕ) → IsOne (range_kinds least most n)
one-range least most n =
    let above : Kinds = if nat_lt most n then kind.TooManyValues ∷ [] else [] in
    let outside : Kinds = if nat_lt n least then kind.TooFewValues ∷ [] else above in
    let wrong : Kinds = if least == n then [] else kind.WrongNumberOfValues ∷ [] in
    let other : Kinds = if least == most then wrong else outside in
    one-if (nat_lt 0 least && n == 0) (kind.InvalidValue ∷ []) other (one_kind kind.InvalidValue)
    (one-if (least == most) wrong outside (one-if (least == n) [] (kind.WrongNumberOfValues ∷ []) one_none
    (one_kind kind.WrongNumberOfValues))
    (one-if (nat_lt n least) (kind.TooFewValues ∷ []) above (one_kind kind.TooFewValues)
    (one-if (nat_lt most n) (kind.TooManyValues ∷ []) [] (one_kind kind.TooManyValues) one_none)))

one-set : (again : Bool) (a : Rule) (vs : List Text) (rows : List Row) → IsOne (set_fault again a vs rows)
one-set again a vs rows = one-or_else (repeat_fault again a.id rows) (values_fault a vs)
    (one-if (has_row a.id rows && not again) (kind.ArgumentConflict ∷ []) [] (one_kind kind.ArgumentConflict) one_none)
    (one-values a.ignore_case (parser_of_value a.parser) vs)

one-count : (a : Rule) (vs : List Text) (rows : List Row) → IsOne (count_fault a vs rows)
one-count a [] rows = one-value a.ignore_case (parser_of_value a.parser) (count_text (min (count_of a.id rows + 1) 255))
one-count a (v ∷ vs) rows = one-values a.ignore_case (parser_of_value a.parser) (v ∷ vs)

one-action : (x : ArgAction) (again : Bool) (a : Rule) (vs : List Text) (rows : List Row) →
    IsOne (action_fault x again a vs rows)
one-action action.Set again a vs rows = one-set again a vs rows
one-action action.SetTrue again a vs rows = one-set again a vs rows
one-action action.SetFalse again a vs rows = one-set again a vs rows
one-action action.Append again a vs rows = one-values a.ignore_case (parser_of_value a.parser) vs
one-action action.Count again a vs rows = one-count a vs rows
one-action action.Help again a vs rows = omega arith
one-action action.HelpShort again a vs rows = omega arith
one-action action.HelpLong again a vs rows = omega arith
one-action action.Version again a vs rows = omega arith

one-use : (again : Bool) (a : Rule) (vs : List Text) (rows : List Row) → IsOne (use_fault again a vs rows)
one-use again a vs rows = one-or_else
    (range_kinds (unwrap_or_range a.range).start_inclusive (most_values a) (length vs))
    (action_fault (action_of a) again a (values_or_missing a vs) rows)
    (one-range (unwrap_or_range a.range).start_inclusive (most_values a) (length vs))
    (one-action (action_of a) again a (values_or_missing a vs) rows)

one-settle : (c : List Rule) (again : Bool) (h : Held) → IsOne (settle_fault c again h)
one-settle c again h = one-option h.pending (λ p. option_map_or (λ a. use_fault again a p.1 h.rows) (arg_by_id c p.0)
    []) (λ p. one-option (arg_by_id c p.0) (λ a. use_fault again a p.1 h.rows) (λ a. one-use again a p.1 h.rows))

one-react : (c : List Rule) (again : Bool) (a : Rule) (vs : List Text) (h : Held) → IsOne (react_fault c again a vs h)
one-react c again a vs h = one-or_else (settle_fault c again h) (use_fault again a vs (settled c h).rows)
    (one-settle c again h) (one-use again a vs (settled c h).rows)

one-attached : (c : List Rule) (again : Bool) (a : Rule) (v : Option Text) (h : Held) →
    IsOne (option_fault c again a v h)
one-attached c again a (Some v) h = one-react c again a (v ∷ []) h
one-attached c again a None h = one-settle c again h

one-long : (c : List Rule) (again : Bool) (o : Option Rule) (v : Option Text) (h : Held) →
    IsOne (long_fault c again o v h)
one-long c again None v h = omega arith
one-long c again (Some a) v h =
    let flag : Kinds = if is_some v then kind.TooManyValues ∷ [] else react_fault c again a [] h in
    one-if (takes_values a) (option_fault c again a v h) flag (one-attached c again a v h)
    (one-if (is_some v) (kind.TooManyValues ∷ []) (react_fault c again a [] h) (one_kind kind.TooManyValues)
    (one-react c again a [] h))

one-short : (c : List Rule) (again : Bool) (o : Option Rule) (rest : Text) (h : Held) (more : Held → Kinds)
    → ((g : Held) → IsOne (more g)) → IsOne (short_fault c again o rest h more)
one-short c again None rest h more p = omega arith
one-short c again (Some a) rest h more p = one-if (takes_values a) (option_fault c again a (attached_value rest) h)
    (or_else (react_fault c again a [] h) (more (reacted c a [] h))) (one-attached c again a (attached_value rest) h)
    (one-or_else (react_fault c again a [] h) (more (reacted c a [] h)) (one-react c again a [] h)
    (p (reacted c a [] h)))

one-bundle_step : (c : List Rule) (again : Bool) (o : Option ℕ) (flags : Text) (skip : ℕ) (h : Held) (more : Text → ℕ →
    Held → Kinds)
    → ((t : Text) (n : ℕ) (g : Held) → IsOne (more t n g)) → IsOne (bundle_step_fault c again o flags skip h more)
one-bundle_step c again None flags skip h more p = one_none
one-bundle_step c again (Some x) flags zero h more p =
    let rest = drop (length (encode_utf8 x)) flags in
    one-short c again (arg_by_short c x) rest h (more rest 0) (p rest 0)
one-bundle_step c again (Some x) flags (suc skip) h more p = p _ _ _

one-flags : (c : List Rule) (again : Bool) (k : ℕ) (flags : Text) (skip : ℕ) (h : Held) →
    IsOne (flags_fault c again k flags skip h)
unfolding flags_fault
one-flags c again zero flags skip h = one_none
one-flags c again (suc k) flags skip h =
    one-bundle_step c again (slice_get (chars flags) 0) flags skip h (flags_fault c again k) (one-flags c again k)

one-flag_word : (c : List Rule) (again : Bool) (o : Option (Text × Option Text)) (word : Text) (h : Held) →
    IsOne (flag_word_fault c again o word h)
one-flag_word c again (Some p) word h = one-long c again (arg_by_long c p.0) p.1 h
one-flag_word c again None word h = one-option (short_of word) (λ flags. bundle_fault c again flags h) (λ flags.
    one-flags c again (length flags) flags h.skip (record h { skip = 0 }))

one-word : (s : Shape) (is_trailing : Bool) (w : Waiting) (word : Text) (h : Held) →
    IsOne (word_fault s [] is_trailing w word h)
one-word s is_trailing w word h = one-if is_trailing [] (other_fault s (subcommand_met [] w word) word h) one_none
    (go w)
  where
    other : IsOne (other_fault s None word h)
    other = one-if (bytes_eq word (45 ∷ 45 ∷ [])) [] (flag_word_fault s.rules s.args_override_self
        (long_of word) word h) one_none (one-flag_word s.rules s.args_override_self (long_of word) word h)

    go : (v : Waiting) → IsOne (other_fault s (subcommand_met [] v word) word h)
    go idle = other
    go (option id) = other
    go positional = other

one-step : (s : Shape) → s.is_leaf ≡ true → (position : ℕ) (h : Held) (x : Step) → IsOne (step_fault s position h x)
one-step s leaf position h (next w) = one_none
one-step s leaf position h (trailing n) = one_none
one-step s leaf position h (subcommand name) = one_none
one-step s leaf position h value = go (arg_by_index s.rules position)
  where
    stray : IsOne (stray_fault s)
    stray = rw leaf (omega arith)

    go : (o : Option Rule) → IsOne (option_map_or (λ a. positional_fault s.rules s.args_override_self a h) o
        (stray_fault s))
    go None = stray
    go (Some a) = one-if (is_pending a h.pending && takes_several a) [] (settle_fault s.rules s.args_override_self h)
        one_none (one-settle s.rules s.args_override_self h)

one-turn : (s : Shape) → s.is_leaf ≡ true → (w : Walk) (word : Text) → IsOne (turn_fault s [] w word)
one-turn s leaf w word =
    let met = word_met s.rules [] w.is_trailing w.waiting w.position word w.held in
    let parts : Kinds = or_else (word_fault s [] w.is_trailing w.waiting word w.held)
    (step_fault s w.position met.0 met.1) in
    one-if (is_some w.stopped) [] parts one_none (one-or_else (word_fault s [] w.is_trailing w.waiting word w.held)
    (step_fault s w.position met.0 met.1)
    (one-word s w.is_trailing w.waiting word w.held) (one-step s leaf w.position met.0 met.1))

one-walk : (s : Shape) → s.is_leaf ≡ true → (w : Walk) (words : List Text) → IsOne (walk_fault s [] w words)
unfolding walk_fault
one-walk s leaf w [] = one_none
one-walk s leaf w (word ∷ rest) = one-or_else (turn_fault s [] w word) (walk_fault s [] (walked s.rules [] w word) rest)
    (one-turn s leaf w word) (one-walk s leaf (walked s.rules [] w word) rest)

one-default : (rows : List Row) (a : Rule) → IsOne (default_fault rows a)
one-default rows a = one-if (has_row a.id rows || is_empty a.defaults) [] (or_else (request_kinds (action_of a))
    (values_fault a a.defaults)) one_none (one-or_else (request_kinds (action_of a)) (values_fault a a.defaults)
    (one-request (action_of a)) (one-values a.ignore_case (parser_of_value a.parser) a.defaults))

one-defaults : (rows : List Row) (c : List Rule) → IsOne (defaults_fault rows c)
unfolding defaults_fault
one-defaults rows [] = one_none
one-defaults rows (a ∷ rest) = one-or_else (default_fault rows a) (defaults_fault (with_default rows a) rest)
    (one-default rows a) (one-defaults (with_default rows a) rest)

one-checks : (a b c : Bool) → IsOne (check_kinds a b c)
one-checks true b c = one_kind kind.DisplayHelpOnMissingArgumentOrSubcommand
one-checks false true c = one_kind kind.MissingSubcommand
one-checks false false true = one_kind kind.MissingRequiredArgument
one-checks false false false = one_none

one-check : (s : Shape) (rows : List Row) (sub : Bool) → IsOne (check_fault s rows sub)
one-check s rows sub = one-checks
    (not sub && (s.arg_required_else_help && not (list_any (λ r. explicit_source r.source) rows)))
    (not sub && s.subcommand_required)
    (not (s.subcommand_negates_reqs && sub) && list_any (λ a. a.required && not (is_given a.id rows)) s.rules)

one-level : (s : Shape) → s.is_leaf ≡ true → (h : Held) (words : List Text) (sub : Bool) (below : Kinds) → IsOne below
    → IsOne (level_fault s [] h words sub below)
one-level s leaf h words sub below p =
    let end = (walk s.rules [] h words).held in
    let settling = settle_fault s.rules s.args_override_self end in
    let filling = defaults_fault (settled s.rules end).rows s.rules in
    let checking = check_fault s (finished s.rules end) sub in
    one-or_else (walk_fault s [] (walk_from h) words) (or_else below (or_else settling (or_else filling checking)))
    (one-walk s leaf (walk_from h) words)
    (one-or_else below (or_else settling (or_else filling checking)) p
    (one-or_else settling (or_else filling checking) (one-settle s.rules s.args_override_self end)
    (one-or_else filling checking (one-defaults (settled s.rules end).rows s.rules)
    (one-check s (finished s.rules end) sub))))

-- A command without subcommands enters none.
one-entered : (a : App) → a.subs ≡ [] → (stop : Option (Text × List Text)) → IsOne (entered_fault a stop)
one-entered a none None = one_none
one-entered a none (Some p) = rw none one_none

one-built : (a : App) → a.top.is_leaf ≡ true → a.subs ≡ [] → (h : Held) (words : List Text) →
    IsOne (built_fault a h words)
one-built a leaf none h words =
    let names : names_of a ≡ [] = rw none refl in
    let stop = (walk a.top.rules [] h words).stopped in
    rw names (one-level a.top leaf h words (is_some (entered a stop)) (entered_fault a stop) (one-entered a none stop))

-- A kind among those of a command without subcommands is therefore the only one.
pub one_fault : (a : App) → (built a).top.is_leaf ≡ true → (built a).subs ≡ [] → (words : List Text) →
    length (fault_of a words) ≤ 1
one_fault a leaf none words = one-built (built a) leaf none nothing_held (argument_words a words)
