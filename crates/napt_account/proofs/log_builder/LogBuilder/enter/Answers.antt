-- enter: the log is the fold of one more input, which adds the part, and the invariant is preserved.
use Rattle.std.proofs.Common.{◌≡◌, ℕ, ◌+◌, ◌*◌, ◌^◌, ◌<◌, false, List, [], ◌∷◌, ◌++◌, length, drop, filter, Option, Ok, refl, sym, ◌∙◌, ap, subst, arith, append-nil, append_assoc}
use Rattle.std.specs.Option.{IfSome}
use Rattle.napt_sequential.specs.declared.passage.{Passage.{Passage, TheVariants.{Nothing, Made, Out, In, Dropped}}, Trace.Trace}
use Rattle.napt_account.specs.{declared.{legs.InputTally.InputTally, log.{Shortage.Shortage}}, BindingTallies.use_of, Effects.{AreNextEffects, log_after}, Log.{LogModel, after_input, after_leg, shortages_by, shortages_in}}
use Rattle.napt_account.specs.{LogBuilders.{IsBuilt, LogBuilderModel, built, built_from, taken_in}, OpenEntries.OpenEntriesShow, LogParts.{LogDelta, is_after, part_between}}
use Rattle.napt_account.proofs.{ContinuedLogs.{few_leg, fold_joined}, Lists.map_joined, WholeLogs.drop_joined}
use Rattle.napt_account.proofs.log_builder.LogBuilder.enter.Goals as goal

built_more : (begun : List (ℕ × LogModel)) (past : List (ℕ × Trace)) (n : ℕ) (effects : Trace) →
    built begun (past ++ (n, effects) ∷ []) ≡ after_input (built begun past) effects
built_more begun past n effects =
    let start : LogModel = built_from (record { made = 0; entries = []; shortages = [] }) begun in
    ap (log_after start) (map_joined (λ (taken : ℕ × Trace). taken.1) past ((n, effects) ∷ []))
    ∙ fold_joined after_input (taken_in past) (effects ∷ []) start

shortages_leg : (now : ℕ) (p : Passage) (log : LogModel) →
    (after_leg now p log).shortages ≡ log.shortages ++ shortages_by now p
shortages_leg now Nothing log = sym (append-nil log.shortages)
shortages_leg now (Made timed) log = sym (append-nil log.shortages)
shortages_leg now (Out timed) log = sym (append-nil log.shortages)
shortages_leg now (In timed) log = sym (append-nil log.shortages)
shortages_leg now (Dropped loss) log = refl

refused_is : (log : LogModel) (effects : Trace) →
    shortages_in effects ≡ drop (length log.shortages) (after_input log effects).shortages
refused_is log effects =
    sym (drop_joined log.shortages (shortages_in effects))
    ∙ ap (drop (length log.shortages)) (sym (shortages_leg effects.now effects.second _
    ∙ (ap (λ (l : List Shortage). l ++ shortages_by effects.now effects.second)
    (shortages_leg effects.now effects.first log)
    ∙ append_assoc log.shortages (shortages_by effects.now effects.first)
    (shortages_by effects.now effects.second))))

pub enter-requires : goal.enter-requires
enter-requires c =
    let it = c.self.inside in
    let log : LogModel = built it.begun.items it.past.items in
    let is = c.self.invariant c.if-self.false in
    let room = c.if-self-ge-MOST_LOGGED_INPUTS.false in
    let late = c.if-effects-self.false in
    let few = is.few in (
      2 ^ 61 + 2 * it.taken,
      log,
      c.in_ok-ended.ensures.shows it.clock (2 ^ 61 + 2 * it.taken) log is.entries (omega (arith, late)),
      omega (arith, room),
      omega (arith, room, few),
    )

pub returns-in_default-clause-err : goal.returns-in_default-clause-err
returns-in_default-clause-err c = λ going.
    let it = c.self.inside in
    let log : LogModel = built it.begun.items it.past.items in
    let is = c.self.invariant c.if-self.false in
    let room = c.if-self-ge-MOST_LOGGED_INPUTS.false in
    let late = c.if-effects-self.false in
    subst (λ (v : LogBuilderModel). (v.taken + 1 < 2 ^ 62) × (¬ AreNextEffects v.clock v.log c.args.effects))
    c.self.view_is (
      omega (arith, room),
      λ next. c.enter.ensures.none (2 ^ 61 + 2 * it.taken) log
          (c.in_ok-ended.ensures.shows it.clock (2 ^ 61 + 2 * it.taken) log is.entries (omega (arith, late)))
          (c.in_ok-legs.was ∙ ap Ok c.in_default.is) (next.first, next.second),
    )

pub invariant_of-self-2 : goal.invariant_of-self-2
invariant_of-self-2 c = λ going.
    let it = c.self.inside in
    let effects : Trace = c.args.effects in
    let log : LogModel = built it.begun.items it.past.items in
    let is = c.self.invariant c.if-self.false in
    let late = c.if-effects-self.false in
    let most : ℕ = 2 ^ 61 + 2 * it.taken in
    let shows = c.in_ok-ended.ensures.shows it.clock most log is.entries (omega (arith, late)) in
    let next : OpenEntriesShow effects.now (most + 2) (after_input log effects) c.enter.new.self =
    subst (λ (o : Option InputTally). IfSome o (λ l. OpenEntriesShow effects.now (most + 2) (after_input log effects)
    c.enter.new.self))
    c.in-Some.is (c.in_ok-legs.ensures.shows most log shows) in
    let twice : most + 2 ≡ 2 ^ 61 + 2 * (it.taken + 1) = omega arith in
    let one = few_leg effects.now effects.first log in
    let two = few_leg effects.now effects.second (after_leg effects.now effects.first log) in
    let few = is.few in
    subst (λ (l : LogModel). IsBuilt (record {
      rules = it.config.now;
      clock = effects.now;
      log = l;
      taken = it.taken + 1;
      is_stopped = false;
    }) c.enter.new.self)
    (sym (ap (built it.begun.items) c.and-self-inside.ensures ∙ built_more it.begun.items it.past.items 0 effects))
    (record {
      entries = subst (λ (m : ℕ). OpenEntriesShow effects.now m (after_input log effects) c.enter.new.self) twice next;
      few = omega (arith, one, two, few);
    })

pub returns-clause-tells : goal.returns-clause-tells
returns-clause-tells c = λ going.
    let it = c.self.inside in
    let effects : Trace = c.args.effects in
    let log : LogModel = built it.begun.items it.past.items in
    let is = c.self.invariant c.if-self.false in
    let late = c.if-effects-self.false in
    let most : ℕ = 2 ^ 61 + 2 * it.taken in
    let shows = c.in_ok-ended.ensures.shows it.clock most log is.entries (omega (arith, late)) in
    let ended = c.in_ok-ended.ensures.ended it.clock most log is.entries in
    let made : c.in-Some.legs.made.items ≡ filter (is_after log.made) (after_input log effects).entries =
    subst (λ (o : Option InputTally). IfSome o (λ l. l.made.items ≡
    filter (is_after log.made) (after_input log effects).entries))
    c.in-Some.is (c.in_ok-legs.ensures.made most log shows) in
    let refused : c.in-Some.legs.refused.items ≡ shortages_in effects =
    subst (λ (o : Option InputTally). IfSome o (λ l. l.refused.items ≡ shortages_in effects)) c.in-Some.is
    c.in_ok-legs.ensures.refused in
    let lost = refused ∙ refused_is log effects in
    let told : LogDelta = record {
      ended = c.in_ok-ended.ended.items;
      made = c.in-Some.legs.made.items;
      refused = c.in-Some.legs.refused.items;
    } in
    subst (λ (v : LogBuilderModel). told ≡ part_between v.clock effects.now v.log (after_input v.log effects))
    c.self.view_is
    (λ i. record { ended = ended i; made = made i; refused = lost i })

pub returns-clause-uses : goal.returns-clause-uses
returns-clause-uses c = λ going.
    let it = c.self.inside in
    let effects : Trace = c.args.effects in
    let log : LogModel = built it.begun.items it.past.items in
    let is = c.self.invariant c.if-self.false in
    let late = c.if-effects-self.false in
    let most : ℕ = 2 ^ 61 + 2 * it.taken in
    let shows = c.in_ok-ended.ensures.shows it.clock most log is.entries (omega (arith, late)) in
    subst (λ (v : LogBuilderModel). c.in-Some.legs.used ≡ use_of v.log effects) c.self.view_is
    (subst (λ (o : Option InputTally). IfSome o (λ l. l.used ≡ use_of log effects)) c.in-Some.is
    (c.in_ok-legs.ensures.uses most log shows))
