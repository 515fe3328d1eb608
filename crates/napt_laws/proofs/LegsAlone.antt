-- The legs at one address depend on, and change, only the bindings of that address.
use Rattle.std.proofs.Common.{◌≡◌, ℕ, List, map, refl, ap}
use Rattle.napt_rules.specs.Prelude.{Binding, bindings_at, act, Arrival, LegAct, run, last_clock, acts_at, legs_at, answer_of, legs_replies, list_after_legs, LegsAnswerAlone, LegsLeaveTheirOwn, Rules}
use Rattle.napt_rules.specs.declared.End.{End}
use Rattle.napt_laws.{specs.LocalAgreement.LocalListAgrees, proofs.{LegsLocal.{agrees_later, alike, kept}, RunInduction.run_alone}}

record SeenAlone (rules : Rules) (address last : ℕ) (own : List Binding) (acts : List LegAct)
    (new : List Binding) : Type 0 where
  pub answers : legs_replies rules address (map (λ a. a.leg) acts) own ≡ map answer_of acts
  pub leaves : LocalListAgrees rules address last (list_after_legs rules address (map (λ a. a.leg) acts) own) new

seen_alone : (rules : Rules) (inputs : List Arrival) (list : List Binding) (address : ℕ) →
    SeenAlone rules address (last_clock 0 inputs) (bindings_at address list)
    (acts_at address (run rules inputs list).acts)
    (run rules inputs list).list
seen_alone rules inputs list address =
    let is = run_alone rules address (λ own leg. (act rules address leg own).list)
    (λ own leg. record { number = leg.number; end = (act rules address leg own).end }) (LocalListAgrees rules address)
    (λ n m le own list agrees. agrees_later rules address n m le own list agrees)
    (λ clock own list agrees leg le. let same = alike rules address clock own list agrees leg le in
    (ap (λ (x : End). record { number = leg.number; end = x }) same.end, same.list))
    (λ clock own list agrees at differ leg le. kept rules address clock own list agrees at differ leg le)
    (record { clock = 0; list = list }) inputs (bindings_at address list) (record { same = refl; taken = refl }) in
    record { answers = is.answers; leaves = is.leaves }

pub legs_answer_alone : LegsAnswerAlone
legs_answer_alone rules inputs list address = (seen_alone rules inputs list address).answers

pub legs_leave_their_own : LegsLeaveTheirOwn
legs_leave_their_own rules inputs list address now le =
    (agrees_later rules address (last_clock 0 inputs) now le
    (list_after_legs rules address (legs_at address (run rules inputs list).acts) (bindings_at address list))
    (run rules inputs list).list (seen_alone rules inputs list address).leaves).same
