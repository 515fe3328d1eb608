-- The replies that a worker sends for a batch.
use Rattle.std.{proofs.Common.{arith, ◌≡◌, sym, ap, ◌∙◌, List, map, [], ◌∷◌, ◌++◌, append-nil, inl, inr}, specs.Prelude.{Result, Ok, Err, OnOk, IfErr}}
use Rattle.napt_pool.specs.declared.{fault.WorkerFault.{WorkerFault, TheVariants.Ring}, machine.Machine.Ghosts, message.Reply.{Reply, TheVariants.{Done, Failed}}}
use Rattle.napt_pool.{specs.Histories.{replies, each_reply, StopIsReported, HasAnsweredFirst, HasStoppedAmong}, proofs.HistoryGrowth.{each_reply-next, each_reply-many}}
use Rattle.napt_pool.specs.declared.message.Reply.TheVariants as rep

module _ {I A : Type 0} where
  -- A report is one in the replies of single answers, too.
  pub told_each : (stop : WorkerFault) (s s' : List (Reply I A)) → StopIsReported stop s s' →
      StopIsReported stop (each_reply s) (each_reply s')
  told_each stop s s' (inl said) = inl (each_reply-next s s' (Failed stop ∷ []) said)
  told_each stop s s' (inr silent) = inr (silent.0, ap each_reply silent.1)

  pub told_each_if_err : {U : Type 0} (P : WorkerFault → Type 0) (s s' : List (Reply I A)) (r : Result U WorkerFault)
      → IfErr r (λ stop. StopIsReported stop s s' × P stop) →
      IfErr r (λ stop. StopIsReported stop (each_reply s) (each_reply s') × P stop)
  told_each_if_err P s s' (Ok u) told = tt
  told_each_if_err P s s' (Err stop) told = (told_each stop s s' told.0, told.1)

  -- All answers were sent in one reply.
  pub all_sent : {U : Type 0} (s s' : List (Reply I A)) (b : _) (xs : List A) (r : Result U WorkerFault)
      → OnOk r (s' ≡ s ++ rep.Many b ∷ []) → b.answers.items ≡ xs → OnOk r (each_reply s' ≡ each_reply s ++ map Done xs)
  all_sent s s' b xs (Ok u) pushed are = each_reply-many s s' b pushed ∙ ap (λ v. each_reply s ++ map Done v) are
  all_sent s s' b xs (Err stop) pushed are = tt

module _ {M I A : Type 0} (g : Ghosts M I A) (m : M) (xs : List I) (n : M) where
  -- The ring refused the answers.
  pub none_sent : {U : Type 0} (s s' : List (Reply I A)) (r : Result U WorkerFault)
      → IfErr r (λ stop. (stop ≡ Ring) × (s' ≡ s)) →
      IfErr r (λ stop. HasStoppedAmong g m xs stop (each_reply s) (each_reply s') n)
  none_sent s s' r h = grind (arith, append-nil)

  -- The worker stopped at the first item.
  pub stopped_at_once : (s s' : List (Reply I A)) (given : List A) (stop : WorkerFault) → given ≡ []
      → HasAnsweredFirst g m xs given n → StopIsReported stop s s' →
      HasStoppedAmong g m xs stop (each_reply s) (each_reply s') n
  stopped_at_once s s' given stop none first told = grind (arith, append-nil, told_each)

  -- The worker stopped after these answers.
  pub stopped_after : (s mid s' : List (Reply I A)) (b : _) (stop : WorkerFault) → mid ≡ s ++ rep.Many b ∷ []
      → HasAnsweredFirst g m xs b.answers.items n → StopIsReported stop mid s' →
      HasStoppedAmong g m xs stop (each_reply s) (each_reply s') n
  stopped_after s mid s' b stop pushed first told =
      let same : each_reply s ++ map Done (replies g m first.seen) ≡ each_reply mid =
      ap (λ v. each_reply s ++ map Done v) (sym first.answers_are) ∙ sym (each_reply-many s mid b pushed) in
      record {
        seen = first.seen;
        rest = first.rest;
        items_are = first.items_are;
        sent_is = rw same (told_each stop mid s' told);
        machine_is = inr first.machine_is;
      }
