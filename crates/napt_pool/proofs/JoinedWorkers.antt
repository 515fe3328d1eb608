-- The ends of the workers that were closed and joined.
use Rattle.std.proofs.lemmas.Grind.{common_steps}
use Rattle.std.proofs.Common.{rules, ◌≡◌, ℕ, zero, suc, ◌+◌, ◌<◌, add-one, refl, sym, ap, ◌∙◌, arith, Bool, true, false, List, map, length, [], ◌∷◌, ◌++◌, append_assoc, length-append, ◌⊎◌, inl, inr, ⊎_elim, get_or}
use Rattle.std.{specs.Prelude.{Result, Ok, Err, OnOk, IfOk, IfErr, MatchResult, Contains, replicate}, proofs.lemmas.List.{length-map, nil_from_length}}
use Rattle.std.{specs.Vec.Iter.{into_iter_items, into_iter_len}}
use Rattle.napt_pool.specs.declared.{fault.{PoolFault.PoolFault, WorkerFault.{WorkerFault, TheVariants.{Memory, GateShut, Ring}}}, machine.Machine.Ghosts}
use Rattle.napt_pool.{specs.declared.{closing.{ClosingWorker.ClosingWorker, Ended.Ended}, message.Reply.TheVariants.Failed, pool.Pool.Pool}, proofs.HistorySteps.map-snoc}
use Rattle.napt_pool.specs.{declared.thread_state.ThreadState.ThreadState, Faults.{is_shut, is_gate_shut, fault_of, IsFaultOf, IsFaultUpTo, IsLeastFault}}
use Rattle.napt_pool.specs.Histories.{after, replies, ArePrefixesOf}
use Rattle.napt_pool.specs.Workers.{IsEnd, AreEnds, closing_machine, closing_thread_state, closing_accepted, closing_taken, closing_heard}
use Rattle.napt_pool.{specs.Pools.{initial_machines, accepted_items, taken_answers, handed_out_replies, thread_states, zip_with, HasReported, HaveReceived, CloseErr}, proofs.EndHistories.length-replies}

no_rest : {A : Type 0} (t rest : List A) → length (t ++ rest) ≡ length t → t ++ rest ≡ t
no_rest [] [] e = refl
no_rest [] (x ∷ rest) e = cc
no_rest (x ∷ t) rest e = let shorter : length (t ++ rest) ≡ length t = cc in ap (λ r. x ∷ r) (no_rest t rest shorter)

first_below : {X : Type 0} (es : List (Result X WorkerFault)) (before : List X) (stop : WorkerFault)
    (rest : List (Result X WorkerFault))
    → es ≡ map Ok before ++ Err stop ∷ rest → length before < length es
first_below {X} es before stop rest e = grind (arith, common_steps, length-append, length-map)

fault_of_is : (stop : WorkerFault) (w n : ℕ) → w < n → IsFaultOf (λ v. v < n) (fault_of stop w)
fault_of_is Memory w n below = tt
fault_of_is GateShut w n below = below
fault_of_is Ring w n below = tt

shut_is : (stop : WorkerFault) (w : ℕ) → is_shut (fault_of stop w) ≡ is_gate_shut stop
shut_is Memory w = refl
shut_is GateShut w = refl
shut_is Ring w = refl

module _ {M G I A : Type 0} (g : Ghosts M I A) (open_gate : Bool) where
  pub AreEnds-push : (ws : List (ClosingWorker M G I A)) (es : List (Result (Ended M I A) WorkerFault))
      (w : ClosingWorker M G I A)
      (e : Result (Ended M I A) WorkerFault)
      → AreEnds g open_gate ws es → IsEnd g open_gate w e → AreEnds g open_gate (ws ++ w ∷ []) (es ++ e ∷ [])
  AreEnds-push [] [] w e h k = (k, tt)
  AreEnds-push [] (f ∷ es) w e h k = absurd h
  AreEnds-push (v ∷ ws) [] w e h k = absurd h
  AreEnds-push (v ∷ ws) (f ∷ es) w e h k = (h.0, AreEnds-push ws es w e h.1 k)

  -- The machines are the folds of the steps over the accepted items.
  pub machines_are : (ws : List (ClosingWorker M G I A)) (es : List (Ended M I A)) → AreEnds g open_gate ws (map Ok es)
      → map (λ e. e.machine) es ≡ zip_with (after g) (map closing_machine ws) (map closing_accepted ws)
  machines_are [] [] h = refl
  machines_are [] (e ∷ es) h = absurd h
  machines_are (w ∷ ws) [] h = absurd h
  machines_are (w ∷ ws) (e ∷ es) h = grind (arith, machines_are ws es h.1)

  -- The answers taken, followed by those returned, are the replies to the accepted items.
  pub answers_are : (ws : List (ClosingWorker M G I A)) (es : List (Ended M I A)) → AreEnds g open_gate ws (map Ok es)
      → zip_with (λ t rest. t ++ rest) (map closing_taken ws) (map (λ e. e.answers.items) es)
      ≡ zip_with (replies g) (map closing_machine ws) (map closing_accepted ws)
  answers_are [] [] h = refl
  answers_are [] (e ∷ es) h = absurd h
  answers_are (w ∷ ws) [] h = absurd h
  answers_are (w ∷ ws) (e ∷ es) h = grind (arith, answers_are ws es h.1)

  -- The answers taken are a prefix of these replies, also if a worker stopped.
  pub taken_are : (ws : List (ClosingWorker M G I A)) (es : List (Result (Ended M I A) WorkerFault)) →
      AreEnds g open_gate ws es
      → ArePrefixesOf (map closing_taken ws) (zip_with (replies g) (map closing_machine ws) (map closing_accepted ws))
  taken_are [] [] h = tt
  taken_are [] (e ∷ es) h = absurd h
  taken_are (w ∷ ws) [] h = absurd h
  taken_are (w ∷ ws) (e ∷ es) h = (h.0.taken_are, taken_are ws es h.1)

  pub taken_at : (ws : List (ClosingWorker M G I A)) (es : List (Result (Ended M I A) WorkerFault)) (ms : List M)
      (xs : List (List I))
      (ts : List (List A)) → AreEnds g open_gate ws es → map closing_machine ws ≡ ms → map closing_accepted ws ≡ xs
      → map closing_taken ws ≡ ts → ArePrefixesOf ts (zip_with (replies g) ms xs)
  taken_at ws es ms xs ts ends began accepted taken = rw (← began, ← accepted, ← taken) (taken_are ws es ends)

  -- If all answers were taken, they are the replies.
  pub settled : (ts : List (List A)) (ws : List (ClosingWorker M G I A)) (es : List (Ended M I A)) →
      AreEnds g open_gate ws (map Ok es)
      → map closing_taken ws ≡ ts → map length ts ≡ map length (map closing_accepted ws) →
      ts ≡ zip_with (replies g) (map closing_machine ws) (map closing_accepted ws)
  settled ts [] [] h is same = sym is
  settled ts [] (e ∷ es) h is same = absurd h
  settled ts (w ∷ ws) [] h is same = absurd h
  settled [] (w ∷ ws) (e ∷ es) h is same = cc
  settled (t ∷ ts) (w ∷ ws) (e ∷ es) h is same =
      let head : closing_taken w ≡ t = cc in
      let tail : map closing_taken ws ≡ ts = cc in
      let count : length t ≡ length (closing_accepted w) = cc in
      let counts : map length ts ≡ map length (map closing_accepted ws) = cc in
      let ih = settled ts ws es h.1 tail counts in
      let whole = h.0.answers_are in
      let here : t ≡ replies g (closing_machine w) (closing_accepted w) =
      sym head ∙ sym (no_rest (closing_taken w) e.answers.items (ap length whole ∙ length-replies g (closing_machine w)
      (closing_accepted w) ∙ sym count ∙ sym (ap length head))) ∙ whole in
      cc

  -- If its gate is always open, no worker stops because it was shut.
  gate_at : (ws : List (ClosingWorker M G I A)) (before : List (Ended M I A)) (stop : WorkerFault)
      (rest : List (Result (Ended M I A) WorkerFault))
      → AreEnds g open_gate ws (map Ok before ++ Err stop ∷ rest) → open_gate ≡ true → is_gate_shut stop ≡ false
  gate_at [] [] stop rest h is_open = absurd h
  gate_at [] (b ∷ bs) stop rest h is_open = absurd h
  gate_at (w ∷ ws) [] stop rest h is_open = h.0.gate is_open
  gate_at (w ∷ ws) (b ∷ bs) stop rest h is_open = gate_at ws bs stop rest h.1 is_open

  least_not_shut : (ws : List (ClosingWorker M G I A)) (es : List (Result (Ended M I A) WorkerFault))
      (fault : PoolFault)
      → AreEnds g open_gate ws es → IsLeastFault es fault → open_gate ≡ true → is_shut fault ≡ false
  least_not_shut ws es fault h least is_open = grind (arith, shut_is, gate_at)

  -- The same for the result of `close`.
  module _ {T : Type 0} (items : T → List (Ended M I A)) (r : Result T PoolFault) (ws : List (ClosingWorker M G I A))
      (es : List (Result (Ended M I A) WorkerFault))
      (ms : List M) (xs : List (List I)) (ends : AreEnds g open_gate ws es) (began : map closing_machine ws ≡ ms)
      (accepted : map closing_accepted ws ≡ xs) where
    pub machines_if_ok : IfOk r (λ v. map Ok (items v) ≡ es) →
        IfOk r (λ v. map (λ e. e.machine) (items v) ≡ zip_with (after g) ms xs)
    machines_if_ok h = grind (arith, common_steps, machines_are)

    pub answers_if_ok : (ts : List (List A)) → map closing_taken ws ≡ ts → IfOk r (λ v. map Ok (items v) ≡ es)
        → IfOk r (λ v. zip_with (λ t rest. t ++ rest) ts (map (λ e. e.answers.items) (items v))
        ≡ zip_with (replies g) ms xs)
    answers_if_ok ts taken h = grind (arith, common_steps, answers_are)

  pub settled_at : {T : Type 0} (items : T → List (Ended M I A)) (ws : List (ClosingWorker M G I A))
      (es : List (Result (Ended M I A) WorkerFault)) (ms : List M) (xs : List (List I))
      → AreEnds g open_gate ws es → map closing_machine ws ≡ ms → map closing_accepted ws ≡ xs
      → (ts : List (List A)) (r : Result T PoolFault) → map closing_taken ws ≡ ts → map length ts ≡ map length xs →
      IfOk r (λ v. map Ok (items v) ≡ es) → OnOk r (ts ≡ zip_with (replies g) ms xs)
  settled_at items ws es ms xs h k j ts r p q s = grind (arith, settled)

  AreEnds-length : (ws : List (ClosingWorker M G I A)) (es : List (Result (Ended M I A) WorkerFault)) →
      AreEnds g open_gate ws es →
      length es ≡ length ws
  AreEnds-length [] [] h = refl
  AreEnds-length [] (e ∷ es) h = absurd h
  AreEnds-length (w ∷ ws) [] h = absurd h
  AreEnds-length (w ∷ ws) (e ∷ es) h = ap suc (AreEnds-length ws es h.1)

  pub fault_if_err : {T : Type 0} (ws : List (ClosingWorker M G I A)) (es : List (Result (Ended M I A) WorkerFault))
      (ms : List M)
      (r : Result T PoolFault) → AreEnds g open_gate ws es → map closing_machine ws ≡ ms
      → IfErr r (λ fault. IsLeastFault es fault) → IfErr r (λ fault. IsFaultOf (λ v. v < length ms) fault)
  fault_if_err ws es ms (Ok v) h began least = tt
  fault_if_err ws es ms (Err fault) h began least =
      let count : length es ≡ length ms = AreEnds-length ws es h ∙ sym (length-map ws closing_machine)
      ∙ ap length began in
      let first = first_below es least.before least.stop least.rest least.ends_are in
      let below : length least.before < length ms = omega arith in
      rw least.fault_is (fault_of_is least.stop (length least.before) (length ms) below)

  pub least_if_err : {T : Type 0} (p : Pool M G I A) (ws : List (ClosingWorker M G I A))
      (es : List (Result (Ended M I A) WorkerFault))
      → map closing_machine ws ≡ initial_machines p → map closing_accepted ws ≡ accepted_items p →
      map closing_taken ws ≡ taken_answers p
      → map closing_heard ws ≡ handed_out_replies p → map closing_thread_state ws ≡ thread_states p →
      AreEnds g open_gate ws es
      → (r : Result T PoolFault) → IfErr r (λ fault. IsLeastFault es fault) →
      IfErr r (λ fault. CloseErr g open_gate p fault)
  least_if_err p ws es h k j q s t r u = grind (arith, machines_are, taken_are)

  -- A worker whose report was handed out: not all workers ended well, and the first one that stopped is this worker or
  -- one before it.
  all_well_untold : (ws : List (ClosingWorker M G I A)) (es : List (Ended M I A)) → AreEnds g open_gate ws (map Ok es)
      → (w : ℕ) (stop : WorkerFault) → Contains (get_or (map closing_heard ws) w []) (Failed stop) → ⊥
  all_well_untold [] [] h w stop c = let below = c.1 in absurd (omega arith)
  all_well_untold [] (e ∷ es) h w stop c = absurd h
  all_well_untold (v ∷ ws) [] h w stop c = absurd h
  all_well_untold (v ∷ ws) (e ∷ es) h zero stop c = let here = h.0.told stop c in cc
  all_well_untold (v ∷ ws) (e ∷ es) h (suc w) stop c = all_well_untold ws es h.1 w stop c

  least_up_to : (ws : List (ClosingWorker M G I A)) (before : List (Ended M I A)) (s : WorkerFault)
      (rest : List (Result (Ended M I A) WorkerFault))
      → AreEnds g open_gate ws (map Ok before ++ Err s ∷ rest) → (w : ℕ) (stop : WorkerFault) →
      Contains (get_or (map closing_heard ws) w []) (Failed stop)
      → (length before < w) ⊎ ((length before ≡ w) × (s ≡ stop))
  least_up_to [] [] s rest h w stop c = absurd h
  least_up_to [] (b ∷ bs) s rest h w stop c = absurd h
  least_up_to (v ∷ ws) [] s rest h zero stop c = let here = h.0.told stop c in inr (refl, cc)
  least_up_to (v ∷ ws) [] s rest h (suc w) stop c = inl (omega arith)
  least_up_to (v ∷ ws) (b ∷ bs) s rest h zero stop c = let here = h.0.told stop c in cc
  least_up_to (v ∷ ws) (b ∷ bs) s rest h (suc w) stop c = grind (arith, least_up_to ws bs s rest h.1 w stop c)

  pub told_is : {T : Type 0} (p : Pool M G I A) (items : T → List (Ended M I A)) (ws : List (ClosingWorker M G I A))
      (es : List (Result (Ended M I A) WorkerFault)) → AreEnds g open_gate ws es →
      map closing_heard ws ≡ handed_out_replies p
      → (r : Result T PoolFault) → IfOk r (λ v. map Ok (items v) ≡ es) → IfErr r (λ fault. IsLeastFault es fault)
      → (w : ℕ) (fault : PoolFault) → HasReported p w fault → MatchResult r (λ _. ⊥) (IsFaultUpTo w fault)
  told_is p items ws es h listened (Ok v) ended least w fault told =
      let here = rw (← ended) at h in
      let c : Contains (get_or (map closing_heard ws) w []) (Failed told.0) = rw listened told.1 in
      all_well_untold ws (items v) here w told.0 c
  told_is p items ws es h listened (Err f) ended least w fault told =
      let here = rw least.ends_are at h in
      let c : Contains (get_or (map closing_heard ws) w []) (Failed told.0) = rw listened told.1 in
      ⊎_elim
      (λ less. let first : 0 < w = omega arith in
      inr (first, rw least.fault_is (fault_of_is least.stop (length least.before) w less)))
      (λ same. inl (least.fault_is ∙ ap (fault_of least.stop) same.0 ∙ ap (λ s. fault_of s w) same.1 ∙ sym told.2))
      (least_up_to ws least.before least.stop least.rest here w told.0 c)

  received_are : (ws : List (ClosingWorker M G I A)) (es : List (Ended M I A)) → AreEnds g open_gate ws (map Ok es)
      → HaveReceived g open_gate (map closing_thread_state ws) (map closing_accepted ws)
  received_are [] [] h = tt
  received_are [] (e ∷ es) h = absurd h
  received_are (w ∷ ws) [] h = absurd h
  received_are (w ∷ ws) (e ∷ es) h = (h.0.has_received, received_are ws es h.1)

  pub received_on_ok : {T : Type 0} (items : T → List (Ended M I A)) (ws : List (ClosingWorker M G I A))
      (es : List (Result (Ended M I A) WorkerFault)) (states : List (ThreadState M G I A)) (xs : List (List I))
      → AreEnds g open_gate ws es → map closing_thread_state ws ≡ states → map closing_accepted ws ≡ xs
      → (r : Result T PoolFault) → IfOk r (λ v. map Ok (items v) ≡ es) → OnOk r (HaveReceived g open_gate states xs)
  received_on_ok items ws es states xs h given accepted (Ok v) ended =
      let here = rw (← ended) at h in rw (← given, ← accepted) (received_are ws (items v) here)
  received_on_ok items ws es states xs h given accepted (Err e) ended = tt

  pub gate_if_err : {T : Type 0} (ws : List (ClosingWorker M G I A)) (es : List (Result (Ended M I A) WorkerFault))
      (r : Result T PoolFault)
      → AreEnds g open_gate ws es → open_gate ≡ true → IfErr r (λ fault. IsLeastFault es fault) →
      IfErr r (λ fault. is_shut fault ≡ false)
  gate_if_err ws es (Ok v) h is_open least = tt
  gate_if_err ws es (Err fault) h is_open least = least_not_shut ws es fault h least is_open

pub split-step : {X : Type 0} (done rest more all : List X) (x : X) → done ++ rest ≡ all → rest ≡ x ∷ more →
    (done ++ x ∷ []) ++ more ≡ all
split-step done rest more all x was step = append_assoc done (x ∷ []) more ∙ ap (λ r. done ++ r) (sym step) ∙ was

replicate-suc : {Y : Type 0} (n : ℕ) (d : Y) → replicate (suc n) d ≡ replicate n d ++ d ∷ []
replicate-suc zero d = refl
replicate-suc (suc n) d = ap (λ r. d ∷ r) (replicate-suc n d)

replicate-next : {Y : Type 0} (n : ℕ) (d : Y) → replicate (n + 1) d ≡ replicate n d ++ d ∷ []
replicate-next n d = rw add-one (replicate-suc n d)

-- One more element of a list for which every f is d.
pub all-push : {X Y : Type 0} (f : X → Y) (xs xs' : List X) (n n' : ℕ) (x : X) (d : Y)
    → xs' ≡ xs ++ x ∷ [] → n' ≡ n + 1 → f x ≡ d → map f xs ≡ replicate n d → map f xs' ≡ replicate n' d
all-push f xs xs' n n' x d e k fx was = grind (arith, common_steps, map-snoc, replicate-next)

pub map-split-step : {X Y : Type 0} (f : X → Y) (xs xs' : List X) (rest more all : List Y) (x : X) (y : Y)
    → xs' ≡ xs ++ x ∷ [] → f x ≡ y → rest ≡ y ∷ more → map f xs ++ rest ≡ all → map f xs' ++ more ≡ all
map-split-step f xs xs' rest more all x y e fx step was = grind (arith, common_steps, map-snoc, split-step)

-- An iterator without elements to count has no elements.
pub drained : {X Z : Type 0} (it : _) → into_iter_len {X = X} {Z = Z} it ≡ 0 → into_iter_items it ≡ []
drained it e = search (rules, nil_from_length)
