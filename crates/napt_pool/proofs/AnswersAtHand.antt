-- The stored answers, which were received from an answer ring and have not been returned yet.
use Rattle.std.proofs.lemmas.Grind.{common_steps}
use Rattle.std.proofs.Common.{◌≡◌, sym, ap, ◌∙◌, arith, List, map, length, [], ◌∷◌, ◌++◌, append-nil, append_assoc, length-append}
use Rattle.std.{proofs.lemmas.List.{length-map, take_at}, specs.Prelude.{Option, None, Some, MatchOption, option_to_list}}
use Rattle.napt_pool.specs.{declared.message.Reply.{Reply, TheVariants.Done}, Histories.{all_but_last, answers_of, each_reply}}
use Rattle.napt_pool.proofs.{HistoryGrowth.{answers_of-append, each_reply-next}, EndHistories.answers_of-map}

-- All but the last elements are the list before them.
pub front_is : {X : Type 0} (e hs ys : List X) → hs ++ ys ≡ e → all_but_last (length ys) e ≡ hs
front_is {X} e hs ys is = grind (arith, common_steps, length-append, take_at)

module _ {I A : Type 0} (e e' more out : List (Reply I A)) (ys ys' : List A)
    (hand : all_but_last (length ys) e ++ map Done ys ≡ e) (grown : e' ≡ e ++ more)
    (moved : map Done ys ++ more ≡ out ++ map Done ys') where
  whole : (all_but_last (length ys) e ++ out) ++ map Done ys' ≡ e'
  whole = grind (arith, common_steps, append_assoc)

  -- The answers returned by now are those returned before, and `out`.
  handed : all_but_last (length ys') e' ≡ all_but_last (length ys) e ++ out
  handed = grind (arith, common_steps, length-map, front_is, whole)

  -- The answers that are left are still at hand.
  stays : all_but_last (length ys') e' ++ map Done ys' ≡ e'
  stays = ap (λ r. r ++ map Done ys') handed ∙ whole

-- The next one of the answers at hand is handed out, where `b` was handed out before.
module _ {I A : Type 0} (e b : List (Reply I A)) (ys ys' : List A)
    (hand : all_but_last (length ys) e ++ map Done ys ≡ e)
    (base : all_but_last (length ys) e ≡ b) where
  abbrev out_of : Option A → List (Reply I A)
  out_of got = map Done (option_to_list got)

  next_moves : (got : Option A) → ys ≡ option_to_list got ++ ys' → map Done ys ++ [] ≡ out_of got ++ map Done ys'
  next_moves None is = append-nil (map Done ys) ∙ ap (map Done) is
  next_moves (Some x) is = append-nil (map Done ys) ∙ ap (map Done) is

  pub next_hand : (got : Option A) → ys ≡ option_to_list got ++ ys' → all_but_last (length ys') e ++ map Done ys' ≡ e
  next_hand got is = stays e e [] (out_of got) ys ys' hand (sym (append-nil e)) (next_moves got is)

  grows : (got : Option A) → ys ≡ option_to_list got ++ ys' → all_but_last (length ys') e ≡ b ++ out_of got
  grows got is = grind (arith, common_steps, handed, append-nil, next_moves)

  pub next_heard : (got : Option A) → ys ≡ option_to_list got ++ ys' → MatchOption got (all_but_last (length ys') e ≡ b)
      (λ a. all_but_last (length ys') e ≡ b ++ Done a ∷ [])
  next_heard None is = grows None is ∙ append-nil b
  next_heard (Some x) is = grows (Some x) is

  pub next_taken : (got : Option A) → ys ≡ option_to_list got ++ ys' →
      MatchOption got (answers_of (all_but_last (length ys') e) ≡ answers_of b)
      (λ a. answers_of (all_but_last (length ys') e) ≡ answers_of b ++ a ∷ [])
  next_taken None is = ap answers_of (grows None is ∙ append-nil b)
  next_taken (Some x) is = ap answers_of (grows (Some x) is) ∙ answers_of-append b (Done x ∷ [])

-- The same for the answers alone.
pub taken_grown : {I A : Type 0} (h h' : List (Reply I A)) (xs : List A) → h' ≡ h ++ map Done xs →
    answers_of h' ≡ answers_of h ++ xs
taken_grown {I} h h' xs is = grind (arith, common_steps, answers_of-append, answers_of-map)

-- All answers of a reply come at hand, if nothing was at hand before.
module _ {I A : Type 0} (e b : List (Reply I A)) (xs ys zs : List A) (none : ys ≡ []) (put : zs ≡ xs)
    (hand : all_but_last (length ys) e ++ map Done ys ≡ e) (heard : all_but_last (length ys) e ≡ b ++ map Done xs) where
  all_of_it : b ++ map Done zs ≡ e
  all_of_it = grind (arith, common_steps, append-nil)

  pub back_heard : all_but_last (length zs) e ≡ b
  back_heard = grind (arith, common_steps, length-map, front_is, all_of_it)

  pub back_hand : all_but_last (length zs) e ++ map Done zs ≡ e
  back_hand = ap (λ r. r ++ map Done zs) back_heard ∙ all_of_it

-- The next reply of the ring, if nothing was at hand before.
module _ {I A : Type 0} (t t' : List (Reply I A)) (ys ys' : List A) (r : Reply I A)
    (hand : all_but_last (length ys) (each_reply t) ++ map Done ys ≡ each_reply t) (none : ys ≡ [])
    (popped : t' ≡ t ++ r ∷ []) where
  -- It is handed out as it was received.
  came_moves : ys' ≡ [] → map Done ys ++ each_reply (r ∷ []) ≡ each_reply (r ∷ []) ++ map Done ys'
  came_moves left = grind (arith, common_steps, append-nil)

  pub came_heard : ys' ≡ [] → all_but_last (length ys') (each_reply t') ≡ all_but_last (length ys) (each_reply t)
      ++ each_reply (r ∷ [])
  came_heard left = handed (each_reply t) (each_reply t') (each_reply (r ∷ [])) (each_reply (r ∷ [])) ys ys' hand
      (each_reply-next t t' (r ∷ []) popped) (came_moves left)
