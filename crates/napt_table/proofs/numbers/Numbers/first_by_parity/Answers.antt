-- `first_by_parity`: the number is the first free one of the place's parity, or else of the other.
use Rattle.std.{proofs.Common.{◌∙◌, ℕ, ◌+◌, ◌%◌, not, sym, ap}, specs.Prelude.find}
use Rattle.napt_table.{specs.{declared.candidate_class.CandidateClass.CandidateClass, Classes.{from_place, class_in_block}, Places.is_used}, proofs.InBlock.{found_alike, found_unlike}}
use Rattle.napt_table.proofs.numbers.Numbers.first_by_parity.Goals as goal

pub returns-in-Some : goal.returns-in-Some
returns-in-Some c =
    let free : ℕ → _ = λ n. not (is_used c.args.self.now n) in
    found_alike c.args.block c.requires.block free c.args.place c.requires.within c.in-Some.number
    (sym (ap (λ (n : ℕ). find free (from_place (class_in_block c.args.block (c.args.place % 2)) n)) c.from.ensures)
    ∙ (sym (ap (λ (k : CandidateClass). find free (from_place k c.from.result)) c.class_in_block.ensures)
    ∙ sym c.in-Some.ensures))

pub returns-in-None : goal.returns-in-None
returns-in-None c =
    let free : ℕ → _ = λ n. not (is_used c.args.self.now n) in
    c.first_of_parity-in-None.ensures
    ∙ (ap (λ (k : CandidateClass). find free (from_place k c.from-in-None.result)) c.class_in_block-in-None.ensures
    ∙ (ap (λ (n : ℕ). find free (from_place (class_in_block c.args.block ((c.args.place + 1) % 2)) n))
    c.from-in-None.ensures
    ∙ found_unlike c.args.block c.requires.block free c.args.place c.requires.within
    (sym (ap (λ (n : ℕ). find free (from_place (class_in_block c.args.block (c.args.place % 2)) n)) c.from.ensures)
    ∙ (sym (ap (λ (k : CandidateClass). find free (from_place k c.from.result)) c.class_in_block.ensures)
    ∙ sym c.in-None.ensures))))
