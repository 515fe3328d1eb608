-- `Translator::new`: the new translator satisfies `IsTranslator`.
use Rattle.std.{proofs.Common.{ℕ, List, ◌∙◌, ap}, specs.Prelude.slice_index}
use Rattle.napt_table.specs.Tables.{TableModel}
use Rattle.napt_translate.proofs.translator.Translator.new.Goals as goal

-- The table is the initial table of the configuration.
pub invariant_of-result : goal.invariant_of-result
invariant_of-result c =
    let shown = c.in_ok-table.ensures.shown in
    record {
      place = c.requires.place;
      rules = c.pool.ensures.kept;
      address = ap (λ (t : TableModel). t.address) shown
          ∙ ap (λ (p : List ℕ). slice_index p c.args.index) c.pool.ensures.addresses;
      timers = ap (λ (t : TableModel). t.timers) shown;
      assignment = ap (λ (t : TableModel). t.assignment) shown;
      inbound = ap (λ (t : TableModel). t.inbound) shown;
    }
