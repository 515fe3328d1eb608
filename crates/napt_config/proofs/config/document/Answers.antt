-- document: the result is the table of the text, or `NotToml` if the text is not UTF-8.
use Rattle.std.proofs.{Common.{refl, sym, ◌∙◌}, lemmas.{Bool.false≢true, Str.is_utf8-from_IsUtf8}}
use Rattle.napt_config.proofs.Documents.{document_of-utf8, document_of-other}
use Rattle.napt_config.proofs.config.document.Goals as goal

pub returns-in-Ok-clause-exact : goal.returns-in-Ok-clause-exact
returns-in-Ok-clause-exact c = rw (
  document_of-utf8 c.args.text.now c.in-Ok.ensures.cases.1,
  ← c.in-Ok.ensures.cases.0,
) c.table_of.ensures

pub returns-in-Ok-clause-encoded : goal.returns-in-Ok-clause-encoded
returns-in-Ok-clause-encoded c other =
    absurd (false≢true (sym other ∙ is_utf8-from_IsUtf8 c.args.text.now c.in-Ok.ensures.cases.1))

pub returns-in-Err-clause-exact : goal.returns-in-Err-clause-exact
returns-in-Err-clause-exact c _ = rw (document_of-other c.args.text.now c.in-Err.ensures.cases.0)

pub returns-in-Err-clause-encoded : goal.returns-in-Err-clause-encoded
returns-in-Err-clause-encoded c _ = refl
