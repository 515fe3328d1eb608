-- from_str: the result is the prefix whose spelling is the text, or `BadPrefix`.
use Rattle.std.proofs.Common.{sym, ap, ◌∙◌, subst, ok_or}
use Rattle.napt_config.{specs.Prelude.{BadPrefix, IsPrefix, prefix_text, IsReadBack}, proofs.Spellings.networks_read_back}
use Rattle.napt_config.proofs.prefix.PrefixFromStr.from_str.Goals as goal

pub returns : goal.returns
returns c =
    let gives = c.ok_or.ensures.value ∙ ap (λ o. ok_or o BadPrefix) c.read.ensures in
    subst (IsReadBack prefix_text IsPrefix BadPrefix c.args.text.now) (sym gives)
    (networks_read_back BadPrefix c.args.text.now)
