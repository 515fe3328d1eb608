-- follow: an input from inside changes no translator.
use Rattle.napt_sequential.proofs.LaterTranslators.{all_unchanged}
use Rattle.napt_sequential.proofs.reply_run.follow.Goals as goal

pub returns-in-Inside-clause-left : goal.returns-in-Inside-clause-left
returns-in-Inside-clause-left c = all_unchanged c.args.config.now c.args.now c.args.translators.now
