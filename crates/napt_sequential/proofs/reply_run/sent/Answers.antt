-- sent: a packet that was read can be sent, and bytes that are no packet change nothing.
use Rattle.napt_wire.{specs.declared.Side.TheVariants.Outside, proofs.ReadingChecks.reads_again}
use Rattle.napt_sequential.proofs.LaterTranslators.{all_unchanged}
use Rattle.napt_sequential.proofs.reply_run.sent.Goals as goal

pub send-requires-clause-reads : goal.send-requires-clause-reads
send-requires-clause-reads c = reads_again Outside c.args.bytes.items c.in-Ok.packet c.in-Ok.ensures.ok

pub returns-in-Err-clause-left : goal.returns-in-Err-clause-left
returns-in-Err-clause-left c = all_unchanged c.args.config.now c.args.now c.args.translators.now
