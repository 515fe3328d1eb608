-- pass_all: a run over inputs in memory that succeeds has written the records of all of them.
use Rattle.napt_run.proofs.PassesAll.{passes_all}
use Rattle.napt_run.specs.Origins.{origin_of}
use Rattle.napt_run.proofs.start.RunSetting.pass_all.Goals as goal

pub returns-in-Ok-clause-ok : goal.returns-in-Ok-clause-ok
returns-in-Ok-clause-ok g c =
    passes_all (origin_of c.args.self.start) c.args.inputs c.run_all.new.inputs c.args.both.now.leaving
    c.run_all.new.both.leaving c.in-Ok.summary c.requires.counts c.requires.timely c.in-Ok.ensures.outputs
