-- write_all: with the headers before them, the records are whole captures.
use Rattle.napt_run.proofs.PassesAll.{headed_all}
use Rattle.napt_run.specs.Origins.{origin_of}
use Rattle.napt_run.proofs.start.RunSetting.write_all.Goals as goal

pub returns-in-Ok-clause-ok : goal.returns-in-Ok-clause-ok
returns-in-Ok-clause-ok g c =
    headed_all (origin_of c.args.self.start) c.args.inputs c.args.both.now.leaving c.begin.new.self
    c.pass_all.new.both.leaving
    c.in-Ok.ensures.ok c.pass_all.result c.pass_all.ensures.ok
