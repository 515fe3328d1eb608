-- read_ahead: the next record of each side is known, or it has a fault.
use Rattle.std.proofs.Common.{◌∙◌, refl, arith}
use Rattle.napt_records.proofs.HandedInputs.{stops_inside, stops_outside}
use Rattle.napt_records.proofs.stream_merger.StreamMerger.read_ahead.Goals as goal

pub returns-in-Err-clause-looks : goal.returns-in-Err-clause-looks
returns-in-Err-clause-looks g c live = record {
  inside_count = c.in-Err.ensures.count live.0.0;
  outside_count = omega arith;
  stops = stops_inside c.args.self.now c.in-Err.fault (c.in-Err.ensures.fault live.0.0);
}

pub returns-in-Ok-clause-looks : goal.returns-in-Ok-clause-looks
returns-in-Ok-clause-looks g c live = record {
  live = (
    (c.in_default.ensures.live ∙ live.0.0, c.in-Ok.ensures.live ∙ live.0.1),
    (c.in_default.ensures.writable live.1.0, c.in-Ok.ensures.writable live.1.1),
  );
  inside_count = omega (arith, c.in_default.ensures.count live.0.0);
  outside_count = omega (arith, c.in-Ok.ensures.count live.0.1);
  clock = refl;
  inside_told = c.in_default.ensures.told;
  outside_told = c.in-Ok.ensures.told;
  inside_stays = c.in_default.ensures.rest live.0.0;
  outside_stays = c.in-Ok.ensures.rest live.0.1;
}

pub returns-in-Err-read_ahead-clause-looks : goal.returns-in-Err-read_ahead-clause-looks
returns-in-Err-read_ahead-clause-looks g c live = record {
  inside_count = c.in_default.ensures.count live.0.0;
  outside_count = c.in-Err-read_ahead.ensures.count live.0.1;
  stops = stops_outside c.args.self.now c.read_ahead.new.self c.read_ahead.new.first c.in-Err-read_ahead.fault
      c.in_default.ensures.told (c.in_default.ensures.rest live.0.0) (c.in-Err-read_ahead.ensures.fault live.0.1);
}
