-- shape_one_by_one: while records are read, no read of the device has failed.
use Rattle.std.proofs.Common.{◌≡◌, ◌+◌}
use Rattle.napt_capture.specs.FaultyDevices.{device_of, own_failed}
use Rattle.napt_capture.specs.Watched.{failed_of}
use Rattle.napt_run_tests.proofs.libraries.records.shape_one_by_one.Given as goal

abbrev pub invariant-loop-count : goal.invariant-loop-count
invariant-loop-count l = own_failed l.source + failed_of (device_of l.source) ≡ 0
