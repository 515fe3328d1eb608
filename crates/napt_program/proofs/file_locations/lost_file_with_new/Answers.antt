-- lost_file_with_new: an output that would be lost is named by an option.
use Rattle.napt_program.proofs.PlaceLemmas.{lost_is_named}
use Rattle.napt_program.proofs.file_locations.lost_file_with_new.Goals as goal

pub returns : goal.returns
returns g c = lost_is_named c.args.options.now _ _ c.locations_of.ensures c.output_named_again.ensures.named
