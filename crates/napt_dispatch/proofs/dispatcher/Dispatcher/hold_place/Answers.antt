-- hold_place: the input of a placeholder is open.
use Rattle.napt_dispatch.proofs.dispatcher.Dispatcher.hold_place.Goals as goal

pub note_place-requires : goal.note_place-requires
note_place-requires g c = (c.type_bounds.static-P, (c.type_bounds.send-P, c.requires.open.open_is))
