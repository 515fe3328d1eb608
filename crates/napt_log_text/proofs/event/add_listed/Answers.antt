-- add_listed: the text gets the row of a binding.
use Rattle.std.proofs.Common.{◌≡◌, [], ◌∷◌, ◌++◌, codes, append_assoc}
use Rattle.napt_log_text.specs.{Rows.row_text, Times.TimeText}
use Rattle.napt_log_text.proofs.event.add_listed.Goals as goal

-- The parts that are appended are a row.
joined : (old time event protocol inside port external other number flag sent received last note : TimeText) →
    (((((old ++ (time ++ codes ",")) ++ (event ++ codes "," ++ (protocol ++ codes "," ++ (inside ++ codes ","
    ++ (port ++ codes "," ++ (external ++ codes "," ++ (other ++ codes ",")))))))
    ++ codes ",") ++ (number ++ codes "," ++ flag ++ codes "," ++ sent ++ codes "," ++ received ++ codes ","
    ++ last ++ codes ",")) ++ note) ++ codes "\n"
    ≡ old ++ row_text (time ∷ event ∷ protocol ∷ inside ∷ port ∷ external ∷ other ∷ [] ∷ number ∷ flag ∷ sent
    ∷ received ∷ last ∷ note ∷ [])
joined old time event protocol inside port external other number flag sent received last note = simp append_assoc

pub returns : goal.returns
returns c =
    rw (
      c.in_ok-push_str-3.ensures.bytes,
      c.in_ok-push_str-2.ensures.bytes,
      c.in_ok-add_entry.ensures,
      c.in_ok-push_str.ensures.bytes,
      c.in_ok-add_binding.ensures,
      c.in_ok-add_time.ensures,
    )
    (joined _ _ _ _ _ _ _ _ _ _ _ _ _ _)
