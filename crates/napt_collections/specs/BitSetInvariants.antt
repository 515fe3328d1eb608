-- The invariant of a `BitSet`: it has 1024 words, and marks those of them that are full.
use Rattle.napt_collections.specs.{BitSets.MarksFullWords, declared.bit_set.BitSet.TheInside.Inside}

abbrev pub BitSetInvariant : Inside → Type 0
BitSetInvariant bits = MarksFullWords bits.words.items bits.full.items
