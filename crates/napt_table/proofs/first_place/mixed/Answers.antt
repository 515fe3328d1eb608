-- `mixed`: the hash of the four parts, written one after another, is that of all their bytes.
use Rattle.std.{proofs.{Common.{◌≡◌, ℕ, List, [], ◌∷◌, ◌++◌, sym, ◌∙◌, ap}, lemmas.List.Sums.fold-append}, specs.Int.{w16, w32, to_be_bytes}}
use Rattle.std.specs.{Hash.DefaultHasher.{initial, write_byte, write, finish}, declared.hash.DefaultHasher.DefaultHasher}
use Rattle.napt_rules.specs.Prelude.{mixed, protocol_byte}
use Rattle.napt_table.proofs.first_place.mixed.Goals as goal

-- Bytes that are written in two parts have the hash of both parts in one.
both : (s : DefaultHasher) (xs ys : List ℕ) → write (write s xs) ys ≡ write s (xs ++ ys)
unfolding write
both s xs ys = sym (fold-append write_byte s xs ys)

all : (s : DefaultHasher) (ws xs ys zs : List ℕ) →
    write (write (write (write s ws) xs) ys) zs ≡ write s (ws ++ (xs ++ (ys ++ zs)))
all s ws xs ys zs =
    both (write (write s ws) xs) ys zs ∙ (both (write s ws) xs (ys ++ zs) ∙ both s ws (xs ++ (ys ++ zs)))

pub returns : goal.returns
unfolding mixed
returns c =
    rw (
      c.finish.ensures,
      c.write-4.ensures,
      c.write-3.ensures,
      c.write-2.ensures,
      c.write.ensures,
      c.new-hasher.ensures,
      c.protocol_byte.ensures,
      c.to_be_bytes.ensures,
      c.to_be_bytes-2.ensures,
    )
    (ap finish (all initial c.args.seed.bytes (protocol_byte c.args.protocol ∷ [])
    (to_be_bytes w32 c.args.inside.address) (to_be_bytes w16 c.args.inside.number)))
