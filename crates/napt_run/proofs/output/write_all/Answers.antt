-- write_all: the bytes that a write accepts follow those that were written before.
use Rattle.std.proofs.Common.{◌≡◌, ℕ, zero, suc, nat_eq, false, rules, ◌+◌, ◌-◌, ◌≤◌, List, ◌++◌, length, take, drop, Option, Result, Ok, Err, refl, sym, ap, ◌∙◌, subst, arith, length-drop}
use Rattle.std.{proofs.lemmas.List.take_rest, specs.{Io.{WritesAtMost, KnownBytes.{Appends, WriteAppends}}, Result.result_unwrap_or}}
use Rattle.std.proofs.KnownBytes.{Appends-trans}
use lib.Seq.{take-add}
use Rattle.napt_capture.specs.{Device.failed_writes, declared.device.DeviceFault.DeviceFault}
use Rattle.napt_run.proofs.output.write_all.Goals as goal

-- A write of the rest that took some bytes.
takes_more : (r : Result ℕ DeviceFault) (old mid new : Option (List ℕ)) (bytes : List ℕ)
    (done count failed-0 failed-1 failed-2 : ℕ)
    → count ≡ result_unwrap_or r 0 → (count ≡ 0 → ⊥) → WritesAtMost r (drop done bytes) →
    WriteAppends mid new r (drop done bytes) → failed-2 ≡ failed-1 + failed_writes r (drop done bytes)
    → done ≤ length bytes → Appends old mid (take done bytes) → failed-1 ≡ failed-0
    → (done + count ≤ length bytes) × Appends old new (take (done + count) bytes) × (failed-2 ≡ failed-0)
takes_more (Err _) old mid new bytes done count f0 f1 f2 is some most appended counted within before same =
    absurd (some is)
takes_more (Ok zero) old mid new bytes done count f0 f1 f2 is some most appended counted within before same =
    absurd (some is)
takes_more (Ok (suc n)) old mid new bytes done count f0 f1 f2 is some most appended counted within before same =
    let all : take done bytes ++ take (suc n) (drop done bytes) ≡ take (done + count) bytes =
    sym (take-add done (suc n) bytes) ∙ ap (λ m. take (done + m) bytes) (sym is) in
    let none : failed_writes {E = DeviceFault} (Ok (suc n)) (drop done bytes) ≡ 0 = let isnt : nat_eq (suc n) 0
    ≡ false = search rules in rw isnt refl in (
      omega (arith, is, most, length-drop done bytes),
      subst (Appends old new) all (Appends-trans old mid new _ _ before appended),
      omega (arith, counted, none, same),
    )

pub loop-done-preserved : goal.loop-done-preserved
loop-done-preserved g c =
    let bytes = c.args.bytes.now in
    let done = c.loop-done.done in
    let rest : take (length bytes - done) (drop done bytes) ≡ drop done bytes = take_rest bytes done in
    let call = c.write.ensures in
    let before = g.W.Sink.failed c.loop-done.device in
    let after = g.W.Sink.failed c.write.new.self in
    let counted = subst (λ part. after ≡ before + failed_writes c.write.result part) rest call.count in
    takes_more c.write.result _ _ _ bytes done c.unwrap_or-count.result _ _ _ c.unwrap_or-count.ensures
    c.if-count-eq0.false
    (subst (WritesAtMost c.write.result) rest call.bound) (subst (WriteAppends _ _ c.write.result) rest call.bytes)
    counted c.loop-done.invariant.0 c.loop-done.invariant.1 c.loop-done.invariant.2
