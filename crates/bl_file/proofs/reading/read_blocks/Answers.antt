use Rattle.std.proofs.Common.{◌≡◌, ◌+◌, ◌<◌, ℕ, ◌++◌, ◌∷◌, [], length, subst, sym, ◌∙◌, arith}
use Rattle.std.proofs.lemmas.Result.{err_from_is_err_and}
use Rattle.bl_format.specs.Limits.{most_blocks}
use Rattle.bl_format.specs.Blocks.{header_size, head_size, AreBlocks}
use Rattle.bl_file.specs.Held.{IsHeldAnd}
use Rattle.bl_file.specs.Reading.{IsFaultOf, IsStepFault}
use Rattle.bl_file.proofs.Readings.{head_long, held_full, sound_push, next_stand, next_sound, end_read, fault_found}
use Rattle.bl_file.proofs.CallLemmas.{stays_on, quiet_on}
use Rattle.bl_file.proofs.reading.read_blocks.Goals as goal

pub returns-in_err-head-clause-fault : goal.returns-in_err-head-clause-fault
returns-in_err-head-clause-fault g c =
    let told' = g.S.Shelf.told c.loop.shelf in
    let name' = g.P.Payload.file_name c.loop.payload in
    let p = err_from_is_err_and c.from_residual.result c.from_residual.ensures.1 in
    let few : length c.loop.heads.items < most_blocks + 1 = let number = c.loop.invariant.number in let test = c.loop-test.true in omega (arith, number, test) in
    let found = subst (IsFaultOf told' name' (IsStepFault c.args.header.now c.loop.at)) (sym p.2) c.in_err-head.ensures.fault in
    rw p.1 (fault_found (g.S.Shelf.told c.args.shelf.now) told' (g.P.Payload.file_name c.args.payload.now) name' c.loop.invariant.stays.shelf.told c.loop.invariant.stays.name c.args.header.now c.loop.at c.loop.heads.items c.loop.invariant.stand
    p.0 found few)

pub returns-in-End-clause-read : goal.returns-in-End-clause-read
returns-in-End-clause-read g c =
    let few : length c.loop.heads.items < most_blocks + 1 = let number = c.loop.invariant.number in let test = c.loop-test.true in omega (arith, number, test) in
    end_read (g.S.Shelf.told c.args.shelf.now) (g.S.Shelf.told c.loop.shelf) (g.P.Payload.file_name c.args.payload.now) (g.P.Payload.file_name c.loop.payload) c.loop.invariant.stays.shelf.told c.loop.invariant.stays.name c.args.header.now c.loop.at c.loop.heads.items c.loop.invariant.stand
    c.in_ok-head.field-0 c.in_ok-head.ensures.read c.in-End.is few

pub returns-in-End-clause-spaced : goal.returns-in-End-clause-spaced
returns-in-End-clause-spaced g c =
    let spaced = c.loop.invariant.spaced in
    let inside = c.loop.invariant.inside in
    omega (arith, spaced, inside)

pub loop-preserved : goal.loop-preserved
loop-preserved g c =
    let h = c.args.header.now in
    let told = g.S.Shelf.told c.args.shelf.now in
    let told' = g.S.Shelf.told c.loop.shelf in
    let name = g.P.Payload.file_name c.args.payload.now in
    let name' = g.P.Payload.file_name c.loop.payload in
    let x = c.in-Block.head in
    let items = c.in_ok-push-in-Block.ensures.items in
    let sound = next_sound h c.args.size c.loop.at c.in_ok-head.field-0 x c.in_ok-head.ensures.sound c.in-Block.is in
    let place = sound.0 in
    let fits = sound.1.fits in
    let head : c.head_size.result ≡ head_size h = c.head_size.ensures.size in
    let behind = c.loop.invariant.behind in
    let number = c.loop.invariant.number in
    let len = c.in_ok-push-in-Block.ensures.len in
    let spaced = c.loop.invariant.spaced in
    let long = head_long h in
    let next : c.loop.at + head_size h + x.len ≡ c.loop.at + (c.head_size.result + x.len) = omega (arith, head) in
    record {
      stays = stays_on c.loop.invariant.stays c.in_ok-head.ensures.stays;
      quiet = quiet_on c.loop.invariant.quiet c.in_ok-head.ensures.cause;
      whole = c.in_ok-head.ensures.stays.size ∙ c.loop.invariant.whole;
      stand = rw items (subst (λ (i : ℕ). IsHeldAnd told name (λ b. AreBlocks h b (header_size h) (c.loop.heads.items ++ x ∷ []) i)) next
          (next_stand told told' name name' c.loop.invariant.stays.shelf.told c.loop.invariant.stays.name h c.loop.at c.loop.heads.items c.loop.invariant.stand c.in_ok-head.field-0 x c.in_ok-head.ensures.read c.in-Block.is));
      sound = rw items (sound_push h c.args.size c.loop.heads.items x c.loop.invariant.sound sound.1);
      behind = omega (arith, behind);
      inside = omega (arith, head, fits, place);
      number = omega (arith, number, len);
      spaced = omega (arith, head, spaced, long, len);
    }

pub returns-clause-fault : goal.returns-clause-fault
returns-clause-fault g c =
    let full : length c.loop.heads.items ≡ most_blocks + 1 = let number = c.loop.invariant.number in let test = c.loop-test.false in let end = c.loop.auto.counter-end in omega (arith, number, test, end) in
    held_full (g.S.Shelf.told c.args.shelf.now) (g.P.Payload.file_name c.args.payload.now) c.args.header.now c.loop.at c.loop.heads.items c.loop.invariant.stand full
