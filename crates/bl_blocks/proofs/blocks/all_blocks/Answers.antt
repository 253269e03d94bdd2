use Rattle.std.proofs.Common.{◌≡◌, ℕ, ◌+◌, ◌-◌, List, ◌∷◌, [], ◌++◌, length, take, drop, Result, Ok, Err, ap, subst, ◌∙◌, sym, inr, arith}
use Rattle.std.proofs.lemmas.List.{take_rest}
use Rattle.std.proofs.lemmas.Result.{err_from_is_err_and}
use Rattle.bl_format.specs.declared.file.Header.{Header}
use Rattle.bl_format.specs.declared.file.BlockFault.{BlockFault}
use Rattle.bl_format.specs.declared.file.BlockFault.TheVariants.{TooManyBlocks}
use Rattle.bl_format.specs.declared.file.Step.{Step}
use Rattle.bl_format.specs.declared.file.Step.TheVariants.{Block, End}
use Rattle.bl_format.specs.Blocks.{header_size, head_size, most_blocks, blocks_of, step_in, step_at, AreBlocks}
use Rattle.bl_format.proofs.BlocksOf.{blocks_of_cause, reading_of_blocks, within_ends, within_fails, within_full, AreBlocks-push, block_inside}
use Rattle.bl_blocks.proofs.blocks.all_blocks.Goals as goal

-- a step over the rest of a file is a step at its place
step_of : (h : Header) (b : List ℕ) (at : ℕ) (r s : Result Step BlockFault) → r ≡ step_in h (take (length b - at) (drop at b)) at (length b) → r ≡ s → step_at h b at ≡ s
step_of h b at r s is e = ap (λ (w : List ℕ). step_in h w at (length b)) (sym (take_rest b at)) ∙ sym is ∙ e

pub returns-in_err-head-clause-refuses : goal.returns-in_err-head-clause-refuses
unfolding blocks_of
returns-in_err-head-clause-refuses c =
    let p = err_from_is_err_and c.from_residual.result c.from_residual.ensures.1 in
    let s = step_of c.args.header.now c.args.bytes.now c.loop.at c.next_block.result (Err p.0) c.next_block.ensures (c.in_err-head.was ∙ ap Err (sym p.2)) in
    rw p.1 (inr (within_fails c.args.header.now c.args.bytes.now (most_blocks + 1) (header_size c.args.header.now) c.loop.at c.loop.heads.items p.0 c.loop.invariant.stand s (omega (arith, c.loop.invariant.number, c.loop-test.true))))

pub returns-in-End-clause-reads : goal.returns-in-End-clause-reads
unfolding blocks_of
returns-in-End-clause-reads c =
    let s = step_of c.args.header.now c.args.bytes.now c.loop.at c.next_block.result (Ok End) c.next_block.ensures (c.in_ok-head.was ∙ ap Ok c.in-End.is) in
    within_ends c.args.header.now c.args.bytes.now (most_blocks + 1) (header_size c.args.header.now) c.loop.at c.loop.heads.items c.loop.invariant.stand s (omega (arith, c.loop.invariant.number, c.loop-test.true))

pub overflow_add-at : goal.overflow_add-at
overflow_add-at c =
    let s = step_of c.args.header.now c.args.bytes.now c.loop.at c.next_block.result (Ok (Block c.in-Block.head)) c.next_block.ensures (c.in_ok-head.was ∙ ap Ok c.in-Block.is) in
    let inside = block_inside c.args.header.now c.args.bytes.now c.loop.at c.in-Block.head s in
    let size : c.head_size.result ≡ head_size c.args.header.now = c.head_size.ensures.size in
    omega (arith, inside, size)

pub overflow_add-at-in-Block : goal.overflow_add-at-in-Block
overflow_add-at-in-Block c =
    let s = step_of c.args.header.now c.args.bytes.now c.loop.at c.next_block.result (Ok (Block c.in-Block.head)) c.next_block.ensures (c.in_ok-head.was ∙ ap Ok c.in-Block.is) in
    let inside = block_inside c.args.header.now c.args.bytes.now c.loop.at c.in-Block.head s in
    let size : c.head_size.result ≡ head_size c.args.header.now = c.head_size.ensures.size in
    omega (arith, inside, size)

pub loop-preserved : goal.loop-preserved
loop-preserved c =
    let h = c.args.header.now in
    let b = c.args.bytes.now in
    let s = step_of h b c.loop.at c.next_block.result (Ok (Block c.in-Block.head)) c.next_block.ensures (c.in_ok-head.was ∙ ap Ok c.in-Block.is) in
    let inside = block_inside h b c.loop.at c.in-Block.head s in
    let size : c.head_size.result ≡ head_size h = c.head_size.ensures.size in
    let next : c.loop.at + head_size h + c.in-Block.head.len ≡ c.loop.at + (c.head_size.result + c.in-Block.head.len) = omega (arith, size) in
    record {
      stand = rw c.in_ok-push-in-Block.ensures.items (subst (λ (i : ℕ). AreBlocks h b (header_size h) (c.loop.heads.items ++ c.in-Block.head ∷ []) i) next (AreBlocks-push h b (header_size h) c.loop.at c.loop.heads.items c.in-Block.head c.loop.invariant.stand s));
      inside = omega (arith, inside, size);
      number = let len = c.in_ok-push-in-Block.ensures.len in omega (arith, len);
    }

pub returns-clause-refuses : goal.returns-clause-refuses
unfolding blocks_of
returns-clause-refuses c =
    inr (within_full c.args.header.now c.args.bytes.now (most_blocks + 1) (header_size c.args.header.now) c.loop.at c.loop.heads.items c.loop.invariant.stand (omega (arith, c.loop.invariant.number, c.loop-test.false)))

pub returns-in_err-head-clause-cause : goal.returns-in_err-head-clause-cause
unfolding blocks_of
returns-in_err-head-clause-cause c =
    let h = c.args.header.now in
    let b = c.args.bytes.now in
    let p = err_from_is_err_and c.from_residual.result c.from_residual.ensures.1 in
    let s = step_of h b c.loop.at c.next_block.result (Err p.0) c.next_block.ensures (c.in_err-head.was ∙ ap Err (sym p.2)) in
    let fails = within_fails h b (most_blocks + 1) (header_size h) c.loop.at c.loop.heads.items p.0 c.loop.invariant.stand s (omega (arith, c.loop.invariant.number, c.loop-test.true)) in
    rw p.1 (λ header. inr (blocks_of_cause b h p.0 header fails))

pub returns-in-End-clause-reading : goal.returns-in-End-clause-reading
unfolding blocks_of
returns-in-End-clause-reading c =
    let h = c.args.header.now in
    let b = c.args.bytes.now in
    let s = step_of h b c.loop.at c.next_block.result (Ok End) c.next_block.ensures (c.in_ok-head.was ∙ ap Ok c.in-End.is) in
    let ends = within_ends h b (most_blocks + 1) (header_size h) c.loop.at c.loop.heads.items c.loop.invariant.stand s (omega (arith, c.loop.invariant.number, c.loop-test.true)) in
    λ header. reading_of_blocks b h c.loop.heads.items header ends

pub returns-clause-cause : goal.returns-clause-cause
unfolding blocks_of
returns-clause-cause c =
    let h = c.args.header.now in
    let b = c.args.bytes.now in
    let full = within_full h b (most_blocks + 1) (header_size h) c.loop.at c.loop.heads.items c.loop.invariant.stand (omega (arith, c.loop.invariant.number, c.loop-test.false)) in
    λ header. inr (blocks_of_cause b h (TooManyBlocks (most_blocks + 1)) header full)
