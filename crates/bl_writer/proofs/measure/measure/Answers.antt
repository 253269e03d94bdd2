use Rattle.std.proofs.Common.{◌≡◌, ◌<◌, ◌+◌, ◌^◌, inl, inr, Some, length, refl, sym, ap, ◌∙◌, arith}
use Rattle.std.proofs.lemmas.Bool.{cases_lt, le-ltb, lt-ltb}
use Rattle.bl_format.specs.Limits.{longest_payload}
use Rattle.bl_writer.specs.Lengths.{node_scratch}
use Rattle.bl_writer.specs.Outputs.{block_length, payload_length}
use Rattle.bl_writer.proofs.BlockLengths.{blocks_length-none, blocks_length-more, head_size-le, most_more}
use Rattle.bl_writer.proofs.Measures.{long_below, long_not, long_found, all_measured, payload_fault, bytes_fault, no_fault}
use Rattle.bl_writer.proofs.measure.measure.Goals as goal

pub loop-k-init : goal.loop-k-init
loop-k-init c = record {
  passed = refl;
  short = λ i lt. absurd (omega (arith, lt));
  small = omega arith;
  blocks = blocks_length-none c.args.output.now;
  block = λ i lt. absurd (omega (arith, lt));
  scratch = λ i lt. absurd (omega (arith, lt));
}

pub returns-then-len-gt-LONGEST_PAYLOAD-clause-refuses : goal.returns-then-len-gt-LONGEST_PAYLOAD-clause-refuses
returns-then-len-gt-LONGEST_PAYLOAD-clause-refuses c =
    let o = c.args.output.now in
    let k = c.loop-k.k in
    let own = c.payload_length-len.ensures.length in
    let long = lt-ltb longest_payload (payload_length o k) (omega (arith, own, c.if-len-gt-LONGEST_PAYLOAD.true)) in
    payload_fault o c.requires.output.few c.payload_length-len.result
    (long_found o k (length o.nodes.now) (omega (arith, c.loop-k-test.true)) long c.loop-k.invariant.passed ∙ ap Some (sym own))

pub loop-k-preserved : goal.loop-k-preserved
loop-k-preserved c =
    let o = c.args.output.now in
    let k = c.loop-k.k in
    let own = c.payload_length-len.ensures.length in
    let head = c.head_size-head.ensures.size in
    let inv = c.loop-k.invariant in
    let len : c.head_size-head.result + c.payload_length-len.result ≡ block_length o k = omega (arith, own, head) in
    let short : payload_length o k < 2 ^ 31 = omega (arith, own, c.if-len-gt-LONGEST_PAYLOAD.false) in
    record {
      passed = long_not o k (le-ltb longest_payload (payload_length o k) (omega (arith, short))) inv.passed;
      short = λ i lt. elim (cases_lt i k) [
        | inl before ↦ inv.short i before
        | inr here ↦ (let same : i ≡ k = omega (arith, here, lt) in rw same short)
      ];
      small = omega (arith, inv.small, short, own, head, head_size-le o.header);
      blocks = omega (arith, blocks_length-more o k, inv.blocks, len);
      block = most_more (block_length o) k _ _ _ len c.max-block.ensures inv.block;
      scratch = most_more (node_scratch o) k _ _ _ c.node_scratch.ensures c.max-scratch.ensures inv.scratch;
    }

pub returns-then-bytes-gt-LONGEST_OUTPUT-clause-refuses : goal.returns-then-bytes-gt-LONGEST_OUTPUT-clause-refuses
returns-then-bytes-gt-LONGEST_OUTPUT-clause-refuses c =
    let o = c.args.output.now in
    let k = c.loop-k.k in
    let n = length o.nodes.now in
    let all : k ≡ n = omega (arith, c.loop-k.auto.k-end, c.loop-k-test.false) in
    let bytes = all_measured o k c.loop-k.blocks c.args.catalogue c.form_length-bytes.result all c.loop-k.invariant.blocks c.requires.catalogue c.form_length-bytes.ensures in
    bytes_fault o c.requires.output.few c.form_length-bytes.result bytes.size (ap (long_below o) (sym all) ∙ c.loop-k.invariant.passed) c.if-bytes-gt-LONGEST_OUTPUT.true

pub returns-clause-measured : goal.returns-clause-measured
returns-clause-measured c =
    let o = c.args.output.now in
    let k = c.loop-k.k in
    let n = length o.nodes.now in
    let inv = c.loop-k.invariant in
    let all : k ≡ n = omega (arith, c.loop-k.auto.k-end, c.loop-k-test.false) in
    let bytes = all_measured o k c.loop-k.blocks c.args.catalogue c.form_length-bytes.result all inv.blocks c.requires.catalogue c.form_length-bytes.ensures in
    let size = bytes.size in
    record {
      passes = no_fault o c.requires.output.few (omega (arith, size, c.if-bytes-gt-LONGEST_OUTPUT.false)) (ap (long_below o) (sym all) ∙ inv.passed);
      short = λ i lt. inv.short i (omega (arith, all, lt));
      block = λ i lt. inv.block i (omega (arith, all, lt));
      scratch = λ i lt. inv.scratch i (omega (arith, all, lt));
      bytes = size;
      parts = bytes.parts;
    }
